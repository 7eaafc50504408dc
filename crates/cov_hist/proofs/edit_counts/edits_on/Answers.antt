use Rattle.std.proofs.Common.{◌∙◌, arith, ◌+◌}
use Rattle.cov_hist.proofs.RunCounting.{counted-few, counted-is, sides-reach}
use Rattle.cov_hist.proofs.edit_counts.edits_on.Goals as goal

pub edits_in_runs-requires-clause-reach : goal.edits_in_runs-requires-clause-reach
edits_in_runs-requires-clause-reach c =
    let runs = c.runs-runs.ensures in
    let same = sides-reach c.args.choice c.args.edits.now c.runs-runs.result.now c.len-count.result runs.sides runs.rise runs.below c.len-count.ensures in
    let reach = c.requires.reach in
    omega (arith, same, reach)

pub edits_in_runs-requires-clause-few : goal.edits_in_runs-requires-clause-few
edits_in_runs-requires-clause-few c =
    let runs = c.runs-runs.ensures in
    let all = counted-few c.args.choice c.args.edits.now c.runs-runs.result.now c.len-count.result runs.sides runs.rise runs.below c.len-count.ensures in
    let few = c.requires.few in
    let count = c.len-count.ensures in
    omega (arith, all, few, count)

pub overflow_add-result : goal.overflow_add-result
overflow_add-result c =
    let runs = c.runs-runs.ensures in
    let all = counted-few c.args.choice c.args.edits.now c.runs-runs.result.now c.len-count.result runs.sides runs.rise runs.below c.len-count.ensures in
    let few = c.requires.few in
    let count = c.len-count.ensures in
    let place = c.place_of.ensures in
    let edits = c.edits_in_runs.ensures in
    omega (arith, all, few, count, place, edits)

pub overflow_cast-result : goal.overflow_cast-result
overflow_cast-result c =
    let runs = c.runs-runs.ensures in
    let all = counted-few c.args.choice c.args.edits.now c.runs-runs.result.now c.len-count.result runs.sides runs.rise runs.below c.len-count.ensures in
    let few = c.requires.few in
    let count = c.len-count.ensures in
    let place = c.place_of.ensures in
    let edits = c.edits_in_runs.ensures in
    omega (arith, all, few, count, place, edits)

pub returns : goal.returns
returns c =
    let runs = c.runs-runs.ensures in
    (λ i. c.place_of.ensures i + c.edits_in_runs.ensures i)
    ∙ counted-is c.args.choice c.args.edits.now c.runs-runs.result.now c.len-count.result runs.sides runs.rise runs.below c.len-count.ensures
