use Rattle.std.proofs.Common.{◌+◌, ◌-◌, ◌++◌, length, length-append, ap, ◌∙◌, arith}
use Rattle.cov_cond.specs.Committing.{commit_of, run_choice}
use Rattle.cov_cond.specs.Importing.{anchor_at}
use Rattle.cov_cond.proofs.Committing.{choice_there, one_commit, plain_before, plain_taken, run_committed, run_there}
use Rattle.cov_cond.proofs.RunFacts.{few_runs}
use Rattle.cov_cond.proofs.importing.committing.add_run_commits.Goals as goal

pub overflow_sub-before : goal.overflow_sub-before
overflow_sub-before c =
    let all = plain_before c.args.runs.now c.loop-left.left c.index-runs-left.result c.loop-left-test.true c.loop-left.invariant.within c.index-runs-left.is in
    let before = c.loop-left.invariant.before in
    let plain = c.plain_count-before.ensures in
    omega (arith, all, before, plain)

pub add_run-requires-clause-base : goal.add_run-requires-clause-base
add_run-requires-clause-base c =
    let base = c.place_of-place.ensures.base in
    let short = c.requires.short in
    let few = c.loop-left.invariant.few in
    let runs = few_runs c.args.runs.now c.requires.are in
    let texts = c.requires.few in
    omega (arith, base, short, few, runs, texts)

pub add_run-requires-clause-anchor : goal.add_run-requires-clause-anchor
add_run-requires-clause-anchor c =
    let lines = c.place_of-place.ensures.lines in
    let all = c.requires.lines in
    let before = c.loop-left.invariant.before in
    let low = plain_taken c.loop-left.left c.args.runs.now in
    omega (arith, lines, all, before, low)

pub loop-left-preserved : goal.loop-left-preserved
loop-left-preserved c =
    let history = c.args.engine.now.history in
    let runs = c.args.runs.now in
    let run = c.index-runs-left.result in
    let choice = c.index-choices-left.result in
    let left = c.loop-left.left in
    let now = c.loop-left.commits.commands in
    let before = c.loop-left.before - c.plain_count-before.result in
    let place = c.place_of-place in
    let some = c.loop-left-test.true in
    let within = c.loop-left.invariant.within in
    let there = run_there runs left run some within c.index-runs-left.is in
    let all = plain_before runs left run some within c.index-runs-left.is in
    let plain = c.plain_count-before.ensures in
    let counted = c.loop-left.invariant.before in
    let is = choice_there runs left run some within c.index-runs-left.is (run_choice history) c.args.choices.now choice c.requires.choices c.index-choices-left.is in
    let added = c.in_ok-add_run.ensures in
    record {
      commits = run_committed history c.args.commits.now.commands now c.add_run.new.commits.commands runs (left - 1) left before c.loop-left.before run c.requires.one there (omega (arith, some)) (omega (arith, all, plain, counted))
          c.loop-left.invariant.commits
          (added ∙ (λ i. now ++ commit_of (place.ensures.base i + length now) (place.ensures.file i) (anchor_at (place.ensures.lines i) before) run (is i)));
      before = omega (arith, all, plain, counted);
      few =
          let few = c.loop-left.invariant.few in
          let long = ap length added in
          let one = one_commit (place.result.base + length now) place.result.file (anchor_at place.result.lines before) run choice in
          let both = length-append now (commit_of (place.result.base + length now) place.result.file (anchor_at place.result.lines before) run choice) in
          omega (arith, few, long, one, both, some);
      within = omega (arith, within);
    }
