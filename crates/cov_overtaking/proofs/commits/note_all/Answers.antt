use Rattle.std.proofs.Common.{◌≤◌, arith}
use Rattle.cov_overtaking.specs.Overtakers.{noted}
use Rattle.cov_overtaking.proofs.Noting.{first-and_rest, all-of_none}
use Rattle.cov_overtaking.proofs.commits.note_all.Goals as goal

pub loop-ahead-preserved : goal.loop-ahead-preserved
loop-ahead-preserved c =
    let i = c.loop-ahead.invariant in
    record {
      later = λ x. let before = i.later x in let now = c.note.ensures.later x in omega (arith, before, now);
      rest = λ newest up rest. i.rest newest (λ x. let now = c.note.ensures.later x in let above = up x in omega (arith, now, above))
          (first-and_rest (λ x. c.args.position ≤ newest x) c.node-item.result c.node-item.result c.loop-ahead.ahead.now c.node-item.is c.in-len1-up.len_at_least
          (let own = c.note.ensures.noted in let above = up c.node-item.result in omega (arith, own, above)) rest);
    }

pub returns-clause-noted : goal.returns-clause-noted
returns-clause-noted c = c.loop-ahead.invariant.rest (noted c.loop-ahead.notes) (λ x. omega arith) (all-of_none _ c.loop-ahead.ahead.now c.in_default.len_below)
