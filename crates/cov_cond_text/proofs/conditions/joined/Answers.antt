use Rattle.std.proofs.Common.{ℕ, ◌≤◌, sym, subst}
use Rattle.cov_base.specs.declared.limits.TheConstants.{MOST_PARTS}
use Rattle.cov_expr.specs.Formula.{Formula, And, part_count}
use Rattle.cov_cond_text.specs.Conjunction.{joined}
use Rattle.cov_cond_text.proofs.Joining.{next-fits}
use Rattle.cov_cond_text.proofs.conditions.joined.Goals as goal

pub both-requires : goal.both-requires
both-requires c =
    subst (λ (e : Formula ℕ). part_count (And c.loop-ahead.all e) ≤ MOST_PARTS) (sym c.in_ok-copy.ensures)
    (next-fits c.loop-ahead.all c.next-item.result c.next-item.result (joined c.args.first c.args.more.now) c.loop-ahead.ahead.now c.next-item.is c.in-len1-up.len_at_least c.loop-ahead.invariant c.requires)
