use Rattle.std.proofs.Common.{sym, ◌∙◌}
use Rattle.cov_overtaking.proofs.Walking.{from-first, from-none}
use Rattle.cov_overtaking.proofs.touches.Touches.skip_below.Goals as goal

pub returns-then-ge : goal.returns-then-ge
returns-then-ge c = from-first c.args.node c.in-Some.touch c.loop-touch.self (sym c.in-Some.is ∙ c.first.ensures) (sym c.ge.ensures ∙ c.if-ge.true) ∙ c.loop-touch.invariant

pub returns : goal.returns
returns c = from-none c.args.node c.loop-touch.self (sym c.in_default.is ∙ c.first.ensures) ∙ c.loop-touch.invariant
