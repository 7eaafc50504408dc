use Rattle.std.proofs.Common.{sym, ◌∙◌}
use Rattle.cov_rules.proofs.Fixing.{preference_kept, preference_refused}
use Rattle.cov_rules.proofs.lefts.Left.with_preference.Goals as goal

pub returns-then-is_any-clause-kept : goal.returns-then-is_any-clause-kept
returns-then-is_any-clause-kept c =
    preference_kept c.args.table.now c.meet.new.table c.args.self.now c.args.wish.now.node c.args.wish.now.expr c.requires.node c.in_ok-preferred.preferred c.in_ok-preferred.ensures.meets
    (sym c.is_any.ensures ∙ c.if-is_any.true)

pub returns-clause-kept : goal.returns-clause-kept
returns-clause-kept c =
    preference_refused c.args.table.now c.meet.new.table c.args.self.now c.args.wish.now.node c.args.wish.now.expr c.requires.node c.in_ok-preferred.preferred c.in_ok-preferred.ensures.meets
    c.requires.sound c.in_ok-preferred.ensures.extends (sym c.is_any.ensures ∙ c.if-is_any.false)
