use Rattle.std.proofs.Common.{◌≡◌, ℕ, ap, sym, subst, ◌∙◌}
use Rattle.cov_rules.specs.Installing.{Standing, with_rule, Holds}
use Rattle.cov_rules.specs.declared.rules.Rule.{Rule}
use Rattle.cov_rules.specs.declared.rules.RulePlan.{RulePlan}
use Rattle.cov_rules.proofs.Holding.{holds_with}
use Rattle.cov_rules.proofs.Growing.{follows, below}
use Rattle.cov_rules.proofs.rules.Rules.install.Goals as goal
use Rattle.cov_rules.proofs.rules.Rules.install.Goals.{After-install_default}

-- what is said of a rule of one kind, said of the rule
of_rule : (plan : RulePlan) (rule kind : Rule) (p : ℕ) (old new : Standing) → rule ≡ kind → new ≡ with_rule plan kind p old → new ≡ with_rule plan rule p old
of_rule plan rule kind p old new is standing = standing ∙ ap (λ r. with_rule plan r p old) (sym is)

pub returns-in-Constraint-clause-below : goal.returns-in-Constraint-clause-below
returns-in-Constraint-clause-below c = below _ _ _ _ _ (of_rule c.args.plan _ _ _ _ _ c.in-Constraint.is c.install_constraint.ensures.with_rule)

pub returns-in-Prefer-clause-below : goal.returns-in-Prefer-clause-below
returns-in-Prefer-clause-below c = below _ _ _ _ _ (of_rule c.args.plan _ _ _ _ _ c.in-Prefer.is c.install_preference.ensures.with_rule)

default_standing : (c : After-install_default) → c.install_default.new.self.standing ≡ with_rule c.args.plan c.args.rule c.args.at c.args.self.now.standing
default_standing c = of_rule c.args.plan _ _ _ _ _ c.in-Default.is c.install_default.ensures.with_default

pub returns-in-Default-clause-with_rule : goal.returns-in-Default-clause-with_rule
returns-in-Default-clause-with_rule c = default_standing c

pub returns-in-Default-clause-holds : goal.returns-in-Default-clause-holds
returns-in-Default-clause-holds c ts h is = subst (Holds ts) (sym (default_standing c)) (holds_with ts _ _ _ c.args.at h is)

pub returns-in-Default-clause-follows : goal.returns-in-Default-clause-follows
returns-in-Default-clause-follows c = follows _ _ _ _ _ (default_standing c)

pub returns-in-Default-clause-below : goal.returns-in-Default-clause-below
returns-in-Default-clause-below c = below _ _ _ _ _ (default_standing c)
