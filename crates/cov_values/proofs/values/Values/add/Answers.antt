use Rattle.std.proofs.Common.{sym, subst}
use Rattle.cov_values.specs.Values.{Agrees, HaveValues, IsNotValued}
use Rattle.cov_values.proofs.Valued.{agrees_more, before_last, last_value, valued_more}
use Rattle.cov_values.proofs.values.Values.add.Goals as goal

pub invariant_of-self-2 : goal.invariant_of-self-2
invariant_of-self-2 c =
    subst HaveValues (sym c.in_ok-push.ensures.items)
    (valued_more c.args.node c.args.value c.self.invariant.0 c.self.inside.each.items (subst (λ es. IsNotValued es c.args.node) (sym c.self.view_is) c.requires) c.self.invariant.1)

pub returns-clause-value : goal.returns-clause-value
returns-clause-value c = λ f agrees. last_value f c.self.inside.each.items (record { node = c.args.node; value = c.args.value }) (subst (Agrees f) c.in_ok-push.ensures.items agrees)

pub returns-clause-grows : goal.returns-clause-grows
returns-clause-grows c = λ f agrees.
    subst (Agrees f) c.self.view_is (before_last f c.self.inside.each.items (record { node = c.args.node; value = c.args.value }) (subst (Agrees f) c.in_ok-push.ensures.items agrees))

pub returns-clause-more : goal.returns-clause-more
returns-clause-more c = λ f is agrees.
    subst (Agrees f) (sym c.in_ok-push.ensures.items)
    (agrees_more f c.self.inside.each.items (record { node = c.args.node; value = c.args.value }) is (subst (Agrees f) (sym c.self.view_is) agrees))
