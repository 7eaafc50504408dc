use Rattle.std.proofs.Common.{◌≡◌, ◌∙◌, sym, ap, subst, None, arith}
use Rattle.cov_session.specs.Open.{SessionValue, IsOpen}
use Rattle.cov_session.specs.Siding.{first_late}
use Rattle.cov_session.specs.contracts.session.OpenSession.{the_view}
use Rattle.cov_session.proofs.TakingSides.{late-below, none-late, open-on}
use Rattle.cov_session.proofs.session.OpenSession.set_side.Goals as goal

pub returns-in-Some-clause-declared : goal.returns-in-Some-clause-declared
returns-in-Some-clause-declared c = λ count low.
    let below = late-below c.count.result c.args.side c.in-Some.option (ap (first_late c.count.result) (sym c.part.ensures.part) ∙ sym c.first_late.ensures ∙ c.in-Some.is) in
    omega (arith, below, low)

pub value-requires : goal.value-requires
value-requires c =
    let none : first_late c.count.result c.args.side ≡ None = ap (first_late c.count.result) (sym c.part.ensures.part) ∙ sym c.first_late.ensures ∙ c.in_default.is in
    let low = none-late c.count.result c.args.side none in
    let count = c.count.ensures.count in
    omega (arith, low, count)

pub returns-clause-open : goal.returns-clause-open
returns-clause-open c = λ history here.
    let s : SessionValue = the_view c.self.inside in
    let none : first_late c.count.result c.args.side ≡ None = ap (first_late c.count.result) (sym c.part.ensures.part) ∙ sym c.first_late.ensures ∙ c.in_default.is in
    open-on history s c.args.side (ap (λ count. first_late count c.args.side) (sym c.count.ensures.count) ∙ none) (sym c.value.ensures ∙ c.if-not-value.false) (subst (IsOpen history) (sym c.self.view_is) here)
