use Rattle.std.proofs.Common.{◌∙◌, refl, sym, ap}
use Rattle.cov_expr.specs.Parts.{formula}
use Rattle.cov_session.specs.Siding.{first_late}
use Rattle.cov_session.proofs.TakingSides.{late-left, late-right, operands}
use Rattle.cov_session.proofs.siding.+first_late.Goals as goal

pub returns-in-Some : goal.returns-in-Some
returns-in-Some t c =
    late-left c.args.count (formula c.args.part.now) (formula c.in-And.left.value) (formula c.in-And.right.value) (operands c.args.part.now _ _ _ c.in-And.is refl refl) c.in-Some.option
    (ap (λ p. first_late c.args.count (formula p)) (sym c.deref-in-And.ensures) ∙ sym c.first_late-in-And.ensures ∙ c.in-Some.is)

pub returns-in-None : goal.returns-in-None
returns-in-None t c =
    c.first_late-in-None.ensures
    ∙ ap (λ p. first_late c.args.count (formula p)) c.deref-in-None.ensures
    ∙ late-right c.args.count (formula c.args.part.now) (formula c.in-And.left.value) (formula c.in-And.right.value) (operands c.args.part.now _ _ _ c.in-And.is refl refl)
    (ap (λ p. first_late c.args.count (formula p)) (sym c.deref-in-And.ensures) ∙ sym c.first_late-in-And.ensures ∙ c.in-None.is)
