use Rattle.std.proofs.Common.{sym, ◌∙◌}
use Rattle.cov_expr.specs.SameParts.{is_same_formula}
use Rattle.cov_expr.proofs.SameParts.{same-is, alike-same}
use Rattle.cov_expr.proofs.expr.Expr.is_same.Goals as goal

pub returns-clause-same : goal.returns-clause-same
returns-clause-same c = λ h.
    same-is c.args.self.now c.args.other.now ((λ i. is_same_formula (sym c.self.view_is i) (sym c.other.view_is i)) ∙ sym c.are_same_parts.ensures ∙ h)

pub returns-clause-alike : goal.returns-clause-alike
returns-clause-alike c = λ h.
    c.are_same_parts.ensures ∙ (λ i. is_same_formula (c.self.view_is i) (c.other.view_is i)) ∙ alike-same c.args.self.now c.args.other.now h
