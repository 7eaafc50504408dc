-- Expressions that consist of the same parts are the same.
use Rattle.std.proofs.Common.{◌≡◌, ℕ, true, ◌&&◌, refl, ap, subst, ◌∙◌, arith}
use Rattle.std.proofs.lemmas.Bool.{and_parts}
use Rattle.std.proofs.lemmas.Bool.Decides.{nat_tests}
use Rattle.cov_expr.specs.Formula.{Formula, False, True, On, Not, And, Or}
use Rattle.cov_expr.specs.SameParts.{is_same_formula}

pub same-is : (e f : Formula ℕ) → is_same_formula e f ≡ true → e ≡ f
same-is False False h = refl
same-is True True h = refl
same-is (On o) (On p) h = let same : o ≡ p = grind (arith, nat_tests, h) in ap On same
same-is (Not e) (Not f) h = ap Not (same-is e f h)
same-is (And a b) (And c d) h = let parts = and_parts (is_same_formula a c) (is_same_formula b d) h in λ i. And (same-is a c parts.0 i) (same-is b d parts.1 i)
same-is (Or a b) (Or c d) h = let parts = and_parts (is_same_formula a c) (is_same_formula b d) h in λ i. Or (same-is a c parts.0 i) (same-is b d parts.1 i)
same-is _ _ h = absurd (cc)

pub same-itself : (e : Formula ℕ) → is_same_formula e e ≡ true
same-itself False = refl
same-itself True = refl
same-itself (On o) = grind (arith, nat_tests)
same-itself (Not e) = same-itself e
same-itself (And a b) = ap (λ t. t && is_same_formula b b) (same-itself a) ∙ same-itself b
same-itself (Or a b) = ap (λ t. t && is_same_formula b b) (same-itself a) ∙ same-itself b

pub alike-same : (e f : Formula ℕ) → e ≡ f → is_same_formula e f ≡ true
alike-same e f k = subst (λ g. is_same_formula e g ≡ true) k (same-itself e)
