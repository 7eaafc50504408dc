-- What the types keep of a commit.
use Rattle.std.proofs.Common.{◌≡◌, ℕ, ◌≤◌, Bool, true, false, ◌&&◌, nat_le, max, List, [], ◌∷◌, refl, ◌∙◌, arith}
use Rattle.std.specs.List.{list_all}
use Rattle.std.proofs.Math.Nat.{max-le, le-max_left, le-max_right}
use Rattle.std.proofs.lemmas.Bool.{and_parts}
use Rattle.std.proofs.lemmas.Bool.Decides.{nat_tests}
use Rattle.cov_base.specs.declared.limits.TheConstants.{CHOICE_WIDTH, MOST_PARTS}
use Rattle.cov_expr.specs.Formula.{Formula, part_count, reach}
use Rattle.cov_edit.specs.EditFits.{fits_edit}
use Rattle.cov_edit.specs.Fits.{fits_expr, fits_with_side}
use Rattle.cov_edit.specs.Sides.{fits_sided, reach_of_sides, reach_within}
use Rattle.cov_edit.specs.declared.sided.Sided.{Sided}

-- two numbers are at most a third just where the greater is
both-most : (a b n : ℕ) → (nat_le a n && nat_le b n) ≡ nat_le (max a b) n
both-most a b n = at (nat_le a n) (nat_le b n) refl refl
  where
    at : (s t : Bool) → nat_le a n ≡ s → nat_le b n ≡ t → (s && t) ≡ nat_le (max a b) n
    at true true e f =
        let low : a ≤ n = grind (arith, nat_tests, e) in
        let also : b ≤ n = grind (arith, nat_tests, f) in
        let all : max a b ≤ n = max-le low also in
        grind (arith, nat_tests, all)
    at true false e f = let more = le-max_right a b in grind (arith, nat_tests, f, more)
    at false t e f = let more = le-max_left a b in grind (arith, nat_tests, e, more)

sides-fit : (ss : List Sided) → list_all fits_sided ss ≡ true → list_all fits_with_side ss ≡ nat_le (reach_of_sides ss) CHOICE_WIDTH
sides-fit [] h = refl
sides-fit (s ∷ ss) h =
    let parts = and_parts (fits_sided s) (list_all fits_sided ss) h in
    let own = and_parts (nat_le (part_count s.side) MOST_PARTS) (fits_edit s.edit) parts.0 in
    (λ i. ((own.0 i && nat_le (reach s.side) CHOICE_WIDTH) && own.1 i) && sides-fit ss parts.1 i)
    ∙ at (nat_le (reach s.side) CHOICE_WIDTH) ∙ both-most (reach s.side) (reach_of_sides ss) CHOICE_WIDTH
  where
    at : (b : Bool) → (((true && b) && true) && nat_le (reach_of_sides ss) CHOICE_WIDTH) ≡ (b && nat_le (reach_of_sides ss) CHOICE_WIDTH)
    at true = refl
    at false = refl

pub commit-fits : (ambition : Formula ℕ) (ss : List Sided) → part_count ambition ≤ MOST_PARTS → list_all fits_sided ss ≡ true
    → (fits_expr ambition && list_all fits_with_side ss) ≡ nat_le (reach_within ambition ss) CHOICE_WIDTH
commit-fits ambition ss few h =
    let own : nat_le (part_count ambition) MOST_PARTS ≡ true = grind (arith, nat_tests, few) in
    (λ i. (own i && nat_le (reach ambition) CHOICE_WIDTH) && sides-fit ss h i) ∙ both-most (reach ambition) (reach_of_sides ss) CHOICE_WIDTH
