-- Edits with and without their sides.
use Rattle.std.proofs.Common.{◌≡◌, ℕ, ◌≤◌, Bool, true, false, ◌&&◌, List, [], ◌∷◌, ◌++◌, length, suc, refl, ap, arith}
use Rattle.std.specs.List.{list_all, AllByRecursion}
use Rattle.std.proofs.Math.Nat.{max-le, le-max_left, le-max_right}
use Rattle.std.proofs.lemmas.Bool.{and_parts}
use Rattle.cov_expr.specs.Formula.{Formula, reach, value}
use Rattle.cov_edit.specs.EditFits.{fits_edit}
use Rattle.cov_edit.specs.Fits.{fits_expr, fits_with_side}
use Rattle.cov_edit.specs.Sides.{unsided, conditions, reach_of_sides, reach_within}
use Rattle.cov_edit.specs.declared.sided.Sided.{Sided}

pub unsided-append : (ss ts : List Sided) → unsided (ss ++ ts) ≡ unsided ss ++ unsided ts
unsided-append [] ts = refl
unsided-append (s ∷ ss) ts = ap (λ es. s.edit ∷ es) (unsided-append ss ts)

pub unsided-length : (ss : List Sided) → length (unsided ss) ≡ length ss
unsided-length [] = refl
unsided-length (s ∷ ss) = ap suc (unsided-length ss)

-- edits that fit with their sides fit without them
pub edits-fit : (ss : List Sided) → list_all fits_with_side ss ≡ true → list_all fits_edit (unsided ss) ≡ true
edits-fit [] h = refl
edits-fit (s ∷ ss) h =
    let parts = and_parts (fits_with_side s) (list_all fits_with_side ss) h in
    let own = and_parts (fits_expr s.side) (fits_edit s.edit) parts.0 in
    λ i. own.1 i && edits-fit ss parts.1 i

-- the options of an ambition and of sides are those of the conditions
pub ambition-low : (n : ℕ) (ambition : Formula ℕ) (ss : List Sided) → reach_within ambition ss ≤ n → reach ambition ≤ n
ambition-low n ambition ss h = omega (arith, h, le-max_left (reach ambition) (reach_of_sides ss))

pub sides-low : (n : ℕ) (ambition : Formula ℕ) (ss : List Sided) → reach_within ambition ss ≤ n → reach_of_sides ss ≤ n
sides-low n ambition ss h = omega (arith, h, le-max_right (reach ambition) (reach_of_sides ss))

pub conditions-low : (n : ℕ) (ambition : Formula ℕ) (ss : List Sided) → reach_within ambition ss ≤ n → AllByRecursion (λ w. reach w ≤ n) (conditions ambition ss)
conditions-low n ambition ss h = each ss (sides-low n ambition ss h)
  where
    own : reach ambition ≤ n
    own = ambition-low n ambition ss h

    each : (ss : List Sided) → reach_of_sides ss ≤ n → AllByRecursion (λ w. reach w ≤ n) (conditions ambition ss)
    each [] k = tt
    each (s ∷ ss) k =
        let first = le-max_left (reach s.side) (reach_of_sides ss) in
        let rest = le-max_right (reach s.side) (reach_of_sides ss) in
        (max-le own (omega (arith, k, first)), each ss (omega (arith, k, rest)))

-- where the ambition is false, so is each condition
pub outside-ambition : (c : List Bool) (ambition : Formula ℕ) (ss : List Sided) → value ambition c ≡ false → AllByRecursion (λ s. (value ambition c && value s.side c) ≡ false) ss
outside-ambition c ambition [] h = tt
outside-ambition c ambition (s ∷ ss) h = (ap (λ b. b && value s.side c) h, outside-ambition c ambition ss h)
