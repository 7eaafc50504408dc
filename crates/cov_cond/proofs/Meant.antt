-- Edits that are meant for the whole of an ambition.
use Rattle.std.proofs.Common.{◌≡◌, ℕ, ◌≤◌, Bool, true, false, ◌&&◌, max, List, [], ◌∷◌, ◌++◌, refl, ap, ◌∙◌, arith}
use Rattle.std.specs.List.{list_all, AllByRecursion}
use Rattle.cov_expr.specs.Formula.{Formula, True, And, value, reach}
use Rattle.cov_edit.specs.EditFits.{fits_edit}
use Rattle.cov_edit.specs.Fits.{fits_with_side}
use Rattle.cov_edit.specs.Replay.{within_behind}
use Rattle.cov_edit.specs.Sides.{unsided, conditions, reach_of_sides, reach_within}
use Rattle.cov_edit.specs.declared.edit.Edit.{Edit}
use Rattle.cov_cond.specs.Importing.{meant_for_all}

-- where such an edit applies
abbrev pub on_all : Formula ℕ → Formula ℕ
on_all ambition = And ambition True

pub on_all-value : (e : Formula ℕ) (c : List Bool) → value (on_all e) c ≡ value e c
on_all-value e c = at (value e c)
  where
    at : (b : Bool) → (b && true) ≡ b
    at true = refl
    at false = refl

-- where each of such edits applies
abbrev pub all_within : Formula ℕ → List Edit → List (Formula ℕ)
all_within ambition es = conditions ambition (meant_for_all es)

-- they are these edits
pub unsided-all : (es : List Edit) → unsided (meant_for_all es) ≡ es
unsided-all [] = refl
unsided-all (e ∷ es) = ap (λ fs. e ∷ fs) (unsided-all es)

-- those behind some apply as they do alone
pub within-begun : (ambition : Formula ℕ) (begun later : List Edit) → within_behind begun (all_within ambition (begun ++ later)) ≡ all_within ambition later
within-begun ambition [] later = refl
within-begun ambition (e ∷ begun) later = within-begun ambition begun later

-- their sides name no option, and are true on each choice
no-options : (es : List Edit) → reach_of_sides (meant_for_all es) ≡ 0
no-options [] = refl
no-options (e ∷ es) = ap (λ n. max 0 n) (no-options es)

pub reach_all : (count : ℕ) (ambition : Formula ℕ) (es : List Edit) → reach ambition ≤ count → reach_within ambition (meant_for_all es) ≤ count
reach_all count ambition es h = let none = no-options es in omega (arith, h, none)

pub in-all : (c : List Bool) (es : List Edit) → AllByRecursion (λ s. value s.side c ≡ true) (meant_for_all es)
in-all c [] = tt
in-all c (e ∷ es) = (refl, in-all c es)

-- they fit with their sides where they fit
pub fits-all : (es : List Edit) → list_all fits_edit es ≡ true → list_all fits_with_side (meant_for_all es) ≡ true
fits-all es h = same es ∙ h
  where
    same : (es : List Edit) → list_all fits_with_side (meant_for_all es) ≡ list_all fits_edit es
    same [] = refl
    same (e ∷ es) = ap (λ b. fits_edit e && b) (same es)
