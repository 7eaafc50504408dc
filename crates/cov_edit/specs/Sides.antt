-- Edits with their sides.
use Rattle.std.specs.Prelude.{ℕ, Bool, ◌&&◌, nat_le, List, [], ◌∷◌, map, max}
use Rattle.std.specs.List.{fold}
use Rattle.cov_base.specs.declared.limits.TheConstants.{MOST_PARTS}
use Rattle.cov_expr.specs.Formula.{Formula, And, part_count, reach}
use Rattle.cov_edit.specs.EditFits.{fits_edit}
use Rattle.cov_edit.specs.declared.edit.Edit.{Edit}
use Rattle.cov_edit.specs.declared.sided.Sided.{Sided}

-- an edit with a side
abbrev pub sided : Formula ℕ → Edit → Sided
sided side e = record { side = side; edit = e }

-- an edit without its side
abbrev pub the_edit : Sided → Edit
the_edit s = s.edit

-- edits without their sides
abbrev pub unsided : List Sided → List Edit
unsided ss = map the_edit ss

-- the side of the last edit, and this one where there is none
abbrev pub side_after : Formula ℕ → List Sided → Formula ℕ
side_after side ss = fold (λ before s. s.side) side ss

-- where an edit of a commit applies: within the ambition and its side
abbrev pub condition : Formula ℕ → Sided → Formula ℕ
condition ambition s = And ambition s.side

-- where each edit of a commit applies
abbrev pub conditions : Formula ℕ → List Sided → List (Formula ℕ)
conditions ambition ss = map (condition ambition) ss

-- the least count of options that has every option of the sides
abbrev pub reach_of_sides : List Sided → ℕ
reach_of_sides [] = 0
reach_of_sides (s ∷ ss) = max (reach s.side) (reach_of_sides ss)

-- the least count of options that has every option of an ambition and the sides
abbrev pub reach_within : Formula ℕ → List Sided → ℕ
reach_within ambition ss = max (reach ambition) (reach_of_sides ss)

-- whether an edit is what its type keeps, and its side has no more parts than the limit
abbrev pub fits_sided : Sided → Bool
fits_sided s = nat_le (part_count s.side) MOST_PARTS && fits_edit s.edit
