-- Diagrams that say where each edit of a commit applies.
use Rattle.std.specs.Prelude.{◌≡◌, ℕ, ◌+◌, ◌<◌, ◌≤◌, Bool, ◌&&◌, nat_lt, max, List, [], ◌∷◌, if◌then◌else◌}
use Rattle.cov_dd.specs.declared.triple.Triple.{Triple}
use Rattle.cov_dd.specs.Diagrams.{diagram_size, span, value_in}
use Rattle.cov_expr.specs.Formula.{Formula, value, reach}
use Rattle.cov_edit.specs.declared.edits.Run.{Run}
use Rattle.cov_edit.specs.declared.sided.Sided.{Sided}

-- a node is true where another is and a side, and has only the options of both
pub record IsCondition (old new : List Triple) (within : ℕ) (side : Formula ℕ) (n : ℕ) : Type 0 where
  pub known : n < diagram_size new
  pub below : span new n ≤ max (span old within) (reach side)
  pub value : (c : List Bool) → value_in new n c ≡ (value_in old within c && value side c)

-- there is such a node for each edit
abbrev pub HaveConditions : List Triple → List Triple → ℕ → List ℕ → List Sided → Type 0
HaveConditions old new within [] [] = Unit {0}
HaveConditions old new within [] (s ∷ ss) = ⊥
HaveConditions old new within (n ∷ ns) [] = ⊥
HaveConditions old new within (n ∷ ns) (s ∷ ss) = IsCondition old new within s.side n × HaveConditions old new within ns ss

-- the place at which the first of runs begins, or the count of edits
abbrev pub first_place : ℕ → List Run → ℕ
first_place count [] = count
first_place count (run ∷ runs) = if nat_lt run.first count then run.first else count

-- what holds of each item with its place, the first of which is i
abbrev pub AllAt : (ℕ → ℕ → Type 0) → ℕ → List ℕ → Type 0
AllAt P i [] = Unit {0}
AllAt P i (x ∷ xs) = P i x × AllAt P (i + 1) xs
