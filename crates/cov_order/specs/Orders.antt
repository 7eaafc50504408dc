-- The lines of a file in order.
use Rattle.std.specs.Prelude.{◌≡◌, ℕ, zero, suc, ◌<◌, Bool, true, false, nat_eq, List, [], ◌∷◌}
use Rattle.std.specs.List.{list_any}

-- the line numbers in order, and the number of lines for which there is room
pub record Ordered : Type 0 where
  pub lines : List ℕ
  pub spare : ℕ

-- whether a line is among lines
abbrev pub has_line : ℕ → List ℕ → Bool
has_line line lines = list_any (λ n. nat_eq n line) lines

-- whether a line may be put after a number: one of the lines, or 0 for the head
abbrev pub is_anchor : ℕ → List ℕ → Bool
is_anchor zero lines = true
is_anchor (suc anchor) lines = has_line (suc anchor) lines

-- numbers of lines, each of them once
abbrev pub AreLines : List ℕ → Type 0
AreLines [] = Unit {0}
AreLines (n ∷ ns) = (0 < n) × (has_line n ns ≡ false) × AreLines ns
