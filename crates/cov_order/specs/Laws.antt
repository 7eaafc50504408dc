-- The place of the newest line.
use Rattle.std.specs.Prelude.{◌≡◌, ℕ, ◌<◌, ◌≤◌, true, List, [], ◌∷◌, ◌++◌, length}
use Rattle.std.specs.List.{AllByRecursion}
use Rattle.cov_base.specs.Addresses.{address_in, IsTable, placed, AreInOrder, after_anchor}
use Rattle.cov_order.specs.Orders.{is_anchor}

-- a line of a table with a greater number than all the lines of a list, inserted after one of them or after the head
pub record IsNewest (table : List (List ℕ)) (anchor line : ℕ) (lines : List ℕ) : Type 0 where
  pub known : line ≤ length table
  pub address : address_in table line ≡ address_in table anchor ++ line ∷ []
  pub greatest : AllByRecursion (λ n. (0 < n) × (n < line)) lines
  pub above_head : 0 < line
  pub anchored : is_anchor anchor lines ≡ true

-- in a list in address order, the newest line has its place directly after its anchor, and is then in order there
abbrev pub NewestAfterAnchor : Type 0
NewestAfterAnchor = (table : List (List ℕ)) (anchor line : ℕ) (lines : List ℕ)
    → IsTable table → AreInOrder (address_in table) lines → IsNewest table anchor line lines
    → (placed (address_in table) line lines ≡ after_anchor anchor line lines) × AreInOrder (address_in table) (after_anchor anchor line lines)

-- the lines after more of them were put directly after their anchors; each insert is an anchor and a line
abbrev pub filled : List ℕ → List (ℕ × ℕ) → List ℕ
filled lines [] = lines
filled lines (insert ∷ inserts) = filled (after_anchor insert.0 insert.1 lines) inserts

-- each line is the newest when it is put after its anchor
abbrev pub AreRising : List (List ℕ) → List ℕ → List (ℕ × ℕ) → Type 0
AreRising table lines [] = Unit {0}
AreRising table lines (insert ∷ inserts) = IsNewest table insert.0 insert.1 lines × AreRising table (after_anchor insert.0 insert.1 lines) inserts

-- lines that were put directly after their anchors, with rising numbers, stand in address order
abbrev pub RisingLinesStandInOrder : Type 0
RisingLinesStandInOrder = (table : List (List ℕ)) (inserts : List (ℕ × ℕ)) → IsTable table → AreRising table [] inserts → AreInOrder (address_in table) (filled [] inserts)
