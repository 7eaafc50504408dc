-- Where rows are sound: no two have one place, and from each the root is reached.
use Rattle.std.specs.Prelude.{◌≡◌, ◌↔◌, ℕ, zero, Bool, true, false, ◌||◌, not, List, [], ◌∷◌, length, Some}
use Rattle.std.specs.List.{list_any}
use Rattle.std.specs.Option.{is_some}
use Rattle.cov_base.specs.Rows.{Row, row_of, AreOnce}
use Rattle.cov_base.specs.Faults.{is_reached, is_same_place, fault_of}

-- the root is reached from a node: the root itself, or one whose row has a parent from which it is reached
pub data Reaches (rows : List Row) : ℕ → Type 0 where
  root : Reaches rows zero
  below : (node : ℕ) (r : Row) → row_of rows node ≡ Some r → Reaches rows r.parent → Reaches rows node

-- whether two rows have one parent and one name
abbrev pub has_clash : List Row → Bool
has_clash [] = false
has_clash (r ∷ rows) = list_any (is_same_place r) rows || has_clash rows

-- whether the root isn't reached from some row
abbrev pub has_lost : List Row → Bool
has_lost rows = list_any (λ r. not (is_reached rows (length rows) r.node)) rows

-- the root is reached from a node exactly where it is in as many steps as there are rows
abbrev pub WaysAreShort : Type 0
WaysAreShort = (rows : List Row) (node : ℕ) → Reaches rows node ↔ (is_reached rows (length rows) node ≡ true)

-- rows, in whatever order, have a fault exactly where two clash or the root isn't reached from one
abbrev pub FaultsAreFound : Type 0
FaultsAreFound = (rows : List Row) → AreOnce rows → is_some (fault_of rows) ≡ (has_clash rows || has_lost rows)
