-- What makes a variant unsound, and its first fault.
use Rattle.std.specs.Prelude.{ℕ, zero, suc, Bool, true, false, ◌&&◌, not, nat_lt, nat_eq, List, [], ◌∷◌, length, Option, Some, None, if◌then◌else◌, option_map}
use Rattle.std.specs.Str.{bytes_eq}
use Rattle.std.specs.Option.{option_or}
use Rattle.std.specs.List.{find}
use Rattle.cov_base.specs.Rows.{Row, row_of, is_present}

-- goes on from the parent of a row, if there is one
abbrev pub from_parent : Option Row → (ℕ → Bool) → Bool
from_parent None go = false
from_parent (Some r) go = go r.parent

-- whether the root is reached from a node by at most so many steps to the parent
abbrev pub is_reached : List Row → ℕ → ℕ → Bool
is_reached rows steps zero = true
is_reached rows zero (suc node) = false
is_reached rows (suc steps) (suc node) = from_parent (row_of rows (suc node)) (is_reached rows steps)

-- what makes a variant unsound
pub data Fault : Type 0 where
  Clash : (low high : ℕ) → Fault
  Orphan : (node : ℕ) → Fault
  Loop : (node : ℕ) → Fault

-- whether two rows have one parent and one name
abbrev pub is_same_place : Row → Row → Bool
is_same_place r s = nat_eq r.parent s.parent && bytes_eq r.name s.name

-- rows in order of their nodes with one more
abbrev pub with_row : Row → List Row → List Row
with_row r [] = r ∷ []
with_row r (s ∷ rows) = if nat_lt r.node s.node then r ∷ s ∷ rows else s ∷ with_row r rows

-- the rows in order of their nodes
abbrev pub in_node_order : List Row → List Row
in_node_order [] = []
in_node_order (r ∷ rows) = with_row r (in_node_order rows)

-- the first two rows with one parent and one name
abbrev pub first_clash : List Row → Option Fault
first_clash [] = None
first_clash (r ∷ rows) = option_or (option_map (λ s. Clash r.node s.node) (find (is_same_place r) rows)) (first_clash rows)

-- the first fault of rows in order of their nodes
abbrev pub first_fault : List Row → Option Fault
first_fault rows =
    option_or (first_clash rows)
    (option_or (option_map (λ r. Orphan r.node) (find (λ r. not (is_present rows r.parent)) rows))
    (option_map (λ r. Loop r.node) (find (λ r. not (is_reached rows (length rows) r.node)) rows)))

-- the least clash, else the least node whose parent isn't present, else the least from which the root isn't reached
abbrev pub fault_of : List Row → Option Fault
fault_of rows = first_fault (in_node_order rows)
