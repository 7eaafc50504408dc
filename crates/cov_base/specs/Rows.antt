-- The nodes of one variant.
use Rattle.std.specs.Prelude.{◌≡◌, ℕ, Bool, false, ◌||◌, not, nat_eq, List, [], ◌∷◌, ◌++◌, map, Option, if◌then◌else◌}
use Rattle.std.specs.List.{filter, find, list_any}
use Rattle.cov_base.specs.declared.number.Kind.{Kind}

-- a present node other than the root: its number, its kind, its parent's number and its name
pub record Row : Type 0 where
  pub node : ℕ
  pub kind : Kind
  pub parent : ℕ
  pub name : List ℕ

-- one change of the rows
pub data RowChange : Type 0 where
  Created : (node : ℕ) (kind : Kind) (parent : ℕ) (name : List ℕ) → RowChange
  Renamed : (node : ℕ) (name : List ℕ) → RowChange
  Moved : (node parent : ℕ) → RowChange
  Removed : (node : ℕ) → RowChange

-- a row with another name, if it is the node's
abbrev pub with_name : ℕ → List ℕ → Row → Row
with_name node name r = if nat_eq r.node node then record { node = r.node; kind = r.kind; parent = r.parent; name = name } else r

-- a row with another parent, if it is the node's
abbrev pub with_parent : ℕ → ℕ → Row → Row
with_parent node parent r = if nat_eq r.node node then record { node = r.node; kind = r.kind; parent = parent; name = r.name } else r

-- the rows after a change; one of a node that has no row changes nothing
abbrev pub changed : List Row → RowChange → List Row
changed rows (Created node kind parent name) = rows ++ record { node = node; kind = kind; parent = parent; name = name } ∷ []
changed rows (Renamed node name) = map (with_name node name) rows
changed rows (Moved node parent) = map (with_parent node parent) rows
changed rows (Removed node) = filter (λ r. not (nat_eq r.node node)) rows

-- the row of a node
abbrev pub row_of : List Row → ℕ → Option Row
row_of rows node = find (λ r. nat_eq r.node node) rows

-- whether a node is present; the root always is
abbrev pub is_present : List Row → ℕ → Bool
is_present rows node = nat_eq node 0 || list_any (λ r. nat_eq r.node node) rows

-- whether a node is among these
abbrev pub has_node : ℕ → List ℕ → Bool
has_node node nodes = list_any (λ n. nat_eq n node) nodes

-- no node stands twice
abbrev pub AreDistinct : List ℕ → Type 0
AreDistinct [] = Unit {0}
AreDistinct (node ∷ nodes) = (has_node node nodes ≡ false) × AreDistinct nodes

-- no node has two rows, and the root has none
abbrev pub AreOnce : List Row → Type 0
AreOnce rows = AreDistinct (0 ∷ map (λ r. r.node) rows)
