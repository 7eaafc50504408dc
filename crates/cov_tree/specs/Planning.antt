-- A plan that takes in a node, and shifts its places.
use Rattle.std.specs.Prelude.{◌≡◌, ℕ, ◌<◌, ◌≤◌, Bool, true, false, nat_eq, List, [], Option, None, Some, length, slice_set, slice_index_or}
use Rattle.std.specs.List.{find}
use Rattle.cov_base.specs.Rows.{has_node}
use Rattle.cov_base.specs.declared.number.Kind.{Kind}
use Rattle.cov_dd.specs.declared.triple.Triple.{Triple}
use Rattle.cov_tree.specs.declared.entry.Place.{Place}
use Rattle.cov_tree.specs.declared.entry.Entry.{Entry}
use Rattle.cov_tree.specs.declared.parting.Shift.{Shift}
use Rattle.cov_tree.specs.Entries.{rows_of, nodes_of, AreWithin}
use Rattle.cov_tree.specs.Shifts.{shifted, Adds}

-- a node has this place in a plan, or isn't among nodes
abbrev pub IsPlannedAt : ℕ → Option ℕ → List Entry → List ℕ → Type 0
IsPlannedAt node None plan nodes = has_node node nodes ≡ false
IsPlannedAt node (Some at) plan nodes = (at < length plan) × ((d : Entry) → (slice_index_or plan at d).node ≡ node)

-- a node is found among others, of which none is the root
abbrev pub IsFoundAs : ℕ → Option Entry → List Entry → Type 0
IsFoundAs node None es = has_node node (nodes_of es) ≡ false
IsFoundAs node (Some e) es = (find (λ f. nat_eq f.node e.node) es ≡ Some e) × (e.node ≡ node) × (nat_eq e.node 0 ≡ false)

-- an entry with other places
abbrev pub with_places : List Place → Entry → Entry
with_places ps e = record { node = e.node; kind = e.kind; places = ps }

-- the places of an entry can be shifted: their visibilities are nodes of a table, and on no choice they have two rows
pub record CanBeShifted (table : List Triple) (es : List Entry) (at : ℕ) : Type 0 where
  pub here : at < length es
  pub within : (d : Entry) → AreWithin table (slice_index_or es at d).places
  pub once : (d : Entry) (c : List Bool) (node : ℕ) (kind : Kind) → length (rows_of table c node kind (slice_index_or es at d).places) ≤ 1

-- an entry got places that have the shifted rows
pub record IsShifted (old new : List Triple) (before after : List Entry) (at : ℕ) (shift : Shift) (ambition : ℕ) : Type 0 where
  pub places : List Place
  pub is : (d : Entry) → after ≡ slice_set before at (with_places places (slice_index_or before at d))
  pub rows : (d : Entry) → Adds old new [] places (λ c. true) (λ c node kind. shifted old c node shift ambition (rows_of old c node kind (slice_index_or before at d).places))
