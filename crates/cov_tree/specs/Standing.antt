-- The nodes of a store with a plan, one by one.
use Rattle.std.specs.Prelude.{ℕ, nat_eq, not, List, [], ◌∷◌, if◌then◌else◌}
use Rattle.std.specs.List.{filter}
use Rattle.cov_base.specs.Rows.{has_node}
use Rattle.cov_tree.specs.declared.entry.Place.{Place}
use Rattle.cov_tree.specs.declared.entry.Entry.{Entry}

-- the places that a plan has for a node, or its own where the plan doesn't have it
abbrev pub places_with : List Entry → ℕ → List Place → List Place
places_with [] node own = own
places_with (f ∷ plan) node own = if nat_eq f.node node then f.places else places_with plan node own

-- a node as a plan has it
abbrev pub entry_with : List Entry → Entry → Entry
entry_with plan e = record { node = e.node; kind = e.kind; places = places_with plan e.node e.places }

-- the nodes of a plan that aren't among these
abbrev pub made_beside : List ℕ → List Entry → List Entry
made_beside nodes plan = filter (λ f. not (has_node f.node nodes)) plan
