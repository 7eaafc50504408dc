-- What nodes show, by the values of their visibilities.
use Rattle.std.specs.Prelude.{ℕ, Bool, List, [], ◌∷◌, ◌++◌, map}
use Rattle.std.specs.List.{filter}
use Rattle.cov_base.specs.Rows.{Row}
use Rattle.cov_base.specs.declared.number.Kind.{Kind}
use Rattle.cov_values.specs.Sights.{AreRight, IsRight}
use Rattle.cov_values.specs.declared.sights.Sight.{Sight}
use Rattle.cov_tree.specs.declared.entry.Place.{Place}
use Rattle.cov_tree.specs.declared.entry.Entry.{Entry}
use Rattle.cov_tree.specs.Places.{row_at}

-- the rows that a node has by values of visibilities: those of the places whose visibility is true
abbrev pub rows_of_by : (ℕ → Bool) → ℕ → Kind → List Place → List Row
rows_of_by f node kind places = map (row_at node kind) (filter (λ p. f p.vis) places)

-- the rows that nodes have
abbrev pub rows_by : (ℕ → Bool) → List Entry → List Row
rows_by f [] = []
rows_by f (e ∷ es) = rows_of_by f e.node e.kind e.places ++ rows_by f es

-- a kept tree is what nodes show by any values of visibilities in which those that it goes with have theirs
abbrev pub IsTree : List Entry → Sight (List Row) → Type 0
IsTree es k = IsRight (λ f. rows_by f es) k

-- each kept tree is
abbrev pub AreTrees : List Entry → List (Sight (List Row)) → Type 0
AreTrees es ks = AreRight (λ f. rows_by f es) ks
