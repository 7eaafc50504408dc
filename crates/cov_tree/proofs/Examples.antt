-- Worked rows of entries, plans and positions, by computation.
use Rattle.std.proofs.Common.{◌≡◌, true, [], ◌∷◌, refl}
use Rattle.cov_base.specs.Rows.{Created, Renamed, Moved, Removed}
use Rattle.cov_base.specs.declared.number.Kind.TheVariants as kinds
use Rattle.cov_tree.specs.Entries.{rows_in}
use Rattle.cov_tree.specs.Changes.{all_changed}
use Rattle.cov_tree.specs.Places.{place_at}
use Rattle.cov_tree.specs.Dated.{Dated, rows_among, rows_at, rows_with}

-- a directory d, seen on each choice, and in it a file, named m where option 0 is off and n where it is on
two_nodes : rows_in (record { option = 0; off = 0; on = 1 } ∷ record { option = 0; off = 1; on = 0 } ∷ []) (true ∷ [])
    (record { node = 1; kind = kinds.Dir; places = record { parent = 0; name = 100 ∷ []; vis = 1 } ∷ [] }
    ∷ record { node = 2; kind = kinds.File; places = record { parent = 1; name = 109 ∷ []; vis = 2 } ∷ record { parent = 1; name = 110 ∷ []; vis = 3 } ∷ [] } ∷ [])
    ≡ record { node = 1; kind = kinds.Dir; parent = 0; name = 100 ∷ [] } ∷ record { node = 2; kind = kinds.File; parent = 1; name = 110 ∷ [] } ∷ []
two_nodes = refl

-- changes whose ambition is true are made in order, and the others aren't
three_changes : all_changed [] [] ((Created 1 kinds.File 0 (109 ∷ []), 1) ∷ (Renamed 1 (110 ∷ []), 1) ∷ (Moved 1 7, 0) ∷ []) []
    ≡ record { node = 1; kind = kinds.File; parent = 0; name = 110 ∷ [] } ∷ []
three_changes = refl

taken_out : all_changed [] [] ((Created 1 kinds.File 0 (109 ∷ []), 1) ∷ (Created 2 kinds.Dir 0 (100 ∷ []), 1) ∷ (Removed 1, 1) ∷ []) []
    ≡ record { node = 2; kind = kinds.Dir; parent = 0; name = 100 ∷ [] } ∷ []
taken_out = refl

-- the file m, made at position 5, named n from 7 on and taken out at 9
abbrev one_file : Dated
one_file = record {
  from = 9;
  entries =
      record {
        node = 1;
        kind = kinds.File;
        from = 9;
        places = [];
        older = record { lists = (7, place_at 0 (110 ∷ []) 1 ∷ []) ∷ (5, place_at 0 (109 ∷ []) 1 ∷ []) ∷ []; room = 0 };
      } ∷ [];
  room = 0;
  noted = [];
}

-- a node is there from its position on, with the newest name not beyond a position
before_its_position : rows_at [] [] 4 one_file ≡ []
before_its_position = refl

from_its_position : rows_at [] [] 5 one_file ≡ record { node = 1; kind = kinds.File; parent = 0; name = 109 ∷ [] } ∷ []
from_its_position = refl

between_changes : rows_at [] [] 8 one_file ≡ record { node = 1; kind = kinds.File; parent = 0; name = 110 ∷ [] } ∷ []
between_changes = refl

from_its_last : rows_at [] [] 9 one_file ≡ []
from_its_last = refl

-- a directory and a file, each with its one place
abbrev two_made : Dated
two_made = record {
  from = 5;
  entries =
      record { node = 1; kind = kinds.Dir; from = 4; places = place_at 0 (100 ∷ []) 1 ∷ []; older = record { lists = []; room = 0 } }
      ∷ record { node = 2; kind = kinds.File; from = 5; places = place_at 1 (109 ∷ []) 1 ∷ []; older = record { lists = []; room = 0 } } ∷ [];
  room = 0;
  noted = [];
}

-- the rows of these nodes, in their order
among_two : rows_among [] [] 5 (2 ∷ 3 ∷ 1 ∷ []) two_made ≡ record { node = 2; kind = kinds.File; parent = 1; name = 109 ∷ [] } ∷ record { node = 1; kind = kinds.Dir; parent = 0; name = 100 ∷ [] } ∷ []
among_two = refl

-- a plan that makes no change has the newest rows, one that changes a node has its places in place of those, and what it makes
-- stands behind
with_no_change : rows_with [] [] [] two_made ≡ rows_at [] [] 5 two_made
with_no_change = refl

with_changes : rows_with [] []
    (record { node = 1; kind = kinds.Dir; places = place_at 0 (100 ∷ []) 0 ∷ place_at 0 (101 ∷ []) 1 ∷ [] } ∷ record { node = 3; kind = kinds.File; places = place_at 0 (110 ∷ []) 1 ∷ [] } ∷ [])
    two_made
    ≡ record { node = 1; kind = kinds.Dir; parent = 0; name = 101 ∷ [] }
    ∷ record { node = 2; kind = kinds.File; parent = 1; name = 109 ∷ [] }
    ∷ record { node = 3; kind = kinds.File; parent = 0; name = 110 ∷ [] } ∷ []
with_changes = refl
