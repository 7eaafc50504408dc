-- Marks of two commits, one of which has sides.
use Rattle.std.proofs.Common.{◌≡◌, true, false, [], ◌∷◌, refl}
use Rattle.cov_overtaking.specs.Marks.{within_of, all_mark_nodes, marks_having}
use Rattle.cov_overtaking.specs.Touches.{have_node_on}
use Rattle.cov_overtaking.specs.declared.mark.CommitMark.{CommitMark}

-- it touches nodes 1 and 4, both where node 1 of the table is true
plain : CommitMark
plain = record { position = 3; node = 1; touched = 1 ∷ 4 ∷ []; each = [] }

-- it touches node 2 where node 1 of the table is true, and node 4 where node 0 is
sided : CommitMark
sided = record { position = 5; node = 1; touched = 2 ∷ 4 ∷ []; each = 1 ∷ 0 ∷ [] }

-- one diagram for all, and one for each
alike : within_of plain ≡ 1 ∷ 1 ∷ []
unfolding plain
alike = refl

each : within_of sided ≡ 1 ∷ 0 ∷ []
unfolding sided
each = refl

-- node 4 is touched by the first, and nowhere by the second
everywhere : have_node_on [] plain.touched (within_of plain) 4 [] ≡ true
unfolding plain
everywhere = refl

nowhere : have_node_on [] sided.touched (within_of sided) 4 [] ≡ false
unfolding sided
nowhere = refl

-- the nodes of the table that they keep, and others in the places of these
kept : all_mark_nodes (plain ∷ sided ∷ []) ≡ 1 ∷ 1 ∷ 1 ∷ 0 ∷ []
unfolding plain sided
kept = refl

renumbered : marks_having (plain ∷ sided ∷ []) (2 ∷ 3 ∷ 4 ∷ 5 ∷ [])
    ≡ record { position = 3; node = 2; touched = 1 ∷ 4 ∷ []; each = [] } ∷ record { position = 5; node = 3; touched = 2 ∷ 4 ∷ []; each = 4 ∷ 5 ∷ [] } ∷ []
unfolding plain sided
renumbered = refl
