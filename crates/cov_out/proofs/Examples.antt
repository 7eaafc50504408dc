-- Worked cases of the definitions.
use Rattle.std.proofs.Common.{◌≡◌, true, false, [], ◌∷◌, map, Some, refl}
use Rattle.std.specs.Prelude.{codes}
use Rattle.std.specs.Str.{is_utf8, chars}
use lib.Utf8.{encode}
use Rattle.cov_out.specs.Rows.{AddsRow, dir_row, file_row, is_below}
use Rattle.cov_out.specs.InMemory.{Adds, FailsToAdd}

-- names with a slash between two
below : map is_below (codes "t" ∷ codes "t/.a/m" ∷ codes "t/-" ∷ []) ≡ true ∷ true ∷ true ∷ []
unfolding is_utf8 chars encode
below = refl

-- the folder itself, what is above it or from the root, and a part without a name
outside : map is_below ([] ∷ codes ".." ∷ codes "t/../m" ∷ codes "/t" ∷ codes "t/" ∷ codes "t//m" ∷ []) ≡ false ∷ false ∷ false ∷ false ∷ false ∷ false ∷ []
unfolding is_utf8 chars encode
outside = refl

-- an empty file behind a directory
two_rows : AddsRow (file_row (codes "t/m") []) (Some (dir_row (codes "t") ∷ [])) (Some (dir_row (codes "t") ∷ file_row (codes "t/m") [] ∷ []))
two_rows = refl

-- the first call of trees whose second call fails
first_adds : Adds (dir_row (codes "t"))
    (record { rows = []; fail = 2 ∷ []; calls = 0; faults = 0; starved = 0 })
    (record { rows = dir_row (codes "t") ∷ []; fail = 2 ∷ []; calls = 1; faults = 0; starved = 0 })
first_adds = (refl, refl)

-- the second
second_fails : FailsToAdd
    (record { rows = dir_row (codes "t") ∷ []; fail = 2 ∷ []; calls = 1; faults = 0; starved = 0 })
    (record { rows = dir_row (codes "t") ∷ []; fail = 2 ∷ []; calls = 2; faults = 1; starved = 0 })
second_fails = refl

-- a third, which finds no memory
third_starves : FailsToAdd
    (record { rows = dir_row (codes "t") ∷ []; fail = 2 ∷ []; calls = 2; faults = 1; starved = 0 })
    (record { rows = dir_row (codes "t") ∷ []; fail = 2 ∷ []; calls = 3; faults = 2; starved = 1 })
third_starves = refl
