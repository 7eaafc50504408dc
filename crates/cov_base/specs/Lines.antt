-- The lines of a text.
use Rattle.std.specs.Prelude.{ℕ, nat_eq, List, [], ◌∷◌, if◌then◌else◌}

-- the lines with a byte put before the first of them
abbrev pub onto_first_line : ℕ → List (List ℕ) → List (List ℕ)
onto_first_line b [] = (b ∷ []) ∷ []
onto_first_line b (l ∷ ls) = (b ∷ l) ∷ ls

-- the parts of a text that byte 10 ends, and its last part if it isn't empty
abbrev pub lines_of : List ℕ → List (List ℕ)
lines_of [] = []
lines_of (b ∷ bs) = if nat_eq b 10 then [] ∷ lines_of bs else onto_first_line b (lines_of bs)
