-- Partial choices: finite maps from options to truth values, as the lists of their bindings in order of options.
use Rattle.std.specs.Prelude.{ℕ, Bool, true, nat_eq, nat_lt, ◌+◌, ◌&&◌, List, [], ◌∷◌, map, Option, Some, None}
use Rattle.std.specs.Option.{option_map}
use Rattle.std.specs.List.{find, list_all, range_with_len}

-- whether each binding is of a later option than the one before it
abbrev pub is_in_order : List (ℕ × Bool) → Bool
is_in_order [] = true
is_in_order (b ∷ bs) = list_all (λ c. nat_lt b.0 c.0) bs && is_in_order bs

-- the value that bindings give to an option, the first where there are more
abbrev pub bound_value : List (ℕ × Bool) → ℕ → Option Bool
bound_value bindings option = option_map (λ b. b.1) (find (λ b. nat_eq option b.0) bindings)

-- the values that are there, each behind its place, from a number on
abbrev pub places_from : ℕ → List (Option Bool) → List (ℕ × Bool)
places_from n [] = []
places_from n (None ∷ values) = places_from (n + 1) values
places_from n (Some on ∷ values) = (n, on) ∷ places_from (n + 1) values

-- the partial choice of so many options that bindings are, in whatever order they stand
abbrev pub partial_of : ℕ → List (ℕ × Bool) → List (ℕ × Bool)
partial_of count bindings = places_from 0 (map (bound_value bindings) (range_with_len 0 count))
