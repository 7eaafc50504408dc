-- The options that are declared, and names among them.
use Rattle.std.specs.Prelude.{ℕ, Bool, List, [], length, position, slice_get, unwrap_or}
use Rattle.std.specs.Str.{bytes_eq}
use Rattle.std.specs.List.{list_any}

-- the names of the options in order of declaration, and for how many more there is room
pub record Declared : Type 0 where
  pub names : List (List ℕ)
  pub spare : ℕ

-- whether an option has the name
abbrev pub is_declared : List (List ℕ) → List ℕ → Bool
is_declared names name = list_any (bytes_eq name) names

-- the number of the option that has the name, or how many options there are where none has it
abbrev pub option_number : List (List ℕ) → List ℕ → ℕ
option_number names name = unwrap_or (position (bytes_eq name) names) (length names)

-- the name of an option
abbrev pub option_name : List (List ℕ) → ℕ → List ℕ
option_name names option = unwrap_or (slice_get names option) []
