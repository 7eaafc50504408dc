-- Bindings that are read one after another.
use Rattle.std.proofs.Common.{ℕ, Bool, List, ◌++◌, Option, Some, None}
use Rattle.std.specs.Option.{option_map}
use Rattle.cov_expr.specs.ChoiceText.{bindings_between_commas}

-- the bindings read so far with those of the text ahead
abbrev pub with_ahead : List (List ℕ × Bool) → Option (List ℕ) → Option (List (List ℕ × Bool))
with_ahead done None = Some done
with_ahead done (Some text) = option_map (λ more. done ++ more) (bindings_between_commas text)
