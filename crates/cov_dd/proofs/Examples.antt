-- Worked cases of the definitions.
use Rattle.std.proofs.Common.{◌≡◌, true, false, List, [], ◌∷◌, Some, None, refl}
use Rattle.std.specs.List.{find}
use Rattle.cov_base.specs.Choices.{all_choices}
use Rattle.cov_dd.specs.declared.triple.Triple.{Triple}
use Rattle.cov_dd.specs.Diagrams.{diagram_size, entry_in, top, span, value_in}
use Rattle.cov_dd.specs.Reached.{reaches, size}

-- nodes 2 and 3 are the literals of options 0 and 1, and node 4 is true where one of them is
abbrev either : List Triple
either = record { option = 0; off = 3; on = 1 } ∷ record { option = 1; off = 0; on = 1 } ∷ record { option = 0; off = 0; on = 1 } ∷ []

five_nodes : diagram_size either ≡ 5
five_nodes = refl

entry_of_b : entry_in either 3 ≡ Some (record { option = 1; off = 0; on = 1 })
entry_of_b = refl

no_entry_of_true : entry_in either 1 ≡ None
no_entry_of_true = refl

options_of_either : top either 4 ≡ 0
options_of_either = refl

options_below_two : span either 4 ≡ 2
options_below_two = refl

true_with_b : value_in either 4 (false ∷ true ∷ []) ≡ true
true_with_b = refl

false_with_none : value_in either 4 (false ∷ false ∷ []) ≡ false
false_with_none = refl

-- an option that the choice doesn't bind is off
false_unbound : value_in either 4 (false ∷ []) ≡ false
false_unbound = refl

first_with_b : find (value_in either 4) (all_choices 2) ≡ Some (false ∷ true ∷ [])
first_with_b = refl

-- itself, the literal of option 1, FALSE and TRUE
four_reached : size either 4 ≡ 4
four_reached = refl

other_literal_not_reached : reaches either 4 2 ≡ false
other_literal_not_reached = refl
