-- Worked rows.
use Rattle.std.proofs.Common.{◌≡◌, ℕ, true, false, List, [], ◌∷◌, Some, refl}
use Rattle.cov_expr.specs.Formula.{Formula, On, Not, And, Or}
use Rattle.cov_vis.specs.declared.listing.Child.TheVariants.{F, T, At}
use Rattle.cov_vis.specs.Listings.{ListingValue}
use Rattle.cov_analyse.specs.declared.analysis.OptionState.TheVariants as options
use Rattle.cov_analyse.specs.declared.analysis.RuleState.TheVariants as rules
use Rattle.cov_analyse.specs.Bounding.{distance, is_checked}
use Rattle.cov_analyse.specs.Nearest.{nearest}
use Rattle.cov_analyse.specs.States.{option_state, rule_state}

-- the constraints !(a & b) and !a | !b
abbrev apart : List (Formula ℕ)
apart = Not (And (On 0) (On 1)) ∷ Or (Not (On 0)) (Not (On 1)) ∷ []

free_a : option_state 2 apart 0 ≡ options.Free (false ∷ false ∷ []) (true ∷ false ∷ [])
free_a = refl

free_b : option_state 2 apart 1 ≡ options.Free (false ∷ false ∷ []) (false ∷ true ∷ [])
free_b = refl

first_redundant : rule_state 2 apart 1 ≡ rules.Redundant
first_redundant = refl

second_redundant : rule_state 2 apart 2 ≡ rules.Redundant
second_redundant = refl

nearest_apart : nearest 2 apart (true ∷ true ∷ []) ≡ Some (false ∷ true ∷ [])
nearest_apart = refl

-- the constraints a and !b
abbrev fixed : List (Formula ℕ)
fixed = On 0 ∷ Not (On 1) ∷ []

forced_a : option_state 2 fixed 0 ≡ options.Forced
forced_a = refl

dead_b : option_state 2 fixed 1 ≡ options.Dead
dead_b = refl

first_needed : rule_state 2 fixed 1 ≡ rules.Needed (false ∷ false ∷ [])
first_needed = refl

second_needed : rule_state 2 fixed 2 ≡ rules.Needed (true ∷ true ∷ [])
second_needed = refl

nearest_fixed : nearest 2 fixed (false ∷ true ∷ []) ≡ Some (true ∷ false ∷ [])
nearest_fixed = refl

two_changed : distance (false ∷ true ∷ []) (true ∷ false ∷ []) ≡ 2
two_changed = refl

-- the listing of a & !b
abbrev listed : ListingValue
listed = record { root = At 0; entries = record { option = 0; off = F; on = At 1 } ∷ record { option = 1; off = T; on = F } ∷ [] }

bounds_pass : is_checked listed (false ∷ true ∷ []) (2 ∷ 1 ∷ []) ≡ true
bounds_pass = refl

raised_root_fails : is_checked listed (false ∷ true ∷ []) (3 ∷ 1 ∷ []) ≡ false
raised_root_fails = refl

raised_entry_fails : is_checked listed (false ∷ true ∷ []) (2 ∷ 2 ∷ []) ≡ false
raised_entry_fails = refl

-- the root's number lowered by one is still a bound
lowered_root_passes : is_checked listed (false ∷ true ∷ []) (1 ∷ 1 ∷ []) ≡ true
lowered_root_passes = refl

-- an option above the choice's count counts as off
short_choice_passes : is_checked listed (false ∷ []) (1 ∷ 0 ∷ []) ≡ true
short_choice_passes = refl

short_choice_raised : is_checked listed (false ∷ []) (2 ∷ 1 ∷ []) ≡ false
short_choice_raised = refl

too_few_fail : is_checked listed (false ∷ true ∷ []) (2 ∷ []) ≡ false
too_few_fail = refl

too_many_fail : is_checked listed (false ∷ true ∷ []) (2 ∷ 1 ∷ 0 ∷ []) ≡ false
too_many_fail = refl

-- no number is above that of false
beyond_fails : is_checked listed (false ∷ true ∷ []) (130 ∷ 1 ∷ []) ≡ false
beyond_fails = refl

-- an entry that leads to itself
abbrev cyclic : ListingValue
cyclic = record { root = At 0; entries = record { option = 0; off = At 0; on = T } ∷ [] }

cyclic_fails : is_checked cyclic (false ∷ []) (0 ∷ []) ≡ false
cyclic_fails = refl

-- no constraint, and no option
nothing_asked : option_state 1 [] 0 ≡ options.Free (false ∷ []) (true ∷ [])
nothing_asked = refl

nearest_itself : nearest 2 [] (true ∷ false ∷ []) ≡ Some (true ∷ false ∷ [])
nearest_itself = refl

nearest_of_none : nearest 0 [] [] ≡ Some []
nearest_of_none = refl
