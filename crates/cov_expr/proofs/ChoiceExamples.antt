-- Worked cases of options and choices.
use Rattle.std.specs.Prelude.{◌≡◌, ℕ, true, false, List, [], ◌∷◌, map, replicate, Some, None, Ok, Err, codes, refl}
use Rattle.cov_expr.specs.Options.{is_declared, option_number, option_name}
use Rattle.cov_expr.specs.ChoiceText.{bindings_of, choice_text}
use Rattle.cov_expr.specs.Partials.{bound_value}
use Rattle.cov_expr.specs.Binding.{bound}
use Rattle.cov_expr.specs.declared.binding.BindFault.TheVariants.{UnknownOption, Repeated}

abbrev names : List (List ℕ)
names = codes "a" ∷ codes "b" ∷ codes "long_name" ∷ []

second : option_number names (codes "b") ≡ 1
second = refl

undeclared : is_declared names (codes "long") ≡ false
undeclared = refl

third : option_name names 2 ≡ codes "long_name"
third = refl

-- each binding is a word, = and on or off, with one comma between two; - alone is no binding
choices : map bindings_of (codes "b=on,a=off" ∷ codes "-" ∷ codes "for=on" ∷ [])
    ≡ Some ((codes "b", true) ∷ (codes "a", false) ∷ []) ∷ Some [] ∷ Some ((codes "for", true) ∷ []) ∷ []
choices = refl

-- nothing, a comma at either end, a space, no value, no name, no word, two values, another case, and - beside a binding
no_choices : map bindings_of ([] ∷ codes "a=on," ∷ codes ",a=on" ∷ codes "a=on, b=on" ∷ codes "a" ∷ codes "=on" ∷ codes "9a=on" ∷ codes "a=on=on" ∷ codes "a=On" ∷ codes "-,a=on" ∷ [])
    ≡ replicate 10 None
no_choices = refl

-- bindings in any order are the values in order of options
in_any_order : map (bound names) (((codes "b", true) ∷ (codes "a", false) ∷ []) ∷ ((codes "a", false) ∷ (codes "b", true) ∷ []) ∷ [] ∷ [])
    ≡ Ok ((0, false) ∷ (1, true) ∷ []) ∷ Ok ((0, false) ∷ (1, true) ∷ []) ∷ Ok [] ∷ []
in_any_order = refl

-- an unknown name comes before an option bound twice, and of these the one that is bound again first in the text
faulty : map (bound names) (((codes "a", true) ∷ (codes "a", true) ∷ (codes "c", true) ∷ (codes "d", true) ∷ []) ∷ ((codes "a", true) ∷ (codes "b", true) ∷ (codes "b", true) ∷ (codes "a", true) ∷ []) ∷ ((codes "a", true) ∷ (codes "a", false) ∷ []) ∷ [])
    ≡ Err (UnknownOption (codes "c")) ∷ Err (Repeated 1) ∷ Err (Repeated 0) ∷ []
faulty = refl

value_of_second : bound_value ((0, false) ∷ (1, true) ∷ []) 1 ≡ Some true
value_of_second = refl

value_of_third : bound_value ((0, false) ∷ (1, true) ∷ []) 2 ≡ None
value_of_third = refl

-- the text of a choice may be of fewer options, or of none
printed : map (choice_text names) ((true ∷ false ∷ true ∷ []) ∷ (true ∷ []) ∷ [] ∷ [])
    ≡ codes "a=on,b=off,long_name=on" ∷ codes "a=on" ∷ codes "-" ∷ []
printed = refl
