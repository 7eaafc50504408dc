-- The texts of choices.
use Rattle.std.specs.Prelude.{ℕ, Bool, true, false, nat_eq, List, [], ◌∷◌, ◌++◌, map, Option, Some, None, if◌then◌else◌, codes}
use Rattle.std.specs.Str.{bytes_eq}
use Rattle.std.specs.Option.{option_map}
use Rattle.std.specs.List.{slice_split, before_first, after_first, zip, join_with_byte}
use Rattle.cov_base.specs.Spelling.{is_word}

-- what on and off stand for
abbrev pub switch_of : List ℕ → Option Bool
switch_of word = if bytes_eq word (codes "on") then Some true else (if bytes_eq word (codes "off") then Some false else None)

-- the binding that a text is: a word, =, and on or off
abbrev pub binding_of : List ℕ → Option (List ℕ × Bool)
binding_of text =
    let name = before_first (λ b. nat_eq b 61) text in
    if is_word name then option_map (λ on. (name, on)) (switch_of (after_first (λ b. nat_eq b 61) text)) else None

-- the items with one more before them, where all are there
abbrev pub onto : {X : Type 0} → Option X → Option (List X) → Option (List X)
onto None xs = None
onto (Some x) None = None
onto (Some x) (Some xs) = Some (x ∷ xs)

-- the items, where each of them is there
abbrev pub all_some : {X : Type 0} → List (Option X) → Option (List X)
all_some [] = Some []
all_some (o ∷ os) = onto o (all_some os)

-- the bindings that stand between the commas of a text, where each part of it is one
abbrev pub bindings_between_commas : List ℕ → Option (List (List ℕ × Bool))
bindings_between_commas text = all_some (map binding_of (slice_split (λ b. nat_eq b 44) text))

-- the bindings that a text spells: none for -, else those between its commas
abbrev pub bindings_of : List ℕ → Option (List (List ℕ × Bool))
bindings_of text = if bytes_eq text (codes "-") then Some [] else bindings_between_commas text

-- the text of a binding: the name, =, and on or off
abbrev pub binding_text : List ℕ → Bool → List ℕ
binding_text name on = name ++ 61 ∷ (if on then codes "on" else codes "off")

-- the texts of a choice's bindings, in order of options
abbrev pub binding_texts : List (List ℕ) → List Bool → List (List ℕ)
binding_texts names choice = map (λ b. binding_text b.0 b.1) (zip names choice)

-- the text of a choice: - where it binds no option, else its bindings with one comma between two
abbrev pub choice_text : List (List ℕ) → List Bool → List ℕ
choice_text names [] = codes "-"
choice_text names (on ∷ choice) = join_with_byte 44 (binding_texts names (on ∷ choice))
