-- The first choice that passes a test, by the order of all choices.
use Rattle.std.proofs.Common.{◌≡◌, ℕ, zero, suc, ◌<◌, ◌≤◌, Bool, true, false, ◌&&◌, cond, option_map, List, [], ◌∷◌, map, length, Some, None, true≢false, refl, sym, ap, ◌∙◌, arith}
use Rattle.std.specs.List.{find, list_all}
use Rattle.std.specs.Option.{option_or}
use Rattle.std.proofs.lemmas.Bool.{and_parts, and_from}
use Rattle.std.proofs.lemmas.List.Folds.{find-append, list_all-append, list_all-map}
use Rattle.cov_base.specs.Choices.{all_choices, is_on}

-- from an option on a choice is another, or comes before it: at the first option on which they differ it is off
pub data Precedes (p : ℕ) (d e : List Bool) : Type 0 where
  alike : ((q : ℕ) → p ≤ q → is_on d q ≡ is_on e q) → Precedes p d e
  earlier : (q : ℕ) → p ≤ q → ((r : ℕ) → p ≤ r → r < q → is_on d r ≡ is_on e r) → is_on d q ≡ false → is_on e q ≡ true → Precedes p d e

precedes_rest : (b : Bool) (d e : List Bool) → Precedes 0 (b ∷ d) (b ∷ e) → Precedes 0 d e
precedes_rest b d e (alike h) = alike (λ q low. h (suc q) (omega arith))
precedes_rest b d e (earlier zero low h off on) = absurd (true≢false (sym on ∙ off))
precedes_rest b d e (earlier (suc q) low h off on) = earlier q (omega arith) (λ r at less. h (suc r) (omega arith) (omega (arith, less))) off on

on_before_off : (d e : List Bool) → Precedes 0 (true ∷ d) (false ∷ e) → ⊥
on_before_off d e (alike h) = true≢false (h 0 (omega arith))
on_before_off d e (earlier zero low h off on) = true≢false off
on_before_off d e (earlier (suc q) low h off on) = true≢false (h 0 (omega arith) (omega arith))

find_map : (p : List Bool → Bool) (b : Bool) (cs : List (List Bool)) → find p (map (λ c. b ∷ c) cs) ≡ option_map (λ c. b ∷ c) (find (λ c. p (b ∷ c)) cs)
find_map p b [] = refl
find_map p b (c ∷ cs) = by (p (b ∷ c)) (find_map p b cs)
  where
    by : (t : Bool) → find p (map (λ c. b ∷ c) cs) ≡ option_map (λ c. b ∷ c) (find (λ c. p (b ∷ c)) cs)
        → cond t (Some (b ∷ c)) (find p (map (λ c. b ∷ c) cs)) ≡ option_map (λ c. b ∷ c) (cond t (Some c) (find (λ c. p (b ∷ c)) cs))
    by true rest = refl
    by false rest = rest

halves : (n : ℕ) (p : List Bool → Bool) → find p (all_choices (suc n)) ≡ option_or (option_map (λ c. false ∷ c) (find (λ c. p (false ∷ c)) (all_choices n))) (option_map (λ c. true ∷ c) (find (λ c. p (true ∷ c)) (all_choices n)))
halves n p =
    find-append p (map (λ c. false ∷ c) (all_choices n)) (map (λ c. true ∷ c) (all_choices n))
    ∙ (λ j. option_or (find_map p false (all_choices n) j) (find_map p true (all_choices n) j))

none_found : (n : ℕ) (p : List Bool → Bool) → ((c : List Bool) → length c ≡ n → p c ≡ false) → find p (all_choices n) ≡ None
none_found zero p h = ap (λ b. cond b (Some []) None) (h [] refl)
none_found (suc n) p h =
    halves n p
    ∙ (λ j. option_or
    (option_map (λ c. false ∷ c) (none_found n (λ c. p (false ∷ c)) (λ c long. h (false ∷ c) (ap suc long)) j))
    (option_map (λ c. true ∷ c) (none_found n (λ c. p (true ∷ c)) (λ c long. h (true ∷ c) (ap suc long)) j)))

-- a choice that passes a test, and comes before each other that does, is the first of all choices that does
pub first_found : (n : ℕ) (p : List Bool → Bool) (d : List Bool) → length d ≡ n → p d ≡ true → ((e : List Bool) → length e ≡ n → p e ≡ true → Precedes 0 d e) → find p (all_choices n) ≡ Some d
first_found zero p [] long passes first = ap (λ b. cond b (Some []) None) passes
first_found zero p (b ∷ d) long passes first = absurd (omega (arith, long))
first_found (suc n) p [] long passes first = absurd (omega (arith, long))
first_found (suc n) p (false ∷ d) long passes first =
    halves n p
    ∙ ap (λ r. option_or (option_map (λ c. false ∷ c) r) (option_map (λ c. true ∷ c) (find (λ c. p (true ∷ c)) (all_choices n))))
    (first_found n (λ c. p (false ∷ c)) d (omega (arith, long)) passes (λ e whole h. precedes_rest false d e (first (false ∷ e) (ap suc whole) h)))
first_found (suc n) p (true ∷ d) long passes first =
    halves n p
    ∙ (λ j. option_or
    (option_map (λ c. false ∷ c) (none_found n (λ c. p (false ∷ c)) none j))
    (option_map (λ c. true ∷ c) (first_found n (λ c. p (true ∷ c)) d (omega (arith, long)) passes (λ e whole h. precedes_rest true d e (first (true ∷ e) (ap suc whole) h)) j)))
  where
    none : (c : List Bool) → length c ≡ n → p (false ∷ c) ≡ false
    none c whole = by (p (false ∷ c)) refl
      where
        by : (b : Bool) → p (false ∷ c) ≡ b → p (false ∷ c) ≡ false
        by true h = absurd (on_before_off d c (first (false ∷ c) (ap suc whole) h))
        by false h = h

-- what holds of each choice of so many options, and what all of them pass
all_halves : (n : ℕ) (p : List Bool → Bool) → list_all p (all_choices (suc n)) ≡ (list_all (λ c. p (false ∷ c)) (all_choices n) && list_all (λ c. p (true ∷ c)) (all_choices n))
all_halves n p =
    list_all-append p (map (λ c. false ∷ c) (all_choices n)) (map (λ c. true ∷ c) (all_choices n))
    ∙ (λ j. list_all-map p (λ c. false ∷ c) (all_choices n) j && list_all-map p (λ c. true ∷ c) (all_choices n) j)

pub all_pass : (n : ℕ) (p : List Bool → Bool) → ((c : List Bool) → length c ≡ n → p c ≡ true) → list_all p (all_choices n) ≡ true
all_pass zero p h = and_from (p []) true (h [] refl) refl
all_pass (suc n) p h =
    all_halves n p
    ∙ and_from _ _ (all_pass n (λ c. p (false ∷ c)) (λ c long. h (false ∷ c) (ap suc long))) (all_pass n (λ c. p (true ∷ c)) (λ c long. h (true ∷ c) (ap suc long)))

pub each_passes : (n : ℕ) (p : List Bool → Bool) → list_all p (all_choices n) ≡ true → (c : List Bool) → length c ≡ n → p c ≡ true
each_passes zero p h [] long = (and_parts (p []) true h).0
each_passes zero p h (b ∷ c) long = absurd (omega (arith, long))
each_passes (suc n) p h [] long = absurd (omega (arith, long))
each_passes (suc n) p h (false ∷ c) long = each_passes n (λ d. p (false ∷ d)) (and_parts _ _ (sym (all_halves n p) ∙ h)).0 c (omega (arith, long))
each_passes (suc n) p h (true ∷ c) long =
    each_passes n (λ d. p (true ∷ d)) (and_parts (list_all (λ c. p (false ∷ c)) (all_choices n)) _ (sym (all_halves n p) ∙ h)).1 c (omega (arith, long))
