-- Choices of which no option has both values are at most one.
use Rattle.std.proofs.Common.{◌≡◌, ℕ, zero, suc, ◌<◌, ◌≤◌, Bool, true, false, cond, ◌&&◌, ◌||◌, not, List, [], ◌∷◌, ◌++◌, map, length, true≢false, refl, sym, ap, ◌∙◌, arith}
use mathlib.Core.Bool.{or-false}
use Rattle.std.specs.List.{filter, list_any}
use Rattle.std.proofs.lemmas.List.{length-append, length-map}
use Rattle.std.proofs.lemmas.List.Elements.{filter-append}
use Rattle.std.proofs.lemmas.List.Folds.{list_any-append}
use Rattle.cov_base.specs.Choices.{all_choices, is_on}
use Rattle.cov_base.proofs.CallerLemmas.{any-map}
use Rattle.cov_rules.specs.Completion.{has_any, is_open}

module _ {X Y : Type 0} (p : Y → Bool) (f : X → Y) where
  filter_map : (xs : List X) → filter p (map f xs) ≡ map f (filter (λ x. p (f x)) xs)
  filter_map [] = refl
  filter_map (x ∷ xs) = by (p (f x)) (filter_map xs)
    where
      by : (b : Bool) → filter p (map f xs) ≡ map f (filter (λ y. p (f y)) xs) → cond b (f x ∷ filter p (map f xs)) (filter p (map f xs)) ≡ map f (cond b (x ∷ filter (λ y. p (f y)) xs) (filter (λ y. p (f y)) xs))
      by true h = ap (λ ys. f x ∷ ys) h
      by false h = h

-- the choices that start with off and those that start with on
abbrev off_then : List (List Bool) → List (List Bool)
off_then cs = map (λ c. false ∷ c) cs

abbrev on_then : List (List Bool) → List (List Bool)
on_then cs = map (λ c. true ∷ c) cs

any_true : (cs : List (List Bool)) → list_any (λ c. true) cs ≡ has_any cs
any_true [] = refl
any_true (c ∷ cs) = refl

any_false : (cs : List (List Bool)) → list_any (λ c. false) cs ≡ false
any_false [] = refl
any_false (c ∷ cs) = any_false cs

-- a test of the choices in their two halves
halves : (t : List Bool → Bool) (xs ys : List (List Bool)) → list_any t (off_then xs ++ on_then ys) ≡ (list_any (λ c. t (false ∷ c)) xs || list_any (λ c. t (true ∷ c)) ys)
halves t xs ys = list_any-append t (off_then xs) (on_then ys) ∙ (λ j. any-map t (λ c. false ∷ c) xs j || any-map t (λ c. true ∷ c) ys j)

-- the first option is open where both halves have a choice
first_open_where : (xs ys : List (List Bool)) → is_open (off_then xs ++ on_then ys) 0 ≡ (has_any ys && has_any xs)
first_open_where xs ys = λ j.
    (halves (λ c. is_on c 0) xs ys ∙ (λ k. any_false xs k || any_true ys k)) j
    && (halves (λ c. not (is_on c 0)) xs ys ∙ (λ k. any_true xs k || any_false ys k) ∙ or-false (has_any xs)) j

-- a later option where there is one half
later_off : (xs : List (List Bool)) (o : ℕ) → is_open (off_then xs ++ on_then []) (suc o) ≡ is_open xs o
later_off xs o = λ j.
    (halves (λ c. is_on c (suc o)) xs [] ∙ or-false (list_any (λ c. is_on c o) xs)) j
    && (halves (λ c. not (is_on c (suc o))) xs [] ∙ or-false (list_any (λ c. not (is_on c o)) xs)) j

later_on : (ys : List (List Bool)) (o : ℕ) → is_open (off_then [] ++ on_then ys) (suc o) ≡ is_open ys o
later_on ys o = λ j. halves (λ c. is_on c (suc o)) [] ys j && halves (λ c. not (is_on c (suc o))) [] ys j

-- the halves of the choices that pass a test
halved : (n : ℕ) (p : List Bool → Bool) → filter p (all_choices (suc n)) ≡ off_then (filter (λ c. p (false ∷ c)) (all_choices n)) ++ on_then (filter (λ c. p (true ∷ c)) (all_choices n))
halved n p = filter-append p (off_then (all_choices n)) (on_then (all_choices n))
    ∙ (λ j. filter_map p (λ c. false ∷ c) (all_choices n) j ++ filter_map p (λ c. true ∷ c) (all_choices n) j)

pub at_most_one : (n : ℕ) (p : List Bool → Bool) → ((o : ℕ) → o < n → is_open (filter p (all_choices n)) o ≡ false) → length (filter p (all_choices n)) ≤ 1
at_most_one zero p h = by (p [])
  where
    by : (b : Bool) → length {A = List Bool} (cond b ([] ∷ []) []) ≤ 1
    by true = omega arith
    by false = omega arith
at_most_one (suc n) p h =
    by (filter (λ c. p (false ∷ c)) (all_choices n)) (filter (λ c. p (true ∷ c)) (all_choices n)) (halved n p) (at_most_one n (λ c. p (false ∷ c))) (at_most_one n (λ c. p (true ∷ c)))
  where
    by : (xs ys : List (List Bool)) → filter p (all_choices (suc n)) ≡ off_then xs ++ on_then ys
        → (((o : ℕ) → o < n → is_open xs o ≡ false) → length xs ≤ 1) → (((o : ℕ) → o < n → is_open ys o ≡ false) → length ys ≤ 1) → length (filter p (all_choices (suc n))) ≤ 1
    by xs [] e left right =
        let few : length xs ≤ 1 = left (λ o lt. sym (ap (λ cs. is_open cs (suc o)) e ∙ later_off xs o) ∙ h (suc o) (omega (arith, lt))) in
        omega (arith, few, ap length e, length-append (off_then xs) (on_then []), length-map xs (λ (c : List Bool). false ∷ c))
    by [] (y ∷ ys) e left right =
        let few : length (y ∷ ys) ≤ 1 = right (λ o lt. sym (ap (λ cs. is_open cs (suc o)) e ∙ later_on (y ∷ ys) o) ∙ h (suc o) (omega (arith, lt))) in
        omega (arith, few, ap length e, length-map (y ∷ ys) (λ (c : List Bool). true ∷ c))
    by (x ∷ xs) (y ∷ ys) e left right = absurd (true≢false (sym (ap (λ cs. is_open cs 0) e ∙ first_open_where (x ∷ xs) (y ∷ ys)) ∙ h 0 (omega arith)))
