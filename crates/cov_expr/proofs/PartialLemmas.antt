-- Bindings in order of options, gathered from the first option on.
use Rattle.std.proofs.Common.{◌≡◌, ℕ, ◌+◌, ◌<◌, ◌≤◌, Bool, true, ◌&&◌, nat_lt, List, [], ◌∷◌, ◌++◌, length, drop, Option, Some, None, refl, sym, ap, ◌∙◌, arith, append_assoc, add-one}
use Rattle.std.specs.List.{list_all, enumerate_from}
use Rattle.std.proofs.lemmas.Bool.{lt-ltb}
use Rattle.std.proofs.lemmas.List.{drop_all, append-nil}
use Rattle.cov_base.specs.Choices.{is_on}
use Rattle.cov_base.proofs.CallerLemmas.{drop-is_on}
use Rattle.cov_expr.specs.Partials.{is_in_order, places_from}

places_later : (m n : ℕ) (vs : List (Option Bool)) → m < n → list_all (λ c. nat_lt m c.0) (places_from n vs) ≡ true
places_later m n [] h = refl
places_later m n (None ∷ vs) h = places_later m (n + 1) vs (omega arith)
places_later m n (Some v ∷ vs) h = λ i. lt-ltb m n h i && places_later m (n + 1) vs (omega arith) i

is_in_order-places_from : (n : ℕ) (vs : List (Option Bool)) → is_in_order (places_from n vs) ≡ true
is_in_order-places_from n [] = refl
is_in_order-places_from n (None ∷ vs) = is_in_order-places_from (n + 1) vs
is_in_order-places_from n (Some v ∷ vs) =
    λ i. places_later n (n + 1) vs (omega arith) i && is_in_order-places_from (n + 1) vs i

enumerated_later : (m n : ℕ) (c : List Bool) → m < n → list_all (λ b. nat_lt m b.0) (enumerate_from n c) ≡ true
enumerated_later m n [] h = refl
enumerated_later m n (v ∷ c) h = λ i. lt-ltb m n h i && enumerated_later m (n + 1) c (omega arith) i

is_in_order-enumerate_from : (n : ℕ) (c : List Bool) → is_in_order (enumerate_from n c) ≡ true
is_in_order-enumerate_from n [] = refl
is_in_order-enumerate_from n (v ∷ c) = λ i. enumerated_later n (n + 1) c (omega arith) i && is_in_order-enumerate_from (n + 1) c i

module _ (done whole : List (ℕ × Bool)) where
  joined : (b : ℕ × Bool) (rest before : List (ℕ × Bool)) → before ≡ b ∷ rest → done ++ before ≡ whole → (done ++ b ∷ []) ++ rest ≡ whole
  joined b rest before e h = append_assoc done (b ∷ []) rest ∙ ap (λ r. done ++ r) (sym e) ∙ h

  module _ (c : List Bool) (i : ℕ) where
    -- the next option's value is bound
    pub enumerate_more : i < length c → done ++ enumerate_from i (drop i c) ≡ whole → (done ++ (i, is_on c i) ∷ []) ++ enumerate_from (i + 1) (drop (i + 1) c) ≡ whole
    enumerate_more h =
        joined (i, is_on c i) (enumerate_from (i + 1) (drop (i + 1) c)) (enumerate_from i (drop i c))
        (ap (enumerate_from i) (drop-is_on c i h) ∙ ap (λ k. (i, is_on c i) ∷ enumerate_from (i + 1) (drop k c)) (sym (add-one i)))

    -- at the end all are bound
    pub enumerate_all : length c ≤ i → done ++ enumerate_from i (drop i c) ≡ whole → done ≡ whole
    enumerate_all h e = sym (append-nil done) ∙ ap (λ r. done ++ enumerate_from i r) (sym (drop_all i c h)) ∙ e

  -- at the end each value has its binding
  pub places_all : (vs : List (Option Bool)) (i : ℕ) → length vs ≤ i → done ++ places_from i (drop i vs) ≡ whole → done ≡ whole
  places_all vs i h e = sym (append-nil done) ∙ ap (λ r. done ++ places_from i r) (sym (drop_all i vs h)) ∙ e

-- what is gathered is in order
pub enumerated_in_order : (done : List (ℕ × Bool)) (c : List Bool) → done ≡ enumerate_from 0 c → is_in_order done ≡ true
enumerated_in_order done c e = ap is_in_order e ∙ is_in_order-enumerate_from 0 c

pub places_in_order : (done : List (ℕ × Bool)) (vs : List (Option Bool)) → done ≡ places_from 0 vs → is_in_order done ≡ true
places_in_order done vs e = ap is_in_order e ∙ is_in_order-places_from 0 vs

places_below : (k n : ℕ) (vs : List (Option Bool)) → k + length vs ≤ n → list_all (λ b. nat_lt b.0 n) (places_from k vs) ≡ true
places_below k n [] h = refl
places_below k n (None ∷ vs) h = places_below (k + 1) n vs (omega (arith, h))
places_below k n (Some v ∷ vs) h = λ i. lt-ltb k n (omega (arith, h)) i && places_below (k + 1) n vs (omega (arith, h)) i

enumerated_below : (k n : ℕ) (c : List Bool) → k + length c ≤ n → list_all (λ b. nat_lt b.0 n) (enumerate_from k c) ≡ true
enumerated_below k n [] h = refl
enumerated_below k n (v ∷ c) h = λ i. lt-ltb k n (omega (arith, h)) i && enumerated_below (k + 1) n c (omega (arith, h)) i

-- no option at or above the count is bound
pub places_within : (done : List (ℕ × Bool)) (vs : List (Option Bool)) → done ≡ places_from 0 vs → list_all (λ b. nat_lt b.0 (length vs)) done ≡ true
places_within done vs e = ap (list_all (λ b. nat_lt b.0 (length vs))) e ∙ places_below 0 (length vs) vs (omega arith)

pub enumerated_within : (done : List (ℕ × Bool)) (c : List Bool) → done ≡ enumerate_from 0 c → list_all (λ b. nat_lt b.0 (length c)) done ≡ true
enumerated_within done c e = ap (list_all (λ b. nat_lt b.0 (length c))) e ∙ enumerated_below 0 (length c) c (omega arith)
