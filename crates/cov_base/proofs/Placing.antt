-- Items directly after their anchors.
use Rattle.std.proofs.Common.{◌≡◌, ℕ, zero, suc, ◌<◌, Bool, true, false, cond, ◌||◌, ◌&&◌, nat_eq, List, [], ◌∷◌, ◌++◌, length, map, ◌⊎◌, refl, sym, ap, subst, inl, inr, ◌∙◌, arith}
use Rattle.std.specs.List.{filter, list_any, AllByRecursion}
use Rattle.std.proofs.lemmas.Bool.Decides.{nat_tests}
use Rattle.cov_base.specs.Addresses.{stands_before, address_in, line_of, IsTable, IsLineOf, placed, number_by, AreInOrder, after_first, after_item, after_anchor_by}
use Rattle.cov_base.proofs.Tables.{line_of-in, inside, one_address, line_isn't_head}
use Rattle.cov_base.proofs.Ordered.{all-map, all-both, placed-first, before-not, below-first, before-below, anchor-first, greater_head}

-- where one item passes a test, what each item that passes it proves
pub at_one : {X : Type 0} (test : X → Bool) (Q : Type 0) (xs : List X) → list_any test xs ≡ true → AllByRecursion (λ x. test x ≡ true → Q) xs → Q
at_one test Q [] h k = absurd (cc)
at_one test Q (x ∷ xs) h k = at (test x) refl h (λ rest. at_one test Q xs rest k.1)
  where
    at : (b : Bool) → test x ≡ b → (b || list_any test xs) ≡ true → (list_any test xs ≡ true → Q) → Q
    at true e j rest = k.0 e
    at false e j rest = rest j

module _ {X : Type 0} (address : X → List ℕ) (number : X → ℕ) where
  pub placed-after_line : (x : X) (anchor : ℕ) (a : List ℕ) (xs : List X)
      → address x ≡ a ++ number x ∷ []
      → AreInOrder address xs
      → AllByRecursion (λ y. AllByRecursion (λ n. n < number x) (address y)) xs
      → AllByRecursion (λ y. number y ≡ anchor → address y ≡ a) xs
      → list_any (λ y. nat_eq (number y) anchor) xs ≡ true
      → placed address x xs ≡ after_item number anchor x xs
  placed-after_line x anchor a [] own o small known h = absurd (cc)
  placed-after_line x anchor a (y ∷ ys) own o small known h =
      at (nat_eq (number y) anchor) refl h (λ k. placed-after_line x anchor a ys own o.1 small.1 known.1 k)
    where
      passed : stands_before (address x) (address y) ≡ false → placed address x (y ∷ ys) ≡ y ∷ placed address x ys
      passed e = ap (λ b. cond b (x ∷ y ∷ ys) (y ∷ placed address x ys)) e

      at : (b : Bool) → nat_eq (number y) anchor ≡ b → (b || list_any (λ z. nat_eq (number z) anchor) ys) ≡ true
          → (list_any (λ z. nat_eq (number z) anchor) ys ≡ true → placed address x ys ≡ after_item number anchor x ys)
          → placed address x (y ∷ ys) ≡ cond b (y ∷ x ∷ ys) (y ∷ after_item number anchor x ys)
      at true e k rest =
          let same : number y ≡ anchor = grind (arith, nat_tests, e) in
          let there : address y ≡ a = known.0 same in
          let behind : stands_before (address x) (address y) ≡ false =
          subst (λ l. stands_before l (address y) ≡ false) (sym own)
          (subst (λ l. stands_before (a ++ number x ∷ []) l ≡ false) (sym there) (before-not (a ++ number x ∷ []) a (anchor-first (number x) a))) in
          let first : AllByRecursion (λ z. stands_before (address x) (address z) ≡ true) ys =
          all-both (λ z. AllByRecursion (λ n. n < number x) (address z)) (λ z. stands_before (address y) (address z) ≡ true) (λ z. stands_before (address x) (address z) ≡ true)
          (λ z j l. subst (λ m. stands_before m (address z) ≡ true) (sym own) (below-first (number x) a (address z) j (subst (λ m. stands_before m (address z) ≡ true) there l)))
          ys small.1 o.0 in
          passed behind ∙ ap (λ l. y ∷ l) (placed-first address x ys first)
      at false e k rest =
          let found : stands_before (address y) a ≡ true =
          at_one (λ z. nat_eq (number z) anchor) (stands_before (address y) a ≡ true) ys k
          (all-both (λ z. number z ≡ anchor → address z ≡ a) (λ z. stands_before (address y) (address z) ≡ true) (λ z. nat_eq (number z) anchor ≡ true → stands_before (address y) a ≡ true)
          (λ z j l t. let same : number z ≡ anchor = grind (arith, nat_tests, t) in subst (λ m. stands_before (address y) m ≡ true) (j same) l)
          ys known.1 o.0) in
          let behind : stands_before (address x) (address y) ≡ false =
          subst (λ l. stands_before l (address y) ≡ false) (sym own) (before-not (a ++ number x ∷ []) (address y) (before-below (number x) a (address y) found)) in
          passed behind ∙ ap (λ l. y ∷ l) (rest k)

  pub placed-at_head : (x : X) (n : ℕ) (xs : List X) → address x ≡ n ∷ []
      → AllByRecursion (λ y. (0 < length (address y)) × AllByRecursion (λ k. k < n) (address y)) xs
      → placed address x xs ≡ x ∷ xs
  placed-at_head x n xs own h =
      placed-first address x xs
      (all-map (λ y. (0 < length (address y)) × AllByRecursion (λ k. k < n) (address y)) (λ y. stands_before (address x) (address y) ≡ true)
      (λ y k. subst (λ l. stands_before l (address y) ≡ true) (sym own) (head (address y) k.0 k.1)) xs h)
    where
      head : (a : List ℕ) → 0 < length a → AllByRecursion (λ k. k < n) a → stands_before (n ∷ []) a ≡ true
      head [] some small = absurd (omega (arith, some))
      head (k ∷ ks) some small = greater_head n k [] ks small.0

pub map-after_first : {X Y : Type 0} (g : X → Y) (test : Y → Bool) (x : X) (xs : List X)
    → map g (after_first (λ y. test (g y)) x xs) ≡ after_first test (g x) (map g xs)
map-after_first g test x [] = refl
map-after_first g test x (y ∷ ys) = at (test (g y)) (map-after_first g test x ys)
  where
    at : (b : Bool) → map g (after_first (λ y. test (g y)) x ys) ≡ after_first test (g x) (map g ys)
        → map g (cond b (y ∷ x ∷ ys) (y ∷ after_first (λ y. test (g y)) x ys)) ≡ cond b (g y ∷ g x ∷ map g ys) (g y ∷ after_first test (g x) (map g ys))
    at true rest = refl
    at false rest = ap (λ l. g y ∷ l) rest

pub map-after_anchor : {X Y : Type 0} (g : X → Y) (number : Y → ℕ) (anchor : ℕ) (x : X) (xs : List X)
    → map g (after_anchor_by (λ y. number (g y)) anchor x xs) ≡ after_anchor_by number anchor (g x) (map g xs)
map-after_anchor g number zero x xs = refl
map-after_anchor g number (suc anchor) x xs = map-after_first g (λ y. nat_eq (number y) (suc anchor)) x xs

pub filter-after_first : {X : Type 0} (p t : X → Bool) (x : X) (xs : List X) → p x ≡ true → filter p (after_first (λ y. p y && t y) x xs) ≡ after_first t x (filter p xs)
filter-after_first p t x [] h = ap (λ b. cond b (x ∷ []) []) h
filter-after_first p t x (y ∷ ys) h = at (p y) (t y) refl refl (filter-after_first p t x ys h)
  where
    here : filter p (x ∷ ys) ≡ x ∷ filter p ys
    here = ap (λ b. cond b (x ∷ filter p ys) (filter p ys)) h

    at : (py ty : Bool) → p y ≡ py → t y ≡ ty → filter p (after_first (λ y. p y && t y) x ys) ≡ after_first t x (filter p ys)
        → filter p (cond (py && ty) (y ∷ x ∷ ys) (y ∷ after_first (λ y. p y && t y) x ys)) ≡ after_first t x (cond py (y ∷ filter p ys) (filter p ys))
    at true true e f rest =
        ap (λ b. cond b (y ∷ filter p (x ∷ ys)) (filter p (x ∷ ys))) e ∙ ap (λ l. y ∷ l) here
        ∙ sym (ap (λ b. cond b (y ∷ x ∷ filter p ys) (y ∷ after_first t x (filter p ys))) f)
    at true false e f rest =
        ap (λ b. cond b (y ∷ filter p (after_first (λ y. p y && t y) x ys)) (filter p (after_first (λ y. p y && t y) x ys))) e ∙ ap (λ l. y ∷ l) rest
        ∙ sym (ap (λ b. cond b (y ∷ x ∷ filter p ys) (y ∷ after_first t x (filter p ys))) f)
    at false ty e f rest =
        ap (λ b. cond b (y ∷ filter p (after_first (λ y. p y && t y) x ys)) (filter p (after_first (λ y. p y && t y) x ys))) e ∙ rest

pub filter-after_out : {X : Type 0} (p t : X → Bool) (x : X) (xs : List X) → p x ≡ false → filter p (after_first t x xs) ≡ filter p xs
filter-after_out p t x [] h = ap (λ b. cond b (x ∷ []) []) h
filter-after_out p t x (y ∷ ys) h = at (t y) (filter-after_out p t x ys h)
  where
    at : (b : Bool) → filter p (after_first t x ys) ≡ filter p ys → filter p (cond b (y ∷ x ∷ ys) (y ∷ after_first t x ys)) ≡ filter p (y ∷ ys)
    at true rest = ap (λ l. cond (p y) (y ∷ l) l) (ap (λ b. cond b (x ∷ filter p ys) (filter p ys)) h)
    at false rest = ap (λ l. cond (p y) (y ∷ l) l) rest

module _ {X : Type 0} (address : X → List ℕ) where
  -- placed by address is placed after the anchor, for the newest line of a table
  pub order-insert : (t : List (List ℕ)) (n anchor : ℕ) (new : X) (ks : List X)
      → IsTable t → n < length t → address new ≡ address_in t (suc n) → address_in t (suc n) ≡ address_in t anchor ++ suc n ∷ []
      → AreInOrder address ks → AllByRecursion (λ k. IsLineOf t n (address k)) ks
      → (anchor ≡ 0) ⊎ (list_any (λ k. nat_eq (number_by address k) anchor) ks ≡ true)
      → placed address new ks ≡ after_anchor_by (number_by address) anchor new ks
  order-insert t n anchor new ks table below own link o lines (inl e) =
      let at_head : address new ≡ suc n ∷ [] = own ∙ link ∙ ap (λ a. address_in t a ++ suc n ∷ []) e in
      placed-at_head address (number_by address) new (suc n) ks at_head
      (all-map (λ k. IsLineOf t n (address k)) (λ k. (0 < length (address k)) × AllByRecursion (λ m. m < suc n) (address k)) (λ k h. inside t n (address k) table (omega (arith, below)) h) ks lines)
      ∙ ap (λ a. after_anchor_by (number_by address) a new ks) (sym e)
  order-insert t n zero new ks table below own link o lines (inr h) =
      absurd (at_one (λ k. nat_eq (number_by address k) 0) ⊥ ks h
      (all-map (λ k. IsLineOf t n (address k)) (λ k. nat_eq (number_by address k) 0 ≡ true → ⊥) (λ k l e. let r : number_by address k ≡ 0 = grind (arith, nat_tests, e) in line_isn't_head t n (address k) table (omega (arith, below)) l r) ks lines))
  order-insert t n (suc anchor) new ks table below own link o lines (inr h) =
      let number : number_by address new ≡ suc n = ap line_of own ∙ line_of-in t n table below in
      placed-after_line address (number_by address) new (suc anchor) (address_in t (suc anchor)) ks
      (own ∙ link ∙ ap (λ m. address_in t (suc anchor) ++ m ∷ []) (sym number))
      o
      (all-map (λ k. IsLineOf t n (address k)) (λ k. AllByRecursion (λ m. m < number_by address new) (address k))
      (λ k l. subst (λ m. AllByRecursion (λ i. i < m) (address k)) (sym number) (inside t n (address k) table (omega (arith, below)) l).1) ks lines)
      (all-map (λ k. IsLineOf t n (address k)) (λ k. number_by address k ≡ suc anchor → address k ≡ address_in t (suc anchor))
      (λ k l e. one_address t n (suc anchor) (address k) table (omega (arith, below)) l e) ks lines)
      h
