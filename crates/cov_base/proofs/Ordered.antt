-- The order of addresses, and items placed in it.
use Rattle.std.proofs.Common.{◌≡◌, ℕ, ◌<◌, Bool, true, false, cond, nat_lt, nat_eq, List, [], ◌∷◌, ◌++◌, ◌⊎◌, refl, sym, ap, inl, inr, ◌∙◌, arith}
use Rattle.std.specs.List.{filter, AllByRecursion}
use Rattle.std.proofs.lemmas.Bool.Decides.{nat_tests}
use Rattle.cov_base.specs.Addresses.{stands_before, placed, AreInOrder}

by_head : (m n : ℕ) (ms ns : List ℕ) → stands_before (m ∷ ms) (n ∷ ns) ≡ true → ((m ≡ n) × (stands_before ms ns ≡ true)) ⊎ (n < m)
by_head m n ms ns h = at (nat_eq m n) refl h
  where
    at : (b : Bool) → nat_eq m n ≡ b → cond b (stands_before ms ns) (nat_lt n m) ≡ true → ((m ≡ n) × (stands_before ms ns ≡ true)) ⊎ (n < m)
    at true e k = inl (grind (arith, nat_tests, e), k)
    at false e k = inr (grind (arith, nat_tests, k))

pub same_head : (m n : ℕ) (ms ns : List ℕ) → m ≡ n → stands_before ms ns ≡ true → stands_before (m ∷ ms) (n ∷ ns) ≡ true
same_head m n ms ns e h =
    let t : nat_eq m n ≡ true = grind (arith, nat_tests, e) in
    ap (λ b. cond b (stands_before ms ns) (nat_lt n m)) t ∙ h

pub greater_head : (m n : ℕ) (ms ns : List ℕ) → n < m → stands_before (m ∷ ms) (n ∷ ns) ≡ true
greater_head m n ms ns h =
    let t : nat_eq m n ≡ false = grind (arith, nat_tests, h) in
    let u : nat_lt n m ≡ true = grind (arith, nat_tests, h) in
    ap (λ b. cond b (stands_before ms ns) (nat_lt n m)) t ∙ u

pub before-trans : (a b c : List ℕ) → stands_before a b ≡ true → stands_before b c ≡ true → stands_before a c ≡ true
before-trans [] [] c h k = absurd (cc)
before-trans [] (n ∷ ns) [] h k = absurd (cc)
before-trans [] (n ∷ ns) (p ∷ ps) h k = refl
before-trans (m ∷ ms) [] c h k = absurd (cc)
before-trans (m ∷ ms) (n ∷ ns) [] h k = absurd (cc)
before-trans (m ∷ ms) (n ∷ ns) (p ∷ ps) h k = joined (by_head m n ms ns h) (by_head n p ns ps k) (λ i j. before-trans ms ns ps i j)
  where
    joined : ((m ≡ n) × (stands_before ms ns ≡ true)) ⊎ (n < m) → ((n ≡ p) × (stands_before ns ps ≡ true)) ⊎ (p < n)
        → (stands_before ms ns ≡ true → stands_before ns ps ≡ true → stands_before ms ps ≡ true)
        → stands_before (m ∷ ms) (p ∷ ps) ≡ true
    joined (inl e) (inl f) rest = same_head m p ms ps (e.0 ∙ f.0) (rest e.1 f.1)
    joined (inl e) (inr f) rest = let d : m ≡ n = e.0 in greater_head m p ms ps (omega (arith, d, f))
    joined (inr e) (inl f) rest = let d : n ≡ p = f.0 in greater_head m p ms ps (omega (arith, d, e))
    joined (inr e) (inr f) rest = greater_head m p ms ps (omega (arith, e, f))

pub before-itself : (a : List ℕ) → stands_before a a ≡ false
before-itself [] = refl
before-itself (m ∷ ms) =
    let t : nat_eq m m ≡ true = grind (arith, nat_tests) in
    ap (λ b. cond b (stands_before ms ms) (nat_lt m m)) t ∙ before-itself ms

pub before-not : (a b : List ℕ) → stands_before b a ≡ true → stands_before a b ≡ false
before-not a b h = at (stands_before a b) refl
  where
    at : (t : Bool) → stands_before a b ≡ t → t ≡ false
    at true e = absurd (let l = before-trans a b a e h in let r = before-itself a in cc)
    at false e = refl

-- of two different addresses one stands before the other
pub before-total : (a b : List ℕ) → stands_before a b ≡ false → stands_before b a ≡ false → a ≡ b
before-total [] [] h k = refl
before-total [] (n ∷ ns) h k = absurd (cc)
before-total (m ∷ ms) [] h k = absurd (cc)
before-total (m ∷ ms) (n ∷ ns) h k = at (nat_eq m n) refl h (λ i j. before-total ms ns i j)
  where
    at : (b : Bool) → nat_eq m n ≡ b → cond b (stands_before ms ns) (nat_lt n m) ≡ false
        → (stands_before ms ns ≡ false → stands_before ns ms ≡ false → ms ≡ ns) → (m ∷ ms) ≡ (n ∷ ns)
    at true e i rest =
        let same : m ≡ n = grind (arith, nat_tests, e) in
        let t : nat_eq n m ≡ true = grind (arith, nat_tests, same) in
        let j : stands_before ns ms ≡ false = sym (ap (λ b. cond b (stands_before ns ms) (nat_lt m n)) t) ∙ k in
        λ p. same p ∷ rest i j p
    at false e i rest =
        let less : m < n = grind (arith, nat_tests, e, i) in
        absurd (let l = greater_head n m ns ms less in cc)

pub not_before-below : (x : ℕ) (a m : List ℕ) → stands_before a m ≡ false → stands_before (a ++ x ∷ []) m ≡ false
not_before-below x [] [] h = refl
not_before-below x [] (n ∷ ns) h = absurd (cc)
not_before-below x (b ∷ bs) [] h = refl
not_before-below x (b ∷ bs) (n ∷ ns) h = at (nat_eq b n) h (λ k. not_before-below x bs ns k)
  where
    at : (t : Bool) → cond t (stands_before bs ns) (nat_lt n b) ≡ false → (stands_before bs ns ≡ false → stands_before (bs ++ x ∷ []) ns ≡ false)
        → cond t (stands_before (bs ++ x ∷ []) ns) (nat_lt n b) ≡ false
    at true k rest = rest k
    at false k rest = k

-- a newest address stands behind what it doesn't stand before
pub new_after : (x : ℕ) (a m : List ℕ) → AllByRecursion (λ n. n < x) m → stands_before (a ++ x ∷ []) m ≡ false → stands_before m (a ++ x ∷ []) ≡ true
new_after x [] [] small h = refl
new_after x [] (n ∷ ns) small h = absurd (let l = greater_head x n [] ns small.0 in cc)
new_after x (b ∷ bs) [] small h = refl
new_after x (b ∷ bs) (n ∷ ns) small h = at (nat_eq b n) refl h (λ k. new_after x bs ns small.1 k)
  where
    at : (t : Bool) → nat_eq b n ≡ t → cond t (stands_before (bs ++ x ∷ []) ns) (nat_lt n b) ≡ false
        → (stands_before (bs ++ x ∷ []) ns ≡ false → stands_before ns (bs ++ x ∷ []) ≡ true)
        → stands_before (n ∷ ns) (b ∷ (bs ++ x ∷ [])) ≡ true
    at true e k rest =
        let same : n ≡ b = grind (arith, nat_tests, e) in
        same_head n b ns (bs ++ x ∷ []) same (rest k)
    at false e k rest = greater_head n b ns (bs ++ x ∷ []) (grind (arith, nat_tests, e, k))

-- below an address, a newest line stands before all that come after the address
pub below-first : (x : ℕ) (a b : List ℕ) → AllByRecursion (λ n. n < x) b → stands_before a b ≡ true → stands_before (a ++ x ∷ []) b ≡ true
below-first x [] [] small h = absurd (cc)
below-first x [] (n ∷ ns) small h = greater_head x n [] ns small.0
below-first x (m ∷ ms) [] small h = absurd (cc)
below-first x (m ∷ ms) (n ∷ ns) small h = at (nat_eq m n) h (λ k. below-first x ms ns small.1 k)
  where
    at : (t : Bool) → cond t (stands_before ms ns) (nat_lt n m) ≡ true → (stands_before ms ns ≡ true → stands_before (ms ++ x ∷ []) ns ≡ true)
        → cond t (stands_before (ms ++ x ∷ []) ns) (nat_lt n m) ≡ true
    at true k rest = rest k
    at false k rest = k

-- what stands before an address stands before all below it
pub before-below : (x : ℕ) (a b : List ℕ) → stands_before b a ≡ true → stands_before b (a ++ x ∷ []) ≡ true
before-below x [] [] h = absurd (cc)
before-below x (m ∷ ms) [] h = refl
before-below x [] (n ∷ ns) h = absurd (cc)
before-below x (m ∷ ms) (n ∷ ns) h = at (nat_eq n m) h (λ k. before-below x ms ns k)
  where
    at : (t : Bool) → cond t (stands_before ns ms) (nat_lt m n) ≡ true → (stands_before ns ms ≡ true → stands_before ns (ms ++ x ∷ []) ≡ true)
        → cond t (stands_before ns (ms ++ x ∷ [])) (nat_lt m n) ≡ true
    at true k rest = rest k
    at false k rest = k

-- an address stands before all below it
pub anchor-first : (x : ℕ) (a : List ℕ) → stands_before a (a ++ x ∷ []) ≡ true
anchor-first x [] = refl
anchor-first x (m ∷ ms) = same_head m m ms (ms ++ x ∷ []) refl (anchor-first x ms)

module _ {X : Type 0} where
  pub all-map : (P Q : X → Type 0) → ((x : X) → P x → Q x) → (xs : List X) → AllByRecursion P xs → AllByRecursion Q xs
  all-map P Q f [] h = tt
  all-map P Q f (x ∷ xs) h = (f x h.0, all-map P Q f xs h.1)

  pub all-both : (P Q R : X → Type 0) → ((x : X) → P x → Q x → R x) → (xs : List X) → AllByRecursion P xs → AllByRecursion Q xs → AllByRecursion R xs
  all-both P Q R f [] h k = tt
  all-both P Q R f (x ∷ xs) h k = (f x h.0 k.0, all-both P Q R f xs h.1 k.1)

  pub all-filter : (P : X → Type 0) (p : X → Bool) (xs : List X) → AllByRecursion P xs → AllByRecursion P (filter p xs)
  all-filter P p [] h = tt
  all-filter P p (x ∷ xs) h = at (p x) (all-filter P p xs h.1)
    where
      at : (b : Bool) → AllByRecursion P (filter p xs) → AllByRecursion P (cond b (x ∷ filter p xs) (filter p xs))
      at true rest = (h.0, rest)
      at false rest = rest

  pub all-append : (P : X → Type 0) (xs ys : List X) → AllByRecursion P xs → AllByRecursion P ys → AllByRecursion P (xs ++ ys)
  all-append P [] ys h k = k
  all-append P (x ∷ xs) ys h k = (h.0, all-append P xs ys h.1 k)

  pub all-left : (P : X → Type 0) (xs ys : List X) → AllByRecursion P (xs ++ ys) → AllByRecursion P xs
  all-left P [] ys h = tt
  all-left P (x ∷ xs) ys h = (h.0, all-left P xs ys h.1)

module _ {X : Type 0} (address : X → List ℕ) where
  pub all-placed : (P : X → Type 0) (x : X) (xs : List X) → P x → AllByRecursion P xs → AllByRecursion P (placed address x xs)
  all-placed P x [] p h = (p, tt)
  all-placed P x (y ∷ ys) p h = at (stands_before (address x) (address y)) (all-placed P x ys p h.1)
    where
      at : (b : Bool) → AllByRecursion P (placed address x ys) → AllByRecursion P (cond b (x ∷ y ∷ ys) (y ∷ placed address x ys))
      at true rest = (p, h)
      at false rest = (h.0, rest)

  pub placed-in_order : (x : X) (xs : List X) → AreInOrder address xs
      → AllByRecursion (λ y. stands_before (address x) (address y) ≡ false → stands_before (address y) (address x) ≡ true) xs
      → AreInOrder address (placed address x xs)
  placed-in_order x [] o h = (tt, tt)
  placed-in_order x (y ∷ ys) o h = at (stands_before (address x) (address y)) refl (placed-in_order x ys o.1 h.1)
    where
      at : (b : Bool) → stands_before (address x) (address y) ≡ b → AreInOrder address (placed address x ys) → AreInOrder address (cond b (x ∷ y ∷ ys) (y ∷ placed address x ys))
      at true e rest = (
        (
          e,
          all-map (λ z. stands_before (address y) (address z) ≡ true) (λ z. stands_before (address x) (address z) ≡ true)
              (λ z k. before-trans (address x) (address y) (address z) e k) ys o.0,
        ),
        o,
      )
      at false e rest = (all-placed (λ z. stands_before (address y) (address z) ≡ true) x ys (h.0 e) o.0, rest)

  pub placed-first : (x : X) (xs : List X) → AllByRecursion (λ y. stands_before (address x) (address y) ≡ true) xs → placed address x xs ≡ x ∷ xs
  placed-first x [] h = refl
  placed-first x (y ∷ ys) h = ap (λ b. cond b (x ∷ y ∷ ys) (y ∷ placed address x ys)) h.0

  -- to place an item and then filter is to filter and then place it
  pub filter-placed : (p : X → Bool) (x : X) (xs : List X) → AreInOrder address xs
      → filter p (placed address x xs) ≡ cond (p x) (placed address x (filter p xs)) (filter p xs)
  filter-placed p x [] o = refl
  filter-placed p x (y ∷ ys) o = at (stands_before (address x) (address y)) refl (filter-placed p x ys o.1)
    where
      later : (px py : Bool) → stands_before (address x) (address y) ≡ false → (placed_ys ys' : List X) → placed_ys ≡ cond px (placed address x ys') ys'
          → cond py (y ∷ placed_ys) placed_ys ≡ cond px (placed address x (cond py (y ∷ ys') ys')) (cond py (y ∷ ys') ys')
      later true true e ps zs h = ap (λ l. y ∷ l) h ∙ sym (ap (λ b. cond b (x ∷ y ∷ zs) (y ∷ placed address x zs)) e)
      later true false e ps zs h = h
      later false true e ps zs h = ap (λ l. y ∷ l) h
      later false false e ps zs h = h

      at : (b : Bool) → stands_before (address x) (address y) ≡ b → filter p (placed address x ys) ≡ cond (p x) (placed address x (filter p ys)) (filter p ys)
          → filter p (cond b (x ∷ y ∷ ys) (y ∷ placed address x ys)) ≡ cond (p x) (placed address x (filter p (y ∷ ys))) (filter p (y ∷ ys))
      at true e rest =
          let all : AllByRecursion (λ z. stands_before (address x) (address z) ≡ true) (y ∷ ys) = (
            e,
            all-map (λ z. stands_before (address y) (address z) ≡ true) (λ z. stands_before (address x) (address z) ≡ true)
                (λ z k. before-trans (address x) (address y) (address z) e k) ys o.0,
          ) in
          ap (λ l. cond (p x) l (filter p (y ∷ ys)))
          (sym (placed-first x (filter p (y ∷ ys)) (all-filter (λ z. stands_before (address x) (address z) ≡ true) p (y ∷ ys) all)))
      at false e rest = later (p x) (p y) e (filter p (placed address x ys)) (filter p ys) rest

  pub in_order-filter : (p : X → Bool) (xs : List X) → AreInOrder address xs → AreInOrder address (filter p xs)
  in_order-filter p [] o = tt
  in_order-filter p (x ∷ xs) o = at (p x) (in_order-filter p xs o.1)
    where
      at : (b : Bool) → AreInOrder address (filter p xs) → AreInOrder address (cond b (x ∷ filter p xs) (filter p xs))
      at true rest = (all-filter (λ y. stands_before (address x) (address y) ≡ true) p xs o.0, rest)
      at false rest = rest
