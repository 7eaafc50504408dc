-- Distinct pairs of numbers are at most as many as the places of a grid.
use Rattle.std.proofs.Common.{◌≡◌, ◌≢◌, ℕ, zero, suc, ◌+◌, ◌*◌, ◌<◌, ◌≤◌, ◌==◌, ◌&&◌, not, Bool, true, false, cond, List, [], ◌∷◌, length, refl, sym, ap, ◌∙◌, inl, inr, ◌⊎◌, subst, arith}
use mathlib.Core.Bool.{and-true, and-false}
use Rattle.std.proofs.Math.Nat.{zero-mul, suc-mul}
use Rattle.std.proofs.lemmas.Bool.{eq-eqb, ne_eqb, eqb-true}
use Rattle.cov_dd.specs.declared.memo.Pair.{Pair}
use Rattle.cov_dd.specs.Memos.{IsKey, IsDistinct}
use Rattle.cov_dd.specs.Reached.{count_below}
use Rattle.cov_dd.proofs.Nodes.{compared}

-- how many places of n rows and m columns pass a test
grid : (ℕ → ℕ → Bool) → ℕ → ℕ → ℕ
grid p zero m = 0
grid p (suc n) m = count_below (p n) m + grid p n m

-- the test without one place
less : (ℕ → ℕ → Bool) → ℕ → ℕ → ℕ → ℕ → Bool
less p x y i j = p i j && not (i == x && j == y)

count_below-same : (q r : ℕ → Bool) (m : ℕ) → ((j : ℕ) → j < m → q j ≡ r j) → count_below q m ≡ count_below r m
count_below-same q r zero h = refl
count_below-same q r (suc m) h =
    let rest = count_below-same q r m (λ j lt. h j (omega (arith, lt))) in
    λ k. cond (h m (omega arith) k) (suc (rest k)) (rest k)

-- a test of one column less counts one less
count_below-less : (q r : ℕ → Bool) (y m : ℕ) → y < m → q y ≡ true → r y ≡ false → ((j : ℕ) → j ≢ y → r j ≡ q j) → count_below q m ≡ suc (count_below r m)
count_below-less q r y zero lt here gone others = absurd (omega (arith, lt))
count_below-less q r y (suc m) lt here gone others = by (compared y m lt) (λ lt. count_below-less q r y m lt here gone others)
  where
    by : (y ≡ m) ⊎ (y < m) → (y < m → count_below q m ≡ suc (count_below r m)) → count_below q (suc m) ≡ suc (count_below r (suc m))
    by (inl at) rest =
        let same : count_below r m ≡ count_below q m = count_below-same r q m (λ j lt. others j (omega (arith, at, lt))) in
        ap (λ b. cond b (suc (count_below q m)) (count_below q m)) (ap q (sym at) ∙ here)
        ∙ ap suc (sym same)
        ∙ sym (ap (λ b. suc (cond b (suc (count_below r m)) (count_below r m))) (ap r (sym at) ∙ gone))
    by (inr lt) rest =
        let same : r m ≡ q m = others m (omega (arith, lt)) in
        each (q m) (rest lt) ∙ ap (λ b. suc (cond b (suc (count_below r m)) (count_below r m))) (sym same)
      where
        each : (b : Bool) → count_below q m ≡ suc (count_below r m) → cond b (suc (count_below q m)) (count_below q m) ≡ suc (cond b (suc (count_below r m)) (count_below r m))
        each true e = ap suc e
        each false e = e

grid-same : (p q : ℕ → ℕ → Bool) (n m : ℕ) → ((i j : ℕ) → i < n → p i j ≡ q i j) → grid p n m ≡ grid q n m
unfolding grid
grid-same p q zero m h = refl
grid-same p q (suc n) m h = λ k. count_below-same (p n) (q n) m (λ j lt. h n j (omega arith)) k + grid-same p q n m (λ i j lt. h i j (omega (arith, lt))) k

less-other : (p : ℕ → ℕ → Bool) (x y i j : ℕ) → i ≢ x → less p x y i j ≡ p i j
unfolding less
less-other p x y i j ne = ap (λ b. p i j && not (b && j == y)) (ne_eqb i x ne) ∙ and-true (p i j)

grid-less : (p : ℕ → ℕ → Bool) (x y n m : ℕ) → x < n → y < m → p x y ≡ true → grid p n m ≡ suc (grid (less p x y) n m)
unfolding grid less
grid-less p x y zero m within below here = absurd (omega (arith, within))
grid-less p x y (suc n) m within below here = by (compared x n within) (λ lt. grid-less p x y n m lt below here)
  where
    by : (x ≡ n) ⊎ (x < n) → (x < n → grid p n m ≡ suc (grid (less p x y) n m)) → count_below (p n) m + grid p n m ≡ suc (count_below (less p x y n) m + grid (less p x y) n m)
    by (inl at) rest =
        let row : count_below (p n) m ≡ suc (count_below (less p x y n) m) =
        count_below-less (p n) (less p x y n) y m below (ap (λ i. p i y) (sym at) ∙ here)
        ((λ k. p n y && not (eq-eqb n x (sym at) k && eq-eqb y y refl k)) ∙ and-false (p n y))
        (λ j ne. ap (λ b. p n j && not (n == x && b)) (ne_eqb j y ne) ∙ ap (λ b. p n j && not b) (and-false (n == x)) ∙ and-true (p n j)) in
        let others : grid (less p x y) n m ≡ grid p n m = grid-same (less p x y) p n m (λ i j lt. less-other p x y i j (omega (arith, at, lt))) in
        omega (arith, row, others)
    by (inr lt) rest =
        let row : count_below (less p x y n) m ≡ count_below (p n) m = count_below-same (less p x y n) (p n) m (λ j _. less-other p x y n j (omega (arith, lt))) in
        omega (arith, row, rest lt)

less-true : (p : ℕ → ℕ → Bool) (x y i j : ℕ) → p i j ≡ true → ((i ≡ x) × (j ≡ y) → ⊥) → less p x y i j ≡ true
unfolding less
less-true p x y i j here apart = by (i == x) (j == y) refl refl
  where
    by : (b c : Bool) → (i == x) ≡ b → (j == y) ≡ c → (p i j && not (b && c)) ≡ true
    by true true e f = absurd (apart (eqb-true i x e, eqb-true j y f))
    by true false e f = and-true (p i j) ∙ here
    by false c e f = and-true (p i j) ∙ here

fits-grid : (es : List (Pair × ℕ)) (p : ℕ → ℕ → Bool) (n m : ℕ) → IsDistinct es
    → ((q : Pair) → IsKey es q → (q.left < n) × (q.right < m) × (p q.left q.right ≡ true)) → length es ≤ grid p n m
fits-grid [] p n m distinct h = omega arith
fits-grid (e ∷ es) p n m distinct h =
    let here = h e.0 (inl refl) in
    let rest = fits-grid es (less p e.0.left e.0.right) n m distinct.0 (λ q key. (
      (h q (inr key)).0,
      (h q (inr key)).1,
      less-true p e.0.left e.0.right q.left q.right (h q (inr key)).2 (λ same. distinct.1 (subst (IsKey es) (λ k. record { left = same.0 k; right = same.1 k }) key)),
    )) in
    omega (arith, rest, grid-less p e.0.left e.0.right n m here.0 here.1 here.2)

none_below : (m : ℕ) → count_below (λ _. false) m ≡ 0
none_below zero = refl
none_below (suc m) = none_below m

grid-product : (q r : ℕ → Bool) (n m : ℕ) → grid (λ i j. q i && r j) n m ≡ count_below q n * count_below r m
unfolding grid
grid-product q r zero m = sym (zero-mul (count_below r m))
grid-product q r (suc n) m = by (q n) (grid-product q r n m)
  where
    by : (b : Bool) → grid (λ i j. q i && r j) n m ≡ count_below q n * count_below r m
        → count_below (λ j. b && r j) m + grid (λ i j. q i && r j) n m ≡ cond b (suc (count_below q n)) (count_below q n) * count_below r m
    by true e = omega (arith, e, suc-mul (count_below q n) (count_below r m))
    by false e = omega (arith, e, none_below m)

-- distinct pairs of a number that passes the one test and a number that passes the other
pub fits_product : (es : List (Pair × ℕ)) (q r : ℕ → Bool) (n m : ℕ) → IsDistinct es
    → ((p : Pair) → IsKey es p → (p.left < n) × (p.right < m) × (q p.left ≡ true) × (r p.right ≡ true)) → length es ≤ count_below q n * count_below r m
fits_product es q r n m distinct h =
    subst (λ k. length es ≤ k) (grid-product q r n m)
    (fits-grid es (λ i j. q i && r j) n m distinct (λ p key. ((h p key).0, (h p key).1, λ k. (h p key).2 k && (h p key).3 k)))
