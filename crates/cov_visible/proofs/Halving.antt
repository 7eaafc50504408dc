-- What a partition point of rising numbers counts.
use Rattle.std.proofs.Common.{◌≡◌, ℕ, suc, zero, ◌<◌, ◌≤◌, true, false, nat_lt, cond, List, [], ◌∷◌, length, map, get_or, refl, sym, ap, subst, ◌∙◌, arith}
use Rattle.std.specs.List.{AllByRecursion}
use Rattle.std.specs.List.Sorted.{IsPartitionPoint, IsPartitionedBy}
use Rattle.std.proofs.lemmas.Bool.Decides.{nat_tests}
use Rattle.cov_edit.specs.Touched.{AreRising}
use Rattle.cov_visible.specs.Parts.{count_below}

-- where the first numbers are below one and the others aren't, so many are below it
pub count-point : {X : Type 0} (n : X → ℕ) (x : ℕ) (es : List X) (i : ℕ) → i ≤ length es
    → IsPartitionPoint (λ e. nat_lt (n e) x ≡ true) (λ e. nat_lt (n e) x ≡ false) es i → i ≡ count_below x (map n es)
count-point n x [] i within point = omega (arith, within)
count-point n x (e ∷ es) zero within point =
    let high : nat_lt (n e) x ≡ false = point.1 zero e (omega arith) (omega arith) in
    ap (λ b. cond b (suc (count_below x (map n es))) 0) (sym high)
count-point n x (e ∷ es) (suc i) within point =
    let low : nat_lt (n e) x ≡ true = point.0 zero e (omega arith) (omega arith) in
    let rest : i ≡ count_below x (map n es) = count-point n x es i (omega (arith, within)) (
      λ k d from to. point.0 (suc k) d (omega arith) (omega (arith, to)),
      λ k d from to. point.1 (suc k) d (omega (arith, from)) (omega (arith, to)),
    ) in
    ap suc rest ∙ ap (λ b. cond b (suc (count_below x (map n es))) 0) (sym low)

all-later : {X : Type 0} (n : X → ℕ) (m : ℕ) (es : List X) (j : ℕ) (d : X) → AllByRecursion (λ y. m < y) (map n es) → j < length es → m < n (get_or es j d)
all-later n m [] j d above within = absurd (omega (arith, within))
all-later n m (e ∷ es) zero d above within = above.0
all-later n m (e ∷ es) (suc j) d above within = all-later n m es j d above.1 (omega (arith, within))

-- rising numbers are those below one, and then the others
pub parted-below : {X : Type 0} (n : X → ℕ) (x : ℕ) (es : List X) → AreRising (map n es) → IsPartitionedBy (λ e. nat_lt (n e) x) es
parted-below n x [] rising i j d le within low = absurd (omega (arith, within))
parted-below n x (e ∷ es) rising zero zero d le within low = low
parted-below n x (e ∷ es) rising zero (suc j) d le within low =
    let later = all-later n (n e) es j d rising.0 (omega (arith, within)) in
    grind (arith, nat_tests, low, later)
parted-below n x (e ∷ es) rising (suc i) zero d le within low = absurd (omega (arith, le))
parted-below n x (e ∷ es) rising (suc i) (suc j) d le within low = parted-below n x es rising.1 i j d (omega (arith, le)) (omega (arith, within)) low

alone : (xs : List ℕ) → map (λ y. y) xs ≡ xs
alone [] = refl
alone (y ∷ ys) = ap (λ zs. y ∷ zs) (alone ys)

-- the same of numbers by themselves
pub count-rising : (x : ℕ) (xs : List ℕ) (i : ℕ) → i ≤ length xs
    → IsPartitionPoint (λ y. nat_lt y x ≡ true) (λ y. nat_lt y x ≡ false) xs i → i ≡ count_below x xs
count-rising x xs i within point = count-point (λ y. y) x xs i within point ∙ ap (count_below x) (alone xs)

pub parted-rising : (x : ℕ) (xs : List ℕ) → AreRising xs → IsPartitionedBy (λ y. nat_lt y x) xs
parted-rising x xs rising = parted-below (λ y. y) x xs (subst AreRising (sym (alone xs)) rising)
