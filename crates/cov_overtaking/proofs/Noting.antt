-- What is noted at nodes, and how it grows.
use Rattle.std.proofs.Common.{◌≡◌, ℕ, zero, suc, ◌<◌, ◌≤◌, Bool, true, false, ◌||◌, nat_eq, List, [], ◌∷◌, ◌++◌, length, drop, set, get_or, refl, sym, subst, arith}
use Rattle.std.specs.List.{AllByRecursion}
use Rattle.std.proofs.lemmas.Bool.Decides.{nat_tests}
use Rattle.cov_base.proofs.CallerLemmas.{all-map, all-append, opened, rest_of}
use Rattle.cov_edit.specs.Touched.{has_number, have_common}
use Rattle.cov_overtaking.specs.Marks.{mark_nodes, marks_having}
use Rattle.cov_overtaking.specs.Overtakers.{AreNoted, NoneTouches}
use Rattle.cov_overtaking.specs.declared.mark.CommitMark.{CommitMark}

-- one more that is listed with what is noted at those that aren't changes nothing
pub one-listed : (xs : List ℕ) (d x : ℕ) → get_or (xs ++ d ∷ []) x d ≡ get_or xs x d
one-listed [] d zero = refl
one-listed [] d (suc x) = refl
one-listed (y ∷ xs) d zero = refl
one-listed (y ∷ xs) d (suc x) = one-listed xs d x

-- nothing falls where one listed rises
pub listed-risen : (xs : List ℕ) (d i p x : ℕ) → i < length xs → get_or xs i d < p → get_or xs x d ≤ get_or (set xs i p) x d
listed-risen [] d i p x few low = absurd (omega (arith, few))
listed-risen (y ∷ xs) d zero p zero few low = omega (arith, low)
listed-risen (y ∷ xs) d zero p (suc x) few low = omega arith
listed-risen (y ∷ xs) d (suc i) p zero few low = omega arith
listed-risen (y ∷ xs) d (suc i) p (suc x) few low = listed-risen xs d i p x (omega (arith, few)) low

-- nor where those rise that aren't
pub others-risen : (xs : List ℕ) (d p x : ℕ) → d < p → get_or xs x d ≤ get_or xs x p
others-risen [] d p x low = omega (arith, low)
others-risen (y ∷ xs) d p zero low = omega arith
others-risen (y ∷ xs) d p (suc x) low = others-risen xs d p x low

-- commits stay noted where nothing falls
later-noted : (old new : ℕ → ℕ) → ((x : ℕ) → old x ≤ new x) → (commits : List CommitMark) → AreNoted old commits → AreNoted new commits
later-noted old new later commits h =
    all-map (λ m. AllByRecursion (λ x. m.position ≤ old x) m.touched) (λ m. AllByRecursion (λ x. m.position ≤ new x) m.touched)
    (λ m low. all-map (λ x. m.position ≤ old x) (λ x. m.position ≤ new x) (λ x under. let up = later x in omega (arith, under, up)) m.touched low) commits h

-- so with one commit more, at whose nodes its position is noted
pub one-noted : (old new : ℕ → ℕ) → ((x : ℕ) → old x ≤ new x) → (commits : List CommitMark) (m : CommitMark) → AreNoted old commits → AllByRecursion (λ x. m.position ≤ new x) m.touched
    → AreNoted new (commits ++ m ∷ [])
one-noted old new later commits m h own = all-append (λ k. AllByRecursion (λ x. k.position ≤ new x) k.touched) commits (m ∷ []) (later-noted old new later commits h) (own, tt)

-- all are so where the first is and the rest are
pub first-and_rest : (P : ℕ → Type 0) (x d : ℕ) (xs : List ℕ) → x ≡ get_or xs 0 d → 1 ≤ length xs → P x → AllByRecursion P (rest_of xs) → AllByRecursion P xs
first-and_rest P x d xs is some first rest = subst (AllByRecursion P) (sym (opened x d xs is some)) (first, rest)

-- of none all are so
pub all-of_none : (P : ℕ → Type 0) (xs : List ℕ) → length xs < 1 → AllByRecursion P xs
all-of_none P [] none = tt
all-of_none P (x ∷ xs) none = absurd (omega (arith, none))

-- where nothing newer than a base is noted at the nodes, no commit after it touches one of them
module _ (newest : ℕ → ℕ) (base : ℕ) (touched : List ℕ) (old : AllByRecursion (λ x. newest x ≤ base) touched) where
  old-one : (x : ℕ) (xs : List ℕ) → AllByRecursion (λ y. newest y ≤ base) xs → has_number x xs ≡ true → newest x ≤ base
  old-one x [] h k = absurd (cc)
  old-one x (y ∷ ys) h k = at (nat_eq y x) refl k (old-one x ys h.1)
    where
      at : (b : Bool) → nat_eq y x ≡ b → (b || has_number x ys) ≡ true → (has_number x ys ≡ true → newest x ≤ base) → newest x ≤ base
      at true e j rest = let same : y ≡ x = grind (arith, nat_tests, e) in subst (λ z. newest z ≤ base) same h.0
      at false e j rest = rest j

  none-common : (position : ℕ) (xs : List ℕ) → AllByRecursion (λ x. position ≤ newest x) xs → base < position → have_common xs touched ≡ false
  none-common position [] h after = refl
  none-common position (x ∷ xs) h after = at (has_number x touched) refl (none-common position xs h.1 after)
    where
      at : (b : Bool) → has_number x touched ≡ b → have_common xs touched ≡ false → (b || have_common xs touched) ≡ false
      at true e rest = let noted = h.0 in let low = old-one x touched old e in absurd (omega (arith, noted, low, after))
      at false e rest = rest

  pub none-newer : (commits : List CommitMark) → AreNoted newest commits → NoneTouches base touched commits
  none-newer [] h = tt
  none-newer (m ∷ commits) h = (none-common m.position m.touched h.0, none-newer commits h.1)

-- what is noted of commits stays where they get other nodes
pub noted-having : (newest : ℕ → ℕ) (ms : List CommitMark) (ns : List ℕ) → AreNoted newest ms → AreNoted newest (marks_having ms ns)
noted-having newest [] ns h = tt
noted-having newest (m ∷ ms) ns h = (h.0, noted-having newest ms (drop (length (mark_nodes m)) ns) h.1)
