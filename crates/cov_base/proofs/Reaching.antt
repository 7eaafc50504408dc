-- From a node the root is reached in as many steps as there are rows, or not at all.
use Rattle.std.proofs.Common.{◌≡◌, ◌⊎◌, inl, inr, ℕ, zero, suc, ◌<◌, ◌≤◌, Bool, true, false, cond, not, nat_eq, List, [], ◌∷◌, length, Option, Some, None, refl, sym, ap, ◌∙◌, arith}
use Rattle.std.specs.List.{filter}
use Rattle.std.proofs.lemmas.Bool.Decides.{nat_tests}
use Rattle.cov_base.specs.Rows.{Row, row_of}
use Rattle.cov_base.specs.Faults.{from_parent, is_reached}
use Rattle.cov_base.specs.Reaching.{Reaches, root, below, WaysAreShort}

equal : (m n : ℕ) → nat_eq m n ≡ true → m ≡ n
equal m n e = grind (arith, nat_tests, e)

never : {A : Type 0} → false ≡ true → A
never e = absurd (cc)

-- a step to the parent, for a node that isn't the root
pub up : (rows : List Row) (k m : ℕ) → is_reached rows (suc k) (suc m) ≡ true → (r : Row) × (row_of rows (suc m) ≡ Some r) × (is_reached rows k r.parent ≡ true)
up rows k m h = at (row_of rows (suc m)) refl h
  where
    at : (o : Option Row) → row_of rows (suc m) ≡ o → from_parent o (is_reached rows k) ≡ true → (r : Row) × (row_of rows (suc m) ≡ Some r) × (is_reached rows k r.parent ≡ true)
    at None e g = never g
    at (Some r) e g = (r, e, g)

-- and back down
pub down : (rows : List Row) (k x : ℕ) (r : Row) → row_of rows x ≡ Some r → is_reached rows k r.parent ≡ true → is_reached rows (suc k) x ≡ true
down rows k zero r e h = refl
down rows k (suc m) r e h = ap (λ o. from_parent o (is_reached rows k)) e ∙ h

-- what is reached is so by the relation
pub reaches : (rows : List Row) (k x : ℕ) → is_reached rows k x ≡ true → Reaches rows x
reaches rows k zero h = root
reaches rows zero (suc m) h = never h
reaches rows (suc k) (suc m) h = let u = up rows k m h in below (suc m) u.0 u.1 (reaches rows k u.0.parent u.2)

-- and the other way in some number of steps
in_some : (rows : List Row) (x : ℕ) → Reaches rows x → (k : ℕ) × (is_reached rows k x ≡ true)
in_some rows x root = (0, refl)
in_some rows x (below node r e h) = let rest = in_some rows r.parent h in (suc rest.0, down rows rest.0 node r e rest.1)

-- the rows of the other nodes
abbrev without : ℕ → List Row → List Row
without x rows = filter (λ r. not (nat_eq r.node x)) rows

row_without : (x y : ℕ) (rows : List Row) → nat_eq x y ≡ false → row_of (without x rows) y ≡ row_of rows y
row_without x y [] d = refl
row_without x y (r ∷ rows) d = at (nat_eq r.node x) refl (row_without x y rows d)
  where
    at : (b : Bool) → nat_eq r.node x ≡ b → row_of (without x rows) y ≡ row_of rows y
        → row_of (cond (not b) (r ∷ without x rows) (without x rows)) y ≡ cond (nat_eq r.node y) (Some r) (row_of rows y)
    at true e rest =
        let same : r.node ≡ x = equal r.node x e in
        rest ∙ ap (λ b. cond b (Some r) (row_of rows y)) (sym (ap (λ n. nat_eq n y) same ∙ d))
    at false e rest = ap (λ o. cond (nat_eq r.node y) (Some r) o) rest

fewer : (x : ℕ) (rows : List Row) → length (without x rows) ≤ length rows
fewer x [] = omega arith
fewer x (r ∷ rows) = at (nat_eq r.node x) (fewer x rows)
  where
    at : (b : Bool) → length (without x rows) ≤ length rows → length (cond (not b) (r ∷ without x rows) (without x rows)) ≤ suc (length rows)
    at true h = omega (arith, h)
    at false h = omega (arith, h)

fewer_than : (x : ℕ) (rows : List Row) (r : Row) → row_of rows x ≡ Some r → length (without x rows) < length rows
fewer_than x [] r h = absurd (cc)
fewer_than x (s ∷ rows) r h = at (nat_eq s.node x) h (fewer_than x rows r)
  where
    at : (b : Bool) → cond b (Some s) (row_of rows x) ≡ Some r → (row_of rows x ≡ Some r → length (without x rows) < length rows)
        → length (cond (not b) (s ∷ without x rows) (without x rows)) < suc (length rows)
    at true h rest = let less : length (without x rows) ≤ length rows = fewer x rows in omega (arith, less)
    at false h rest = let less : length (without x rows) < length rows = rest h in omega (arith, less)

-- a way to the root passes by a node, or the node reaches the root in no more steps
avoids : (rows : List Row) (x k y : ℕ) → is_reached rows k y ≡ true → (is_reached (without x rows) k y ≡ true) ⊎ ((j : ℕ) × (j ≤ k) × (is_reached rows j x ≡ true))
avoids rows x k zero h = inl refl
avoids rows x zero (suc m) h = never h
avoids rows x (suc k) (suc m) h = at (nat_eq x (suc m)) refl (λ y. avoids rows x k y)
  where
    at : (b : Bool) → nat_eq x (suc m) ≡ b
        → ((y : ℕ) → is_reached rows k y ≡ true → (is_reached (without x rows) k y ≡ true) ⊎ ((j : ℕ) × (j ≤ k) × (is_reached rows j x ≡ true)))
        → (is_reached (without x rows) (suc k) (suc m) ≡ true) ⊎ ((j : ℕ) × (j ≤ suc k) × (is_reached rows j x ≡ true))
    at true e rest = inr (suc k, omega arith, ap (is_reached rows (suc k)) (equal x (suc m) e) ∙ h)
    at false e rest = let u = up rows k m h in joined u.0 u.1 (rest u.0.parent u.2)
      where
        joined : (r : Row) → row_of rows (suc m) ≡ Some r → (is_reached (without x rows) k r.parent ≡ true) ⊎ ((j : ℕ) × (j ≤ k) × (is_reached rows j x ≡ true))
            → (is_reached (without x rows) (suc k) (suc m) ≡ true) ⊎ ((j : ℕ) × (j ≤ suc k) × (is_reached rows j x ≡ true))
        joined r is (inl g) = inl (down (without x rows) k (suc m) r (row_without x (suc m) rows e ∙ is) g)
        joined r is (inr j) = let less : j.0 ≤ k = j.1 in inr (j.0, omega (arith, less), j.2)

none_without : (x : ℕ) (rows : List Row) → row_of (without x rows) x ≡ None
none_without x [] = refl
none_without x (r ∷ rows) = at (nat_eq r.node x) refl (none_without x rows)
  where
    at : (b : Bool) → nat_eq r.node x ≡ b → row_of (without x rows) x ≡ None → row_of (cond (not b) (r ∷ without x rows) (without x rows)) x ≡ None
    at true e rest = rest
    at false e rest = ap (λ b. cond b (Some r) (row_of (without x rows) x)) e ∙ rest

row_back : (x y : ℕ) (rows : List Row) (r : Row) → row_of (without x rows) y ≡ Some r → row_of rows y ≡ Some r
row_back x y rows r h = at (nat_eq x y) refl
  where
    at : (b : Bool) → nat_eq x y ≡ b → row_of rows y ≡ Some r
    at true e = absurd (let none : row_of (without x rows) y ≡ None = ap (row_of (without x rows)) (sym (equal x y e)) ∙ none_without x rows in cc)
    at false e = sym (row_without x y rows e) ∙ h

-- a way among fewer rows is one
back : (rows : List Row) (x k y : ℕ) → is_reached (without x rows) k y ≡ true → is_reached rows k y ≡ true
back rows x k zero h = refl
back rows x zero (suc m) h = never h
back rows x (suc k) (suc m) h = let u = up (without x rows) k m h in down rows k (suc m) u.0 (row_back x (suc m) rows u.0 u.1) (back rows x k u.0.parent u.2)

-- with one row more, by the number of steps
in_time_by : (n : ℕ) → ((rows : List Row) → length rows ≤ n → (k x : ℕ) → is_reached rows k x ≡ true → is_reached rows n x ≡ true)
    → (rows : List Row) → length rows ≤ suc n → (b k x : ℕ) → k ≤ b → is_reached rows k x ≡ true → is_reached rows (suc n) x ≡ true
in_time_by n before rows len b k zero l h = refl
in_time_by n before rows len b zero (suc m) l h = never h
in_time_by n before rows len zero (suc k) (suc m) l h = absurd (omega (arith, l))
in_time_by n before rows len (suc b) (suc k) (suc m) l h =
    let u = up rows k m h in by u.0 u.1 (avoids rows (suc m) k u.0.parent u.2) (λ j. in_time_by n before rows len b j (suc m))
  where
    by : (r : Row) → row_of rows (suc m) ≡ Some r → (is_reached (without (suc m) rows) k r.parent ≡ true) ⊎ ((j : ℕ) × (j ≤ k) × (is_reached rows j (suc m) ≡ true))
        → ((j : ℕ) → j ≤ b → is_reached rows j (suc m) ≡ true → is_reached rows (suc n) (suc m) ≡ true) → is_reached rows (suc n) (suc m) ≡ true
    by r is (inl g) rest =
        let less : length (without (suc m) rows) < length rows = fewer_than (suc m) rows r is in
        down rows n (suc m) r is (back rows (suc m) n r.parent (before (without (suc m) rows) (omega (arith, less, len)) k r.parent g))
    by r is (inr j) rest = let less : j.0 ≤ k = j.1 in rest j.0 (omega (arith, l, less)) j.2

none_reached : (k x : ℕ) → is_reached [] k x ≡ true → is_reached [] 0 x ≡ true
none_reached k zero h = refl
none_reached zero (suc m) h = h
none_reached (suc k) (suc m) h = never h

-- what is reached in some number of steps is so in as many as there are rows, and in each greater number
pub in_time : (n : ℕ) (rows : List Row) → length rows ≤ n → (k x : ℕ) → is_reached rows k x ≡ true → is_reached rows n x ≡ true
in_time zero [] len k x h = none_reached k x h
in_time zero (r ∷ rows) len k x h = absurd (omega (arith, len))
in_time (suc n) rows len k x h = in_time_by n (in_time n) rows len k k x (omega arith) h

pub ways_are_short : WaysAreShort
ways_are_short rows x =
    (λ h. let s = in_some rows x h in in_time (length rows) rows (omega arith) s.0 x s.1, reaches rows (length rows) x)
