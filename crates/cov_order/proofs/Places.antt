-- Where a line is put, and that each line stands once.
use Rattle.std.proofs.Common.{◌≡◌, ℕ, zero, suc, ◌+◌, ◌<◌, Bool, true, false, ◌||◌, cond, nat_eq, List, [], ◌∷◌, ◌++◌, length, Some, None, position, refl, sym, ap, subst, true≢false, ◌∙◌, arith}
use Rattle.std.specs.List.{insert, list_any}
use Rattle.std.proofs.lemmas.Bool.Decides.{nat_tests}
use Rattle.std.proofs.lemmas.Bool.{or_parts, or_from}
use Rattle.std.proofs.lemmas.List.Folds.{list_any-append}
use Rattle.cov_base.specs.Addresses.{after_first, after_anchor}
use Rattle.cov_base.proofs.CallerLemmas.{insert_behind, insert_last, or_left_comm}
use Rattle.cov_order.specs.Orders.{has_line, AreLines}

after_other : (anchor line : ℕ) (xs : List ℕ) → (anchor ≡ 0 → ⊥) → after_anchor anchor line xs ≡ after_first (λ n. nat_eq n anchor) line xs
after_other zero line xs h = absurd (h refl)
after_other (suc anchor) line xs h = refl

pub behind_found : (anchor : ℕ) (xs : List ℕ) (i : ℕ) → (anchor ≡ 0 → ⊥) → position (λ n. nat_eq n anchor) xs ≡ Some i
    → (line : ℕ) → insert xs (i + 1) line ≡ after_anchor anchor line xs
behind_found anchor xs i other h line =
    insert_behind (λ n. nat_eq n anchor) xs line i h ∙ sym (after_other anchor line xs other)

pub behind_all : (anchor : ℕ) (xs : List ℕ) → (anchor ≡ 0 → ⊥) → position (λ n. nat_eq n anchor) xs ≡ None
    → (line : ℕ) → insert xs (length xs) line ≡ after_anchor anchor line xs
behind_all anchor xs other h line =
    insert_last (λ n. nat_eq n anchor) xs line h ∙ sym (after_other anchor line xs other)

module _ {X : Type 0} (t : X → Bool) (x : X) where
  -- one item more passes or not, and the others as before
  pub any-after_first : (p : X → Bool) (xs : List X) → list_any p (after_first t x xs) ≡ (p x || list_any p xs)
  any-after_first p [] = refl
  any-after_first p (y ∷ ys) = at (t y) (any-after_first p ys)
    where
      at : (b : Bool) → list_any p (after_first t x ys) ≡ (p x || list_any p ys)
          → list_any p (cond b (y ∷ x ∷ ys) (y ∷ after_first t x ys)) ≡ (p x || (p y || list_any p ys))
      at true rest = or_left_comm (p y) (p x) (list_any p ys)
      at false rest = ap (λ b. p y || b) rest ∙ or_left_comm (p y) (p x) (list_any p ys)

  length-after_first : (xs : List X) → length (after_first t x xs) ≡ suc (length xs)
  length-after_first [] = refl
  length-after_first (y ∷ ys) = at (t y) (length-after_first ys)
    where
      at : (b : Bool) → length (after_first t x ys) ≡ suc (length ys) → length (cond b (y ∷ x ∷ ys) (y ∷ after_first t x ys)) ≡ suc (suc (length ys))
      at true rest = refl
      at false rest = ap suc rest

  -- the item is put into the first list, where one of its items passes
  pub after_first-front : (xs ys : List X) → list_any t xs ≡ true → after_first t x (xs ++ ys) ≡ after_first t x xs ++ ys
  after_first-front [] ys h = absurd (cc)
  after_first-front (y ∷ xs) ys h = at (t y) h (λ k. after_first-front xs ys k)
    where
      at : (b : Bool) → (b || list_any t xs) ≡ true → (list_any t xs ≡ true → after_first t x (xs ++ ys) ≡ after_first t x xs ++ ys)
          → cond b (y ∷ x ∷ (xs ++ ys)) (y ∷ after_first t x (xs ++ ys)) ≡ cond b (y ∷ x ∷ xs) (y ∷ after_first t x xs) ++ ys
      at true k rest = refl
      at false k rest = ap (λ l. y ∷ l) (rest k)

  -- and into the second where none does
  pub after_first-back : (xs ys : List X) → list_any t xs ≡ false → after_first t x (xs ++ ys) ≡ xs ++ after_first t x ys
  after_first-back [] ys h = refl
  after_first-back (y ∷ xs) ys h = at (t y) h (λ k. after_first-back xs ys k)
    where
      at : (b : Bool) → (b || list_any t xs) ≡ false → (list_any t xs ≡ false → after_first t x (xs ++ ys) ≡ xs ++ after_first t x ys)
          → cond b (y ∷ x ∷ (xs ++ ys)) (y ∷ after_first t x (xs ++ ys)) ≡ y ∷ (xs ++ after_first t x ys)
      at true k rest = absurd (true≢false k)
      at false k rest = ap (λ l. y ∷ l) (rest k)

pub any-after : (q anchor line : ℕ) (xs : List ℕ) → has_line q (after_anchor anchor line xs) ≡ (nat_eq line q || has_line q xs)
any-after q zero line xs = refl
any-after q (suc anchor) line xs = any-after_first (λ n. nat_eq n (suc anchor)) line (λ n. nat_eq n q) xs

pub length-after : (anchor line : ℕ) (xs : List ℕ) → length (after_anchor anchor line xs) ≡ suc (length xs)
length-after zero line xs = refl
length-after (suc anchor) line xs = length-after_first (λ n. nat_eq n (suc anchor)) line xs

pub same_number : (n : ℕ) → nat_eq n n ≡ true
same_number n = grind (arith, nat_tests)

lines-after_first : (t : ℕ → Bool) (line : ℕ) (xs : List ℕ) → 0 < line → has_line line xs ≡ false → AreLines xs → AreLines (after_first t line xs)
lines-after_first t line [] above fresh lines = (above, refl, tt)
lines-after_first t line (y ∷ ys) above fresh lines =
    at (t y) (or_parts (nat_eq y line) (has_line line ys) fresh).0 (or_parts (nat_eq y line) (has_line line ys) fresh).1 (λ k. lines-after_first t line ys above k lines.2)
  where
    at : (b : Bool) → nat_eq y line ≡ false → has_line line ys ≡ false → (has_line line ys ≡ false → AreLines (after_first t line ys))
        → AreLines (cond b (y ∷ line ∷ ys) (y ∷ after_first t line ys))
    at true f g rest =
        let other : nat_eq line y ≡ false = grind (arith, nat_tests, f) in
        (lines.0, or_from (nat_eq line y) (has_line y ys) other lines.1, (above, g, lines.2))
    at false f g rest =
        let other : nat_eq line y ≡ false = grind (arith, nat_tests, f) in
        (lines.0, any-after_first t line (λ n. nat_eq n y) ys ∙ or_from (nat_eq line y) (has_line y ys) other lines.1, rest g)

-- each line still stands once after a new one was put after its anchor
pub lines-after : (anchor line : ℕ) (xs : List ℕ) → 0 < line → has_line line xs ≡ false → AreLines xs → AreLines (after_anchor anchor line xs)
lines-after zero line xs above fresh lines = (above, fresh, lines)
lines-after (suc anchor) line xs above fresh lines = lines-after_first (λ n. nat_eq n (suc anchor)) line xs above fresh lines

pub lines-back : (xs ys : List ℕ) → AreLines (xs ++ ys) → AreLines ys
lines-back [] ys lines = lines
lines-back (x ∷ xs) ys lines = lines-back xs ys lines.2

-- a line of the second list isn't in the first
pub lines-apart : (a : ℕ) (xs ys : List ℕ) → AreLines (xs ++ ys) → has_line a ys ≡ true → has_line a xs ≡ false
lines-apart a [] ys lines there = refl
lines-apart a (x ∷ xs) ys lines there = or_from (nat_eq x a) (has_line a xs) (at (nat_eq x a) refl) (lines-apart a xs ys lines.2 there)
  where
    at : (b : Bool) → nat_eq x a ≡ b → b ≡ false
    at true e =
        let same : x ≡ a = grind (arith, nat_tests, e) in
        let out : has_line x ys ≡ false = (or_parts (has_line x xs) (has_line x ys) (sym (list_any-append (λ n. nat_eq n x) xs ys) ∙ lines.1)).1 in
        absurd (true≢false (sym there ∙ subst (λ n. has_line n ys ≡ false) same out))
    at false e = refl
