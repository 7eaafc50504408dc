-- Numbers of too many digits.
use Rattle.std.proofs.Common.{◌≡◌, ℕ, ◌+◌, ◌*◌, ◌-◌, ◌≤◌, ◌<◌, ◌^◌, Bool, true, false, List, [], ◌∷◌, length, get_or, Some, None, nat_lt, arith, refl, ap, sym, ◌∙◌}
use Rattle.std.specs.Prelude.{if◌then◌else◌}
use Rattle.std.proofs.lemmas.Bool.{ltb-false}
use borrow.Author.Tests.{ltb-true}
use Rattle.cov_script.specs.Fields.{digits_onto, narrowed, within_long, within_word}

-- further digits give no lesser number
pub digits_grow : (n : ℕ) (bs : List ℕ) → n ≤ digits_onto n bs
digits_grow n [] = omega arith
digits_grow n (b ∷ bs) = let later = digits_grow (10 * n + (b - 48)) bs in omega arith

too_great : (n : ℕ) → within_long n ≡ None → 2 ^ 64 ≤ n
too_great n e = cases (nat_lt n (2 ^ 64)) refl where
  cases : (b : Bool) → nat_lt n (2 ^ 64) ≡ b → 2 ^ 64 ≤ n
  cases true p =
      let f : (if true then Some n else None) ≡ None = ap (λ b. if b then Some n else None) (sym p) ∙ e in
      cc
  cases false p = ltb-false _ _ p

too_great-none : (n : ℕ) → 2 ^ 64 ≤ n → within_long n ≡ None
too_great-none n h = cases (nat_lt n (2 ^ 64)) refl where
  cases : (b : Bool) → nat_lt n (2 ^ 64) ≡ b → within_long n ≡ None
  cases true p = absurd (omega (arith, ltb-true _ _ p))
  cases false p = ap (λ b. if b then Some n else None) p

within-some : (n : ℕ) → n < 2 ^ 64 → within_long n ≡ Some n
within-some n h = cases (nat_lt n (2 ^ 64)) refl where
  cases : (b : Bool) → nat_lt n (2 ^ 64) ≡ b → within_long n ≡ Some n
  cases true p = ap (λ b. if b then Some n else None) p
  cases false p = absurd (omega (arith, ltb-false _ _ p))

-- a number that is too great with one digit more stays so
pub too_many_digits : (n m : ℕ) (bs : List ℕ) → 1 ≤ length bs → digits_onto n bs ≡ m → within_long (10 * n + (get_or bs 0 0 - 48)) ≡ None → within_long m ≡ None
too_many_digits n m [] some all e = absurd (omega arith)
too_many_digits n m (b ∷ bs) some all e =
    let grown = digits_grow (10 * n + (b - 48)) bs in
    let first = too_great (10 * n + (b - 48)) e in
    too_great-none m (omega (arith, all))

-- all digits are read
pub all_digits_read : (n m : ℕ) (bs : List ℕ) → length bs < 1 → n < 2 ^ 64 → digits_onto n bs ≡ m → within_long m ≡ Some n
all_digits_read n m [] none small all = ap within_long (sym all) ∙ within-some n small
all_digits_read n m (b ∷ bs) none small all = absurd (omega arith)

-- a number of 32 bits is one of 64 bits that is taken where it has no more than 32
pub narrowed-is : (p : Bool) (n : ℕ) → narrowed (if p then within_long n else None) ≡ (if p then within_word n else None)
narrowed-is false n = refl
narrowed-is true n = cases (nat_lt n (2 ^ 64)) refl where
  cases : (b : Bool) → nat_lt n (2 ^ 64) ≡ b → narrowed (within_long n) ≡ within_word n
  cases true p = ap narrowed (ap (λ b. if b then Some n else None) p)
  cases false p =
      let great = ltb-false _ _ p in
      let narrow : (b : Bool) → nat_lt n (2 ^ 32) ≡ b → None ≡ within_word n = at great in
      ap narrowed (ap (λ b. if b then Some n else None) p) ∙ narrow (nat_lt n (2 ^ 32)) refl
    where
      at : 2 ^ 64 ≤ n → (b : Bool) → nat_lt n (2 ^ 32) ≡ b → None ≡ within_word n
      at great true q = absurd (omega (arith, great, ltb-true _ _ q))
      at great false q = sym (ap (λ b. if b then Some n else None) q)
