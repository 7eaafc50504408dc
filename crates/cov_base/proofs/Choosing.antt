-- Choices with one option set, and the parts of a choice.
use Rattle.std.proofs.Common.{◌≡◌, ◌≢◌, ℕ, zero, suc, ◌<◌, ◌≤◌, Bool, false, List, [], ◌∷◌, ◌++◌, length, take, drop, refl, ap, arith}
use Rattle.cov_base.specs.Choices.{is_on, with_option}

pub is_on-same : (c : List Bool) (o : ℕ) (on : Bool) → o < length c → is_on (with_option c o on) o ≡ on
is_on-same [] o on h = absurd (omega (arith, h))
is_on-same (b ∷ c) zero on h = refl
is_on-same (b ∷ c) (suc o) on h = is_on-same c o on (omega (arith, h))

pub is_on-other : (c : List Bool) (o p : ℕ) (on : Bool) → p ≢ o → is_on (with_option c o on) p ≡ is_on c p
is_on-other [] o p on h = refl
is_on-other (b ∷ c) zero zero on h = absurd (h refl)
is_on-other (b ∷ c) zero (suc p) on h = refl
is_on-other (b ∷ c) (suc o) zero on h = refl
is_on-other (b ∷ c) (suc o) (suc p) on h = is_on-other c o p on (λ e. h (ap suc e))

pub length-with_option : (c : List Bool) (o : ℕ) (on : Bool) → length (with_option c o on) ≡ length c
length-with_option [] o on = refl
length-with_option (b ∷ c) zero on = refl
length-with_option (b ∷ c) (suc o) on = ap suc (length-with_option c o on)

-- an option at or above the count is off
pub is_on-above : (c : List Bool) (o : ℕ) → length c ≤ o → is_on c o ≡ false
is_on-above [] o h = refl
is_on-above (b ∷ c) zero h = absurd (omega (arith, h))
is_on-above (b ∷ c) (suc o) h = is_on-above c o (omega (arith, h))

-- the first values give each of their options what the whole choice gives it
pub is_on-take : (n : ℕ) (c : List Bool) (o : ℕ) → o < n → is_on (take n c) o ≡ is_on c o
is_on-take zero c o h = absurd (omega (arith, h))
is_on-take (suc n) [] o h = refl
is_on-take (suc n) (b ∷ c) zero h = refl
is_on-take (suc n) (b ∷ c) (suc o) h = is_on-take n c o (omega (arith, h))

-- a choice from an option on begins with that option's value
pub drop-is_on : (c : List Bool) (o : ℕ) → o < length c → drop o c ≡ is_on c o ∷ drop (suc o) c
drop-is_on [] o h = absurd (omega (arith, h))
drop-is_on (b ∷ c) zero h = refl
drop-is_on (b ∷ c) (suc o) h = drop-is_on c o (omega (arith, h))

-- the value behind those before it is that of its option, and is set as such
pub is_on-middle : (before after : List Bool) (b : Bool) → is_on (before ++ b ∷ after) (length before) ≡ b
is_on-middle [] after b = refl
is_on-middle (x ∷ before) after b = is_on-middle before after b

pub with_option-middle : (before after : List Bool) (b on : Bool) → with_option (before ++ b ∷ after) (length before) on ≡ before ++ on ∷ after
with_option-middle [] after b on = refl
with_option-middle (x ∷ before) after b on = ap (λ l. x ∷ l) (with_option-middle before after b on)
