-- The first line of a text, read from the text's front, and the pieces that a buffer has of it.
use Rattle.std.proofs.Common.{◌≡◌, ◌≢◌, ℕ, ◌+◌, ◌-◌, ◌<◌, ◌≤◌, List, [], ◌∷◌, ◌++◌, length, get_or, take, drop, refl, sym, ◌∙◌, arith, add-one, length-take}
use Rattle.std.proofs.Math.Seq.{split_at}
use Rattle.std.proofs.lemmas.Bool.{ne_eqb, eq-eqb, eqb-true}
use Rattle.std.proofs.lemmas.List.{drop-take, drop-drop, get_or-take}
use Rattle.std.proofs.lemmas.List.Elements.{All-head, All-tail, All-from_get_or}
use Rattle.memchr.specs.Find.{Nowhere, Passes, is_byte}
use Rattle.cov_base.specs.Lines.{lines_of}
use Rattle.cov_io.specs.Walk.{IsWithin}

-- a text that goes on behind the end of its first line
pub lines_of-ended : (line rest : List ℕ) → IsWithin line → lines_of (line ++ 10 ∷ rest) ≡ line ∷ lines_of rest
lines_of-ended [] rest within = refl
lines_of-ended (b ∷ bs) rest within =
    rw (ne_eqb b 10 (All-head (λ b. b ≢ 10) b bs within), lines_of-ended bs rest (All-tail (λ b. b ≢ 10) b bs within)) refl

-- a text that is one line with no end
pub lines_of-last : (b : ℕ) (bs : List ℕ) → IsWithin (b ∷ bs) → lines_of (b ∷ bs) ≡ (b ∷ bs) ∷ []
lines_of-last b [] within = rw (ne_eqb b 10 (All-head (λ b. b ≢ 10) b [] within)) refl
lines_of-last b (c ∷ cs) within =
    rw (ne_eqb b 10 (All-head (λ b. b ≢ 10) b (c ∷ cs) within), lines_of-last c cs (All-tail (λ b. b ≢ 10) b (c ∷ cs) within)) refl

-- what is pending after some of it was taken
pub range-skip : (xs : List ℕ) (from to n : ℕ) → from + n ≤ to → take (to - (from + n)) (drop (from + n) xs) ≡ drop n (take (to - from) (drop from xs))
range-skip xs from to n fits =
    let parts : to - from ≡ n + (to - (from + n)) = omega arith in rw (parts, drop-take, drop-drop)

-- the bytes before the first byte 10
pub within_before : (xs : List ℕ) (at : ℕ) → at < length xs → Nowhere (Passes (is_byte 10) xs) 0 at → IsWithin (take at xs)
within_before xs at in_range none =
    All-from_get_or (λ b. b ≢ 10) (take at xs) 0 (λ i below is.
    let before : i < at = omega (arith, length-take at xs) in
    none i (omega arith) before (eq-eqb (get_or xs i 0) 10 (sym (get_or-take at xs i 0 before) ∙ is)))

-- a text at its first byte 10
pub cut_at_end : (xs : List ℕ) (at : ℕ) → at < length xs → Passes (is_byte 10) xs at → xs ≡ take at xs ++ 10 ∷ drop (at + 1) xs
cut_at_end xs at in_range here =
    rw add-one (rw (eqb-true (get_or xs at 0) 10 here) at (split_at xs at 0 in_range))

-- bytes none of which is byte 10
pub within_all : (xs : List ℕ) → Nowhere (Passes (is_byte 10) xs) 0 (length xs) → IsWithin xs
within_all xs none = All-from_get_or (λ b. b ≢ 10) xs 0 (λ i below is. none i (omega arith) below (eq-eqb (get_or xs i 0) 10 is))
