-- The tokens of a text by what stands at its front.
use Rattle.std.proofs.Common.{◌≡◌, ℕ, zero, suc, ◌+◌, ◌<◌, ◌≤◌, List, [], ◌∷◌, length, get_or, take, drop, refl, ap, ◌∙◌, arith, one-add, add-zero, true}
use Rattle.std.specs.Prelude.{◌||◌}
use Rattle.std.specs.List.{prefix_len, take_while}
use Rattle.std.proofs.lemmas.List.Sums.{prefix_len-le-length}
use Rattle.cov_base.specs.Bytes.{is_letter, is_digit}
use Rattle.cov_expr.specs.Tokens.{goes_on, token_then, tokens_from}
use Rattle.cov_expr.specs.declared.token.Token.TheVariants.{Word}

-- the bytes of a word are passed over
tokens-after_word : (k at : ℕ) (bs : List ℕ) → k ≤ length bs → tokens_from at k bs ≡ tokens_from (at + k) 0 (drop k bs)
tokens-after_word zero at bs h = rw add-zero refl
tokens-after_word (suc k) at [] h = absurd (omega arith)
tokens-after_word (suc k) at (b ∷ bs) h =
    let place : at + 1 + k ≡ at + suc k = omega arith in
    tokens-after_word k (at + 1) bs (omega arith) ∙ ap (λ n. tokens_from n 0 (drop k bs)) place

pub goes_on-letter : (b : ℕ) → is_letter b ≡ true → goes_on b ≡ true
goes_on-letter b h = ap (λ x. x || is_digit b) h

-- a word stands at the front
pub word_lexed : (at : ℕ) (text : List ℕ) → 0 < length text → is_letter (get_or text 0 0) ≡ true
    → tokens_from at 0 text ≡ token_then (at, Word (take (prefix_len goes_on text) text)) (tokens_from (at + prefix_len goes_on text) 0 (drop (prefix_len goes_on text) text))
word_lexed at [] some letter = absurd (omega arith)
word_lexed at (b ∷ bs) some letter =
    let first = goes_on-letter b letter in
    let len : prefix_len goes_on (b ∷ bs) ≡ suc (prefix_len goes_on bs) = rw first (one-add (prefix_len goes_on bs)) in
    let place : at + 1 + prefix_len goes_on bs ≡ at + suc (prefix_len goes_on bs) = omega arith in
    let later = tokens-after_word (prefix_len goes_on bs) (at + 1) bs (prefix_len-le-length goes_on bs) ∙ ap (λ n. tokens_from n 0 (drop (prefix_len goes_on bs) bs)) place in
    rw (len, letter) (ap (token_then (at, Word (b ∷ take_while goes_on bs))) later)

-- a word has a byte
pub word_moves : (text : List ℕ) → 0 < length text → is_letter (get_or text 0 0) ≡ true → 0 < prefix_len goes_on text
word_moves [] some letter = absurd (omega arith)
word_moves (b ∷ bs) some letter = rw (goes_on-letter b letter) (omega arith)
