-- Names of options as words of an expression.
use Rattle.std.proofs.Common.{◌≡◌, ℕ, zero, suc, ◌+◌, ◌<◌, Bool, true, false, not, ◌||◌, List, [], ◌∷◌, ◌++◌, length, take, drop, refl, ap, ◌∙◌, arith, cond, one-add}
use Rattle.std.specs.Prelude.{None, codes}
use Rattle.std.specs.List.{prefix_len, list_all}
use Rattle.std.specs.Str.{bytes_eq}
use Rattle.std.proofs.lemmas.Bool.{and_parts}
use Rattle.std.proofs.Math.Seq.{take-append_seam, drop-append_seam}
use Rattle.cov_base.specs.Bytes.{is_letter}
use Rattle.cov_base.specs.Spelling.{is_word, is_option_name}
use Rattle.cov_expr.specs.Grammar.{constant_of}
use Rattle.cov_expr.specs.Options.{option_name}
use Rattle.cov_expr.specs.Tokens.{goes_on, token_then, tokens_from}
use Rattle.cov_expr.specs.declared.token.Token.TheVariants.{Word}
use Rattle.cov_expr.proofs.Lexing.{word_lexed, goes_on-letter}

neither-left : (a b : Bool) → not (a || b) ≡ true → a ≡ false
neither-left false b h = refl
neither-left true b h = cc

neither-right : (a b : Bool) → not (a || b) ≡ true → not b ≡ true
neither-right false b h = h
neither-right true b h = cc

-- a word that is a name
abbrev pub IsNameWord : List ℕ → Type 0
IsNameWord word = (is_word word ≡ true) × (constant_of word ≡ None)

pub name_word : (word : List ℕ) → is_option_name word ≡ true → IsNameWord word
name_word word h =
    let free = (and_parts _ _ (and_parts (is_word word) _ h).1).1 in
    let no_true = neither-left (bytes_eq word (codes "true")) _ free in
    let no_false = neither-left (bytes_eq word (codes "false")) _ (neither-right (bytes_eq word (codes "true")) _ free) in
    ((and_parts (is_word word) _ h).0, rw no_true (rw no_false refl))

-- the name of each option is one
pub name_of : (names : List (List ℕ)) (o : ℕ) → list_all is_option_name names ≡ true → o < length names → is_option_name (option_name names o) ≡ true
name_of [] o spelt below = absurd (omega (arith, below))
name_of (name ∷ names) zero spelt below = (and_parts (is_option_name name) _ spelt).0
name_of (name ∷ names) (suc o) spelt below = name_of names o (and_parts (is_option_name name) _ spelt).1 (omega (arith, below))

-- whether no word goes on with a text
abbrev pub ends_word : List ℕ → Bool
ends_word [] = true
ends_word (b ∷ bs) = not (goes_on b)

word_len : (word rest : List ℕ) → list_all goes_on word ≡ true → ends_word rest ≡ true → prefix_len goes_on (word ++ rest) ≡ length word
word_len [] [] all ends = refl
word_len [] (b ∷ bs) all ends = by (goes_on b) (prefix_len goes_on bs) ends
  where
    by : (c : Bool) (n : ℕ) → not c ≡ true → cond c (1 + n) 0 ≡ 0
    by false n h = refl
    by true n h = cc
word_len (b ∷ bs) rest all ends =
    rw ((and_parts (goes_on b) _ all).0) (one-add (prefix_len goes_on (bs ++ rest)) ∙ ap suc (word_len bs rest (and_parts (goes_on b) _ all).1 ends))

-- a word and what comes behind it
pub word_before : (at : ℕ) (word rest : List ℕ) → is_word word ≡ true → ends_word rest ≡ true
    → tokens_from at 0 (word ++ rest) ≡ token_then (at, Word word) (tokens_from (at + length word) 0 rest)
word_before at [] rest spelt ends = cc
word_before at (b ∷ bs) rest spelt ends =
    let letter = (and_parts (is_letter b) _ spelt).0 in
    let all : list_all goes_on (b ∷ bs) ≡ true = rw (goes_on-letter b letter) (and_parts (is_letter b) _ spelt).1 in
    let len = word_len (b ∷ bs) rest all ends in
    word_lexed at ((b ∷ bs) ++ rest) (omega arith) letter
    ∙ ap (λ n. token_then (at, Word (take n ((b ∷ bs) ++ rest))) (tokens_from (at + n) 0 (drop n ((b ∷ bs) ++ rest)))) len
    ∙ ap (λ x. token_then (at, Word x) (tokens_from (at + length (b ∷ bs)) 0 (drop (length (b ∷ bs)) ((b ∷ bs) ++ rest)))) (take-append_seam (b ∷ bs) rest)
    ∙ ap (λ x. token_then (at, Word (b ∷ bs)) (tokens_from (at + length (b ∷ bs)) 0 x)) (drop-append_seam (b ∷ bs) rest)
