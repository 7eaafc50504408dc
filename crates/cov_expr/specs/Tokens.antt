-- The tokens of a text, and their places.
use Rattle.std.specs.Prelude.{ℕ, zero, suc, ◌+◌, Bool, ◌||◌, nat_eq, List, [], ◌∷◌, length, Option, Some, None, Result, Ok, Err, if◌then◌else◌}
use Rattle.std.specs.List.{prefix_len, take_while}
use Rattle.cov_base.specs.Bytes.{is_letter, is_digit}
use Rattle.cov_expr.specs.declared.token.Token.{Token}
use Rattle.cov_expr.specs.declared.token.Token.TheVariants.{Word, Bang, Amp, Bar, Open, Close}

-- whether a word goes on with a byte
abbrev pub goes_on : ℕ → Bool
goes_on b = is_letter b || is_digit b

-- the token that a byte is by itself
abbrev pub sign : ℕ → Option Token
sign b =
    if nat_eq b 33 then Some Bang
    else (if nat_eq b 38 then Some Amp
    else (if nat_eq b 124 then Some Bar
    else (if nat_eq b 40 then Some Open
    else (if nat_eq b 41 then Some Close
    else None))))

-- the tokens, each with the place of its first byte; or the place of the first byte that is no space and begins no token
pub data Lexed : Type 0 where
  Tokens : (tokens : List (ℕ × Token)) → Lexed
  BadByte : (at : ℕ) → Lexed

-- one token more, before the others
abbrev pub token_then : ℕ × Token → Lexed → Lexed
token_then t (Tokens ts) = Tokens (t ∷ ts)
token_then t (BadByte at) = BadByte at

-- a token, if there is one, at a place, before the others
abbrev pub sign_then : ℕ → Option Token → Lexed → Lexed
sign_then at None later = BadByte at
sign_then at (Some t) later = token_then (at, t) later

-- the tokens of the bytes from a place on, of which the first ones may belong to a word before them
abbrev pub tokens_from : ℕ → ℕ → List ℕ → Lexed
tokens_from at in_word [] = Tokens []
tokens_from at (suc in_word) (b ∷ bs) = tokens_from (at + 1) in_word bs
tokens_from at zero (b ∷ bs) =
    if is_letter b then token_then (at, Word (b ∷ take_while goes_on bs)) (tokens_from (at + 1) (prefix_len goes_on bs) bs)
    else (if nat_eq b 32 then tokens_from (at + 1) 0 bs
    else sign_then at (sign b) (tokens_from (at + 1) 0 bs))

-- the tokens of a text; a word is as long as fits
abbrev pub tokens_of : List ℕ → Lexed
tokens_of bytes = tokens_from 0 0 bytes

-- how many tokens there are, or the place of the first byte that is no space and begins no token
abbrev pub token_count : Lexed → Result ℕ ℕ
token_count (Tokens ts) = Ok (length ts)
token_count (BadByte at) = Err at
