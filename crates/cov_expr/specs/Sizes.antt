-- How much stands at the front of a text.
use Rattle.std.specs.Prelude.{◌≡◌, ℕ, ◌+◌, ◌<◌, ◌≤◌, List, length, drop, Option, Some, None, Result, Ok, Err}
use Rattle.cov_expr.specs.Tokens.{Lexed, Tokens, BadByte, tokens_from}
use Rattle.cov_expr.specs.declared.spelling.Size.{Size}

-- how many tokens there are after a number of others, or the place of the first byte that is no space and begins no token
abbrev pub counted : ℕ → Lexed → Result ℕ ℕ
counted n (Tokens ts) = Ok (n + length ts)
counted n (BadByte at) = Err at

-- a space or a token of this size stands at the front of a text, or neither
abbrev pub IsFrontSize : List ℕ → Option Size → Type 0
IsFrontSize text None = (n at : ℕ) → counted n (tokens_from at 0 text) ≡ Err at
IsFrontSize text (Some size) =
    (0 < size.bytes) × (size.bytes ≤ length text) × (size.tokens ≤ size.bytes)
    × ((n at : ℕ) → counted n (tokens_from at 0 text) ≡ counted (n + size.tokens) (tokens_from (at + size.bytes) 0 (drop size.bytes text)))
