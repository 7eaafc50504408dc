-- What is read at the front of a text.
use Rattle.std.specs.Prelude.{◌≡◌, ℕ, ◌+◌, ◌<◌, ◌≤◌, List, length, drop, Option, Some, None, Err}
use Rattle.cov_expr.specs.Reading.{ParserState, run, read_lexed}
use Rattle.cov_expr.specs.Readings.{state_of}
use Rattle.cov_expr.specs.Tokens.{Lexed, Tokens, BadByte, tokens_from}
use Rattle.cov_expr.specs.declared.spelling.ExprFault.TheVariants.{Syntax}
use Rattle.cov_expr.specs.declared.spelling.Front.{Front}
use Rattle.cov_expr.specs.declared.token.Token.{Token}

-- every byte is a space or part of a token
abbrev pub HasTokens : Lexed → Type 0
HasTokens (Tokens ts) = Unit {0}
HasTokens (BadByte at) = ⊥

-- the second state is the first, or that after one token more
abbrev pub IsReadOn : ParserState → ParserState → Type 0
IsReadOn before after = (ts : List Token) × (length ts ≤ 1) × (run ts before ≡ Some after)

-- a space or a token at the front of a text was read after a state, or no expression goes on with the token there
abbrev pub IsFrontRead : List ℕ → ParserState → Option Front → Type 0
IsFrontRead text before None = (at size : ℕ) → HasTokens (tokens_from at 0 text) → read_lexed (tokens_from at 0 text) size before ≡ Err (Syntax at)
IsFrontRead text before (Some front) =
    (0 < front.bytes) × (front.bytes ≤ length text)
    × ((at : ℕ) → HasTokens (tokens_from at 0 text) → HasTokens (tokens_from (at + front.bytes) 0 (drop front.bytes text)))
    × ((at size : ℕ) → read_lexed (tokens_from at 0 text) size before ≡ read_lexed (tokens_from (at + front.bytes) 0 (drop front.bytes text)) size (state_of front.reading))
    × IsReadOn before (state_of front.reading)
