-- What stands at the front of a text.
use Rattle.std.specs.Prelude.{ℕ, ◌+◌, Bool, true, false, List, take, drop}
use Rattle.cov_expr.specs.Tokens.{Lexed, BadByte, token_then, tokens_from}
use Rattle.cov_expr.specs.declared.token.Lexeme.{Lexeme}
use Rattle.cov_expr.specs.declared.token.Lexeme.TheVariants as lexemes
use Rattle.cov_expr.specs.declared.token.Token.TheVariants.{Word}

-- whether it neither is a space nor begins a token
abbrev pub is_bad : Lexeme → Bool
is_bad lexemes.Space = false
is_bad (lexemes.Word len) = false
is_bad (lexemes.Sign token) = false
is_bad lexemes.Bad = true

-- how many tokens it is
abbrev pub lexeme_tokens : Lexeme → ℕ
lexeme_tokens lexemes.Space = 0
lexeme_tokens (lexemes.Word len) = 1
lexeme_tokens (lexemes.Sign token) = 1
lexeme_tokens lexemes.Bad = 0

-- how many bytes it takes
abbrev pub lexeme_len : Lexeme → ℕ
lexeme_len lexemes.Space = 1
lexeme_len (lexemes.Word len) = len
lexeme_len (lexemes.Sign token) = 1
lexeme_len lexemes.Bad = 1

-- the tokens of a text from a place on, by what stands at its front
abbrev pub lexed_by : ℕ → List ℕ → Lexeme → Lexed
lexed_by at text lexemes.Space = tokens_from (at + 1) 0 (drop 1 text)
lexed_by at text (lexemes.Word len) = token_then (at, Word (take len text)) (tokens_from (at + len) 0 (drop len text))
lexed_by at text (lexemes.Sign token) = token_then (at, token) (tokens_from (at + 1) 0 (drop 1 text))
lexed_by at text lexemes.Bad = BadByte at
