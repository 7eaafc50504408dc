-- How the tokens of an expression are read one after another, with a stack of the parentheses that are open.
use Rattle.std.specs.Prelude.{ℕ, zero, suc, ◌+◌, nat_lt, Bool, true, false, List, [], ◌∷◌, length, Option, Some, None, option_and_then, Result, Ok, Err, if◌then◌else◌}
use Rattle.cov_base.specs.declared.limits.TheConstants.{MOST_TOKENS}
use Rattle.cov_expr.specs.Formula.{Formula, Not, And, Or}
use Rattle.cov_expr.specs.Grammar.{word_formula}
use Rattle.cov_expr.specs.Tokens.{Lexed, Tokens, BadByte, tokens_of, token_count}
use Rattle.cov_expr.specs.declared.spelling.ExprFault.{ExprFault}
use Rattle.cov_expr.specs.declared.spelling.ExprFault.TheVariants.{Syntax, TooLong, Memory}
use Rattle.cov_expr.specs.declared.reading.Level.{Level}
use Rattle.cov_expr.specs.declared.token.Token.{Token}
use Rattle.cov_expr.specs.declared.token.Token.TheVariants.{Word, Bang, Amp, Bar, Open, Close}

-- what was read: the levels round the innermost parentheses, from the inside; the level within them; and an operand, if none is awaited
pub record ParserState : Type 0 where
  pub outer : List Level
  pub level : Level
  pub operand : Option (Formula (List ℕ))

-- a level of which nothing was read
abbrev pub fresh : Level
fresh = record { or_left = None; and_left = None; nots = 0 }

-- the state before the first token
abbrev pub start : ParserState
start = record { outer = []; level = fresh; operand = None }

-- an expression below a number of !
abbrev pub with_nots : ℕ → Formula (List ℕ) → Formula (List ℕ)
with_nots zero e = e
with_nots (suc nots) e = Not (with_nots nots e)

-- an expression as the right part of an &, if there is a left one
abbrev pub after_and : Option (Formula (List ℕ)) → Formula (List ℕ) → Formula (List ℕ)
after_and None e = e
after_and (Some left) e = And left e

-- an expression as the right part of an |, if there is a left one
abbrev pub after_or : Option (Formula (List ℕ)) → Formula (List ℕ) → Formula (List ℕ)
after_or None e = e
after_or (Some left) e = Or left e

-- an operand was read, and takes what binds tighter than an |
abbrev pub settled : List Level → Level → Formula (List ℕ) → ParserState
settled outer level e = record {
  outer = outer;
  level = record { or_left = level.or_left; and_left = None; nots = 0 };
  operand = Some (after_and level.and_left (with_nots level.nots e));
}

-- the state after a closing parenthesis
abbrev pub after_close : List Level → Formula (List ℕ) → Option ParserState
after_close [] e = None
after_close (level ∷ outer) e = Some (settled outer level e)

-- what was read with one token more; none where no expression goes on with it
abbrev pub after_token : List Level → Level → Option (Formula (List ℕ)) → Token → Option ParserState
after_token outer level None (Word word) = Some (settled outer level (word_formula word))
after_token outer level None Bang = Some (record { outer = outer; level = record level { nots = level.nots + 1 }; operand = None })
after_token outer level None Open = Some (record { outer = level ∷ outer; level = fresh; operand = None })
after_token outer level None Amp = None
after_token outer level None Bar = None
after_token outer level None Close = None
after_token outer level (Some e) Amp = Some (record { outer = outer; level = record level { and_left = Some e }; operand = None })
after_token outer level (Some e) Bar = Some (record { outer = outer; level = record level { or_left = Some (after_or level.or_left e) }; operand = None })
after_token outer level (Some e) Close = after_close outer (after_or level.or_left e)
after_token outer level (Some e) (Word word) = None
after_token outer level (Some e) Bang = None
after_token outer level (Some e) Open = None

-- the state after one token more; none where no expression goes on with it
abbrev pub next : ParserState → Token → Option ParserState
next s t = after_token s.outer s.level s.operand t

-- what was read, if it is a whole expression
abbrev pub whole : List Level → Level → Option (Formula (List ℕ)) → Option (Formula (List ℕ))
whole [] level (Some e) = Some (after_or level.or_left e)
whole [] level None = None
whole (l ∷ outer) level operand = None

-- the expression that a state has read, if it is a whole one
abbrev pub finished : ParserState → Option (Formula (List ℕ))
finished s = whole s.outer s.level s.operand

-- the state after tokens
abbrev pub run : List Token → ParserState → Option ParserState
run [] s = Some s
run (t ∷ ts) s = option_and_then (run ts) (next s t)

-- what a text of a size is, when all its tokens were read
abbrev pub at_end : ℕ → Option (Formula (List ℕ)) → Result (Formula (List ℕ)) ExprFault
at_end size None = Err (Syntax size)
at_end size (Some e) = Ok e

-- what a text is, by the state after a token at a place and what follows from it
abbrev pub go_on : ℕ → (ParserState → Result (Formula (List ℕ)) ExprFault) → Option ParserState → Result (Formula (List ℕ)) ExprFault
go_on at later None = Err (Syntax at)
go_on at later (Some s) = later s

-- what a text of a size is, by its tokens from a state on
abbrev pub read_from : List (ℕ × Token) → ℕ → ParserState → Result (Formula (List ℕ)) ExprFault
read_from [] size s = at_end size (finished s)
read_from (t ∷ ts) size s = go_on t.0 (read_from ts size) (next s t.1)

-- what a text of a size is, by its tokens or a byte that begins none
abbrev pub read_lexed : Lexed → ℕ → ParserState → Result (Formula (List ℕ)) ExprFault
read_lexed (Tokens ts) size s = read_from ts size s
read_lexed (BadByte at) size s = Err (Syntax at)

-- too many tokens come before what reading them gives, and a byte that begins none before both
abbrev pub read_counted : Result ℕ ℕ → Result (Formula (List ℕ)) ExprFault → Result (Formula (List ℕ)) ExprFault
read_counted (Ok count) read = if nat_lt MOST_TOKENS count then Err TooLong else read
read_counted (Err at) read = read

-- the expression that a text spells, or why it spells none
abbrev pub parsed : List ℕ → Result (Formula (List ℕ)) ExprFault
parsed bytes =
    let lexed = tokens_of bytes in
    read_counted (token_count lexed) (read_lexed lexed (length bytes) start)

-- whether a fault is want of memory
abbrev pub is_memory : ExprFault → Bool
is_memory Memory = true
is_memory (Syntax at) = false
is_memory TooLong = false
