-- The places of mistakes in an expression are within it, and reading it wants no memory.
use Rattle.std.proofs.Common.{◌≡◌, ℕ, zero, suc, ◌+◌, ◌≤◌, Bool, true, false, List, [], ◌∷◌, length, Option, Some, None, Result, Ok, Err, arith, subst}
use Rattle.std.specs.Prelude.{if◌then◌else◌, nat_eq, nat_lt}
use Rattle.std.specs.List.{prefix_len, take_while}
use Rattle.cov_base.specs.Answers.{IsOrMemory}
use Rattle.cov_base.specs.Bytes.{is_letter}
use Rattle.cov_base.specs.declared.limits.TheConstants.{MOST_TOKENS}
use Rattle.cov_expr.specs.Formula.{Formula}
use Rattle.cov_expr.specs.Tokens.{Lexed, Tokens, BadByte, tokens_of, tokens_from, token_then, sign_then, sign, goes_on, token_count}
use Rattle.cov_expr.specs.Reading.{ParserState, start, finished, next, at_end, go_on, read_from, read_lexed, read_counted, parsed, is_memory}
use Rattle.cov_expr.specs.declared.spelling.ExprFault.{ExprFault}
use Rattle.cov_expr.specs.declared.spelling.ExprFault.TheVariants.{Syntax, TooLong, Memory}
use Rattle.cov_expr.specs.declared.token.Token.{Token}
use Rattle.cov_expr.specs.declared.token.Token.TheVariants.{Word}

-- no token has a place behind this one
abbrev AllWithin : ℕ → List (ℕ × Token) → Type 0
AllWithin n [] = Unit {0}
AllWithin n (t ∷ ts) = (t.0 ≤ n) × AllWithin n ts

abbrev LexedWithin : ℕ → Lexed → Type 0
LexedWithin n (Tokens ts) = AllWithin n ts
LexedWithin n (BadByte at) = at ≤ n

abbrev FaultWithin : ℕ → Result (Formula (List ℕ)) ExprFault → Type 0
FaultWithin n (Ok e) = Unit {0}
FaultWithin n (Err (Syntax at)) = at ≤ n
FaultWithin n (Err TooLong) = Unit {0}
FaultWithin n (Err Memory) = ⊥

token_then-within : (n : ℕ) (t : ℕ × Token) (lexed : Lexed) → t.0 ≤ n → LexedWithin n lexed → LexedWithin n (token_then t lexed)
token_then-within n t (Tokens ts) h later = (h, later)
token_then-within n t (BadByte at) h later = later

sign_then-within : (n at : ℕ) (o : Option Token) (lexed : Lexed) → at ≤ n → LexedWithin n lexed → LexedWithin n (sign_then at o lexed)
sign_then-within n at None lexed h later = h
sign_then-within n at (Some t) lexed h later = token_then-within n (at, t) lexed h later

either-within : (n : ℕ) (b : Bool) (x y : Lexed) → LexedWithin n x → LexedWithin n y → LexedWithin n (if b then x else y)
either-within n true x y p q = p
either-within n false x y p q = q

tokens_from-within : (n at k : ℕ) (bs : List ℕ) → at + length bs ≤ n → LexedWithin n (tokens_from at k bs)
tokens_from-within n at k [] h = tt
tokens_from-within n at (suc k) (b ∷ bs) h = tokens_from-within n (at + 1) k bs (omega arith)
tokens_from-within n at zero (b ∷ bs) h =
    let here : at ≤ n = omega arith in
    let ahead : at + 1 + length bs ≤ n = omega arith in
    either-within n (is_letter b) _ _
    (token_then-within n (at, Word (b ∷ take_while goes_on bs)) _ here (tokens_from-within n (at + 1) (prefix_len goes_on bs) bs ahead))
    (either-within n (nat_eq b 32) _ _
    (tokens_from-within n (at + 1) 0 bs ahead)
    (sign_then-within n at (sign b) _ here (tokens_from-within n (at + 1) 0 bs ahead)))

at_end-within : (n : ℕ) (o : Option (Formula (List ℕ))) → FaultWithin n (at_end n o)
at_end-within n None = omega arith
at_end-within n (Some e) = tt

go_on-within : (n at : ℕ) (later : ParserState → Result (Formula (List ℕ)) ExprFault) (o : Option ParserState) → at ≤ n → ((s : ParserState) → FaultWithin n (later s)) → FaultWithin n (go_on at later o)
go_on-within n at later None h k = h
go_on-within n at later (Some s) h k = k s

read_from-within : (ts : List (ℕ × Token)) (n : ℕ) (s : ParserState) → AllWithin n ts → FaultWithin n (read_from ts n s)
read_from-within [] n s h = at_end-within n (finished s)
read_from-within (t ∷ ts) n s h = go_on-within n t.0 (read_from ts n) (next s t.1) h.0 (λ m. read_from-within ts n m h.1)

read_lexed-within : (lexed : Lexed) (n : ℕ) → LexedWithin n lexed → FaultWithin n (read_lexed lexed n start)
read_lexed-within (Tokens ts) n h = read_from-within ts n start h
read_lexed-within (BadByte at) n h = h

too_long-within : (n : ℕ) (b : Bool) (r : Result (Formula (List ℕ)) ExprFault) → FaultWithin n r → FaultWithin n (if b then Err TooLong else r)
too_long-within n true r h = tt
too_long-within n false r h = h

read_counted-within : (n : ℕ) (counted : Result ℕ ℕ) (r : Result (Formula (List ℕ)) ExprFault) → FaultWithin n r → FaultWithin n (read_counted counted r)
read_counted-within n (Ok count) r h = too_long-within n (nat_lt MOST_TOKENS count) r h
read_counted-within n (Err at) r h = h

parsed-within : (bs : List ℕ) → FaultWithin (length bs) (parsed bs)
parsed-within bs =
    let n = length bs in
    read_counted-within n (token_count (tokens_of bs)) (read_lexed (tokens_of bs) n start) (read_lexed-within (tokens_of bs) n (tokens_from-within n 0 0 bs (omega arith)))

-- a mistake in an expression is within it, or at its end
pub mistake_within : (bs : List ℕ) (at : ℕ) → parsed bs ≡ Err (Syntax at) → at ≤ length bs
mistake_within bs at e = subst (FaultWithin (length bs)) e (parsed-within bs)

-- what an expression is doesn't depend on memory
pub never_memory : (bs : List ℕ) → parsed bs ≡ Err Memory → ⊥
never_memory bs e = subst (FaultWithin (length bs)) e (parsed-within bs)

-- the same of a fault that is answered
pub answered_within : (bs : List ℕ) (fault : ExprFault) (at : ℕ) → IsOrMemory is_memory (parsed bs) (Err fault) → fault ≡ Syntax at → at ≤ length bs
answered_within bs fault at answer e = mistake_within bs at (subst (λ f. IsOrMemory is_memory (parsed bs) (Err f)) e answer)
