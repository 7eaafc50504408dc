-- Reading a token at the front of a text.
use Rattle.std.proofs.Common.{◌≡◌, ℕ, ◌+◌, ◌-◌, ◌<◌, ◌≤◌, List, [], ◌∷◌, ◌++◌, length, take, drop, refl, ap, sym, ◌∙◌, subst, arith, length-append, length-drop}
use Rattle.std.proofs.lemmas.List.{take_all}
use Rattle.std.specs.Prelude.{Option, Some, None, option_and_then, Result, Ok, Err, IfOk, IfSome}
use Rattle.std.specs.Option.{option_map}
use Rattle.cov_base.specs.declared.error.Memory.{Memory}
use Rattle.cov_expr.specs.Reading.{ParserState, start, next, run, go_on, read_from, read_lexed}
use Rattle.cov_expr.specs.Readings.{state_of}
use Rattle.cov_expr.specs.FrontReads.{HasTokens, IsReadOn, IsFrontRead}
use Rattle.cov_expr.specs.Tokens.{Lexed, Tokens, BadByte, token_then, tokens_from}
use Rattle.cov_expr.specs.declared.spelling.ExprFault.TheVariants.{Syntax}
use Rattle.cov_expr.specs.declared.spelling.Front.{Front}
use Rattle.cov_expr.specs.declared.token.Token.{Token}
use Rattle.cov_expr.proofs.Spelt.{run-after}

HasTokens-token_then : (t : ℕ × Token) (later : Lexed) → HasTokens (token_then t later) → HasTokens later
HasTokens-token_then t (Tokens ts) h = tt
HasTokens-token_then t (BadByte at) h = h

read-stuck : (at size : ℕ) (t : Token) (later : Lexed) (s : ParserState) → next s t ≡ None → HasTokens (token_then (at, t) later) → read_lexed (token_then (at, t) later) size s ≡ Err (Syntax at)
read-stuck at size t (Tokens ts) s h tokens = ap (go_on at (read_from ts size)) h
read-stuck at size t (BadByte bad) s h tokens = absurd tokens

read-on : (at size : ℕ) (t : Token) (later : Lexed) (s m : ParserState) → next s t ≡ Some m → read_lexed (token_then (at, t) later) size s ≡ read_lexed later size m
read-on at size t (Tokens ts) s m h = ap (go_on at (read_from ts size)) h
read-on at size t (BadByte bad) s m h = refl

-- a token of n bytes stands at the front of a text
abbrev pub BeginsWith : List ℕ → Token → ℕ → Type 0
BeginsWith text t n = (at : ℕ) → tokens_from at 0 text ≡ token_then (at, t) (tokens_from (at + n) 0 (drop n text))

front_read-one : (text : List ℕ) (t : Token) (n : ℕ) (s : ParserState) (front : Option Front) → 0 < n → n ≤ length text → BeginsWith text t n
    → option_map (λ x. state_of x.reading) front ≡ next s t → IfSome front (λ x. x.bytes ≡ n) → IsFrontRead text s front
front_read-one text t n s None moves fits begins state bytes = λ at size tokens.
    rw (begins at) (read-stuck at size t (tokens_from (at + n) 0 (drop n text)) s (sym state) (rw (begins at) at tokens))
front_read-one text t n s (Some front) moves fits begins state bytes = (
  rw bytes moves,
  rw bytes fits,
  λ at tokens. rw bytes (HasTokens-token_then (at, t) (tokens_from (at + n) 0 (drop n text)) (rw (begins at) at tokens)),
  λ at size. rw (bytes, begins at) (read-on at size t (tokens_from (at + n) 0 (drop n text)) s (state_of front.reading) (sym state)),
  (t ∷ [], omega arith, ap (option_and_then (run [])) (sym state)),
)

pub front_read : (r : Result (Option Front) Memory) (text : List ℕ) (t : Token) (n : ℕ) (s : ParserState) → 0 < n → n ≤ length text → BeginsWith text t n
    → IfOk r (λ front. option_map (λ x. state_of x.reading) front ≡ next s t) → IfOk r (λ front. IfSome front (λ x. x.bytes ≡ n)) → IfOk r (IsFrontRead text s)
front_read (Ok front) text t n s moves fits begins state bytes = front_read-one text t n s front moves fits begins state bytes
front_read (Err e) text t n s moves fits begins state bytes = tt

-- what was read at a place of a text
pub read_at : (bytes : List ℕ) (at : ℕ) (s : ParserState) (o : Option Front) (front : Front) → IsFrontRead (take (length bytes - at) (drop at bytes)) s o → o ≡ Some front → IsFrontRead (drop at bytes) s (Some front)
read_at bytes at s o front read is =
    let all : take (length bytes - at) (drop at bytes) ≡ drop at bytes = take_all (length bytes - at) (drop at bytes) (omega (arith, length-drop at bytes)) in
    subst (λ x. IsFrontRead (drop at bytes) s x) is (subst (λ text. IsFrontRead text s o) all read)

-- the tokens that led to a state, with what was read after it
pub led_on : (n bytes : ℕ) (before after : ParserState) → 0 < bytes → (ts : List Token) × (length ts ≤ n) × (run ts start ≡ Some before) → IsReadOn before after → (ts : List Token) × (length ts ≤ n + bytes) × (run ts start ≡ Some after)
led_on n bytes before after moves (ts, few, led) (us, one, front) =
    (ts ++ us, omega (arith, length-append ts us), run-after ts us start before led ∙ front)
