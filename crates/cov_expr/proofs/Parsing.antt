-- Reading a text token by token gives what it is by the grammar.
use Rattle.std.proofs.Common.{◌≡◌, ℕ, ◌≤◌, List, [], ◌∷◌, ◌++◌, length, refl, ap, sym, ◌∙◌, subst, inl, inr, append_assoc, arith}
use Rattle.std.specs.Prelude.{Option, Some, None, option_and_then, Result, Ok, Err, Bool, true, false, cond, nat_lt}
use Rattle.std.proofs.lemmas.Bool.{ltb-true, ltb-false, lt-ltb, le-ltb}
use Rattle.std.proofs.lemmas.List.{append-nil, map-append, length-map}
use Rattle.cov_base.specs.Answers.{IsOrMemory}
use Rattle.cov_base.specs.declared.limits.TheConstants.{MOST_PARTS, MOST_TOKENS}
use Rattle.cov_expr.specs.Formula.{Formula, part_count}
use Rattle.cov_expr.specs.Grammar.{IsExpression, BeginsExpression}
use Rattle.cov_expr.specs.Parsing.{bare, IsStuckAt, IsUnfinished, IsParsed}
use Rattle.cov_expr.specs.Reading.{ParserState, start, next, finished, run, at_end, go_on, read_from, read_lexed, read_counted, parsed, is_memory}
use Rattle.cov_expr.specs.Tokens.{Lexed, Tokens, BadByte, tokens_of, token_count}
use Rattle.cov_expr.specs.declared.spelling.ExprFault.{ExprFault}
use Rattle.cov_expr.specs.declared.spelling.ExprFault.TheVariants.{Syntax, TooLong, Memory}
use Rattle.cov_expr.specs.declared.token.Token.{Token}
use Rattle.cov_expr.proofs.Spelt.{run-after, spelt-finished}
use Rattle.cov_expr.proofs.Fronts.{run-spelt, run-begins, stuck-begins_none, part_count-spelt}

bare-append : (ts us : List (ℕ × Token)) → bare (ts ++ us) ≡ bare ts ++ bare us
bare-append ts us = map-append (λ t. t.1) ts us

-- what tokens are that were all read
at_end-parsed : (size : ℕ) (ts : List (ℕ × Token)) (s : ParserState) (o : Option (Formula (List ℕ))) → length ts ≤ MOST_TOKENS → run (bare ts) start ≡ Some s → finished s ≡ o → IsParsed size (Tokens ts) (at_end size o)
at_end-parsed size ts s (Some e) short led whole = (short, run-spelt (bare ts) s e led whole)
at_end-parsed size ts s None short led whole = (
  short,
  inr (
    record {
      begins = run-begins (bare ts) s led;
      none = λ e spelt. let ends = spelt-finished spelt in let here = ap (option_and_then finished) led in cc;
    },
    refl,
  ),
)

-- what tokens are of which some were read
read_from-parsed : (rest : List (ℕ × Token)) (size : ℕ) (read : List (ℕ × Token)) (s : ParserState) → length (read ++ rest) ≤ MOST_TOKENS → run (bare read) start ≡ Some s → IsParsed size (Tokens (read ++ rest)) (read_from rest size s)
read_from-parsed [] size read s short led =
    let all = append-nil read in
    subst (λ ts. IsParsed size (Tokens ts) (at_end size (finished s))) (sym all) (at_end-parsed size read s (finished s) (rw all at short) led refl)
read_from-parsed (t ∷ rest) size read s short led = onward (next s t.1) refl (λ m. read_from-parsed rest size (read ++ t ∷ []) m)
  where
    onward : (o : Option ParserState) → next s t.1 ≡ o → ((m : ParserState) → length ((read ++ t ∷ []) ++ rest) ≤ MOST_TOKENS → run (bare (read ++ t ∷ [])) start ≡ Some m → IsParsed size (Tokens ((read ++ t ∷ []) ++ rest)) (read_from rest size m)) → IsParsed size (Tokens (read ++ t ∷ rest)) (go_on t.0 (read_from rest size) o)
    onward None first later =
        let stuck : run (bare (read ++ t ∷ [])) start ≡ None = rw (bare-append read (t ∷ [])) (run-after (bare read) (t.1 ∷ []) start s led ∙ ap (option_and_then (run [])) first) in (
          short,
          inl (record {
            before = read;
            token = t.1;
            behind = rest;
            all = refl;
            begins = run-begins (bare read) s led;
            stuck = stuck-begins_none (bare (read ++ t ∷ [])) stuck;
          }),
        )
    onward (Some m) first later =
        let all : (read ++ t ∷ []) ++ rest ≡ read ++ t ∷ rest = append_assoc read (t ∷ []) rest in
        let led_on : run (bare (read ++ t ∷ [])) start ≡ Some m = rw (bare-append read (t ∷ [])) (run-after (bare read) (t.1 ∷ []) start s led ∙ ap (option_and_then (run [])) first) in
        subst (λ ts. IsParsed size (Tokens ts) (read_from rest size m)) all (later m (rw all short) led_on)

lexed-parsed : (size : ℕ) (lexed : Lexed) → IsParsed size lexed (read_counted (token_count lexed) (read_lexed lexed size start))
lexed-parsed size (BadByte at) = refl
lexed-parsed size (Tokens ts) = cases (nat_lt MOST_TOKENS (length ts)) refl
  where
    cases : (b : Bool) → nat_lt MOST_TOKENS (length ts) ≡ b → IsParsed size (Tokens ts) (cond b (Err TooLong) (read_from ts size start))
    cases true long = ltb-true MOST_TOKENS (length ts) long
    cases false short = read_from-parsed ts size [] start (ltb-false MOST_TOKENS (length ts) short) refl

parsed-answer : (wanted r : Result (Formula (List ℕ)) ExprFault) (size : ℕ) (lexed : Lexed) → IsParsed size lexed wanted → IsOrMemory is_memory wanted r → IsParsed size lexed r
parsed-answer wanted (Ok e) size lexed p a = subst (IsParsed size lexed) a p
parsed-answer wanted (Err (Syntax at)) size lexed p a = subst (IsParsed size lexed) a p
parsed-answer wanted (Err TooLong) size lexed p a = subst (IsParsed size lexed) a p
parsed-answer wanted (Err Memory) size (Tokens ts) p a = tt
parsed-answer wanted (Err Memory) size (BadByte at) p a = tt

-- what is read is what the grammar says
pub answer-parsed : (bytes : List ℕ) (r : Result (Formula (List ℕ)) ExprFault) → IsOrMemory is_memory (parsed bytes) r → IsParsed (length bytes) (tokens_of bytes) r
answer-parsed bytes r a = parsed-answer (parsed bytes) r (length bytes) (tokens_of bytes) (lexed-parsed (length bytes) (tokens_of bytes)) a

IsParsed-parts : (size : ℕ) (lexed : Lexed) (e : Formula (List ℕ)) → IsParsed size lexed (Ok e) → part_count e ≤ MOST_PARTS
IsParsed-parts size (Tokens ts) e (short, spelt) = omega (arith, part_count-spelt spelt, length-map ts (λ (t : ℕ × Token). t.1))
IsParsed-parts size (BadByte at) e h = absurd h

-- an expression that was read has at most as many parts as there may be tokens
pub answer-parts : (bytes : List ℕ) (e : Formula (List ℕ)) → IsOrMemory is_memory (parsed bytes) (Ok e) → part_count e ≤ MOST_PARTS
answer-parts bytes e a = IsParsed-parts (length bytes) (tokens_of bytes) e (answer-parsed bytes (Ok e) a)

-- tokens that were read may be passed over
read_from-run : (ts us : List (ℕ × Token)) (size : ℕ) (s m : ParserState) → run (bare ts) s ≡ Some m → read_from (ts ++ us) size s ≡ read_from us size m
read_from-run [] us size s m led = let same : s ≡ m = cc in ap (read_from us size) same
read_from-run (t ∷ ts) us size s m led = onward (next s t.1) (λ k. read_from-run ts us size k m) led
  where
    onward : (o : Option ParserState) → ((k : ParserState) → run (bare ts) k ≡ Some m → read_from (ts ++ us) size k ≡ read_from us size m) → option_and_then (run (bare ts)) o ≡ Some m → go_on t.0 (read_from (ts ++ us) size) o ≡ read_from us size m
    onward None later led = cc
    onward (Some k) later led = later k led

-- the state after tokens with which an expression begins
state_after : (ts : List Token) → BeginsExpression ts → (s : ParserState) × (run ts start ≡ Some s)
state_after ts begins = onward (run ts start) refl
  where
    onward : (o : Option ParserState) → run ts start ≡ o → (s : ParserState) × (run ts start ≡ Some s)
    onward None led = absurd (stuck-begins_none ts led begins)
    onward (Some s) led = (s, led)

-- the token with which none goes on is not read
stuck-next : (before : List (ℕ × Token)) (at : ℕ) (token : Token) (s : ParserState) (o : Option ParserState) → run (bare before) start ≡ Some s → (BeginsExpression (bare (before ++ (at, token) ∷ [])) → ⊥) → next s token ≡ o → o ≡ None
stuck-next before at token s None led stuck first = refl
stuck-next before at token s (Some m) led stuck first =
    let led_on : run (bare (before ++ (at, token) ∷ [])) start ≡ Some m = rw (bare-append before ((at, token) ∷ [])) (run-after (bare before) (token ∷ []) start s led ∙ ap (option_and_then (run [])) first) in
    absurd (stuck (run-begins (bare (before ++ (at, token) ∷ [])) m led_on))

stuck-read : (ts : List (ℕ × Token)) (at size : ℕ) → IsStuckAt ts at → read_from ts size start ≡ Err (Syntax at)
stuck-read ts at size h =
    let s = state_after (bare h.before) h.begins in
    ap (λ us. read_from us size start) h.all
    ∙ read_from-run h.before ((at, h.token) ∷ h.behind) size start s.0 s.1
    ∙ ap (go_on at (read_from h.behind size)) (stuck-next h.before at h.token s.0 (next s.0 h.token) s.1 h.stuck refl)

-- all tokens are read where an expression begins with them
whole-read : (ts : List (ℕ × Token)) (size : ℕ) (s : ParserState) → run (bare ts) start ≡ Some s → read_from ts size start ≡ at_end size (finished s)
whole-read ts size s led = ap (λ us. read_from us size start) (sym (append-nil ts)) ∙ read_from-run ts [] size start s led

spelt-read : (ts : List (ℕ × Token)) (size : ℕ) (e : Formula (List ℕ)) → IsExpression (bare ts) e → read_from ts size start ≡ Ok e
spelt-read ts size e spelt =
    let begins : BeginsExpression (bare ts) = ([], e, subst (λ us. IsExpression us e) (sym (append-nil (bare ts))) spelt) in
    let s = state_after (bare ts) begins in
    let whole = ap (option_and_then finished) (sym s.1) ∙ spelt-finished spelt in
    whole-read ts size s.0 s.1 ∙ ap (at_end size) whole

unfinished-read : (ts : List (ℕ × Token)) (size : ℕ) → IsUnfinished (bare ts) → read_from ts size start ≡ Err (Syntax size)
unfinished-read ts size h =
    let s = state_after (bare ts) h.begins in
    whole-read ts size s.0 s.1 ∙ none s.0 s.1 (finished s.0) refl
  where
    none : (s : ParserState) → run (bare ts) start ≡ Some s → (o : Option (Formula (List ℕ))) → finished s ≡ o → at_end size o ≡ Err (Syntax size)
    none s led None whole = refl
    none s led (Some e) whole = absurd (h.none e (run-spelt (bare ts) s e led whole))

-- what a text is by the grammar is what is read
tokens-answer : (size : ℕ) (ts : List (ℕ × Token)) (r : Result (Formula (List ℕ)) ExprFault) → IsParsed size (Tokens ts) r → IsOrMemory is_memory (read_counted (Ok (length ts)) (read_from ts size start)) r
tokens-answer size ts (Ok e) (short, spelt) = rw (le-ltb MOST_TOKENS (length ts) short) (spelt-read ts size e spelt)
tokens-answer size ts (Err (Syntax at)) (short, fault) =
    rw (le-ltb MOST_TOKENS (length ts) short) (elim fault [ inl stuck ↦ stuck-read ts at size stuck | inr (open_end, place) ↦ unfinished-read ts size open_end ∙ ap (λ n. Err (Syntax n)) (sym place) ])
tokens-answer size ts (Err TooLong) long = rw (lt-ltb MOST_TOKENS (length ts) long) refl
tokens-answer size ts (Err Memory) h = tt

pub parsed-is_answer : (bytes : List ℕ) (r : Result (Formula (List ℕ)) ExprFault) → IsParsed (length bytes) (tokens_of bytes) r → IsOrMemory is_memory (parsed bytes) r
parsed-is_answer bytes r h = cases (tokens_of bytes) h
  where
    cases : (lexed : Lexed) → IsParsed (length bytes) lexed r → IsOrMemory is_memory (read_counted (token_count lexed) (read_lexed lexed (length bytes) start)) r
    cases (Tokens ts) h = tokens-answer (length bytes) ts r h
    cases (BadByte at) h = bad r h
      where
        bad : (r : Result (Formula (List ℕ)) ExprFault) → IsParsed (length bytes) (BadByte at) r → IsOrMemory is_memory (Err (Syntax at)) r
        bad (Ok e) h = absurd h
        bad (Err (Syntax n)) h = ap (λ n. Err (Syntax n)) (sym h)
        bad (Err TooLong) h = absurd h
        bad (Err Memory) h = tt
