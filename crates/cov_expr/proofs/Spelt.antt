-- Reading tokens one after another gives the expression of the grammar.
use Rattle.std.proofs.Common.{◌≡◌, ℕ, zero, suc, ◌+◌, List, [], ◌∷◌, ◌++◌, refl, ap, ◌∙◌, add-one}
use Rattle.std.specs.Prelude.{Option, Some, None, option_and_then}
use Rattle.cov_expr.specs.Formula.{Formula, Not}
use Rattle.cov_expr.specs.Grammar.{Rule, OrRule, AndRule, NotRule, AtomRule, Spells, lone_and, either, lone_not, both, negated, single, named, always, never, in_parentheses, IsExpression, constant_or_name}
use Rattle.cov_expr.specs.Reading.{ParserState, run, fresh, start, with_nots, after_and, after_or, settled, next, finished}
use Rattle.cov_expr.specs.declared.reading.Level.{Level}
use Rattle.cov_expr.specs.declared.token.Token.{Token}
use Rattle.cov_expr.specs.declared.token.Token.TheVariants.{Amp, Bar, Close}

pub run-append : (ts us : List Token) (s : ParserState) → run (ts ++ us) s ≡ option_and_then (run us) (run ts s)
run-append [] us s = refl
run-append (t ∷ ts) us s = onward (next s t) (run-append ts us)
  where
    onward : (o : Option ParserState) → ((s' : ParserState) → run (ts ++ us) s' ≡ option_and_then (run us) (run ts s')) → option_and_then (run (ts ++ us)) o ≡ option_and_then (run us) (option_and_then (run ts) o)
    onward None same = refl
    onward (Some s') same = same s'

-- tokens after others, whose state is known
pub run-after : (ts us : List Token) (s s' : ParserState) → run ts s ≡ Some s' → run (ts ++ us) s ≡ run us s'
run-after ts us s s' h = run-append ts us s ∙ ap (option_and_then (run us)) h

-- a ! more on the inside
pub with_nots-suc : (n : ℕ) (e : Formula (List ℕ)) → with_nots (n + 1) e ≡ with_nots n (Not e)
with_nots-suc n e = rw add-one (inside n)
  where
    inside : (n : ℕ) → with_nots (suc n) e ≡ with_nots n (Not e)
    inside zero = refl
    inside (suc n) = ap Not (inside n)

-- an operand was read at a level, whose left parts are taken
abbrev level_of : Option (Formula (List ℕ)) → Level
level_of left = record { or_left = left; and_left = None; nots = 0 }

abbrev read_at : List Level → Option (Formula (List ℕ)) → Formula (List ℕ) → ParserState
read_at outer left e = record { outer = outer; level = level_of left; operand = Some e }

abbrev awaits : List Level → Level → ParserState
awaits outer level = record { outer = outer; level = level; operand = None }

-- what reading does with the tokens of a rule
abbrev Reads : Rule → List Token → Formula (List ℕ) → Type 0
Reads OrRule ts e = (outer : List Level) → (left : Option (Formula (List ℕ))) × (right : Formula (List ℕ)) × (run ts (awaits outer fresh) ≡ Some (read_at outer left right)) × (after_or left right ≡ e)
Reads AndRule ts e = (outer : List Level) (left : Option (Formula (List ℕ))) → run ts (awaits outer (level_of left)) ≡ Some (read_at outer left e)
Reads NotRule ts e = (outer : List Level) (level : Level) → run ts (awaits outer level) ≡ Some (settled outer level e)
Reads AtomRule ts e = (outer : List Level) (level : Level) → run ts (awaits outer level) ≡ Some (settled outer level e)

pub spelt-reads : {rule : Rule} {ts : List Token} {e : Formula (List ℕ)} → Spells rule ts e → Reads rule ts e
spelt-reads (lone_and h) = λ outer. (None, _, spelt-reads h outer None, refl)
spelt-reads (either {ts = ts} {us = us} {a = a} {b = b} split h k) = λ outer.
    let r = spelt-reads h outer in
    let to_bar = run-after ts (Bar ∷ us) (awaits outer fresh) (read_at outer r.0 r.1) r.2 in
    (Some a, b, ap (λ all. run all (awaits outer fresh)) split ∙ to_bar ∙ ap (λ x. run us (awaits outer (level_of (Some x)))) r.3 ∙ spelt-reads k outer (Some a), refl)
spelt-reads (lone_not h) = λ outer left. spelt-reads h outer (level_of left)
spelt-reads (both {ts = ts} {us = us} {a = a} {b = b} split h k) = λ outer left.
    let to_amp = run-after ts (Amp ∷ us) (awaits outer (level_of left)) (read_at outer left a) (spelt-reads h outer left) in
    ap (λ all. run all (awaits outer (level_of left))) split ∙ to_amp ∙ spelt-reads k outer (record { or_left = left; and_left = Some a; nots = 0 })
spelt-reads (negated {ts = ts} {e = e} h) = λ outer level.
    spelt-reads h outer (record level { nots = level.nots + 1 })
    ∙ ap (λ x. Some (record { outer = outer; level = level_of level.or_left; operand = Some (after_and level.and_left x) })) (with_nots-suc level.nots e)
spelt-reads (single h) = spelt-reads h
spelt-reads (named n h) = λ outer level. ap (λ c. Some (settled outer level (constant_or_name c n))) h
spelt-reads always = λ outer level. refl
spelt-reads never = λ outer level. refl
spelt-reads (in_parentheses {ts = ts} split h) = λ outer level.
    let r = spelt-reads h (level ∷ outer) in
    let to_close = run-after ts (Close ∷ []) (awaits (level ∷ outer) fresh) (read_at (level ∷ outer) r.0 r.1) r.2 in
    ap (λ all. run all (awaits outer level)) split ∙ to_close ∙ ap (λ x. Some (settled outer level x)) r.3

-- what tokens spell as an expression is what their reading ends with
pub spelt-finished : {ts : List Token} {e : Formula (List ℕ)} → IsExpression ts e → option_and_then finished (run ts start) ≡ Some e
spelt-finished h =
    let r = spelt-reads h [] in
    ap (option_and_then finished) r.2 ∙ ap (λ x. Some x) r.3

-- tokens spell one expression at most, by each rule
pub one_expression : (rule : Rule) {ts : List Token} {e f : Formula (List ℕ)} → Spells rule ts e → Spells rule ts f → e ≡ f
one_expression OrRule h k = let p = spelt-finished h in let q = spelt-finished k in cc
one_expression AndRule h k =
    let p = ap (option_and_then finished) (spelt-reads h [] None) in
    let q = ap (option_and_then finished) (spelt-reads k [] None) in
    cc
one_expression NotRule h k =
    let p = ap (option_and_then finished) (spelt-reads h [] fresh) in
    let q = ap (option_and_then finished) (spelt-reads k [] fresh) in
    cc
one_expression AtomRule h k =
    let p = ap (option_and_then finished) (spelt-reads h [] fresh) in
    let q = ap (option_and_then finished) (spelt-reads k [] fresh) in
    cc
