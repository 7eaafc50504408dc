-- How many tokens and bytes the text of an expression has.
use Rattle.std.proofs.Common.{◌≡◌, ℕ, zero, suc, ◌+◌, ◌*◌, ◌<◌, ◌≤◌, Bool, true, false, ◌&&◌, not, nat_le, List, [], ◌∷◌, ◌++◌, length, length-append, append_assoc, Result, Ok, Err, ◌⊎◌, inl, inr, refl, sym, ap, subst, ◌∙◌, arith}
use Rattle.std.specs.Prelude.{codes}
use Rattle.std.specs.List.{list_all, list_any}
use Rattle.std.specs.Str.{bytes_eq}
use Rattle.std.proofs.lemmas.Bool.{and_parts}
use Rattle.std.proofs.lemmas.Bool.Decides.{nat_tests}
use Rattle.std.proofs.lemmas.List.{length-map}
use Rattle.cov_base.specs.Spelling.{is_option_name, is_word, reserved_words}
use Rattle.cov_base.specs.declared.limits.TheConstants.{MOST_OPTION_NAME_BYTES, MOST_PARTS, MOST_TOKENS}
use Rattle.cov_expr.specs.ExpressionText.{is_or, is_binary, grouped, text_of, IsTextOf}
use Rattle.cov_expr.specs.Formula.{Formula, False, True, On, Not, And, Or, part_count, reach, renamed}
use Rattle.cov_expr.specs.Grammar.{IsExpression}
use Rattle.cov_expr.specs.Laws.{TextsSpell}
use Rattle.cov_expr.specs.Naming.{with_names}
use Rattle.cov_expr.specs.Options.{option_name}
use Rattle.cov_expr.specs.Parsing.{bare, IsParsed, IsStuckAt, IsUnfinished}
use Rattle.cov_expr.specs.Tokens.{Lexed, Tokens, tokens_of, token_count}
use Rattle.cov_expr.specs.declared.spelling.ExprFault.{ExprFault}
use Rattle.cov_expr.specs.declared.spelling.ExprFault.TheVariants as faults
use Rattle.cov_expr.specs.declared.token.Token.{Token}
use Rattle.cov_vis.specs.Listings.{ListingValue, has_options_below}
use Rattle.cov_cond.specs.Exporting.{is_few, is_short, expression_of}
use Rattle.cov_cond.specs.IfLines.{IsExpressionText}
use Rattle.cov_cond.proofs.Expressions.{expression-reach}
use Rattle.cov_cond.proofs.ReadingBack.{parts-few}

-- other names leave the parts as many
parts-renamed : {X Y : Type 0} (f : X → Y) (e : Formula X) → part_count (renamed f e) ≡ part_count e
parts-renamed f False = refl
parts-renamed f True = refl
parts-renamed f (On o) = refl
parts-renamed f (Not e) = ap (λ n. 1 + n) (parts-renamed f e)
parts-renamed f (And a b) = λ i. 1 + parts-renamed f a i + parts-renamed f b i
parts-renamed f (Or a b) = λ i. 1 + parts-renamed f a i + parts-renamed f b i

above : (n most : ℕ) → most < n → nat_le n most ≡ false
above n most h = grind (arith, nat_tests, h)

-- an expression of too many parts has too many tokens
pub many-parts : TextsSpell → (names : List (List ℕ)) (e : Formula ℕ) → list_all is_option_name names ≡ true → reach e ≤ length names → MOST_PARTS < part_count e
    → is_few (token_count (tokens_of (text_of (option_name names) e))) ≡ false
many-parts spell names e spelt low many =
    let is : IsTextOf (text_of (option_name names) e) (with_names names e) = spell names e spelt low in
    let few = parts-few is.spelt in
    let same : part_count (with_names names e) ≡ part_count e = parts-renamed (option_name names) e in
    let long : length (bare is.tokens) ≡ length is.tokens = length-map is.tokens (λ (t : ℕ × Token). t.1) in
    ap (λ l. is_few (token_count l)) is.read ∙ above (length is.tokens) MOST_TOKENS (omega (arith, few, same, long, many))

pub many-listed : TextsSpell → (names : List (List ℕ)) (l : ListingValue) → list_all is_option_name names ≡ true → has_options_below (length names) l ≡ true → MOST_PARTS < part_count (expression_of l) → is_short names l ≡ false
many-listed spell names l spelt options many = many-parts spell names (expression_of l) spelt (expression-reach (length names) l options) many

-- what reading the text of an expression tells of its tokens
bare-append : (xs ys : List (ℕ × Token)) → bare (xs ++ ys) ≡ bare xs ++ bare ys
bare-append [] ys = refl
bare-append (x ∷ xs) ys = ap (λ ts. x.1 ∷ ts) (bare-append xs ys)

not-stuck : (ts : List (ℕ × Token)) (e : Formula (List ℕ)) (at : ℕ) → IsExpression (bare ts) e → IsStuckAt ts at → ⊥
not-stuck ts e at h s = s.stuck (bare s.behind, e, subst (λ us. IsExpression us e) whole h)
  where
    whole : bare ts ≡ bare (s.before ++ (at, s.token) ∷ []) ++ bare s.behind
    whole = ap bare (s.all ∙ sym (append_assoc s.before ((at, s.token) ∷ []) s.behind)) ∙ bare-append (s.before ++ (at, s.token) ∷ []) s.behind

-- what an answer of reading says of the count of tokens
abbrev pub TellsFew : Lexed → Result (Formula (List ℕ)) ExprFault → Type 0
TellsFew lexed (Ok e) = is_few (token_count lexed) ≡ true
TellsFew lexed (Err faults.TooLong) = is_few (token_count lexed) ≡ false
TellsFew lexed (Err (faults.Syntax at)) = ⊥
TellsFew lexed (Err faults.Memory) = Unit {0}

within : (n most : ℕ) → n ≤ most → nat_le n most ≡ true
within n most h = grind (arith, nat_tests, h)

told-by : (size : ℕ) (ts : List (ℕ × Token)) (e : Formula (List ℕ)) → IsExpression (bare ts) e → (answer : Result (Formula (List ℕ)) ExprFault) → IsParsed size (Tokens ts) answer → TellsFew (Tokens ts) answer
told-by size ts e spelt (Ok f) h = within (length ts) MOST_TOKENS h.0
told-by size ts e spelt (Err faults.TooLong) h = above (length ts) MOST_TOKENS h
told-by size ts e spelt (Err faults.Memory) h = tt
told-by size ts e spelt (Err (faults.Syntax at)) h = by h.1
  where
    by : IsStuckAt ts at ⊎ (IsUnfinished (bare ts) × (at ≡ size)) → ⊥
    by (inl stuck) = not-stuck ts e at spelt stuck
    by (inr unfinished) = unfinished.0.none e spelt

pub tells-few : (text : List ℕ) (answer : Result (Formula (List ℕ)) ExprFault) → IsExpressionText text → IsParsed (length text) (tokens_of text) answer → TellsFew (tokens_of text) answer
tells-few text answer is h =
    subst (λ l. TellsFew l answer) (sym is.1.read) (told-by (length text) is.1.tokens is.0 is.1.spelt answer (subst (λ l. IsParsed (length text) l answer) is.1.read h))

-- a name has at most so many bytes
name-bytes : (names : List (List ℕ)) (o : ℕ) → list_all is_option_name names ≡ true → length (option_name names o) ≤ MOST_OPTION_NAME_BYTES
name-bytes [] o h = omega arith
name-bytes (name ∷ names) zero h =
    let own = (and_parts (is_option_name name) (list_all is_option_name names) h).0 in
    let sized = (and_parts (is_word name) (nat_le (length name) MOST_OPTION_NAME_BYTES && not (list_any (bytes_eq name) reserved_words)) own).1 in
    let few = (and_parts (nat_le (length name) MOST_OPTION_NAME_BYTES) (not (list_any (bytes_eq name) reserved_words)) sized).0 in
    grind (arith, nat_tests, few)
name-bytes (name ∷ names) (suc o) h = name-bytes names o (and_parts (is_option_name name) (list_all is_option_name names) h).1

grouped-bytes : (b : Bool) (text : List ℕ) → length (grouped b text) ≤ length text + 2
grouped-bytes true text = let long = length-append text (codes ")") in omega (arith, long)
grouped-bytes false text = omega arith

-- so a text has at most so many bytes for each part
pub text-bytes : (names : List (List ℕ)) (e : Formula ℕ) → list_all is_option_name names ≡ true → length (text_of (option_name names) e) ≤ 66 * part_count e
text-bytes names False h = omega arith
text-bytes names True h = omega arith
text-bytes names (On o) h = omega (arith, name-bytes names o h)
text-bytes names (Not e) h = omega (arith, text-bytes names e h, grouped-bytes (is_binary e) (text_of (option_name names) e))
text-bytes names (And a b) h =
    let left : List ℕ = grouped (is_or a) (text_of (option_name names) a) in
    let right : List ℕ = grouped (is_binary b) (text_of (option_name names) b) in
    omega (arith, text-bytes names a h, text-bytes names b h, grouped-bytes (is_or a) (text_of (option_name names) a), grouped-bytes (is_binary b) (text_of (option_name names) b), length-append left (codes " & " ++ right))
text-bytes names (Or a b) h =
    let left : List ℕ = text_of (option_name names) a in
    let right : List ℕ = grouped (is_or b) (text_of (option_name names) b) in
    omega (arith, text-bytes names a h, text-bytes names b h, grouped-bytes (is_or b) (text_of (option_name names) b), length-append left (codes " | " ++ right))
