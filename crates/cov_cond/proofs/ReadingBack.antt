-- What is exported is read back.
use Rattle.std.proofs.Common.{◌≡◌, ℕ, ◌+◌, ◌≤◌, Bool, true, false, nat_eq, nat_lt, List, [], ◌∷◌, ◌++◌, map, length, length-append, append_assoc, Result, Ok, Err, if◌then◌else◌, refl, ap, subst, ◌∙◌, arith}
use Rattle.std.specs.Prelude.{codes}
use Rattle.std.specs.List.{list_all, IsDistinct}
use Rattle.std.specs.Str.{bytes_eq}
use Rattle.std.proofs.lemmas.Bool.{and_parts}
use Rattle.std.proofs.lemmas.Bool.Decides.{nat_tests}
use Rattle.std.proofs.lemmas.List.{length-map}
use Rattle.cov_base.specs.Spelling.{is_line_text, is_option_name}
use Rattle.cov_base.specs.declared.limits.TheConstants.{MOST_PARTS, MOST_TOKENS}
use Rattle.cov_expr.specs.ExpressionText.{text_of}
use Rattle.cov_expr.specs.Formula.{Formula, part_count, reach}
use Rattle.cov_expr.specs.Grammar.{Rule, Spells, lone_and, either, lone_not, both, negated, single, named, always, never, in_parentheses}
use Rattle.cov_expr.specs.Laws.{ReadsByGrammar, TextsReadBack, NamesBindBack}
use Rattle.cov_expr.specs.Naming.{bound_expression, with_names}
use Rattle.cov_expr.specs.Options.{option_name}
use Rattle.cov_expr.specs.Parsing.{bare, IsParsed}
use Rattle.cov_expr.specs.Reading.{parsed}
use Rattle.cov_expr.specs.Tokens.{Lexed, Tokens, BadByte, tokens_of, token_count}
use Rattle.cov_expr.specs.declared.token.Token.{Token}
use Rattle.cov_expr.specs.declared.token.Token.TheVariants.{Amp, Bar, Close}
use Rattle.cov_cond_text.specs.Conditional.{CondLine}
use Rattle.cov_cond.specs.Exporting.{text_line}
use Rattle.cov_cond_text.specs.Reading.{TextForm, IfForm, NoForm, text_form, form_of, Reading, line_read, opened_if, after_if, adding_none, after_line, lines_then, then_read, read_from}
use Rattle.cov_cond_text.specs.declared.fault.CondFault.{CondFault}
use Rattle.cov_cond_text.specs.declared.fault.CondFault.TheVariants as faults

-- an expression has no more parts than tokens
pub parts-few : {rule : Rule} {ts : List Token} {e : Formula (List ℕ)} → Spells rule ts e → part_count e ≤ length ts
parts-few (lone_and h) = parts-few h
parts-few (either {ts = ts} {us = us} split h k) =
    let a = parts-few h in
    let b = parts-few k in
    let all = ap length split in
    let long = length-append ts (Bar ∷ us) in
    omega (arith, a, b, all, long)
parts-few (lone_not h) = parts-few h
parts-few (both {ts = ts} {us = us} split h k) =
    let a = parts-few h in
    let b = parts-few k in
    let all = ap length split in
    let long = length-append ts (Amp ∷ us) in
    omega (arith, a, b, all, long)
parts-few (negated h) = let a = parts-few h in omega (arith, a)
parts-few (single h) = parts-few h
parts-few (named n h) = omega arith
parts-few always = omega arith
parts-few never = omega arith
parts-few (in_parentheses {ts = ts} split h) =
    let a = parts-few h in
    let all = ap length split in
    let long = length-append ts (Close ∷ []) in
    omega (arith, a, all, long)

-- the form of each line that is printed
form-text : (text : List ℕ) → is_line_text text ≡ true → form_of (text_line text) ≡ TextForm text
form-text [] h = refl
form-text (b ∷ bs) h = at (nat_eq b 35) refl
  where
    at : (t : Bool) → nat_eq b 35 ≡ t → form_of (if t then 35 ∷ b ∷ bs else b ∷ bs) ≡ TextForm (b ∷ bs)
    at true e =
        let same : 35 ≡ b = grind (arith, nat_tests, e) in
        subst (λ d. form_of (35 ∷ d ∷ bs) ≡ text_form (d ∷ bs)) same refl
        ∙ ap (λ t. if t then TextForm (b ∷ bs) else NoForm) h
    at false e = rw e (ap (λ t. if t then TextForm (b ∷ bs) else NoForm) h)

form-if : (expression : List ℕ) → form_of (codes "#if " ++ expression) ≡ IfForm expression
form-if expression = refl

-- no lines before others
nothing-more : (r : Result (List CondLine) CondFault) → lines_then [] r ≡ r
nothing-more (Ok ls) = refl
nothing-more (Err fault) = refl

-- whatever their number, lines give these
abbrev pub Gives : List (List ℕ) → Reading → List (List ℕ) → List CondLine → Type 0
Gives names s lines ls = (n : ℕ) → read_from names n s lines ≡ Ok ls

module _ (names : List (List ℕ)) where
  pub texts-given : (s : Reading) (texts : List (List ℕ)) (rest : List (List ℕ)) (ls : List CondLine) → list_all is_line_text texts ≡ true → Gives names s rest ls
      → Gives names s (map text_line texts ++ rest) (map (line_read s) texts ++ ls)
  texts-given s [] rest ls h g = g
  texts-given s (text ∷ texts) rest ls h g = λ n.
      let parts = and_parts (is_line_text text) (list_all is_line_text texts) h in
      ap (λ f. then_read (after_line names n s f) (λ t. read_from names (n + 1) t (map text_line texts ++ rest))) (form-text text parts.0)
      ∙ ap (lines_then (line_read s text ∷ [])) (texts-given s texts rest ls parts.1 g (n + 1))

  -- an expression whose text has few tokens is read between its lines
  module _ (spelt : list_all is_option_name names ≡ true) (distinct : IsDistinct bytes_eq names) (grammar : ReadsByGrammar) (back : TextsReadBack) (bind : NamesBindBack)
      (e : Formula ℕ) (within : reach e ≤ length names) (count : ℕ) (counted : token_count (tokens_of (text_of (option_name names) e)) ≡ Ok count) (few : count ≤ MOST_TOKENS) where
    abbrev text : List ℕ
    text = text_of (option_name names) e

    is_read : parsed text ≡ Ok (with_names names e)
    is_read = back names e count spelt within counted few

    parts : part_count (with_names names e) ≤ MOST_PARTS
    parts = by (tokens_of text) refl ((grammar text (Ok (with_names names e))).0 is_read)
      where
        by : (lexed : Lexed) → tokens_of text ≡ lexed → IsParsed (length text) lexed (Ok (with_names names e)) → part_count (with_names names e) ≤ MOST_PARTS
        by (BadByte at) same h = absurd h
        by (Tokens ts) same h =
            let a = parts-few h.1 in
            let b : length ts ≤ MOST_TOKENS = h.0 in
            let long : length (bare ts) ≡ length ts = length-map ts (λ (t : ℕ × Token). t.1) in
            omega (arith, a, b, long)

    opened : (n d : ℕ) → after_if names n (record { blocks = []; directives = d }) (parsed text) ≡ Ok (record { blocks = record { condition = e; has_else = false } ∷ []; directives = d + 1 })
    opened n d =
        ap (after_if names n (record { blocks = []; directives = d })) is_read
        ∙ ap (λ b. if b then Err (faults.TooLong n) else opened_if n (record { blocks = []; directives = d }) (bound_expression names (with_names names e))) short
        ∙ ap (opened_if n (record { blocks = []; directives = d })) (bind names e distinct within)
      where
        short : nat_lt MOST_PARTS (part_count (with_names names e)) ≡ false
        short = not-above MOST_PARTS (part_count (with_names names e)) parts
          where
            not-above : (most m : ℕ) → m ≤ most → nat_lt most m ≡ false
            not-above most m h = grind (arith, nat_tests, h)

    -- a run between its lines is read
    pub enclosed-given : (d : ℕ) (texts : List (List ℕ)) (rest : List (List ℕ)) (ls : List CondLine) → list_all is_line_text texts ≡ true
        → Gives names (record { blocks = []; directives = d + 1 + 1 }) rest ls
        → Gives names (record { blocks = []; directives = d }) ((codes "#if " ++ text) ∷ ((map text_line texts ++ codes "#endif" ∷ []) ++ rest))
        (map (λ t. record { conditions = e ∷ []; text = t; group = d + 1 }) texts ++ ls)
    enclosed-given d texts rest ls h g = λ n.
        ap (λ r. then_read (adding_none r) (λ t. read_from names (n + 1) t ((map text_line texts ++ codes "#endif" ∷ []) ++ rest))) (opened n d)
        ∙ nothing-more (read_from names (n + 1) inside ((map text_line texts ++ codes "#endif" ∷ []) ++ rest))
        ∙ ap (read_from names (n + 1) inside) (append_assoc (map text_line texts) (codes "#endif" ∷ []) rest)
        ∙ texts-given inside texts (codes "#endif" ∷ rest) ls h (λ m. nothing-more (read_from names (m + 1) (record { blocks = []; directives = d + 1 + 1 }) rest) ∙ g (m + 1)) (n + 1)
      where
        inside : Reading
        inside = record { blocks = record { condition = e; has_else = false } ∷ []; directives = d + 1 }
