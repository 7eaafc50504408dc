-- The text of an expression: its tokens, and that they spell it.
use Rattle.std.proofs.Common.{◌≡◌, ℕ, ◌+◌, ◌≤◌, Bool, true, false, List, [], ◌∷◌, ◌++◌, length, refl, ap, sym, ◌∙◌, subst, append_assoc}
use Rattle.std.proofs.lemmas.List.{append-nil}
use Rattle.std.specs.Prelude.{Option, Some, None, Ok, codes}
use Rattle.std.specs.Option.{option_map}
use Rattle.cov_base.specs.Spelling.{is_word}
use Rattle.cov_base.specs.declared.limits.TheConstants.{MOST_TOKENS}
use Rattle.cov_expr.specs.ExpressionText.{is_or, is_binary, grouped, text_of, IsTextOf}
use Rattle.cov_expr.specs.Formula.{Formula, False, True, On, Not, And, Or, renamed}
use Rattle.cov_expr.specs.Grammar.{Rule, OrRule, AndRule, NotRule, AtomRule, Spells, lone_and, either, lone_not, both, negated, single, named, always, never, in_parentheses, IsExpression}
use Rattle.cov_expr.specs.Parsing.{bare, IsParsed}
use Rattle.cov_expr.specs.Reading.{parsed}
use Rattle.cov_expr.specs.Tokens.{Lexed, Tokens, BadByte, token_then, tokens_from, tokens_of, token_count}
use Rattle.cov_expr.specs.declared.token.Token.{Token}
use Rattle.cov_expr.specs.declared.token.Token.TheVariants.{Word, Bang, Amp, Bar, Open, Close}
use Rattle.cov_expr.proofs.Parsing.{parsed-is_answer}
use Rattle.cov_expr.proofs.Words.{IsNameWord, ends_word, word_before}

-- the tokens without their places, if every byte is a space or part of one
abbrev bare_of : Lexed → Option (List Token)
bare_of (Tokens ts) = Some (bare ts)
bare_of (BadByte at) = None

-- from whatever place on, the text has these tokens
abbrev Lexes : List ℕ → List Token → Type 0
Lexes text ts = (at : ℕ) → bare_of (tokens_from at 0 text) ≡ Some ts

-- the text has these tokens before whatever goes on with no word
abbrev LexesBefore : List ℕ → List Token → Type 0
LexesBefore text ts = (rest : List ℕ) (us : List Token) → ends_word rest ≡ true → Lexes rest us → Lexes (text ++ rest) (ts ++ us)

bare-then : (at : ℕ) (t : Token) (later : Lexed) (ts : List Token) → bare_of later ≡ Some ts → bare_of (token_then (at, t) later) ≡ Some (t ∷ ts)
bare-then at t (Tokens us) ts h = ap (option_map (λ us. t ∷ us)) h
bare-then at t (BadByte bad) ts h = ap (option_map (λ us. t ∷ us)) h

space : (rest : List ℕ) (us : List Token) → Lexes rest us → Lexes (32 ∷ rest) us
space rest us h = λ at. h (at + 1)

-- a token of one byte before others
abbrev IsSign : ℕ → Token → Type 0
IsSign b t = (rest : List ℕ) (us : List Token) → Lexes rest us → Lexes (b ∷ rest) (t ∷ us)

bang : IsSign 33 Bang
bang rest us h = λ at. bare-then at Bang (tokens_from (at + 1) 0 rest) us (h (at + 1))

amp : IsSign 38 Amp
amp rest us h = λ at. bare-then at Amp (tokens_from (at + 1) 0 rest) us (h (at + 1))

bar : IsSign 124 Bar
bar rest us h = λ at. bare-then at Bar (tokens_from (at + 1) 0 rest) us (h (at + 1))

open_sign : IsSign 40 Open
open_sign rest us h = λ at. bare-then at Open (tokens_from (at + 1) 0 rest) us (h (at + 1))

close_sign : IsSign 41 Close
close_sign rest us h = λ at. bare-then at Close (tokens_from (at + 1) 0 rest) us (h (at + 1))

word_lexes : (word : List ℕ) → is_word word ≡ true → LexesBefore word (Word word ∷ [])
word_lexes word spelt rest us ends h = λ at.
    ap bare_of (word_before at word rest spelt ends) ∙ bare-then at (Word word) (tokens_from (at + length word) 0 rest) us (h (at + length word))

-- tokens, in parentheses where they are to have them
abbrev grouped_tokens : Bool → List Token → List Token
grouped_tokens true ts = Open ∷ (ts ++ Close ∷ [])
grouped_tokens false ts = ts

grouped_lexes : (b : Bool) (text : List ℕ) (ts : List Token) → LexesBefore text ts → LexesBefore (grouped b text) (grouped_tokens b ts)
grouped_lexes false text ts h = h
grouped_lexes true text ts h = λ rest us ends later.
    let inner = h (41 ∷ rest) (Close ∷ us) refl (close_sign rest us later) in
    rw (append_assoc text (41 ∷ []) rest, append_assoc ts (Close ∷ []) us) (open_sign (text ++ 41 ∷ rest) (ts ++ Close ∷ us) inner)

-- two texts with an operator between them
joined_lexes : (b : ℕ) (t : Token) → IsSign b t → (left right : List ℕ) (ts us : List Token) → LexesBefore left ts → LexesBefore right us → LexesBefore (left ++ 32 ∷ b ∷ 32 ∷ right) (ts ++ t ∷ us)
joined_lexes b t sign left right ts us h k rest vs ends later =
    let behind = sign (32 ∷ (right ++ rest)) (us ++ vs) (space (right ++ rest) (us ++ vs) (k rest vs ends later)) in
    let all = h (32 ∷ b ∷ 32 ∷ (right ++ rest)) (t ∷ (us ++ vs)) refl (space (b ∷ 32 ∷ (right ++ rest)) (t ∷ (us ++ vs)) behind) in
    rw (append_assoc left (32 ∷ b ∷ 32 ∷ right) rest, append_assoc ts (t ∷ us) vs) all

module _ {X : Type 0} (name : X → List ℕ) where
  -- each name of an expression is a word
  abbrev pub HasNameWords : Formula X → Type 0
  HasNameWords False = Unit {0}
  HasNameWords True = Unit {0}
  HasNameWords (On o) = IsNameWord (name o)
  HasNameWords (Not e) = HasNameWords e
  HasNameWords (And a b) = HasNameWords a × HasNameWords b
  HasNameWords (Or a b) = HasNameWords a × HasNameWords b

  -- the tokens of an expression's text
  abbrev printed_tokens : Formula X → List Token
  printed_tokens False = Word (codes "false") ∷ []
  printed_tokens True = Word (codes "true") ∷ []
  printed_tokens (On o) = Word (name o) ∷ []
  printed_tokens (Not e) = Bang ∷ grouped_tokens (is_binary e) (printed_tokens e)
  printed_tokens (And a b) = grouped_tokens (is_or a) (printed_tokens a) ++ Amp ∷ grouped_tokens (is_binary b) (printed_tokens b)
  printed_tokens (Or a b) = printed_tokens a ++ Bar ∷ grouped_tokens (is_or b) (printed_tokens b)

  text_lexes : (e : Formula X) → HasNameWords e → LexesBefore (text_of name e) (printed_tokens e)
  text_lexes False words = word_lexes (codes "false") refl
  text_lexes True words = word_lexes (codes "true") refl
  text_lexes (On o) words = word_lexes (name o) words.0
  text_lexes (Not e) words = λ rest us ends later.
      bang (grouped (is_binary e) (text_of name e) ++ rest) (grouped_tokens (is_binary e) (printed_tokens e) ++ us)
      (grouped_lexes (is_binary e) (text_of name e) (printed_tokens e) (text_lexes e words) rest us ends later)
  text_lexes (And a b) words =
      joined_lexes 38 Amp amp (grouped (is_or a) (text_of name a)) (grouped (is_binary b) (text_of name b)) (grouped_tokens (is_or a) (printed_tokens a)) (grouped_tokens (is_binary b) (printed_tokens b))
      (grouped_lexes (is_or a) (text_of name a) (printed_tokens a) (text_lexes a words.0))
      (grouped_lexes (is_binary b) (text_of name b) (printed_tokens b) (text_lexes b words.1))
  text_lexes (Or a b) words =
      joined_lexes 124 Bar bar (text_of name a) (grouped (is_or b) (text_of name b)) (printed_tokens a) (grouped_tokens (is_or b) (printed_tokens b))
      (text_lexes a words.0)
      (grouped_lexes (is_or b) (text_of name b) (printed_tokens b) (text_lexes b words.1))

  -- the tightest rule by which an expression is printed
  abbrev rule_of : Formula X → Rule
  rule_of (Or a b) = OrRule
  rule_of (And a b) = AndRule
  rule_of (Not e) = NotRule
  rule_of _ = AtomRule

  -- the printed tokens of an expression spell it by that rule
  abbrev IsSpelt : Formula X → Type 0
  IsSpelt e = Spells (rule_of e) (printed_tokens e) (renamed name e)

  as_or : (e : Formula X) → IsSpelt e → Spells OrRule (printed_tokens e) (renamed name e)
  as_or (Or a b) h = h
  as_or (And a b) h = lone_and h
  as_or (Not e) h = lone_and (lone_not h)
  as_or False h = lone_and (lone_not (single h))
  as_or True h = lone_and (lone_not (single h))
  as_or (On o) h = lone_and (lone_not (single h))

  in_group : (e : Formula X) → IsSpelt e → Spells NotRule (grouped_tokens true (printed_tokens e)) (renamed name e)
  in_group e h = single (in_parentheses refl (as_or e h))

  -- as the right part of an |
  below_or : (e : Formula X) → IsSpelt e → Spells AndRule (grouped_tokens (is_or e) (printed_tokens e)) (renamed name e)
  below_or (Or a b) h = lone_not (in_group (Or a b) h)
  below_or (And a b) h = h
  below_or (Not e) h = lone_not h
  below_or False h = lone_not (single h)
  below_or True h = lone_not (single h)
  below_or (On o) h = lone_not (single h)

  -- as the right part of an &, or below a !
  below_and : (e : Formula X) → IsSpelt e → Spells NotRule (grouped_tokens (is_binary e) (printed_tokens e)) (renamed name e)
  below_and (Or a b) h = in_group (Or a b) h
  below_and (And a b) h = in_group (And a b) h
  below_and (Not e) h = h
  below_and False h = single h
  below_and True h = single h
  below_and (On o) h = single h

  text_spells : (e : Formula X) → HasNameWords e → IsSpelt e
  text_spells False words = never
  text_spells True words = always
  text_spells (On o) words = named (name o) words.1
  text_spells (Not e) words = negated (below_and e (text_spells e words))
  text_spells (And a b) words = both refl (below_or a (text_spells a words.0)) (below_and b (text_spells b words.1))
  text_spells (Or a b) words = either refl (as_or a (text_spells a words.0)) (below_or b (text_spells b words.1))

  -- the text of an expression is one by the grammar
  pub text_is : (e : Formula X) → HasNameWords e → IsTextOf (text_of name e) (renamed name e)
  text_is e words = by (tokens_of (text_of name e)) refl whole_text
    where
      nothing : Lexes [] []
      nothing = λ at. refl

      whole_text : bare_of (tokens_of (text_of name e)) ≡ Some (printed_tokens e)
      whole_text =
          ap (λ text. bare_of (tokens_of text)) (sym (append-nil (text_of name e)))
          ∙ text_lexes e words [] [] refl nothing 0
          ∙ ap Some (append-nil (printed_tokens e))

      by : (lexed : Lexed) → tokens_of (text_of name e) ≡ lexed → bare_of lexed ≡ Some (printed_tokens e) → IsTextOf (text_of name e) (renamed name e)
      by (Tokens ts) read h =
          let same : printed_tokens e ≡ bare ts = cc in
          record { tokens = ts; read = read; spelt = subst (λ us. IsExpression us (renamed name e)) same (as_or e (text_spells e words)) }
      by (BadByte at) read h = cc

-- reading the text of an expression with few tokens gives it
pub text_read : (text : List ℕ) (e : Formula (List ℕ)) (count : ℕ) → IsTextOf text e → token_count (tokens_of text) ≡ Ok count → count ≤ MOST_TOKENS → parsed text ≡ Ok e
text_read text e count is counted few =
    let size : length is.tokens ≡ count = let same = sym (ap token_count is.read) ∙ counted in cc in
    let short : length is.tokens ≤ MOST_TOKENS = rw size few in
    parsed-is_answer text (Ok e) (subst (λ lexed. IsParsed (length text) lexed (Ok e)) (sym is.read) (short, is.spelt))
