-- The grammar of expressions.
use Rattle.std.specs.Prelude.{◌≡◌, ℕ, Bool, true, false, List, [], ◌∷◌, ◌++◌, Option, Some, None, if◌then◌else◌, codes}
use Rattle.std.specs.Str.{bytes_eq}
use Rattle.cov_expr.specs.Formula.{Formula, False, True, On, Not, And, Or}
use Rattle.cov_expr.specs.declared.token.Token.{Token}
use Rattle.cov_expr.specs.declared.token.Token.TheVariants.{Word, Bang, Amp, Bar, Open, Close}

-- the truth value that a word is, none where it is a name
abbrev pub constant_of : List ℕ → Option Bool
constant_of word =
    if bytes_eq word (codes "true") then Some true
    else (if bytes_eq word (codes "false") then Some false
    else None)

-- a constant, or a name where there is none
abbrev pub constant_or_name : Option Bool → List ℕ → Formula (List ℕ)
constant_or_name (Some true) word = True
constant_or_name (Some false) word = False
constant_or_name None word = On word

-- the expression that a word is
abbrev pub word_formula : List ℕ → Formula (List ℕ)
word_formula word = constant_or_name (constant_of word) word

-- the four rules of the grammar
pub data Rule : Type 0 where
  OrRule : Rule
  AndRule : Rule
  NotRule : Rule
  AtomRule : Rule

-- tokens are an expression by a rule; both operators group to the left
pub data Spells : Rule → List Token → Formula (List ℕ) → Type 0 where
  lone_and : {ts : List Token} {e : Formula (List ℕ)} → Spells AndRule ts e → Spells OrRule ts e
  either : {ts us all : List Token} {a b : Formula (List ℕ)} → all ≡ ts ++ Bar ∷ us → Spells OrRule ts a → Spells AndRule us b → Spells OrRule all (Or a b)
  lone_not : {ts : List Token} {e : Formula (List ℕ)} → Spells NotRule ts e → Spells AndRule ts e
  both : {ts us all : List Token} {a b : Formula (List ℕ)} → all ≡ ts ++ Amp ∷ us → Spells AndRule ts a → Spells NotRule us b → Spells AndRule all (And a b)
  negated : {ts : List Token} {e : Formula (List ℕ)} → Spells NotRule ts e → Spells NotRule (Bang ∷ ts) (Not e)
  single : {ts : List Token} {e : Formula (List ℕ)} → Spells AtomRule ts e → Spells NotRule ts e
  named : (n : List ℕ) → constant_of n ≡ None → Spells AtomRule (Word n ∷ []) (On n)
  always : Spells AtomRule (Word (codes "true") ∷ []) True
  never : Spells AtomRule (Word (codes "false") ∷ []) False
  in_parentheses : {ts all : List Token} {e : Formula (List ℕ)} → all ≡ Open ∷ (ts ++ Close ∷ []) → Spells OrRule ts e → Spells AtomRule all e

-- the tokens are an expression
abbrev pub IsExpression : List Token → Formula (List ℕ) → Type 0
IsExpression tokens e = Spells OrRule tokens e

-- some expression begins with the tokens
abbrev pub BeginsExpression : List Token → Type 0
BeginsExpression tokens = (rest : List Token) × (e : Formula (List ℕ)) × IsExpression (tokens ++ rest) e
