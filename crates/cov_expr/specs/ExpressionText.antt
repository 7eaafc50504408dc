-- The texts of expressions.
use Rattle.std.specs.Prelude.{◌≡◌, ℕ, Bool, true, false, List, ◌++◌, codes}
use Rattle.cov_expr.specs.Formula.{Formula, False, True, On, Not, And, Or}
use Rattle.cov_expr.specs.Grammar.{IsExpression}
use Rattle.cov_expr.specs.Parsing.{bare}
use Rattle.cov_expr.specs.Tokens.{Tokens, tokens_of}
use Rattle.cov_expr.specs.declared.token.Token.{Token}

-- whether it is two expressions with an | between them
abbrev pub is_or : {X : Type 0} → Formula X → Bool
is_or (Or a b) = true
is_or _ = false

-- whether it is two expressions with an & or an | between them
abbrev pub is_binary : {X : Type 0} → Formula X → Bool
is_binary (And a b) = true
is_binary (Or a b) = true
is_binary _ = false

-- a text, in parentheses where it is to have them
abbrev pub grouped : Bool → List ℕ → List ℕ
grouped true text = codes "(" ++ (text ++ codes ")")
grouped false text = text

-- the text of an expression with the fewest parentheses, and one space on each side of & and |, by the names' texts
abbrev pub text_of : {X : Type 0} → (X → List ℕ) → Formula X → List ℕ
text_of name False = codes "false"
text_of name True = codes "true"
text_of name (On o) = name o
text_of name (Not e) = codes "!" ++ grouped (is_binary e) (text_of name e)
text_of name (And a b) = grouped (is_or a) (text_of name a) ++ (codes " & " ++ grouped (is_binary b) (text_of name b))
text_of name (Or a b) = text_of name a ++ (codes " | " ++ grouped (is_or b) (text_of name b))

-- a text's tokens are the expression
pub record IsTextOf (text : List ℕ) (e : Formula (List ℕ)) : Type 0 where
  pub tokens : List (ℕ × Token)
  pub read : tokens_of text ≡ Tokens tokens
  pub spelt : IsExpression (bare tokens) e
