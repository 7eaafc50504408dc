-- What a text is by the grammar of expressions.
use Rattle.std.specs.Prelude.{◌≡◌, ◌⊎◌, ℕ, ◌<◌, ◌≤◌, List, [], ◌∷◌, ◌++◌, map, length, Result, Ok, Err}
use Rattle.cov_base.specs.declared.limits.TheConstants.{MOST_TOKENS}
use Rattle.cov_expr.specs.Formula.{Formula}
use Rattle.cov_expr.specs.Grammar.{IsExpression, BeginsExpression}
use Rattle.cov_expr.specs.Tokens.{Lexed, Tokens, BadByte}
use Rattle.cov_expr.specs.declared.spelling.ExprFault.{ExprFault}
use Rattle.cov_expr.specs.declared.spelling.ExprFault.TheVariants.{Syntax, TooLong, Memory}
use Rattle.cov_expr.specs.declared.token.Token.{Token}

-- tokens without their places
abbrev pub bare : List (ℕ × Token) → List Token
bare ts = map (λ t. t.1) ts

-- the first token such that no expression begins with the tokens up to and including it has this place
pub record IsStuckAt (ts : List (ℕ × Token)) (at : ℕ) : Type 0 where
  pub before : List (ℕ × Token)
  pub token : Token
  pub behind : List (ℕ × Token)
  pub all : ts ≡ before ++ (at, token) ∷ behind
  pub begins : BeginsExpression (bare before)
  pub stuck : BeginsExpression (bare (before ++ (at, token) ∷ [])) → ⊥

-- an expression begins with the tokens, and they are none
pub record IsUnfinished (ts : List Token) : Type 0 where
  pub begins : BeginsExpression ts
  pub none : (e : Formula (List ℕ)) → IsExpression ts e → ⊥

-- what a text of a size with these tokens is: an expression, or the first reason why it is none
abbrev pub IsParsed : ℕ → Lexed → Result (Formula (List ℕ)) ExprFault → Type 0
IsParsed size (BadByte bad) (Ok e) = ⊥
IsParsed size (BadByte bad) (Err (Syntax at)) = at ≡ bad
IsParsed size (BadByte bad) (Err TooLong) = ⊥
IsParsed size (BadByte bad) (Err Memory) = Unit {0}
IsParsed size (Tokens ts) (Ok e) = (length ts ≤ MOST_TOKENS) × IsExpression (bare ts) e
IsParsed size (Tokens ts) (Err (Syntax at)) = (length ts ≤ MOST_TOKENS) × (IsStuckAt ts at ⊎ (IsUnfinished (bare ts) × (at ≡ size)))
IsParsed size (Tokens ts) (Err TooLong) = MOST_TOKENS < length ts
IsParsed size (Tokens ts) (Err Memory) = Unit {0}
