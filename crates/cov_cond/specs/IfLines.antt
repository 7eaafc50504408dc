-- The lines before the lines of an expression.
use Rattle.std.specs.Prelude.{◌≡◌, ℕ, true, false, List, ◌++◌, Option, Some, None, codes}
use Rattle.cov_expr.specs.ExpressionText.{text_of, IsTextOf}
use Rattle.cov_expr.specs.Formula.{Formula}
use Rattle.cov_expr.specs.Options.{option_name}
use Rattle.cov_expr.specs.Tokens.{tokens_of, token_count}
use Rattle.cov_cond.specs.Exporting.{is_few}

-- a text is that of an expression
abbrev pub IsExpressionText : List ℕ → Type 0
IsExpressionText text = (e : Formula (List ℕ)) × IsTextOf text e

-- the line before an expression's lines, or none where it is too long
abbrev pub IsLineOf : List (List ℕ) → Formula ℕ → Option (List ℕ) → Type 0
IsLineOf names e None = is_few (token_count (tokens_of (text_of (option_name names) e))) ≡ false
IsLineOf names e (Some line) = (is_few (token_count (tokens_of (text_of (option_name names) e))) ≡ true) × (line ≡ codes "#if " ++ text_of (option_name names) e)
