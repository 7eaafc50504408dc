-- What holds of the grammar of expressions, of reading by it, and of printing.
use Rattle.std.specs.Prelude.{◌≡◌, ◌↔◌, ℕ, ◌≤◌, true, List, length, Result, Ok}
use Rattle.std.specs.List.{list_all, IsDistinct}
use Rattle.std.specs.Str.{bytes_eq}
use Rattle.cov_base.specs.Answers.{IsOrMemory}
use Rattle.cov_base.specs.Spelling.{is_option_name}
use Rattle.cov_base.specs.declared.limits.TheConstants.{MOST_TOKENS}
use Rattle.cov_expr.specs.ExpressionText.{text_of, IsTextOf}
use Rattle.cov_expr.specs.Formula.{Formula, reach}
use Rattle.cov_expr.specs.Grammar.{Rule, Spells}
use Rattle.cov_expr.specs.Naming.{bound_expression, with_names}
use Rattle.cov_expr.specs.Options.{option_name}
use Rattle.cov_expr.specs.Parsing.{IsParsed}
use Rattle.cov_expr.specs.Reading.{parsed, is_memory}
use Rattle.cov_expr.specs.Tokens.{tokens_of, token_count}
use Rattle.cov_expr.specs.declared.spelling.ExprFault.{ExprFault}
use Rattle.cov_expr.specs.declared.token.Token.{Token}

-- by each rule, tokens spell one expression at most
abbrev pub SpellOneExpression : Type 0
SpellOneExpression = (rule : Rule) (tokens : List Token) (e f : Formula (List ℕ)) → Spells rule tokens e → Spells rule tokens f → e ≡ f

-- what reading token by token gives is what the grammar says of a text, and nothing else is
abbrev pub ReadsByGrammar : Type 0
ReadsByGrammar = (bytes : List ℕ) (answer : Result (Formula (List ℕ)) ExprFault) → IsOrMemory is_memory (parsed bytes) answer ↔ IsParsed (length bytes) (tokens_of bytes) answer

-- the text of an expression over options spells it by the grammar, however long the text is
abbrev pub TextsSpell : Type 0
TextsSpell = (names : List (List ℕ)) (e : Formula ℕ) → list_all is_option_name names ≡ true → reach e ≤ length names → IsTextOf (text_of (option_name names) e) (with_names names e)

-- reading the text of an expression over options gives it where the text has no more tokens than the limit
abbrev pub TextsReadBack : Type 0
TextsReadBack = (names : List (List ℕ)) (e : Formula ℕ) (count : ℕ) → list_all is_option_name names ≡ true → reach e ≤ length names → token_count (tokens_of (text_of (option_name names) e)) ≡ Ok count → count ≤ MOST_TOKENS → parsed (text_of (option_name names) e) ≡ Ok (with_names names e)

-- binding the names of an expression over options gives it again
abbrev pub NamesBindBack : Type 0
NamesBindBack = (names : List (List ℕ)) (e : Formula ℕ) → IsDistinct bytes_eq names → reach e ≤ length names → bound_expression names (with_names names e) ≡ Ok e
