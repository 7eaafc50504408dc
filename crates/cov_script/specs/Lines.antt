-- The forms of lines.
use Rattle.std.specs.Prelude.{ℕ, Bool, true, false, nat_eq, List, [], ◌∷◌, map, length, Option, Some, None, Result, Ok, Err, if◌then◌else◌, codes}
use Rattle.std.specs.Str.{bytes_eq}
use Rattle.cov_base.specs.Spelling.{path_of}
use Rattle.cov_expr.specs.ChoiceText.{bindings_of, switch_of}
use Rattle.cov_expr.specs.Formula.{Formula}
use Rattle.cov_script.specs.Fields.{Rest, Got, go_on, field, at_end, expression, text, token_of, name_of, new_path_of, word_of, number_of, line_field_of, first_field, behind_field}
use Rattle.cov_script.specs.Kinds.{word_for}
use Rattle.cov_script.specs.declared.keyword.Keyword.{Keyword}
use Rattle.cov_script.specs.declared.keyword.Keyword.TheVariants as keywords
use Rattle.cov_script.specs.declared.line.Line.{Line}
use Rattle.cov_script.specs.declared.line.Line.TheVariants as lines
use Rattle.cov_script.specs.declared.line.LineField.{LineField}
use Rattle.cov_script.specs.declared.line.LineSyntax.{LineSyntax}
use Rattle.cov_script.specs.declared.line.LineSyntax.TheVariants.{Syntax}

-- the keywords
abbrev pub every_keyword : List Keyword
every_keyword = keywords.Option ∷ keywords.Constraint ∷ keywords.Prefer ∷ keywords.Default ∷ keywords.Complete ∷ keywords.Open ∷ keywords.Side ∷ keywords.MakeDir ∷ keywords.MakeFile ∷ keywords.Rename ∷ keywords.Move ∷ keywords.Remove ∷ keywords.Insert ∷ keywords.Delete ∷ keywords.Replace ∷ keywords.Show ∷ keywords.List ∷ keywords.Refresh ∷ keywords.Commit ∷ keywords.Drop ∷ keywords.Cat ∷ keywords.Checkout ∷ keywords.Alt ∷ keywords.Cond ∷ keywords.Where ∷ keywords.Upgrade ∷ keywords.Analyse ∷ keywords.Nearest ∷ keywords.Log ∷ keywords.Blame ∷ keywords.Past ∷ keywords.PastOut ∷ []

-- each keyword with its bytes
abbrev pub words : List (List ℕ × Keyword)
words = map (λ k. (word_for k, k)) every_keyword

-- the first of the words that bytes are
abbrev pub looked_up : List (List ℕ × Keyword) → List ℕ → Option Keyword
looked_up [] bytes = None
looked_up (word ∷ words) bytes = if bytes_eq bytes word.0 then Some word.1 else looked_up words bytes

-- the keyword that bytes are
abbrev pub keyword_of : List ℕ → Option Keyword
keyword_of bytes = looked_up words bytes

-- two fields, one behind the other
abbrev pub two_fields : {X Y : Type 0} → (List ℕ → Option X) → (List ℕ → Option Y) → Rest → Got (X × Y)
two_fields first second rest =
    go_on (field first rest) (λ a. go_on (field second a.1) (λ b. Ok ((a.0, b.0), b.1)))

-- one field, and nothing behind it
abbrev pub alone : {X : Type 0} → (List ℕ → Option X) → Rest → Result X LineSyntax
alone kind rest = go_on (field kind rest) (λ a. at_end a.0 a.1)

-- two fields, and nothing behind them
abbrev pub pair : {X Y : Type 0} → (List ℕ → Option X) → (List ℕ → Option Y) → Rest → Result (X × Y) LineSyntax
pair first second rest = go_on (two_fields first second rest) (λ a. at_end a.0 a.1)

-- three fields, and nothing behind them
abbrev pub triple : {X Y Z : Type 0} → (List ℕ → Option X) → (List ℕ → Option Y) → (List ℕ → Option Z) → Rest → Result (X × Y × Z) LineSyntax
triple first second third rest =
    go_on (two_fields first second rest) (λ a. go_on (alone third a.1) (λ z. Ok (a.0.0, a.0.1, z)))

-- the line that is made of what is read
abbrev pub made : {X : Type 0} → Result X LineSyntax → (X → Line) → Result Line LineSyntax
made read form = go_on read (λ x. Ok (form x))

-- a line, and a text behind it
abbrev pub line_and_text : Rest → Result (LineField × List ℕ) LineSyntax
line_and_text rest = go_on (field line_field_of rest) (λ a. go_on (text a.1) (λ t. Ok (a.0, t)))

-- a name, a path, a line, and a text behind them
abbrev pub named_text : Rest → Result (List ℕ × List (List ℕ) × LineField × List ℕ) LineSyntax
named_text rest = go_on (two_fields name_of path_of rest) (λ a. go_on (line_and_text a.1) (λ b. Ok (a.0.0, a.0.1, b.0, b.1)))

-- an ambition behind its word
abbrev pub ambition : Rest → Result (Formula (List ℕ)) LineSyntax
ambition rest = go_on (field (word_of (codes "for")) rest) (λ a. expression a.1)

-- a name, bindings, and an ambition behind them
abbrev pub opening : Rest → Result (List ℕ × List (List ℕ × Bool) × Formula (List ℕ)) LineSyntax
opening rest = go_on (two_fields name_of bindings_of rest) (λ a. go_on (ambition a.1) (λ e. Ok (a.0.0, a.0.1, e)))

-- a name, and an expression behind it
abbrev pub named_expression : Rest → Result (List ℕ × Formula (List ℕ)) LineSyntax
named_expression rest = go_on (field name_of rest) (λ a. go_on (expression a.1) (λ e. Ok (a.0, e)))

-- a keyword whose line makes an edit
abbrev pub is_edit : Keyword → Bool
is_edit keywords.MakeDir = true
is_edit keywords.MakeFile = true
is_edit keywords.Rename = true
is_edit keywords.Move = true
is_edit keywords.Remove = true
is_edit keywords.Insert = true
is_edit keywords.Delete = true
is_edit keywords.Replace = true
is_edit _ = false

-- what follows each keyword
abbrev pub line_behind : Keyword → Rest → Result Line LineSyntax
line_behind keywords.Option rest = made (alone token_of rest) (λ t. lines.Option t)
line_behind keywords.Constraint rest = made (expression rest) (λ e. lines.Constraint e)
line_behind keywords.Prefer rest = made (expression rest) (λ e. lines.Prefer e)
line_behind keywords.Default rest = made (pair token_of switch_of rest) (λ a. lines.Default a.0 a.1)
line_behind keywords.Complete rest = made (alone bindings_of rest) (λ c. lines.Complete c)
line_behind keywords.Open rest = made (opening rest) (λ a. lines.OpenSession a.0 a.1 a.2)
line_behind keywords.Side rest = made (named_expression rest) (λ a. lines.Side a.0 a.1)
line_behind keywords.MakeDir rest = made (pair name_of new_path_of rest) (λ a. lines.MakeDir a.0 a.1)
line_behind keywords.MakeFile rest = made (pair name_of new_path_of rest) (λ a. lines.MakeFile a.0 a.1)
line_behind keywords.Rename rest = made (triple name_of path_of name_of rest) (λ a. lines.Rename a.0 a.1 a.2)
line_behind keywords.Move rest = made (triple name_of path_of path_of rest) (λ a. lines.Move a.0 a.1 a.2)
line_behind keywords.Remove rest = made (pair name_of path_of rest) (λ a. lines.Remove a.0 a.1)
line_behind keywords.Insert rest = made (named_text rest) (λ a. lines.Insert a.0 a.1 a.2 a.3)
line_behind keywords.Delete rest = made (triple name_of path_of line_field_of rest) (λ a. lines.Delete a.0 a.1 a.2)
line_behind keywords.Replace rest = made (named_text rest) (λ a. lines.Replace a.0 a.1 a.2 a.3)
line_behind keywords.Show rest = made (pair name_of path_of rest) (λ a. lines.Show a.0 a.1)
line_behind keywords.List rest = made (pair name_of path_of rest) (λ a. lines.List a.0 a.1)
line_behind keywords.Refresh rest = made (alone name_of rest) (λ n. lines.Refresh n)
line_behind keywords.Commit rest = made (alone name_of rest) (λ n. lines.Commit n)
line_behind keywords.Drop rest = made (alone name_of rest) (λ n. lines.Discard n)
line_behind keywords.Cat rest = made (pair bindings_of path_of rest) (λ a. lines.Cat a.0 a.1)
line_behind keywords.Checkout rest = made (pair name_of bindings_of rest) (λ a. lines.Checkout a.0 a.1)
line_behind keywords.Alt rest = made (triple bindings_of token_of path_of rest) (λ a. lines.Alt a.0 a.1 a.2)
line_behind keywords.Cond rest = made (pair bindings_of path_of rest) (λ a. lines.Conditional a.0 a.1)
line_behind keywords.Where rest = made (alone number_of rest) (λ n. lines.Presence n)
line_behind keywords.Upgrade rest = at_end lines.Upgrade rest
line_behind keywords.Analyse rest = at_end lines.Analyse rest
line_behind keywords.Nearest rest = made (alone bindings_of rest) (λ c. lines.Nearest c)
line_behind keywords.Log rest = made (alone bindings_of rest) (λ c. lines.Log c)
line_behind keywords.Blame rest = made (pair bindings_of path_of rest) (λ a. lines.Blame a.0 a.1)
line_behind keywords.Past rest = made (triple number_of bindings_of path_of rest) (λ a. lines.Past a.0 a.1 a.2)
line_behind keywords.PastOut rest = made (triple name_of number_of bindings_of rest) (λ a. lines.PastOut a.0 a.1 a.2)

-- the line that follows a keyword, if there is one
abbrev pub if_keyword : Option Keyword → Rest → Result Line LineSyntax
if_keyword None rest = Err (Syntax 0)
if_keyword (Some keyword) rest = line_behind keyword rest

-- a line that has a reply
abbrev pub spoken : List ℕ → Result Line LineSyntax
spoken bytes = if_keyword (keyword_of (first_field bytes)) (length bytes, behind_field bytes)

-- the form of a line, or why it has none
abbrev pub form_of : List ℕ → Result Line LineSyntax
form_of [] = Ok lines.Nothing
form_of (b ∷ bs) = if nat_eq b 35 then Ok lines.Nothing else spoken (b ∷ bs)
