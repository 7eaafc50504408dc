-- What the form of each keyword wants: fields of kinds, in order.
use Rattle.std.specs.Prelude.{ℕ, Bool, true, false, List, [], ◌∷◌, codes, is_some, is_ok, if◌then◌else◌}
use Rattle.cov_base.specs.Spelling.{is_line_text, path_of}
use Rattle.cov_expr.specs.ChoiceText.{bindings_of, switch_of}
use Rattle.cov_expr.specs.Reading.{parsed}
use Rattle.cov_script.specs.Fields.{token_of, name_of, new_path_of, word_of, number_of, line_field_of, first_field}
use Rattle.cov_script.specs.declared.keyword.Keyword.{Keyword}
use Rattle.cov_script.specs.declared.keyword.Keyword.TheVariants as keywords

-- the kinds of fields
pub data Kind : Type 0 where
  Token : Kind
  Name : Kind
  Path : Kind
  NewPath : Kind
  Choice : Kind
  Switch : Kind
  For : Kind
  Number : Kind
  EditLine : Kind
  Expression : Kind
  Text : Kind

-- whether bytes are of a kind
abbrev pub is_of : Kind → List ℕ → Bool
is_of Token bytes = is_some (token_of bytes)
is_of Name bytes = is_some (name_of bytes)
is_of Path bytes = is_some (path_of bytes)
is_of NewPath bytes = is_some (new_path_of bytes)
is_of Choice bytes = is_some (bindings_of bytes)
is_of Switch bytes = is_some (switch_of bytes)
is_of For bytes = is_some (word_of (codes "for") bytes)
is_of Number bytes = is_some (number_of bytes)
is_of EditLine bytes = is_some (line_field_of bytes)
is_of Expression bytes = is_ok (parsed bytes)
is_of Text bytes = is_line_text bytes

-- whether a field of a kind ends at the next space; an expression and a text run to the line's end and may hold spaces
abbrev pub ends_at_space : Kind → Bool
ends_at_space Expression = false
ends_at_space Text = false
ends_at_space kind = true

-- the bytes of the next field, wanted of a kind, where it begins the bytes ahead
abbrev pub field_ahead : Kind → List ℕ → List ℕ
field_ahead kind ahead = if ends_at_space kind then first_field ahead else ahead

-- the bytes of a keyword
abbrev pub word_for : Keyword → List ℕ
word_for keywords.Option = codes "option"
word_for keywords.Constraint = codes "constraint"
word_for keywords.Prefer = codes "prefer"
word_for keywords.Default = codes "default"
word_for keywords.Complete = codes "complete"
word_for keywords.Open = codes "open"
word_for keywords.Side = codes "side"
word_for keywords.MakeDir = codes "mkdir"
word_for keywords.MakeFile = codes "mkfile"
word_for keywords.Rename = codes "rename"
word_for keywords.Move = codes "move"
word_for keywords.Remove = codes "remove"
word_for keywords.Insert = codes "insert"
word_for keywords.Delete = codes "delete"
word_for keywords.Replace = codes "replace"
word_for keywords.Show = codes "show"
word_for keywords.List = codes "list"
word_for keywords.Refresh = codes "refresh"
word_for keywords.Commit = codes "commit"
word_for keywords.Drop = codes "drop"
word_for keywords.Cat = codes "cat"
word_for keywords.Checkout = codes "checkout"
word_for keywords.Alt = codes "alt"
word_for keywords.Cond = codes "cond"
word_for keywords.Where = codes "where"
word_for keywords.Upgrade = codes "upgrade"
word_for keywords.Analyse = codes "analyse"
word_for keywords.Nearest = codes "nearest"
word_for keywords.Log = codes "log"
word_for keywords.Blame = codes "blame"
word_for keywords.Past = codes "past"
word_for keywords.PastOut = codes "pastout"

-- the kinds of the fields behind a keyword
abbrev pub kinds_behind : Keyword → List Kind
kinds_behind keywords.Option = Token ∷ []
kinds_behind keywords.Constraint = Expression ∷ []
kinds_behind keywords.Prefer = Expression ∷ []
kinds_behind keywords.Default = Token ∷ Switch ∷ []
kinds_behind keywords.Complete = Choice ∷ []
kinds_behind keywords.Open = Name ∷ Choice ∷ For ∷ Expression ∷ []
kinds_behind keywords.Side = Name ∷ Expression ∷ []
kinds_behind keywords.MakeDir = Name ∷ NewPath ∷ []
kinds_behind keywords.MakeFile = Name ∷ NewPath ∷ []
kinds_behind keywords.Rename = Name ∷ Path ∷ Name ∷ []
kinds_behind keywords.Move = Name ∷ Path ∷ Path ∷ []
kinds_behind keywords.Remove = Name ∷ Path ∷ []
kinds_behind keywords.Insert = Name ∷ Path ∷ EditLine ∷ Text ∷ []
kinds_behind keywords.Delete = Name ∷ Path ∷ EditLine ∷ []
kinds_behind keywords.Replace = Name ∷ Path ∷ EditLine ∷ Text ∷ []
kinds_behind keywords.Show = Name ∷ Path ∷ []
kinds_behind keywords.List = Name ∷ Path ∷ []
kinds_behind keywords.Refresh = Name ∷ []
kinds_behind keywords.Commit = Name ∷ []
kinds_behind keywords.Drop = Name ∷ []
kinds_behind keywords.Cat = Choice ∷ Path ∷ []
kinds_behind keywords.Checkout = Name ∷ Choice ∷ []
kinds_behind keywords.Alt = Choice ∷ Token ∷ Path ∷ []
kinds_behind keywords.Cond = Choice ∷ Path ∷ []
kinds_behind keywords.Where = Number ∷ []
kinds_behind keywords.Upgrade = []
kinds_behind keywords.Analyse = []
kinds_behind keywords.Nearest = Choice ∷ []
kinds_behind keywords.Log = Choice ∷ []
kinds_behind keywords.Blame = Choice ∷ Path ∷ []
kinds_behind keywords.Past = Number ∷ Choice ∷ Path ∷ []
kinds_behind keywords.PastOut = Name ∷ Number ∷ Choice ∷ []
