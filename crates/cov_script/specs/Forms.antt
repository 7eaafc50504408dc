-- How the forms of lines are spelt.
use Rattle.std.specs.Prelude.{◌≡◌, ◌⊎◌, ◌↔◌, ℕ, true, not, nat_eq, List, [], ◌∷◌, ◌++◌, Option, Some, Ok, codes}
use Rattle.std.specs.List.{list_all}
use Rattle.cov_base.specs.Spelling.{is_line_text, path_of}
use Rattle.cov_expr.specs.ChoiceText.{bindings_of, switch_of}
use Rattle.cov_expr.specs.Formula.{Formula}
use Rattle.cov_expr.specs.Reading.{parsed}
use Rattle.cov_script.specs.Fields.{token_of, name_of, new_path_of, number_of, line_field_of}
use Rattle.cov_script.specs.Lines.{form_of}
use Rattle.cov_script.specs.declared.line.Line.{Line}
use Rattle.cov_script.specs.declared.line.Line.TheVariants as lines
use Rattle.cov_script.specs.declared.line.LineField.{LineField}

-- bytes without a space that are of a kind
pub record IsField {X : Type 0} (kind : List ℕ → Option X) (x : X) (bytes : List ℕ) : Type 0 where
  pub spaceless : list_all (λ b. not (nat_eq b 32)) bytes ≡ true
  pub of_kind : kind bytes ≡ Some x

-- a keyword and one field
pub record One {X : Type 0} (word : List ℕ) (kind : List ℕ → Option X) (x : X) (line : List ℕ) : Type 0 where
  pub a : List ℕ
  pub first : IsField kind x a
  pub all : line ≡ word ++ 32 ∷ a

-- a keyword and two fields, with one space between two
pub record Two {X Y : Type 0} (word : List ℕ) (kind : List ℕ → Option X) (kind' : List ℕ → Option Y) (x : X) (y : Y) (line : List ℕ) : Type 0 where
  pub a : List ℕ
  pub b : List ℕ
  pub first : IsField kind x a
  pub second : IsField kind' y b
  pub all : line ≡ word ++ 32 ∷ (a ++ 32 ∷ b)

-- a keyword, two fields and what follows them to the line's end, with one space between two
pub record Behind {X Y : Type 0} (word : List ℕ) (kind : List ℕ → Option X) (kind' : List ℕ → Option Y) (x : X) (y : Y) (Last : List ℕ → Type 0) (line : List ℕ) : Type 0 where
  pub a : List ℕ
  pub b : List ℕ
  pub last : List ℕ
  pub first : IsField kind x a
  pub second : IsField kind' y b
  pub third : Last last
  pub all : line ≡ word ++ 32 ∷ (a ++ 32 ∷ (b ++ 32 ∷ last))

-- a keyword and an expression, which runs to the line's end and may hold spaces
pub record Only (word : List ℕ) (e : Formula (List ℕ)) (line : List ℕ) : Type 0 where
  pub a : List ℕ
  pub spells : parsed a ≡ Ok e
  pub all : line ≡ word ++ 32 ∷ a

-- a keyword, a name, and an expression, which runs to the line's end and may hold spaces
pub record Named (word name : List ℕ) (e : Formula (List ℕ)) (line : List ℕ) : Type 0 where
  pub a : List ℕ
  pub b : List ℕ
  pub first : IsField name_of name a
  pub spells : parsed b ≡ Ok e
  pub all : line ≡ word ++ 32 ∷ (a ++ 32 ∷ b)

-- a line and a text, which runs to the line's end, may hold spaces and, where it is empty, be missing
pub record LineAndText (l : LineField) (t : List ℕ) (bytes : List ℕ) : Type 0 where
  pub a : List ℕ
  pub first : IsField line_field_of l a
  pub short : is_line_text t ≡ true
  pub all : (bytes ≡ a ++ 32 ∷ t) ⊎ ((bytes ≡ a) × (t ≡ []))

-- the word for and an expression
pub record Ambition (e : Formula (List ℕ)) (bytes : List ℕ) : Type 0 where
  pub a : List ℕ
  pub spells : parsed a ≡ Ok e
  pub all : bytes ≡ codes "for" ++ 32 ∷ a

-- an empty line, or one that begins with #
abbrev pub IsSilent : List ℕ → Type 0
IsSilent line = (line ≡ []) ⊎ ((bs : List ℕ) × (line ≡ 35 ∷ bs))

-- a line is spelt by a form
abbrev pub HasForm : List ℕ → Line → Type 0
HasForm line lines.Nothing = IsSilent line
HasForm line (lines.Option t) = One (codes "option") token_of t line
HasForm line (lines.Constraint e) = Only (codes "constraint") e line
HasForm line (lines.Prefer e) = Only (codes "prefer") e line
HasForm line (lines.Default t on) = Two (codes "default") token_of switch_of t on line
HasForm line (lines.Complete c) = One (codes "complete") bindings_of c line
HasForm line (lines.OpenSession n c e) = Behind (codes "open") name_of bindings_of n c (Ambition e) line
HasForm line (lines.Side n e) = Named (codes "side") n e line
HasForm line (lines.MakeDir n p) = Two (codes "mkdir") name_of new_path_of n p line
HasForm line (lines.MakeFile n p) = Two (codes "mkfile") name_of new_path_of n p line
HasForm line (lines.Rename n p to) = Behind (codes "rename") name_of path_of n p (IsField name_of to) line
HasForm line (lines.Move n p target) = Behind (codes "move") name_of path_of n p (IsField path_of target) line
HasForm line (lines.Remove n p) = Two (codes "remove") name_of path_of n p line
HasForm line (lines.Insert n p l t) = Behind (codes "insert") name_of path_of n p (LineAndText l t) line
HasForm line (lines.Delete n p l) = Behind (codes "delete") name_of path_of n p (IsField line_field_of l) line
HasForm line (lines.Replace n p l t) = Behind (codes "replace") name_of path_of n p (LineAndText l t) line
HasForm line (lines.Show n p) = Two (codes "show") name_of path_of n p line
HasForm line (lines.List n p) = Two (codes "list") name_of path_of n p line
HasForm line (lines.Refresh n) = One (codes "refresh") name_of n line
HasForm line (lines.Commit n) = One (codes "commit") name_of n line
HasForm line (lines.Discard n) = One (codes "drop") name_of n line
HasForm line (lines.Cat c p) = Two (codes "cat") bindings_of path_of c p line
HasForm line (lines.Checkout t c) = Two (codes "checkout") name_of bindings_of t c line
HasForm line (lines.Alt c t p) = Behind (codes "alt") bindings_of token_of c t (IsField path_of p) line
HasForm line (lines.Conditional c p) = Two (codes "cond") bindings_of path_of c p line
HasForm line (lines.Presence n) = One (codes "where") number_of n line
HasForm line lines.Upgrade = line ≡ codes "upgrade"
HasForm line lines.Analyse = line ≡ codes "analyse"
HasForm line (lines.Nearest c) = One (codes "nearest") bindings_of c line
HasForm line (lines.Log c) = One (codes "log") bindings_of c line
HasForm line (lines.Blame c p) = Two (codes "blame") bindings_of path_of c p line
HasForm line (lines.Past n c p) = Behind (codes "past") number_of bindings_of n c (IsField path_of p) line
HasForm line (lines.PastOut t n c) = Behind (codes "pastout") name_of number_of t n (IsField bindings_of c) line

-- a line reads as a form exactly where it is spelt by it
abbrev pub ReadsAsSpelt : Type 0
ReadsAsSpelt = (line : List ℕ) (f : Line) → HasForm line f ↔ (form_of line ≡ Ok f)
