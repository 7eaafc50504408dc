-- Where a line that has no form is mistaken.
use Rattle.std.specs.Prelude.{◌≡◌, ◌⊎◌, ◌↔◌, ℕ, ◌+◌, true, false, not, nat_eq, List, [], ◌∷◌, ◌++◌, length, Err}
use Rattle.std.specs.List.{list_all}
use Rattle.cov_expr.specs.Parsing.{IsParsed}
use Rattle.cov_expr.specs.Tokens.{tokens_of}
use Rattle.cov_expr.specs.declared.spelling.ExprFault.TheVariants as faults
use Rattle.cov_script.specs.Fields.{first_field}
use Rattle.cov_script.specs.Forms.{IsSilent, HasForm}
use Rattle.cov_script.specs.Kinds.{Kind, Expression, Text, is_of, ends_at_space, field_ahead, word_for, kinds_behind}
use Rattle.cov_script.specs.Lines.{form_of}
use Rattle.cov_script.specs.declared.keyword.Keyword.{Keyword}
use Rattle.cov_script.specs.declared.line.Line.{Line}
use Rattle.cov_script.specs.declared.line.LineSyntax.TheVariants.{Syntax, TooLong}

-- bytes without a space that are of a kind whose fields end at a space
pub record IsRight (kind : Kind) (bytes : List ℕ) : Type 0 where
  pub ends : ends_at_space kind ≡ true
  pub spaceless : list_all (λ b. not (nat_eq b 32)) bytes ≡ true
  pub of_kind : is_of kind bytes ≡ true

-- bytes are fields of the kinds, in order and each behind one space
abbrev pub AreRight : List Kind → List ℕ → Type 0
AreRight [] bytes = bytes ≡ []
AreRight (kind ∷ kinds) bytes = (field : List ℕ) × (later : List ℕ) × (bytes ≡ 32 ∷ (field ++ later)) × IsRight kind field × AreRight kinds later

-- bytes are a keyword and fields of the kinds
abbrev pub IsFront : Keyword → List Kind → List ℕ → Type 0
IsFront keyword kinds bytes = (fields : List ℕ) × (bytes ≡ word_for keyword ++ fields) × AreRight kinds fields

-- a keyword wants fields of kinds, and a field of one more kind directly behind them
abbrev pub Wants : Keyword → List Kind → Kind → Type 0
Wants keyword before kind = (later : List Kind) × (kinds_behind keyword ≡ before ++ kind ∷ later)

-- the place within a field of a kind at which it is mistaken: that of the grammar within an expression, else its first byte
abbrev pub IsWrong : Kind → List ℕ → ℕ → Type 0
IsWrong Expression bytes within = IsParsed (length bytes) (tokens_of bytes) (Err (faults.Syntax within))
IsWrong kind bytes within = (is_of kind bytes ≡ false) × (within ≡ 0)

-- a line that isn't silent and has no keyword before its first space: it is mistaken at 0
pub record HasUnknownKeyword (line : List ℕ) (at : ℕ) : Type 0 where
  pub speaks : IsSilent line → ⊥
  pub unknown : (keyword : Keyword) → word_for keyword ≡ first_field line → ⊥
  pub place : at ≡ 0

-- all fields of a line up to a space are right, and what is ahead of it begins with a field of which a kind is wanted
pub record ComesTo (line : List ℕ) (kind : Kind) (ahead : List ℕ) : Type 0 where
  pub keyword : Keyword
  pub before : List Kind
  pub wanted : Wants keyword before kind
  pub front : List ℕ
  pub right : IsFront keyword before front
  pub all : line ≡ front ++ 32 ∷ ahead

-- a field that isn't of its kind, the first such: the line is mistaken within it
pub record HasWrongField (line : List ℕ) (at : ℕ) : Type 0 where
  pub kind : Kind
  pub ahead : List ℕ
  pub comes : ComesTo line kind ahead
  pub within : ℕ
  pub wrong : IsWrong kind (field_ahead kind ahead) within
  pub place : at ≡ length comes.front + 1 + within

-- a line that ends before a field that its keyword wants: it is mistaken at its length; a text may be missing
pub record LacksField (line : List ℕ) (at : ℕ) : Type 0 where
  pub keyword : Keyword
  pub before : List Kind
  pub kind : Kind
  pub wanted : Wants keyword before kind
  pub needed : kind ≡ Text → ⊥
  pub right : IsFront keyword before line
  pub place : at ≡ length line

-- a line that goes on behind its last field: it is mistaken at the space there
pub record HasMore (line : List ℕ) (at : ℕ) : Type 0 where
  pub keyword : Keyword
  pub front : List ℕ
  pub right : IsFront keyword (kinds_behind keyword) front
  pub more : List ℕ
  pub all : line ≡ front ++ 32 ∷ more
  pub place : at ≡ length front

-- a line is mistaken at a place
abbrev pub IsMistaken : List ℕ → ℕ → Type 0
IsMistaken line at = HasUnknownKeyword line at ⊎ (HasWrongField line at ⊎ (LacksField line at ⊎ HasMore line at))

-- a line whose expression, the first field that isn't of its kind, has too many tokens
pub record IsTooLong (line : List ℕ) : Type 0 where
  pub ahead : List ℕ
  pub comes : ComesTo line Expression ahead
  pub long : IsParsed (length ahead) (tokens_of ahead) (Err faults.TooLong)

-- reading refuses a line with a place exactly where it is mistaken there
abbrev pub MistakesArePlaced : Type 0
MistakesArePlaced = (line : List ℕ) (at : ℕ) → IsMistaken line at ↔ (form_of line ≡ Err (Syntax at))

-- reading refuses a line as too long exactly where it is
abbrev pub TooLongIsRefused : Type 0
TooLongIsRefused = (line : List ℕ) → IsTooLong line ↔ (form_of line ≡ Err TooLong)

-- each line has a form, is mistaken at a place, or is too long
abbrev pub EachLineIsTold : Type 0
EachLineIsTold = (line : List ℕ) → ((f : Line) × HasForm line f) ⊎ (((at : ℕ) × IsMistaken line at) ⊎ IsTooLong line)
