-- A line as fields with one space between two, read from the left.
use Rattle.std.specs.Prelude.{ℕ, ◌+◌, ◌-◌, ◌*◌, ◌^◌, Bool, false, ◌&&◌, not, nat_eq, nat_lt, List, [], ◌∷◌, length, drop, Option, Some, None, Result, Ok, Err, if◌then◌else◌, true}
use Rattle.std.specs.Str.{bytes_eq}
use Rattle.std.specs.List.{list_all, before_first, position_or_len}
use Rattle.cov_base.specs.Bytes.{is_digit}
use Rattle.cov_base.specs.Spelling.{is_line_text, is_name, path_of}
use Rattle.cov_expr.specs.Formula.{Formula}
use Rattle.cov_expr.specs.Reading.{parsed}
use Rattle.cov_expr.specs.declared.spelling.ExprFault.{ExprFault}
use Rattle.cov_expr.specs.declared.spelling.ExprFault.TheVariants as faults
use Rattle.cov_script.specs.declared.line.LineField.{LineField}
use Rattle.cov_script.specs.declared.line.LineField.TheVariants.{Number, Own}
use Rattle.cov_script.specs.declared.line.LineSyntax.{LineSyntax}
use Rattle.cov_script.specs.declared.line.LineSyntax.TheVariants.{Syntax, TooLong, Memory}

-- the length of a line, and its bytes that weren't read: nothing at its end, else a space and what follows it
abbrev pub Rest : Type 0
Rest = ℕ × List ℕ

-- what is read of a line, with what is left of it; or why the line has no form
abbrev pub Got : Type 0 → Type 0
Got X = Result (X × Rest) LineSyntax

-- what is read further on, if the line had a form so far
abbrev pub go_on : {X Y : Type 0} → Result X LineSyntax → (X → Result Y LineSyntax) → Result Y LineSyntax
go_on (Ok x) later = later x
go_on (Err fault) later = Err fault

-- whether a fault is want of memory
abbrev pub is_memory : LineSyntax → Bool
is_memory Memory = true
is_memory (Syntax at) = false
is_memory TooLong = false

-- what is ahead, from the first byte of the next field on; a field that is missing is empty and begins at the line's end
abbrev pub ahead : Rest → List ℕ
ahead rest = drop 1 rest.1

-- where the next field begins
abbrev pub place : Rest → ℕ
place rest = rest.0 - length (ahead rest)

-- the bytes before the first space
abbrev pub first_field : List ℕ → List ℕ
first_field bytes = before_first (λ b. nat_eq b 32) bytes

-- the bytes from the first space on
abbrev pub behind_field : List ℕ → List ℕ
behind_field bytes = drop (position_or_len (λ b. nat_eq b 32) bytes) bytes

-- what is left behind the next field
abbrev pub behind : Rest → Rest
behind rest = (rest.0, behind_field (ahead rest))

-- what is read, if a field at a place is of its kind
abbrev pub taken : {X : Type 0} → ℕ → Rest → Option X → Got X
taken at later None = Err (Syntax at)
taken at later (Some x) = Ok (x, later)

-- the next field, of a kind that no empty field is of
abbrev pub field : {X : Type 0} → (List ℕ → Option X) → Rest → Got X
field kind rest = taken (place rest) (behind rest) (kind (first_field (ahead rest)))

-- nothing more
abbrev pub at_end : {X : Type 0} → X → Rest → Result X LineSyntax
at_end x (size, []) = Ok x
at_end x (size, b ∷ bs) = Err (Syntax (size - length (b ∷ bs)))

-- the expression that begins at a place, if there is one
abbrev pub expression_at : ℕ → Result (Formula (List ℕ)) ExprFault → Result (Formula (List ℕ)) LineSyntax
expression_at at (Ok e) = Ok e
expression_at at (Err (faults.Syntax within)) = Err (Syntax (at + within))
expression_at at (Err faults.TooLong) = Err TooLong
expression_at at (Err faults.Memory) = Err Memory

-- an expression, to the line's end
abbrev pub expression : Rest → Result (Formula (List ℕ)) LineSyntax
expression rest = expression_at (place rest) (parsed (ahead rest))

-- a text, to the line's end; it may be empty or missing
abbrev pub text : Rest → Result (List ℕ) LineSyntax
text rest = if is_line_text (ahead rest) then Ok (ahead rest) else Err (Syntax (place rest))

-- one byte or more
abbrev pub token_of : List ℕ → Option (List ℕ)
token_of [] = None
token_of (b ∷ bs) = Some (b ∷ bs)

-- a name of a file or directory
abbrev pub name_of : List ℕ → Option (List ℕ)
name_of bytes = if is_name bytes then Some bytes else None

-- a path other than the root's
abbrev pub below_root : Option (List (List ℕ)) → Option (List (List ℕ))
below_root None = None
below_root (Some []) = None
below_root (Some (name ∷ names)) = Some (name ∷ names)

-- a path other than /
abbrev pub new_path_of : List ℕ → Option (List (List ℕ))
new_path_of bytes = below_root (path_of bytes)

-- a word that has to stand there
abbrev pub word_of : List ℕ → List ℕ → Option (Unit {0})
word_of word bytes = if bytes_eq bytes word then Some tt else None

-- digits without a leading zero
abbrev pub is_plain : List ℕ → Bool
is_plain [] = false
is_plain (b ∷ []) = is_digit b
is_plain (b ∷ c ∷ bs) = not (nat_eq b 48) && list_all is_digit (b ∷ c ∷ bs)

-- the number that digits after those of a number give
abbrev pub digits_onto : ℕ → List ℕ → ℕ
digits_onto n [] = n
digits_onto n (b ∷ bs) = digits_onto (10 * n + (b - 48)) bs

-- a number, if it is one of 32 bits
abbrev pub within_word : ℕ → Option ℕ
within_word n = if nat_lt n (2 ^ 32) then Some n else None

-- a decimal number of 32 bits
abbrev pub number_of : List ℕ → Option ℕ
number_of bytes = if is_plain bytes then within_word (digits_onto 0 bytes) else None

-- what is left of a number where only one of 32 bits is taken
abbrev pub narrowed : Option ℕ → Option ℕ
narrowed None = None
narrowed (Some n) = within_word n

-- a number, if it is one of 64 bits
abbrev pub within_long : ℕ → Option ℕ
within_long n = if nat_lt n (2 ^ 64) then Some n else None

-- a decimal number of 64 bits
abbrev pub long_number_of : List ℕ → Option ℕ
long_number_of bytes = if is_plain bytes then within_long (digits_onto 0 bytes) else None

-- a line by its number in the store
abbrev pub as_number : Option ℕ → Option LineField
as_number None = None
as_number (Some n) = Some (Number n)

-- a line by its number among the session's
abbrev pub as_own : Option ℕ → Option LineField
as_own None = None
as_own (Some n) = Some (Own n)

-- a line by its number, or with a plus by its number among the session's
abbrev pub line_field_of : List ℕ → Option LineField
line_field_of [] = None
line_field_of (b ∷ bs) = if nat_eq b 43 then as_own (number_of bs) else as_number (number_of (b ∷ bs))
