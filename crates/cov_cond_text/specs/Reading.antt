-- The lines that spell a conditional text.
use Rattle.std.specs.Prelude.{ℕ, ◌+◌, nat_lt, Bool, true, false, List, [], ◌∷◌, ◌++◌, map, take, drop, length, reverse, Result, Ok, Err, if◌then◌else◌, codes}
use Rattle.std.specs.Str.{bytes_eq}
use Rattle.cov_base.specs.Spelling.{is_line_text}
use Rattle.cov_base.specs.declared.limits.TheConstants.{MOST_PARTS}
use Rattle.cov_expr.specs.Formula.{Formula, Not, part_count}
use Rattle.cov_expr.specs.Naming.{bound_expression}
use Rattle.cov_expr.specs.Reading.{parsed}
use Rattle.cov_expr.specs.declared.naming.NameFault.{NameFault}
use Rattle.cov_expr.specs.declared.naming.NameFault.TheVariants as name_faults
use Rattle.cov_expr.specs.declared.spelling.ExprFault.{ExprFault}
use Rattle.cov_expr.specs.declared.spelling.ExprFault.TheVariants as expr_faults
use Rattle.cov_cond_text.specs.Conditional.{CondLine, conjunction}
use Rattle.cov_cond_text.specs.declared.reader.Block.{Block}
use Rattle.cov_cond_text.specs.declared.fault.CondFault.{CondFault}
use Rattle.cov_cond_text.specs.declared.fault.CondFault.TheVariants as faults

-- a line by itself: a text, a directive, or none of the format
pub data CondForm : Type 0 where
  TextForm : (text : List ℕ) → CondForm
  IfForm : (expression : List ℕ) → CondForm
  ElseForm : CondForm
  EndForm : CondForm
  NoForm : CondForm

-- whether a line begins with these bytes
abbrev pub begins_with : List ℕ → List ℕ → Bool
begins_with front line = bytes_eq (take (length front) line) front

-- a text, if a line can have it
abbrev pub text_form : List ℕ → CondForm
text_form text = if is_line_text text then TextForm text else NoForm

-- what a line is; after a second # comes the text of a line that begins with one
abbrev pub form_of : List ℕ → CondForm
form_of line =
    if begins_with (codes "#if ") line then IfForm (drop 4 line)
    else (if bytes_eq line (codes "#else") then ElseForm
    else (if bytes_eq line (codes "#endif") then EndForm
    else (if begins_with (codes "##") line then text_form (drop 1 line)
    else (if begins_with (codes "#") line then NoForm
    else text_form line))))

-- the blocks that are open, from the inside, and how many directives came before
pub record Reading : Type 0 where
  pub blocks : List Block
  pub directives : ℕ

-- before the first line
abbrev pub nothing_read : Reading
nothing_read = record { blocks = []; directives = 0 }

-- the conditions of open blocks, from outside inwards
abbrev pub conditions_of : List Block → List (Formula ℕ)
conditions_of blocks = reverse (map (λ b. b.condition) blocks)

-- how many parts the conjunction of conditions has
abbrev pub parts_of : List (Formula ℕ) → ℕ
parts_of conditions = part_count (conjunction conditions)

-- the same with one condition more, of so many parts
abbrev pub parts_with : List (Formula ℕ) → ℕ → ℕ
parts_with [] parts = parts
parts_with (e ∷ es) parts = parts_of (e ∷ es) + 1 + parts

-- after a directive, these blocks being open
abbrev pub after_directive : Reading → List Block → Reading
after_directive s blocks = record { blocks = blocks; directives = s.directives + 1 }

-- after a line that opens a block with a condition, if all its names are those of options
abbrev pub opened_if : ℕ → Reading → Result (Formula ℕ) NameFault → Result Reading CondFault
opened_if n s (Ok e) = Ok (after_directive s (record { condition = e; has_else = false } ∷ s.blocks))
opened_if n s (Err (name_faults.UnknownOption name)) = Err (faults.UnknownOption n name)
opened_if n s (Err name_faults.Memory) = Err faults.Memory

-- after line n, which opens a block with an expression, if it is one; a conjunction that is too long comes before an unknown name
abbrev pub after_if : List (List ℕ) → ℕ → Reading → Result (Formula (List ℕ)) ExprFault → Result Reading CondFault
after_if names n s (Ok e) =
    if nat_lt MOST_PARTS (parts_with (conditions_of s.blocks) (part_count e)) then Err (faults.TooLong n) else opened_if n s (bound_expression names e)
after_if names n s (Err (expr_faults.Syntax at)) = Err (faults.Syntax n)
after_if names n s (Err expr_faults.TooLong) = Err (faults.TooLong n)
after_if names n s (Err expr_faults.Memory) = Err faults.Memory

-- blocks, unless the conjunction of their conditions is too long
abbrev pub if_few : ℕ → Reading → List Block → Result Reading CondFault
if_few n s blocks = if nat_lt MOST_PARTS (parts_of (conditions_of blocks)) then Err (faults.TooLong n) else Ok (after_directive s blocks)

-- after line n, which begins the other side of the innermost block
abbrev pub after_else : ℕ → Reading → List Block → Result Reading CondFault
after_else n s [] = Err (faults.Syntax n)
after_else n s (b ∷ bs) = if b.has_else then Err (faults.Syntax n) else if_few n s (record { condition = Not b.condition; has_else = true } ∷ bs)

-- after line n, which ends the innermost block
abbrev pub after_end : ℕ → Reading → List Block → Result Reading CondFault
after_end n s [] = Err (faults.Syntax n)
after_end n s (b ∷ bs) = Ok (after_directive s bs)

-- after a line: what is read then, and the lines of text that it adds
pub record AfterLine : Type 0 where
  pub reading : Reading
  pub added : List CondLine

-- a text as a line within the blocks that are open
abbrev pub line_read : Reading → List ℕ → CondLine
line_read s text = record { conditions = conditions_of s.blocks; text = text; group = s.directives }

-- after a directive, which adds no line
abbrev pub adding_none : Result Reading CondFault → Result AfterLine CondFault
adding_none (Ok s) = Ok (record { reading = s; added = [] })
adding_none (Err fault) = Err fault

-- after line n, by its form
abbrev pub after_line : List (List ℕ) → ℕ → Reading → CondForm → Result AfterLine CondFault
after_line names n s (TextForm text) = Ok (record { reading = s; added = line_read s text ∷ [] })
after_line names n s (IfForm expression) = adding_none (after_if names n s (parsed expression))
after_line names n s ElseForm = adding_none (after_else n s s.blocks)
after_line names n s EndForm = adding_none (after_end n s s.blocks)
after_line names n s NoForm = Err (faults.Syntax n)

-- lines before others
abbrev pub lines_then : List CondLine → Result (List CondLine) CondFault → Result (List CondLine) CondFault
lines_then ls (Ok ms) = Ok (ls ++ ms)
lines_then ls (Err fault) = Err fault

-- what a line adds and then what the later ones give, unless it is at fault
abbrev pub then_read : Result AfterLine CondFault → (Reading → Result (List CondLine) CondFault) → Result (List CondLine) CondFault
then_read (Ok after) later = lines_then after.added (later after.reading)
then_read (Err fault) later = Err fault

-- nothing may be open behind the last line
abbrev pub at_end : ℕ → List Block → Result (List CondLine) CondFault
at_end n [] = Ok []
at_end n (b ∷ bs) = Err (faults.Syntax n)

-- what the lines from number n on give
abbrev pub read_from : List (List ℕ) → ℕ → Reading → List (List ℕ) → Result (List CondLine) CondFault
read_from names n s [] = at_end n s.blocks
read_from names n s (line ∷ lines) = then_read (after_line names n s (form_of line)) (λ t. read_from names (n + 1) t lines)

-- the conditional text that lines spell over options of these names, or the fault of the first line at fault
abbrev pub read_text : List (List ℕ) → List (List ℕ) → Result (List CondLine) CondFault
read_text names lines = read_from names 1 nothing_read lines
