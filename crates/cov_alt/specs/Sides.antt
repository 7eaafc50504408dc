-- The lines of a file with an option on and with it off.
use Rattle.std.specs.Prelude.{◌≡◌, ℕ, Bool, true, false, List, [], ◌∷◌, map, Option, Some, None, Result, Ok, Err, if◌then◌else◌}
use Rattle.std.specs.Str.{bytes_eq}
use Rattle.std.specs.List.{list_any}
use Rattle.cov_base.specs.Addresses.{line_of, placed}
use Rattle.cov_base.specs.Choices.{with_option}
use Rattle.cov_base.specs.Rows.{Row, is_present}
use Rattle.cov_edit.specs.declared.command.Command.{Command}
use Rattle.cov_edit.specs.History.{first_false_in}
use Rattle.cov_edit.specs.Replay.{replay}
use Rattle.cov_edit.specs.Variant.{Variant, Line, line_address, lines_of}
use Rattle.cov_view.specs.Paths.{path_node}
use Rattle.cov_view.specs.Refusals.{is_dir}
use Rattle.cov_alt.specs.declared.fault.AltFault.{AltFault}
use Rattle.cov_alt.specs.declared.fault.AltFault.TheVariants as faults
use Rattle.cov_alt.specs.declared.line.AltLine.{AltLine}
use Rattle.cov_alt.specs.declared.line.Mark.{Mark}
use Rattle.cov_alt.specs.declared.line.Mark.TheVariants as marks

-- the lines of a file in a variant, none where the file is absent
abbrev pub lines_if_present : Variant → ℕ → List Line
lines_if_present v file = if is_present v.rows file then lines_of v file else []

-- whether one of the lines stands at an address
abbrev pub has_address : List Line → List ℕ → Bool
has_address ls address = list_any (λ l. bytes_eq l.address address) ls

-- the lines of two sides in address order, one that both have once
abbrev pub merged : List Line → List Line → List Line
merged [] ms = ms
merged (l ∷ ls) ms = if has_address ms l.address then merged ls ms else placed line_address l (merged ls ms)

-- the mark of a line that is on one side at least
abbrev pub mark_of : Bool → Bool → Mark
mark_of true true = marks.Both
mark_of true false = marks.OnOnly
mark_of false off = marks.OffOnly

-- a line with its mark, by the lines of both sides
abbrev pub marked : List Line → List Line → Line → AltLine
marked on off l = record { mark = mark_of (has_address on l.address) (has_address off l.address); line = line_of l.address; text = l.text }

-- the lines of both sides in address order, each with its mark
abbrev pub both_sides : List Line → List Line → List AltLine
both_sides on off = map (marked on off) (merged on off)

-- the lines of a file in the variants of two choices, none where it is absent, in address order, each marked by where it is
abbrev pub sides : List Command → List Bool → List Bool → ℕ → List AltLine
sides history on off file = both_sides (lines_if_present (replay on history) file) (lines_if_present (replay off history) file)

-- what comes next, unless a fault comes before it
infixl 10 ◌>>=◌
abbrev pub ◌>>=◌ : {X Y E : Type 0} → Result X E → (X → Result Y E) → Result Y E
(Ok x) >>= next = next x
(Err fault) >>= next = Err fault

-- a side, unless a rule is false on it, the one with the option on, or off
abbrev pub side_unless : Bool → Option ℕ → List Bool → Result (List Bool) AltFault
side_unless on None side = Ok side
side_unless on (Some rule) side = Err (faults.SideInvalid on rule)

-- the choice with an option on, or off, unless a constraint is false on it
abbrev pub side_of : List Command → List Bool → ℕ → Bool → Result (List Bool) AltFault
side_of history choice option on = side_unless on (first_false_in history (with_option choice option on)) (with_option choice option on)

-- the node at a path, if there is one: it is to be a file
abbrev pub file_of : List Row → Option ℕ → Result ℕ AltFault
file_of rows None = Err faults.NoSuchPath
file_of rows (Some node) = if is_dir rows node then Err faults.NotFile else Ok node

-- the file at a path in a variant
abbrev pub file_found : Variant → List (List ℕ) → Result ℕ AltFault
file_found v path = file_of v.rows (path_node v.rows 0 path)

-- the lines, on both sides of an option, of the file at a path in the variant of a choice; refused where a constraint is false
-- with the option on, then where one is false with it off, then where nothing is at the path, then where a directory is there
abbrev pub sides_at : List Command → List Bool → ℕ → List (List ℕ) → Result (List AltLine) AltFault
sides_at history choice option path = do
  on ← side_of history choice option true
  off ← side_of history choice option false
  file ← file_found (replay choice history) path
  Ok (sides history on off file)

-- what is answered is this, but where memory is wanting
abbrev pub IsAnswer : {X : Type 0} → Result X AltFault → Result X AltFault → Type 0
IsAnswer answer (Ok x) = answer ≡ Ok x
IsAnswer answer (Err faults.Memory) = Unit {0}
IsAnswer answer (Err fault) = answer ≡ Err fault

-- a fault is that of an answer, but where memory is wanting
abbrev pub IsAltFaultOf : {X : Type 0} → Result X AltFault → AltFault → Type 0
IsAltFaultOf answer fault = IsAnswer answer (Err fault)
