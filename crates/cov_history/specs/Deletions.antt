-- One delete among the edits of a commit.
use Rattle.std.specs.Prelude.{ℕ, nat_eq, List, ◌∷◌, ◌++◌, if◌then◌else◌}
use Rattle.cov_base.specs.declared.number.NodeRef.{NodeRef}
use Rattle.cov_base.specs.declared.number.LineRef.{LineRef}
use Rattle.cov_expr.specs.Formula.{Formula, Not, And}
use Rattle.cov_edit.specs.declared.edit.Edit.{Edit}
use Rattle.cov_edit.specs.declared.edit.Edit.TheVariants as edits
use Rattle.cov_edit.specs.declared.command.Command.{Command}
use Rattle.cov_edit.specs.Numbering.{node_number, line_number, numbers_of}
use Rattle.cov_history.specs.Kept.{seen_at, Holding}
use Rattle.cov_history.specs.Files.{DatedLine}
use Rattle.cov_history.specs.Insertions.{lines_before, held_amid, held_next}

-- a delete, the edits of its commit before it, and those after it
pub record Deletion : Type 0 where
  pub begun : List Edit
  pub file : NodeRef
  pub line : LineRef
  pub later : List Edit

-- the delete as an edit
abbrev pub the_delete : Deletion → Edit
the_delete d = edits.Delete d.file d.line

-- all edits of the commit
abbrev pub all_with : Deletion → List Edit
all_with d = d.begun ++ the_delete d ∷ d.later

module _ (history : List Command) where
  -- the number of the file
  abbrev pub delete_file : Deletion → ℕ
  delete_file d = node_number (numbers_of history).nodes d.file

  -- the number of the line
  abbrev pub delete_line : Deletion → ℕ
  delete_line d = line_number (lines_before history) d.line

  -- what is held before the delete, if each edit applies within the expression at its place
  abbrev pub before_delete : List (Formula ℕ) → Deletion → Holding
  before_delete within d = held_amid history within (all_with d) d.begun

  -- what is held after the delete, by what is held before it, if it applies within an expression
  abbrev pub behind_delete : Holding → Formula ℕ → Deletion → Holding
  behind_delete held on d = held_next history (all_with d) d.begun held on (the_delete d)

-- a dated line, no longer seen within an expression from a position on if it has this number
abbrev pub hidden_by : ℕ → ℕ → Formula ℕ → DatedLine → DatedLine
hidden_by line q within d =
    if nat_eq d.line line
    then record { line = d.line; text = d.text; changes = (q, And (seen_at d.changes q) (Not within)) ∷ d.changes }
    else d
