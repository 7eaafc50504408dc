-- The edits of a commit, and one insert among them.
use Rattle.std.specs.Prelude.{ℕ, ◌+◌, List, ◌∷◌, ◌++◌, length}
use Rattle.std.specs.List.{fold}
use Rattle.cov_base.specs.Addresses.{address_in}
use Rattle.cov_base.specs.declared.number.NodeRef.{NodeRef}
use Rattle.cov_base.specs.declared.number.LineRef.{LineRef}
use Rattle.cov_expr.specs.Formula.{Formula}
use Rattle.cov_edit.specs.declared.edit.Edit.{Edit}
use Rattle.cov_edit.specs.declared.edit.Edit.TheVariants as edits
use Rattle.cov_edit.specs.declared.command.Command.{Command}
use Rattle.cov_edit.specs.Numbering.{NumberedEdit, node_number, line_number, nodes_made, anchors_of, numbers_after, numbers_of, numbered_edit, numbered_from}
use Rattle.cov_edit.specs.Replay.{changes_within}
use Rattle.cov_edit.specs.Variant.{Line}
use Rattle.cov_history.specs.Kept.{Kept, new_line, Holding, held_after, held_with, held_by, IsHolding}

-- an insert, the edits of its commit before it, and those after it
pub record Insertion : Type 0 where
  pub begun : List Edit
  pub file : NodeRef
  pub after : LineRef
  pub text : List ℕ
  pub later : List Edit

-- the insert as an edit
abbrev pub the_insert : Insertion → Edit
the_insert i = edits.Insert i.file i.after i.text

-- all edits of the commit
abbrev pub all_edits : Insertion → List Edit
all_edits i = i.begun ++ the_insert i ∷ i.later

module _ (history : List Command) where
  -- how many lines the history has
  abbrev pub lines_before : ℕ
  lines_before = length (numbers_of history).addresses

  -- the addresses of all lines after a commit with these edits
  abbrev pub table_of : List Edit → List (List ℕ)
  table_of es = (numbers_after (numbers_of history) es).addresses

  -- the first of a commit's edits by numbers and addresses
  abbrev pub numbered_amid : List Edit → List Edit → List NumberedEdit
  numbered_amid es begun = numbered_from (numbers_of history) (table_of es) (numbers_of history).nodes lines_before begun

  -- how many lines there are when the first edits of a commit are done
  abbrev pub lines_amid : List Edit → ℕ
  lines_amid begun = lines_before + length (anchors_of lines_before begun)

  -- what is held when the first of a commit's edits are done, each of which applies within the expression at its place
  abbrev pub held_amid : List (Formula ℕ) → List Edit → List Edit → Holding
  held_amid within es begun = fold (held_with (length history + 1)) (held_by history) (changes_within within (numbered_amid es begun))

  -- what may be held when the first of a commit's edits are done, whatever each applies within: it stands in order, has only
  -- lines that are made so far, and no change beyond the commit
  abbrev pub IsHeldAmid : List Edit → List Edit → Holding → Type 0
  IsHeldAmid es begun held = IsHolding (table_of es) (lines_amid begun) (length history + 1) held

  -- what is held when one more of a commit's edits is done, which applies within an expression
  abbrev pub held_next : List Edit → List Edit → Holding → Formula ℕ → Edit → Holding
  held_next es begun held on e =
      held_after (length history + 1) on held (numbered_edit (numbers_of history) (table_of es) ((numbers_of history).nodes + nodes_made begun) (lines_amid begun) e)

  -- how many lines there are when the edits before the insert are done
  abbrev pub lines_begun : Insertion → ℕ
  lines_begun i = lines_amid i.begun

  -- the addresses of all lines after the commit
  abbrev pub table_with : Insertion → List (List ℕ)
  table_with i = table_of (all_edits i)

  -- the number of the file
  abbrev pub file_of : Insertion → ℕ
  file_of i = node_number (numbers_of history).nodes i.file

  -- the number of the anchor
  abbrev pub anchor_of : Insertion → ℕ
  anchor_of i = line_number lines_before i.after

  -- the new line, as it is kept if the insert applies within an expression
  abbrev pub line_with : Formula ℕ → Insertion → Kept Line
  line_with on i = new_line (length history + 1) on (file_of i) (address_in (table_with i) (lines_begun i + 1)) i.text

  -- what is held before the insert, if each edit applies within the expression at its place
  abbrev pub held_before : List (Formula ℕ) → Insertion → Holding
  held_before within i = held_amid within (all_edits i) i.begun

  -- what is held after the insert, by what is held before it, if it applies within an expression
  abbrev pub held_behind : Holding → Formula ℕ → Insertion → Holding
  held_behind held on i = held_next (all_edits i) i.begun held on (the_insert i)
