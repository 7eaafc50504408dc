-- The variants that a view shows.
use Rattle.std.specs.Prelude.{◌≡◌, ℕ, ◌+◌, ◌≤◌, true, false, ◌&&◌, List, [], ◌∷◌, length, map, Option, Some}
use Rattle.std.specs.List.{AllByRecursion}
use Rattle.cov_base.specs.Addresses.{line_of, with_line, AreInOrder, IsLineOf}
use Rattle.cov_base.specs.Rows.{Row}
use Rattle.cov_edit.specs.declared.edit.Edit.{Edit}
use Rattle.cov_edit.specs.declared.edit.Edit.TheVariants as edits
use Rattle.cov_edit.specs.Numbering.{Numbers, NumberedEdit, numbered_from, node_number, line_number}
use Rattle.cov_edit.specs.Variant.{Variant, Line, line_address, lines_of}
use Rattle.cov_view.specs.References.{is_dir_kind, is_made_node, is_made_line}
use Rattle.cov_view.specs.Seen.{Seen}
use Rattle.cov_view.specs.declared.fault.EditFault.{EditFault}
use Rattle.cov_view.specs.declared.fault.EditFault.TheVariants as faults
use Rattle.cov_view.specs.declared.line.ViewLine.{ViewLine}
use Rattle.cov_view.specs.declared.row.ViewRow.{ViewRow}

-- a view's row by numbers
abbrev pub row_by_number : Numbers → ViewRow → Row
row_by_number ns r = record { node = node_number ns.nodes r.node; kind = r.kind; parent = node_number ns.nodes r.parent; name = r.name }

-- a view's line by its number, with its text
abbrev pub line_by_number : Numbers → ViewLine → ℕ × List ℕ
line_by_number ns l = (line_number (length ns.addresses) l.line, l.text)

-- a variant's line by its number, with its text
abbrev pub by_number : Line → ℕ × List ℕ
by_number l = (line_of l.address, l.text)

-- a row's lines are those that a variant has in its file
abbrev pub ShowsLines : Numbers → Variant → ViewRow → Type 0
ShowsLines ns v r = is_dir_kind r.kind ≡ false → map by_number (lines_of v (node_number ns.nodes r.node)) ≡ map (line_by_number ns) r.lines

-- a row names nothing but what is made
abbrev pub IsMade : Numbers → Seen → ViewRow → Type 0
IsMade ns s r =
    ((is_made_node ns.nodes s.nodes_made r.node && is_made_node ns.nodes s.nodes_made r.parent) ≡ true)
    × AllByRecursion (λ l. is_made_line (length ns.addresses) s.lines_made l.line ≡ true) r.lines

-- a view shows a variant: its rows are the variant's, and so are the lines of each file that is there. Its references
-- count from these numbers, and the table has the addresses of all lines so far
pub record Shows (ns : Numbers) (table : List (List ℕ)) (s : Seen) (v : Variant) : Type 0 where
  pub rows : v.rows ≡ map (row_by_number ns) s.rows
  pub lines : AllByRecursion (ShowsLines ns v) s.rows
  pub made : AllByRecursion (IsMade ns s) s.rows
  pub in_order : AreInOrder line_address v.lines
  pub files : AllByRecursion (λ l. l.file ≤ ns.nodes + s.nodes_made) v.lines
  pub addresses : AllByRecursion (λ l. IsLineOf table (length table) l.address) v.lines
  pub counted : length table ≡ length ns.addresses + s.lines_made

-- the table after an edit
abbrev pub table_after : Numbers → List (List ℕ) → Edit → List (List ℕ)
table_after ns table (edits.New kind parent name) = table
table_after ns table (edits.Insert file after text) = with_line table (line_number (length ns.addresses) after)
table_after ns table (edits.Delete file line) = table
table_after ns table (edits.Rename node name) = table
table_after ns table (edits.Move node parent) = table
table_after ns table (edits.Remove node) = table

-- the next edit by numbers, after those by which a view came to be
abbrev pub next_by_number : Numbers → List (List ℕ) → Seen → Edit → List NumberedEdit
next_by_number ns table s e = numbered_from ns (table_after ns table e) (ns.nodes + s.nodes_made) (length table) (e ∷ [])

-- a fault is the refusal, unless memory is wanting
abbrev pub FaultBy : EditFault → Option EditFault → Type 0
FaultBy faults.Memory refused = Unit {0}
FaultBy f refused = refused ≡ Some f
