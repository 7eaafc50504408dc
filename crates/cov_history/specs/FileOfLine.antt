-- Whether a history holds all that it makes: the file of each line, and the rows.
use Rattle.std.specs.Prelude.{◌≡◌, ℕ, ◌+◌, ◌<◌, ◌≤◌, true, List, [], ◌∷◌, ◌++◌, length, map, Option, Some, None, slice_get}
use Rattle.std.specs.List.{list_any, filter_map}
use Rattle.cov_order.specs.Orders.{has_line, AreLines}
use Rattle.cov_edit.specs.declared.edit.Edit.{Edit}
use Rattle.cov_edit.specs.declared.edit.Edit.TheVariants as edits
use Rattle.cov_edit.specs.declared.command.Command.{Command}
use Rattle.cov_edit.specs.declared.command.Command.TheVariants as commands
use Rattle.cov_edit.specs.Numbering.{node_number, nodes_made, numbers_of, line_count}
use Rattle.cov_edit.specs.Sides.{unsided}
use Rattle.cov_edit.specs.Variant.{Line}
use Rattle.cov_history.specs.Kept.{Kept, kept_number, is_row, kept_of, entries_of, is_kept_anchor}
use Rattle.cov_history.specs.Files.{file_order}

-- the file of the line that an edit inserts, if it inserts one, n nodes having been made before
abbrev pub new_file : ℕ → Edit → Option ℕ
new_file n (edits.New kind parent name) = None
new_file n (edits.Insert file after text) = Some (node_number n file)
new_file n (edits.Delete file line) = None
new_file n (edits.Rename node name) = None
new_file n (edits.Move node parent) = None
new_file n (edits.Remove node) = None

-- the files of the lines that edits insert, n nodes having been made before
abbrev pub new_file_of_line : ℕ → List Edit → List ℕ
new_file_of_line n es = filter_map (new_file n) es

-- the files of the lines that more of a history inserts, n nodes having been made before
abbrev pub file_of_line_from : ℕ → List Command → List ℕ
file_of_line_from n [] = []
file_of_line_from n (commands.Commit base choice ambition ss ∷ history) = new_file_of_line n (unsided ss) ++ file_of_line_from (n + nodes_made (unsided ss)) history
file_of_line_from n (_ ∷ history) = file_of_line_from n history

-- the file into which a history inserts its line 1, its line 2 and so on
abbrev pub file_of_line_in : List Command → List ℕ
file_of_line_in history = file_of_line_from 0 history

-- the lines after the first so many are among the kept ones of these files, in order
abbrev pub AreFilesOfLines : List (Kept Line) → ℕ → List ℕ → Type 0
AreFilesOfLines kept n [] = Unit {0}
AreFilesOfLines kept n (file ∷ files) = (is_kept_anchor file (n + 1) kept ≡ true) × AreFilesOfLines kept (n + 1) files

-- what a history holds has each line that the history inserts, once, and in its file, and a row of each node that it makes
pub record IsWhole (history : List Command) : Type 0 where
  pub counted : length (file_of_line_in history) ≡ line_count history
  pub lines : (before file : ℕ) → slice_get (file_of_line_in history) before ≡ Some file → has_line (before + 1) (file_order file (kept_of history)) ≡ true
  pub once : AreLines (map kept_number (kept_of history))
  pub rows : (node : ℕ) → 0 < node → node ≤ (numbers_of history).nodes → list_any (λ k. is_row node k.item) (entries_of history) ≡ true
