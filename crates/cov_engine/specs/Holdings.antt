-- What an engine keeps of the rows and lines that its history holds.
use Rattle.std.specs.Prelude.{◌≡◌, ℕ, ◌≤◌, Bool, List, length, map, take}
use Rattle.std.specs.List.{AllByRecursion}
use Rattle.cov_dd.specs.declared.triple.Triple.{Triple}
use Rattle.cov_tree.specs.Carried.{AreNodesAt}
use Rattle.cov_tree.specs.Dated.{Dated, rows_at, nodes_in}
use Rattle.cov_tree.specs.Renumbered.{visibilities, AreNodes}
use Rattle.cov_edit.specs.declared.command.Command.{Command}
use Rattle.cov_edit.specs.History.{option_count}
use Rattle.cov_edit.specs.Numbering.{numbers_of, line_count}
use Rattle.cov_edit.specs.Replay.{replay}
use Rattle.cov_history.specs.Kept.{kept_of}
use Rattle.cov_history.specs.Files.{file_dated}
use Rattle.cov_overtaking.specs.Marks.{AreMarks}
use Rattle.cov_history.specs.FileOfLine.{AreFilesOfLines}
use Rattle.cov_visible.specs.Nodes.{AreDated}
use Rattle.cov_history.specs.FileNodes.{files_of}
use Rattle.cov_visible.specs.Parts.{part_node, files_in}
use Rattle.cov_overtaking.specs.declared.mark.CommitMark.{CommitMark}
use Rattle.cov_visible.specs.declared.file_part.FilePart.{FilePart}

-- a stored file has its node's lines in order, with no change beyond the history, and keeps no node that isn't of the table
pub record IsFileOf (history : List Command) (ts : List Triple) (e : FilePart) : Type 0 where
  pub lines : AreDated ts (option_count history) (file_dated e.node (kept_of history)) e.lines.lines
  pub newest : e.lines.newest ≤ length history
  pub nodes : AreNodes ts e.lines.nodes

-- on each choice the entries have at each position the rows of the replay, their visibilities are nodes of a table, those that they
-- had too, and no change of them is beyond the history
pub record AreEntriesOf (history : List Command) (ts : List Triple) (entries : Dated) : Type 0 where
  pub rows : (c : List Bool) (p : ℕ) → rows_at ts c p entries ≡ (replay c (take p history)).rows
  pub within : AreNodesAt ts entries
  pub kept : AreNodes ts (visibilities entries)
  pub from : entries.from ≤ length history

-- the entries are a history's; so are the files, in order, with their lines, whose nodes are of a table; the file of each line is
-- noted, and so are the commits
pub record AreRowsAndLinesOf (history : List Command) (ts : List Triple) (commits : List CommitMark) (file_of_line : List ℕ) (entries : Dated) (stored : List FilePart) : Type 0 where
  pub of_entries : AreEntriesOf history ts entries
  pub below : AllByRecursion (λ node. node ≤ (numbers_of history).nodes) (nodes_in entries)
  pub made : files_in entries ≡ files_of history
  pub parts : map part_node stored ≡ files_of history
  pub files : AllByRecursion (IsFileOf history ts) stored
  pub lines : length file_of_line ≡ line_count history
  pub in_files : AreFilesOfLines (kept_of history) 0 file_of_line
  pub few : length commits ≤ length history
  pub marks : AreMarks ts (option_count history) 0 history commits
