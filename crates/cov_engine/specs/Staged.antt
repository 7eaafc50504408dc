-- A commit that is staged.
use Rattle.std.specs.Prelude.{◌≡◌, ℕ, ◌+◌, Bool, List, length, map, ◌++◌, None}
use Rattle.std.specs.List.{AllByRecursion, AllZip}
use Rattle.cov_dd.specs.declared.triple.Triple.{Triple}
use Rattle.cov_dd.specs.Diagrams.{Stands}
use Rattle.cov_expr.specs.Formula.{Formula, value}
use Rattle.cov_edit.specs.declared.command.Command.{Command}
use Rattle.cov_edit.specs.declared.command.Command.TheVariants as commands
use Rattle.cov_edit.specs.declared.sided.Sided.{Sided}
use Rattle.cov_edit.specs.History.{option_count}
use Rattle.cov_edit.specs.Numbering.{numbers_of, line_count}
use Rattle.cov_edit.specs.Sides.{unsided, conditions}
use Rattle.cov_history.specs.BadChoices.{unsound_refusal}
use Rattle.cov_history.specs.FileOfLine.{new_file_of_line}
use Rattle.cov_history.specs.Verdict.{RefusedBy}
use Rattle.cov_history.specs.declared.refusal.Refusal.{Refusal}
use Rattle.cov_visible.specs.Staging.{contents, new_files, HasRoom}
use Rattle.cov_engine.specs.Holdings.{AreRowsAndLinesOf}
use Rattle.cov_visible.specs.Resolved.{AreResolved}
use Rattle.cov_visible.specs.RowPlans.{row_changes, nodes_after_all, kinds_after_all}
use Rattle.cov_tree.specs.declared.entry.Entry.{Entry}
use Rattle.cov_tree.specs.Changes.{Makes}
use Rattle.cov_tree.specs.Dated.{Dated, HasRoom as HasRowRoom, nodes_in, kinds_in, nodes_with, kinds_with}
use Rattle.cov_visible.specs.declared.file_part.FilePart.{FilePart}
use Rattle.cov_visible.specs.declared.resolved_edit.ResolvedEdit.{ResolvedEdit}
use Rattle.cov_overtaking.specs.Marks.{IsMark}
use Rattle.cov_overtaking.specs.declared.mark.CommitMark.{CommitMark}

-- each node stands for the expression at its place, and names only the first so many options
abbrev pub StandFor : List Triple → ℕ → List (Formula ℕ) → List ℕ → Type 0
StandFor ts count within nodes = AllZip (λ f n. Stands ts n 0 count (value f)) within nodes

-- a commit is planned after a history: its mark is ready, there is a node for where each edit applies, its edits have their
-- numbers, and a plan makes its changes of rows, with the nodes that it makes behind those before
pub record IsCommitPlan (history : List Command) (ts : List Triple) (entries : Dated) (stored : List FilePart) (ambition : Formula ℕ) (es : List Sided) (mark : CommitMark) (ss : List ResolvedEdit) (plan : List Entry) : Type 0 where
  pub marked : IsMark ts (option_count history) (length history + 1) ambition es mark
  pub on : List ℕ
  pub applies : StandFor ts (option_count history) (conditions ambition es) on
  pub resolved : AreResolved (length history + 1) stored (numbers_of history).nodes (line_count history) on ts (unsided es) ss
  pub changes : Makes ts entries plan (row_changes ss)
  pub nodes : nodes_with plan entries ≡ nodes_after_all (row_changes ss) (nodes_in entries)
  pub kinds : kinds_with plan entries ≡ kinds_after_all (row_changes ss) (kinds_in entries)

-- a commit is staged: its files and the files of its lines are kept behind those of the history, each file has room for what it
-- does to it and the entries for its changes of rows, and its mark, where its edits apply and its edits by numbers are ready
pub record IsStaged (history : List Command) (ts : List Triple) (ambition : Formula ℕ) (es : List Sided) (commits : List CommitMark) (mark : CommitMark) (ss : List ResolvedEdit) (plan : List Entry) (file_of_line : List ℕ) (entries : Dated) (stored : List FilePart) : Type 0 where
  pub old_file_of_line : List ℕ
  pub old_stored : List FilePart
  pub held : AreRowsAndLinesOf history ts commits old_file_of_line entries old_stored
  pub marked : IsMark ts (option_count history) (length history + 1) ambition es mark
  pub file_of_line_is : file_of_line ≡ old_file_of_line ++ new_file_of_line (numbers_of history).nodes (unsided es)
  pub files : map contents stored ≡ map contents old_stored ++ new_files (numbers_of history).nodes (unsided es)
  pub room : AllByRecursion (HasRoom ss) stored
  pub changes : Makes ts entries plan (row_changes ss)
  pub nodes : nodes_with plan entries ≡ nodes_after_all (row_changes ss) (nodes_in entries)
  pub kinds : kinds_with plan entries ≡ kinds_after_all (row_changes ss) (kinds_in entries)
  pub row_room : HasRowRoom plan entries
  pub on : List ℕ
  pub applies : StandFor ts (option_count history) (conditions ambition es) on
  pub resolved : AreResolved (length history + 1) old_stored (numbers_of history).nodes (line_count history) on ts (unsided es) ss

-- edits with their sides within an ambition leave each variant sound, whatever session they come from
abbrev pub LeavesSound : List Command → Formula ℕ → List Sided → Type 0
LeavesSound history ambition es =
    (base : ℕ) (choice : List Bool) →
    unsound_refusal history ambition (commands.Commit base choice ambition es) ≡ None

-- a refusal is that of the first variant that they leave unsound, or memory is wanting
abbrev pub LeavesUnsound : List Command → Formula ℕ → List Sided → Refusal → Type 0
LeavesUnsound history ambition es refusal =
    (base : ℕ) (choice : List Bool) →
    RefusedBy refusal (unsound_refusal history ambition (commands.Commit base choice ambition es))
