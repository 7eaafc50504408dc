-- What is ready for a command.
use Rattle.std.specs.Prelude.{◌≡◌, ℕ, ◌+◌, ◌<◌, ◌≤◌, true, List, length, Some, None}
use Rattle.cov_dd.specs.declared.triple.Triple.{Triple}
use Rattle.cov_expr.specs.Formula.{Formula}
use Rattle.cov_edit.specs.declared.edit.Edit.{Edit}
use Rattle.cov_edit.specs.declared.command.Command.{Command}
use Rattle.cov_edit.specs.declared.command.Command.TheVariants as commands
use Rattle.cov_edit.specs.declared.sided.Sided.{Sided}
use Rattle.cov_edit.specs.Fits.{fits_command}
use Rattle.cov_edit.specs.History.{text_bytes, byte_count}
use Rattle.cov_edit.specs.Limits.{limits_of}
use Rattle.cov_edit.specs.Numbering.{nodes_made, anchors_of, numbers_of, line_count, node_count}
use Rattle.cov_edit.specs.Sides.{unsided}
use Rattle.cov_tree.specs.declared.entry.Entry.{Entry}
use Rattle.cov_tree.specs.Dated.{Dated}
use Rattle.cov_rules.specs.Installing.{RulesValue, IsPlan}
use Rattle.cov_visible.specs.Staging.{AreNear, AreLow}
use Rattle.cov_engine.specs.Staged.{IsCommitPlan, IsStaged}
use Rattle.cov_engine.specs.Holdings.{AreRowsAndLinesOf}
use Rattle.cov_engine.specs.Ruling.{rule_in}
use Rattle.cov_engine.specs.States.{Declares, history_of, table_of}
use Rattle.cov_history.specs.Sessions.{MayCome}
use Rattle.cov_history.specs.Verdict.{verdict}
use Rattle.cov_engine.specs.declared.counts.Counts.{Counts}
use Rattle.cov_visible.specs.declared.file_part.FilePart.{FilePart}
use Rattle.cov_overtaking.specs.declared.mark.CommitMark.{CommitMark}
use Rattle.cov_visible.specs.declared.resolved_edit.ResolvedEdit.{ResolvedEdit}
use Rattle.cov_engine.specs.declared.state.EngineState.{EngineState}
use Rattle.cov_engine.specs.declared.addition.Addition.{Addition}
use Rattle.cov_engine.specs.declared.addition.Addition.TheVariants as additions

-- a history accepts a command, and has room for it
pub record IsNext (history : List Command) (command : Command) (spare : ℕ) : Type 0 where
  pub fits : fits_command command ≡ true
  pub accepted : verdict history command ≡ None
  pub room : 0 < spare

-- edits that a history accepts keep within its limits
pub record IsInBounds (history : List Command) (es : List Edit) : Type 0 where
  pub near : AreNear (numbers_of history).nodes es
  pub low : AreLow (line_count history) es
  pub edits : length es ≤ (limits_of history).edits
  pub lines : line_count history + length (anchors_of 0 es) ≤ (limits_of history).lines
  pub nodes : node_count history + nodes_made es ≤ (limits_of history).nodes
  pub bytes : byte_count history + text_bytes es ≤ (limits_of history).bytes

-- the counts are those of a history with edits more
pub record AreCountsWith (history : List Command) (es : List Edit) (counts : Counts) : Type 0 where
  pub lines : counts.lines ≡ line_count history + length (anchors_of 0 es)
  pub nodes : counts.nodes ≡ node_count history + nodes_made es
  pub bytes : counts.bytes ≡ byte_count history + text_bytes es

-- what is staged for edits and an ambition is ready, and there is room for their commit
abbrev pub IsStagedReady : List Command → List Triple → Formula ℕ → List Sided → ℕ → List CommitMark → List ℕ → Dated → List FilePart → Addition → Type 0
IsStagedReady history ts ambition es spare commits file_of_line entries stored (additions.Option name) = ⊥
IsStagedReady history ts ambition es spare commits file_of_line entries stored (additions.Rule rule plan) = ⊥
IsStagedReady history ts ambition es spare commits file_of_line entries stored additions.Upgrade = ⊥
IsStagedReady history ts ambition es spare commits file_of_line entries stored (additions.Commit mark counts ss rows) =
    IsStaged history ts ambition es commits mark ss.items rows file_of_line entries stored × AreCountsWith history (unsided es) counts × (0 < spare)

-- a commit is staged, and there is room for it
abbrev pub IsCommitReady : List Command → List Triple → Command → ℕ → List CommitMark → List ℕ → Dated → List FilePart → CommitMark → Counts → List ResolvedEdit → List Entry → Type 0
IsCommitReady history ts (commands.Commit base choice ambition es) spare commits file_of_line entries stored mark counts ss rows =
    MayCome history (commands.Commit base choice ambition es) × IsStaged history ts ambition es commits mark ss rows file_of_line entries stored × AreCountsWith history (unsided es) counts × (0 < spare)
IsCommitReady history ts command spare commits file_of_line entries stored mark counts ss rows = ⊥

-- what a command wants is ready: a name and room for it, a rule with its plan, what a commit stages, or nothing for an upgrade
abbrev pub IsReady : List Command → Command → ℕ → List Triple → RulesValue → ℕ → List CommitMark → List ℕ → Dated → List FilePart → Addition → Type 0
IsReady history command options_spare ts rules commits_spare commits file_of_line entries stored (additions.Option name) =
    (command ≡ commands.Option name) × (0 < options_spare) × AreRowsAndLinesOf history ts commits file_of_line entries stored
IsReady history command options_spare ts rules commits_spare commits file_of_line entries stored (additions.Rule rule plan) =
    (rule_in command ≡ Some rule) × IsPlan ts rules rule plan × AreRowsAndLinesOf history ts commits file_of_line entries stored
IsReady history command options_spare ts rules commits_spare commits file_of_line entries stored (additions.Commit mark counts ss rows) =
    IsCommitReady history ts command commits_spare commits file_of_line entries stored mark counts ss.items rows
IsReady history command options_spare ts rules commits_spare commits file_of_line entries stored additions.Upgrade =
    (command ≡ commands.Upgrade) × AreRowsAndLinesOf history ts commits file_of_line entries stored

-- a commit is planned in a state
abbrev pub IsPlannedFor : EngineState → Formula ℕ → List Sided → CommitMark → List ResolvedEdit → List Entry → Type 0
IsPlannedFor s ambition es mark ss plan =
    IsInBounds (history_of s) (unsided es) × IsCommitPlan (history_of s) (table_of s) s.visible.entries s.visible.files ambition es mark ss plan

-- a state has what its history declares, and a commit is staged in it
abbrev pub IsStagedFor : EngineState → Formula ℕ → List Sided → Addition → Type 0
IsStagedFor s ambition es r =
    Declares (history_of s) s
    × IsStagedReady (history_of s) (table_of s) ambition es s.index.commits.spare
    s.index.commits.items s.index.file_of_line.items s.visible.entries s.visible.files r

-- a state has what its history declares, and what a command wants is ready in it
abbrev pub IsReadyFor : EngineState → Command → Addition → Type 0
IsReadyFor s command r =
    Declares (history_of s) s
    × IsReady (history_of s) command s.options.spare (table_of s) s.rules s.index.commits.spare
    s.index.commits.items s.index.file_of_line.items s.visible.entries s.visible.files r

-- a command is the next one of a state, and ready in it
abbrev pub IsPrepared : EngineState → Command → Addition → Type 0
IsPrepared s command r =
    IsNext (history_of s) command s.commands.spare × IsReadyFor s command r
