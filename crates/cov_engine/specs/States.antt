-- What an engine keeps of its history.
use Rattle.std.specs.Prelude.{◌≡◌, ℕ, suc, ◌+◌, ◌≤◌, List, [], ◌∷◌, ◌++◌, length, Option}
use Rattle.cov_dd.specs.Sweeps.{AreReached}
use Rattle.cov_dd.specs.declared.triple.Triple.{Triple}
use Rattle.cov_edit.specs.declared.command.Command.{Command}
use Rattle.cov_edit.specs.declared.command.Command.TheVariants as commands
use Rattle.cov_edit.specs.History.{options_of, constraints_of, preferences_of, defaults_of, byte_count}
use Rattle.cov_edit.specs.Limits.{is_upgraded, limits_of}
use Rattle.cov_edit.specs.Numbering.{line_count, node_count}
use Rattle.cov_rules.specs.Installing.{Standing}
use Rattle.cov_rules.specs.Renumbered.{nodes_of as rule_nodes}
use Rattle.cov_tree.specs.Renumbered.{visibilities}
use Rattle.cov_view.specs.Refusals.{first_of}
use Rattle.cov_visible.specs.Renumbered.{line_nodes}
use Rattle.cov_engine.specs.Holdings.{AreRowsAndLinesOf}
use Rattle.cov_overtaking.specs.Marks.{all_mark_nodes}
use Rattle.cov_engine.specs.Ruling.{AreRulesOf}
use Rattle.cov_history.specs.Verdict.{IsLegal, name_refusals}
use Rattle.cov_engine.specs.declared.counts.Counts.{Counts}
use Rattle.cov_engine.specs.declared.state.EngineState.{EngineState}
use Rattle.cov_history.specs.declared.refusal.Refusal.{Refusal}

-- a history, the table of the visibilities and rules that an engine keeps of it, and every node that it keeps, in one order
pub record EngineValue : Type 0 where
  pub history : List Command
  pub table : List Triple
  pub nodes : List ℕ

-- a history with its table, and a command that it accepted and doesn't have yet
pub record Pending : Type 0 where
  pub history : List Command
  pub command : Command
  pub table : List Triple

-- the counts are those of a history
pub record AreCountsOf (history : List Command) (counts : Counts) : Type 0 where
  pub lines : counts.lines ≡ line_count history
  pub nodes : counts.nodes ≡ node_count history
  pub bytes : counts.bytes ≡ byte_count history

-- the names of options, the rules that stand with their table, and the counts are those of a legal history
pub record AreDeclarationsOf (history : List Command) (names : List (List ℕ)) (ts : List Triple) (standing : Standing) (counts : Counts) : Type 0 where
  pub legal : IsLegal history
  pub options : names ≡ options_of history
  pub rules : AreRulesOf history ts standing
  pub most : length history ≤ (limits_of history).commands
  pub counted : AreCountsOf history counts

-- the history of a state, and its table
abbrev pub history_of : EngineState → List Command
history_of s = s.commands.commands

abbrev pub table_of : EngineState → List Triple
table_of s = s.visible.table

-- every node that it keeps: those of its rules, those on which rows and lines are visible and were, and those of its commits
abbrev pub nodes_of : EngineState → List ℕ
nodes_of s =
    rule_nodes s.rules.standing
    ++ (visibilities s.visible.entries ++ (line_nodes s.visible.files ++ all_mark_nodes s.index.commits.items))

-- each entry of a table is reached from a node that is kept
abbrev pub IsSwept : EngineValue → Type 0
IsSwept e = AreReached e.table e.nodes

-- the positions at which commands declare options, so many commands coming before these
abbrev pub options_at : ℕ → List Command → List ℕ
options_at n [] = []
options_at n (commands.Option name ∷ ks) = suc n ∷ options_at (suc n) ks
options_at n (commands.Constraint expr ∷ ks) = options_at (suc n) ks
options_at n (commands.Prefer expr ∷ ks) = options_at (suc n) ks
options_at n (commands.Default option on ∷ ks) = options_at (suc n) ks
options_at n (commands.Commit base choice ambition es ∷ ks) = options_at (suc n) ks
options_at n (commands.Upgrade ∷ ks) = options_at (suc n) ks

-- a state's options with their positions, its rules and its counts are those of a history, and it says whether there is an upgrade
abbrev pub Declares : List Command → EngineState → Type 0
Declares history s =
    AreDeclarationsOf history s.options.names (table_of s) s.rules.standing s.counts
    × (s.option_positions ≡ options_at 0 history)
    × (s.upgraded ≡ is_upgraded history)

-- so are its rows, files, lines and commits
abbrev pub Contains : List Command → EngineState → Type 0
Contains history s =
    AreRowsAndLinesOf history (table_of s) s.index.commits.items s.index.file_of_line.items
    s.visible.entries s.visible.files

-- a state keeps a history
abbrev pub Keeps : List Command → EngineState → Type 0
Keeps history s = Declares history s × Contains history s

-- a state keeps its own history. While a command is prepared that isn't in it yet, what the command makes is there as well
abbrev pub IsKept : EngineState → Type 0
IsKept s = Keeps (history_of s) s

-- the refusal of an option by its name, so many being allowed and these declared
abbrev pub name_refusal : ℕ → List (List ℕ) → List ℕ → Option Refusal
name_refusal most names name = first_of (name_refusals most names name)

-- the number on the receipt of a command: that of the option, that of the rule within its kind, 0 for a commit, or 2 for an upgrade
abbrev pub receipt_number : List Command → Command → ℕ
receipt_number history (commands.Option name) = length (options_of history)
receipt_number history (commands.Constraint expr) = length (constraints_of history) + 1
receipt_number history (commands.Prefer expr) = length (preferences_of history) + 1
receipt_number history (commands.Default option on) = length (defaults_of history) + 1
receipt_number history (commands.Commit base choice ambition es) = 0
receipt_number history commands.Upgrade = 2
