-- A state that keeps its history.
use Rattle.std.proofs.Common.{◌≡◌, ℕ, ◌<◌, Bool, None, List, Result, Ok, Err, IfOk, OnOk, refl, sym, subst}
use Rattle.cov_dd.specs.declared.triple.Triple.{Triple}
use Rattle.cov_dd.specs.Diagrams.{Extends}
use Rattle.cov_expr.specs.Formula.{Formula}
use Rattle.cov_expr.specs.Options.{Declared}
use Rattle.cov_edit.specs.declared.command.Command.{Command}
use Rattle.cov_edit.specs.declared.command.Command.TheVariants as commands
use Rattle.cov_edit.specs.declared.sided.Sided.{Sided}
use Rattle.cov_history.specs.declared.refusal.Refusal.{Refusal}
use Rattle.cov_engine.specs.Ready.{IsReady, IsReadyFor, IsStagedFor}
use Rattle.cov_engine.specs.Refusing.{early_refusal}
use Rattle.cov_engine.specs.States.{AreDeclarationsOf, Declares, history_of, table_of, IsKept}
use Rattle.cov_engine.specs.declared.addition.Addition.{Addition}
use Rattle.cov_engine.specs.declared.addition.Addition.TheVariants as additions
use Rattle.cov_engine.specs.declared.state.EngineState.{EngineState}
use Rattle.cov_engine.proofs.Holdings.{held-grown}
use Rattle.cov_engine.proofs.Readied.{as-staged}
use Rattle.cov_engine.proofs.States.{state-grown}

-- a state with another table
abbrev pub with_table : EngineState → List Triple → EngineState
with_table s ts = record {
  commands = s.commands;
  options = s.options;
  option_positions = s.option_positions;
  rules = s.rules;
  counts = s.counts;
  index = s.index;
  visible = record { table = ts; entries = s.visible.entries; files = s.visible.files };
  upgraded = s.upgraded;
}

pub kept-grown : (s : EngineState) (ts : List Triple) → IsKept s → Extends (table_of s) ts → IsKept (with_table s ts)
kept-grown s ts kept x = (
  (state-grown (history_of s) s.options.names (table_of s) ts s.rules.standing s.rules.standing s.counts kept.0.0 x refl, kept.0.1, kept.0.2),
  held-grown (history_of s) (table_of s) ts s.index.commits.items s.index.file_of_line.items s.visible.entries s.visible.files kept.1 x,
)

-- what it declares stays with a table that is the longer one
pub declared-again : (s : EngineState) (ts us : List Triple) → IsKept s → Extends (table_of s) ts → us ≡ ts → Declares (history_of s) (with_table s us)
declared-again s ts us kept x same = subst (λ ws. Declares (history_of s) (with_table s ws)) (sym same) (kept-grown s ts kept x).0

-- a state with other room for options
abbrev pub with_options : EngineState → Declared → EngineState
with_options s own = record {
  commands = s.commands;
  options = own;
  option_positions = s.option_positions;
  rules = s.rules;
  counts = s.counts;
  index = s.index;
  visible = s.visible;
  upgraded = s.upgraded;
}

pub kept-roomier : (s : EngineState) (own : Declared) → IsKept s → own.names ≡ s.options.names → IsKept (with_options s own)
kept-roomier s own kept same = (
  (subst (λ names. AreDeclarationsOf (history_of s) names (table_of s) s.rules.standing s.counts) (sym same) kept.0.0, kept.0.1, kept.0.2),
  kept.1,
)

-- an option is ready once there is its name, and room for it
pub option-readied : (s : EngineState) (k : Command) (name : List ℕ) → k ≡ commands.Option name → IsKept s → (r : Result Addition Refusal)
    → OnOk r (0 < s.options.spare) → IfOk r (λ own. own ≡ additions.Option name) → IfOk r (IsReadyFor s k)
option-readied s k name is kept (Ok own) room named = (
  kept.0,
  subst (IsReady (history_of s) k s.options.spare (table_of s) s.rules s.index.commits.spare s.index.commits.items s.index.file_of_line.items s.visible.entries s.visible.files) (sym named)
      (is, room, kept.1),
)
option-readied s k name is kept (Err e) room named = tt

-- so is an upgrade
pub upgrade-readied : (s : EngineState) (k : Command) → k ≡ commands.Upgrade → IsKept s → IsReadyFor s k additions.Upgrade
upgrade-readied s k is kept = (kept.0, (is, kept.1))

-- a commit is ready once it is staged
pub commit-readied : (s : EngineState) (k : Command) (base : ℕ) (choice : List Bool) (ambition : Formula ℕ) (es : List Sided)
    → k ≡ commands.Commit base choice ambition es → early_refusal (history_of s) k ≡ None → (r : Result Addition Refusal)
    → IfOk r (IsStagedFor s ambition es) → IfOk r (IsReadyFor s k)
commit-readied s k base choice ambition es is passes (Ok own) staged = (
  staged.0,
  as-staged (history_of s) k base choice ambition es is passes s.options.spare (table_of s) s.rules s.index.commits.spare s.index.commits.items s.index.file_of_line.items s.visible.entries s.visible.files own staged.1,
)
commit-readied s k base choice ambition es is passes (Err e) staged = tt
