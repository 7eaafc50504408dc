-- What a disk keeps of a run.
use Rattle.std.specs.Prelude.{ℕ, ◌<◌, ◌≤◌, List, [], ◌∷◌, ◌++◌, length, Option, Some, None}
use Rattle.cov_edit.specs.declared.command.Command.{Command}
use Rattle.cov_history.specs.Verdict.{verdict}
use Rattle.cov_history.specs.declared.refusal.Refusal.{Refusal}
use Rattle.cov_store.specs.Stands.{IsStored, gate_of}
use Rattle.cov_lines.specs.States.{State}

-- these bytes are the store of the state's history
abbrev pub stored : State → List ℕ → Type 0
stored st image = IsStored image st.history

-- the gate behind the state's history is among these bytes
abbrev pub gated : State → List ℕ → Type 0
gated st bytes = gate_of st.history < length bytes

-- how many commands there are
abbrev pub count : State → ℕ
count st = length st.history

-- the history with one command more, unless it is refused
abbrev pub unless_refused : Option Refusal → List Command → Command → List Command
unless_refused None history command = history ++ command ∷ []
unless_refused (Some refusal) history command = history

-- the history with one command more, unless it refuses it
abbrev pub grown : List Command → Command → List Command
grown history command = unless_refused (verdict history command) history command

-- the history has no command more, since it refuses this one
abbrev pub IsNotGrown : List Command → Command → Type 0
IsNotGrown history command = length (grown history command) ≤ length history
