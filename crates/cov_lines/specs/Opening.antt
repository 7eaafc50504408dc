-- How a run begins.
use Rattle.std.specs.Prelude.{◌≡◌, ℕ, List, Result, Ok, Err}
use Rattle.cov_edit.specs.declared.command.Command.{Command}
use Rattle.cov_lines.specs.States.{ServerValue, starting}
use Rattle.cov_store.specs.Opening.{MayStop}
use Rattle.cov_store.specs.declared.damage.StoreFault.{StoreFault}

-- the run begins with this history, unless the opening stops
abbrev pub BeginsWith : List Command → ℕ → ℕ → Result ServerValue StoreFault → Type 0
BeginsWith history before now (Ok server) = server.state ≡ starting history
BeginsWith history before now (Err fault) = MayStop before now fault
