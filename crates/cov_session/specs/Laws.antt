-- Laws of sessions.
use Rattle.std.specs.Prelude.{List, ◌++◌}
use Rattle.cov_edit.specs.declared.command.Command.{Command}
use Rattle.cov_session.specs.Open.{SessionValue, IsOpen}

-- a session that is open stays so when its history grows, whatever comes
abbrev pub OpenSessionsStay : Type 0
OpenSessionsStay = (history later : List Command) (s : SessionValue) → IsOpen history s → IsOpen (history ++ later) s
