-- Payloads that are read as commands.
use Rattle.std.proofs.Common.{◌≡◌, ℕ, List, Option, Some, None, refl}
use Rattle.cov_edit.specs.declared.command.Command.{Command}
use Rattle.cov_record.specs.Laws.{IsNoRecord}
use Rattle.cov_record.specs.Reading.{front_command}
use Rattle.cov_record.proofs.Records.{record_back, record_forth}
use Rattle.cov_replica.specs.Laws.{OneReading}
use Rattle.cov_replica.specs.Taken.{command_in}

pub one_reading : OneReading
unfolding command_in
one_reading payload command = (λ is. record_back command payload is, λ e. record_forth (front_command payload) payload command refl e)

-- a payload that is no record is read as no command
pub unread : (payload : List ℕ) → IsNoRecord payload → command_in payload ≡ None
unread payload none = by (command_in payload) refl
  where
    by : (o : Option Command) → command_in payload ≡ o → command_in payload ≡ None
    by None e = e
    by (Some c) e = absurd (none c ((one_reading payload c).1 e))
