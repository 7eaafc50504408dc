-- Laws of codes.
use Rattle.std.specs.Prelude.{◌≡◌, List, Some}
use Rattle.cov_codes.specs.Codes.{refusal_code}
use Rattle.cov_edit.specs.declared.command.Command.{Command}
use Rattle.cov_edit.specs.History.{option_count}
use Rattle.cov_history.specs.Verdict.{verdict}
use Rattle.cov_history.specs.declared.refusal.Refusal.{Refusal}
use Rattle.cov_script.specs.Replies.{IsCodeOf}

-- the code of a command's refusal names no option beyond those that are declared, so that it can be told
abbrev pub RefusalsAreTold : Type 0
RefusalsAreTold = (history : List Command) (command : Command) (refusal : Refusal) → verdict history command ≡ Some refusal
    → IsCodeOf (option_count history) (refusal_code refusal)
