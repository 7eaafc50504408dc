-- The tree of each valid variant of a legal history is whole.
use Rattle.std.proofs.Common.{◌≡◌, Bool, true, ◌≤◌, List, length}
use Rattle.cov_edit.specs.declared.command.Command.{Command}
use Rattle.cov_edit.specs.History.{option_count, is_valid_in}
use Rattle.cov_edit.specs.Replay.{replay}
use Rattle.cov_view.specs.Laws.{TreeIsWhole}
use Rattle.cov_view.specs.Tree.{IsTreeOf, tree_of}
use Rattle.cov_history.specs.Verdict.{IsLegal}
use Rattle.cov_history.proofs.RowsRising.{replay-once}
use Rattle.cov_history.proofs.Sound.{legal-sound}
use Rattle.cov_history.proofs.SpeltRows.{replay-spelt}

pub legal-tree : TreeIsWhole → (history : List Command) (c : List Bool) → IsLegal history → option_count history ≤ length c → is_valid_in history c ≡ true → IsTreeOf (replay c history) (tree_of (replay c history))
legal-tree whole history c legal long valid =
    whole (replay c history) (replay-once c history) (replay-spelt c history legal) (legal-sound history c legal long valid)
