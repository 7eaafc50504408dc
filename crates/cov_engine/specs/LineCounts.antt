-- How many lines there were after each command.
use Rattle.std.specs.Prelude.{◌≡◌, ℕ, ◌+◌, ◌<◌, List, length, take, slice_index}
use Rattle.cov_edit.specs.declared.command.Command.{Command}
use Rattle.cov_edit.specs.Numbering.{line_count}

-- there is a number for each command: how many lines the history has up to it
pub record AreLineCounts (history : List Command) (counts : List ℕ) : Type 0 where
  pub many : length counts ≡ length history
  pub are : (n : ℕ) → n < length history → slice_index counts n ≡ line_count (take (n + 1) history)
