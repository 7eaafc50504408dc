-- Lines with other nodes in the places of their newest.
use Rattle.std.specs.Prelude.{◌≡◌, ℕ, List, Some}
use Rattle.std.specs.List.{AllZip}
use Rattle.cov_file.specs.Dated.{DatedLine, newest_vis}
use Rattle.cov_values.specs.Replaced.{found_by}
use Rattle.cov_values.specs.declared.replacing.Replaced.{Replaced}

-- the newest node of a line's changes takes the place of the one before
abbrev pub IsNewestReplaced : List Replaced → List (ℕ × ℕ) → List (ℕ × ℕ) → Type 0
IsNewestReplaced rs cs cs' = found_by rs (newest_vis cs) ≡ Some (newest_vis cs')

-- the same of a line, which is as it was but for its nodes
pub record IsReplacedLine (rs : List Replaced) (l l' : DatedLine) : Type 0 where
  pub line : l.line ≡ l'.line
  pub text : l.text ≡ l'.text
  pub newest : IsNewestReplaced rs l.changes l'.changes

abbrev pub AreReplacedLines : List Replaced → List DatedLine → List DatedLine → Type 0
AreReplacedLines rs ls ls' = AllZip (IsReplacedLine rs) ls ls'
