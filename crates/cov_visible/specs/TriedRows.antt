-- What the rows mean that edits are tried on.
use Rattle.std.specs.Prelude.{map}
use Rattle.cov_base.specs.Rows.{AreOnce}
use Rattle.cov_view.specs.Seen.{Seen}
use Rattle.cov_visible.specs.Showing.{bare_row}
use Rattle.cov_visible.specs.declared.tried_rows.FewOrMany.{FewOrMany}
use Rattle.cov_visible.specs.declared.tried_rows.FewOrMany.TheVariants as tried

-- a few rows as they are seen without lines, or what a view shows
abbrev pub rows_seen : FewOrMany → Seen
rows_seen (tried.Few rows) = record { rows = map bare_row rows; nodes_made = 0; lines_made = 0 }
rows_seen (tried.Many view) = view

-- a few rows are of different nodes but the root
abbrev pub StandApart : FewOrMany → Type 0
StandApart (tried.Few rows) = AreOnce rows
StandApart (tried.Many view) = Unit {0}
