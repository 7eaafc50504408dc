use Rattle.std.proofs.Common.{◌≡◌, take}
use Rattle.cov_tree.specs.Entries.{rows_in}
use Rattle.cov_tree.proofs.entries.visible_rows.Given as goal

abbrev pub invariant-entries : goal.invariant-entries
invariant-entries l = l.rows ≡ rows_in l.table l.choice (take l.entry-index l.entries)
