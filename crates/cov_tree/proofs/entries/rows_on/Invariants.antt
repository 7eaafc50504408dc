use Rattle.std.proofs.Common.{◌≡◌, map, take}
use Rattle.cov_tree.specs.Dated.{entry_at}
use Rattle.cov_tree.specs.Entries.{rows_in}
use Rattle.cov_tree.proofs.entries.rows_on.Given as goal

abbrev pub invariant-entries : goal.invariant-entries
invariant-entries l = l.rows ≡ rows_in l.table l.choice (map (entry_at l.at) (take l.entry-index l.entries))
