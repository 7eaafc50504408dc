use Rattle.std.proofs.Common.{◌≡◌, map, take}
use Rattle.cov_tree.specs.Dated.{among, entry_at}
use Rattle.cov_tree.specs.Entries.{rows_in}
use Rattle.cov_tree.proofs.entries.rows_of_all.Given as goal

abbrev pub invariant-nodes : goal.invariant-nodes
invariant-nodes l = l.rows ≡ among (take l.node-index l.nodes) (rows_in l.table l.choice (map (entry_at l.at) l.entries))
