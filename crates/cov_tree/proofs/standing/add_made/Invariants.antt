use Rattle.std.proofs.Common.{◌≡◌, ◌++◌, take}
use Rattle.cov_tree.specs.Dated.{nodes_in}
use Rattle.cov_tree.specs.Standing.{made_beside}
use Rattle.cov_tree.proofs.standing.add_made.Given as goal

abbrev pub invariant-plan : goal.invariant-plan
invariant-plan l = l.list.items ≡ l.fn.list.items ++ made_beside (nodes_in l.entries) (take l.entry-index l.plan)
