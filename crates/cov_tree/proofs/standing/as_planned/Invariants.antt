use Rattle.std.proofs.Common.{◌≡◌, map, take}
use Rattle.cov_tree.specs.Dated.{newest_entry}
use Rattle.cov_tree.specs.Standing.{entry_with}
use Rattle.cov_tree.proofs.standing.as_planned.Given as goal

abbrev pub invariant-entries : goal.invariant-entries
invariant-entries l = l.list.items ≡ map (entry_with l.plan) (map newest_entry (take l.entry-index l.entries))
