use Rattle.std.proofs.Common.{◌≡◌, ◌++◌, length, take}
use Rattle.cov_tree.specs.Renumbered.{all_numbers, list_visibilities}
use Rattle.cov_tree.proofs.renumbering.append_lists.Given as goal

abbrev pub invariant-loop-ahead : goal.invariant-loop-ahead
invariant-loop-ahead l = record {
  nodes : l.into ++ all_numbers list_visibilities l.ahead ≡ l.fn.into ++ all_numbers list_visibilities l.lists;
  front : take (length l.fn.into) l.into ≡ l.fn.into;
}

abbrev pub decreases-loop-ahead : goal.decreases-loop-ahead
decreases-loop-ahead l = length l.ahead
