use Rattle.std.proofs.Common.{◌≡◌, ◌++◌, length, take}
use Rattle.cov_tree.specs.Renumbered.{all_numbers, entry_visibilities}
use Rattle.cov_tree.proofs.entries.renumbering.append.Given as goal

abbrev pub invariant-loop-ahead : goal.invariant-loop-ahead
invariant-loop-ahead l = record {
  nodes : l.into ++ all_numbers entry_visibilities l.ahead ≡ l.fn.into ++ all_numbers entry_visibilities l.entries;
  front : take (length l.fn.into) l.into ≡ l.fn.into;
}

abbrev pub decreases-loop-ahead : goal.decreases-loop-ahead
decreases-loop-ahead l = length l.ahead
