use Rattle.std.proofs.Common.{◌≡◌, ◌≤◌, false, length, replicate}
use Rattle.cov_dd.specs.Diagrams.{span}
use Rattle.cov_dd.proofs.Walks.{walked}
use Rattle.cov_dd.proofs.table.Table.first_choice.Given as goal

abbrev pub invariant-loop-triple : goal.invariant-loop-triple
invariant-loop-triple l = record {
  walk : walked l.self l.node l.choice ≡ walked l.self l.fn.a (replicate l.count false);
  long : length l.choice ≡ l.count;
  options : span l.self l.node ≤ l.count;
}

abbrev pub decreases-loop-triple : goal.decreases-loop-triple
decreases-loop-triple l = l.node
