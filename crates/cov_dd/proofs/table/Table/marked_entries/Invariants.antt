use Rattle.std.proofs.Common.{◌-◌}
use Rattle.cov_dd.specs.Diagrams.{diagram_size}
use Rattle.cov_dd.specs.Marks.{is_marked, AreKept}
use Rattle.cov_dd.proofs.table.Table.marked_entries.Given as goal

abbrev pub invariant-loop-triple : goal.invariant-loop-triple
invariant-loop-triple l = AreKept (is_marked l.marks) l.self l.node l.kept

abbrev pub decreases-loop-triple : goal.decreases-loop-triple
decreases-loop-triple l = diagram_size l.self - l.node
