use Rattle.std.proofs.Common.{◌≡◌, ◌≤◌, List, ℕ, Some, IfSome}
use Rattle.cov_base.specs.Lines.{lines_of}
use Rattle.cov_disk.specs.Images.{LeavesOnly}
use Rattle.cov_io.specs.Progress.{CountsGiven, potential}
use Rattle.cov_loop.specs.Counts.{Counted, counts}
use Rattle.cov_loop.specs.Keeping.{AreAll, Reaches}
use Rattle.cov_loop.specs.Turns.{GoesOn, ahead_of, output}
use Rattle.cov_loop.proofs.turn.serve_all.Given as goal

abbrev pub invariant-turns : goal.invariant-turns
invariant-turns g l = record {
  told : (text : List ℕ) → ahead_of l.fn.lines (g.S.Source.left l.fn.script) ≡ Some text
      → GoesOn g.V.LineServer.step (g.V.LineServer.state_of l.fn.server) text (g.V.LineServer.state_of l.server) l.refused (ahead_of l.lines (g.S.Source.left l.script))
      (output (g.K.Sink.written l.fn.out) (g.T.Trees.rows l.fn.trees)) (output (g.K.Sink.written l.out) (g.T.Trees.rows l.trees));
  gate : IfSome (g.D.Disk.contents l.disk) (g.V.LineServer.gate (g.V.LineServer.state_of l.server));
  stored : IfSome (g.D.Disk.contents l.fn.disk) (g.V.LineServer.stored (g.V.LineServer.state_of l.fn.server)) → IfSome (g.D.Disk.contents l.disk) (g.V.LineServer.stored (g.V.LineServer.state_of l.server));
  durable : AreAll (g.V.LineServer.stored (g.V.LineServer.state_of l.fn.server)) (g.D.Disk.images l.fn.disk) → AreAll (g.V.LineServer.stored (g.V.LineServer.state_of l.server)) (g.D.Disk.images l.disk);
  any_moment : (text : List ℕ) → ahead_of l.fn.lines (g.S.Source.left l.fn.script) ≡ Some text → AreAll (g.V.LineServer.stored (g.V.LineServer.state_of l.fn.server)) (g.D.Disk.images l.fn.disk)
      → LeavesOnly g.D.Disk.moment g.D.Disk.images_since l.fn.disk l.disk (Reaches g.V.LineServer.step g.V.LineServer.stored (g.V.LineServer.state_of l.fn.server) (lines_of text));
  unwritten : (text : List ℕ) → ahead_of l.fn.lines (g.S.Source.left l.fn.script) ≡ Some text
      → g.V.LineServer.count (g.V.LineServer.state_of l.server) ≤ g.V.LineServer.count (g.V.LineServer.state_of l.fn.server) → l.disk ≡ l.fn.disk;
  counted : Counted l.fn.lines l.lines
      (counts (g.S.Source.faults l.fn.script) (g.K.Sink.faults l.fn.out) (g.D.Disk.faults l.fn.disk) (g.T.Trees.faults l.fn.trees) (g.S.Source.given l.fn.script) (g.S.Source.ends l.fn.script))
      (counts (g.S.Source.faults l.script) (g.K.Sink.faults l.out) (g.D.Disk.faults l.disk) (g.T.Trees.faults l.trees) (g.S.Source.given l.script) (g.S.Source.ends l.script));
  left : CountsGiven (g.S.Source.left l.fn.script) (g.S.Source.left l.script) (g.S.Source.given l.fn.script) (g.S.Source.given l.script);
}

abbrev pub decreases-turns : goal.decreases-turns
decreases-turns g l = potential l.lines
