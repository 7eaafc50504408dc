use Rattle.std.proofs.Common.{◌-◌, ◌^◌}
use Rattle.cov_io.specs.Walk.{Walks, account}
use Rattle.cov_io.proofs.reading.Lines.gather.Given as goal

abbrev pub invariant-loop-whole : goal.invariant-loop-whole
invariant-loop-whole g l =
    let before =
    account (g.S.Source.left l.fn.source) (g.S.Source.given l.fn.source) (g.S.Source.faults l.fn.source) (g.S.Source.ends l.fn.source) in
    let after = account (g.S.Source.left l.source) (g.S.Source.given l.source) (g.S.Source.faults l.source) (g.S.Source.ends l.source) in
    Walks l.line l.fn.self l.self before after

abbrev pub decreases-loop-whole : goal.decreases-loop-whole
decreases-loop-whole g l = 2 ^ 64 - l.self.taken
