use Rattle.std.proofs.Common.{subst, sym, arith}
use Rattle.cov_dd.specs.Diagrams.{IsDiagram}
use Rattle.cov_dd.specs.Marks.{is_marked}
use Rattle.cov_dd.proofs.Keeping.{kept-start, kept-long, kept-step, kept-end}
use Rattle.cov_dd.proofs.table.Table.marked_entries.Goals as goal

pub loop-triple-init : goal.loop-triple-init
loop-triple-init c = kept-start (is_marked c.args.marks.now) c.requires.constants c.args.self.now c.in_ok-kept.kept c.in_ok-kept.ensures.entries c.in_ok-kept.ensures.numbers

pub add-requires-clause-off : goal.add-requires-clause-off
add-requires-clause-off c =
    let long = kept-long (is_marked c.args.marks.now) c.args.self.now c.loop-triple.node c.loop-triple.kept c.loop-triple.invariant in
    omega (arith, c.in-Some.ensures.known.off_before, long)

pub add-requires-clause-on : goal.add-requires-clause-on
add-requires-clause-on c =
    let long = kept-long (is_marked c.args.marks.now) c.args.self.now c.loop-triple.node c.loop-triple.kept c.loop-triple.invariant in
    omega (arith, c.in-Some.ensures.known.on_before, long)

pub loop-triple-preserved : goal.loop-triple-preserved
loop-triple-preserved c =
    kept-step (is_marked c.args.marks.now) c.requires.constants c.args.self.now (subst IsDiagram c.self.view_is c.self.invariant.diagram) c.requires.closed
    c.loop-triple.node c.loop-triple.kept c.add.new.self c.in-Some.triple c.loop-triple.invariant (sym c.in-Some.ensures.entry)
    c.in_ok-add.ensures.numbers c.in_ok-add.ensures.kept c.in_ok-add.ensures.left _ (omega arith)

pub returns : goal.returns
returns c =
    kept-end (is_marked c.args.marks.now) c.requires.constants c.args.self.now c.loop-triple.node c.loop-triple.kept c.loop-triple.invariant (sym c.in_default.ensures.entry)
