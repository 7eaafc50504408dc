use Rattle.std.proofs.Common.{◌≡◌, Ok, sym, subst}
use Rattle.cov_edit.specs.History.{options_of}
use Rattle.cov_cond.specs.Writing.{present_row, with_line, writing, Agrees}
use Rattle.cov_cond.proofs.Steps.{apart, belongs, more-written}
use Rattle.cov_cond.proofs.exporting.write_row.Goals as goal

pub returns-in-Ok-clause-lines : goal.returns-in-Ok-clause-lines
returns-in-Ok-clause-lines c =
    let engine = c.args.engine.now in
    let row = c.args.row.now in
    let same = belongs engine.history engine.table c.args.run row.line c.in-Some.node c.requires.run c.in-Some.ensures.stands (c.has_node.ensures.same.0 c.if-has_node.true) in
    subst (λ r. with_line (options_of engine.history) (writing engine.history c.args.lines.now c.args.run) (present_row engine.history row) ≡ Ok (writing engine.history c.write_more.new.lines r))
    (sym c.in-Ok.ensures.run)
    (more-written engine.history c.args.lines.now c.args.run row c.write_more.new.lines same c.in-Ok.ensures.lines)

pub write_other-requires-clause-other : goal.write_other-requires-clause-other
write_other-requires-clause-other c =
    let engine = c.args.engine.now in
    apart engine.history engine.table c.args.run c.args.row.now.line c.in-Some.node c.requires.run c.in-Some.ensures.stands
    (λ agrees.
    let is = c.has_node.ensures.agree.1 (subst (λ ts. Agrees ts c.args.run c.in-Some.node) (sym c.table.ensures) agrees) in
    let other = c.if-has_node.false in
    cc)
