use Rattle.std.proofs.Common.{◌≡◌, length, subst, ◌∙◌, arith}
use Rattle.cov_view.proofs.Marking.{Marked, one_more, none_left}
use Rattle.cov_view.proofs.held.take_out.Goals as goal

pub loop-index-preserved : goal.loop-index-preserved
loop-index-preserved c =
    let h = one_more c.args.line.now c.args.rows.now c.args.gone.now c.loop-index.gone c.mark.new.gone c.loop-index.index _ c.index-rows-index.result c.is_line-is.result
    (omega (arith, c.loop-index-test.true)) c.index-rows-index.is c.is_line-is.ensures c.mark.ensures
    (record { same = c.loop-index.invariant.same; others = c.loop-index.invariant.others; marked = c.loop-index.invariant.marked }) in
    record { same = h.same; within = omega (arith, c.loop-index-test.true); others = h.others; marked = h.marked }

pub returns-clause-left : goal.returns-clause-left
returns-clause-left c =
    let all : c.loop-index.index ≡ length c.args.rows.now = omega (arith, c.loop-index.invariant.within, c.loop-index-test.false) in
    none_left c.args.line.now c.args.rows.now c.loop-index.gone c.loop-index.invariant.same (subst (λ n. Marked c.args.line.now n c.args.rows.now c.loop-index.gone) all c.loop-index.invariant.marked)
    ∙ c.loop-index.invariant.others
