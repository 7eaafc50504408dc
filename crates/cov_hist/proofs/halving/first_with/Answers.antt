use Rattle.std.proofs.Common.{◌≡◌, ◌≤◌, suc, take, Some, sym, ap, subst, ◌∙◌, arith}
use Rattle.cov_edit.specs.Numbering.{line_count}
use Rattle.cov_hist.proofs.Numbered.{origin-is}
use Rattle.cov_hist.proofs.halving.first_with.Goals as goal

pub returns : goal.returns
returns c =
    let history = c.args.engine.now.history in
    let apart = c.loop-with.invariant.apart in
    let close = c.loop-with-test.false in
    let within = c.loop-with.invariant.within in
    let next : c.loop-with.with ≡ suc c.loop-with.before = omega (arith, apart, close) in
    let high : c.args.line ≤ line_count (take (suc c.loop-with.before) history) = subst (λ n. c.args.line ≤ line_count (take n history)) next c.loop-with.invariant.high in
    origin-is history c.args.line c.loop-with.before (omega (arith, within, next)) c.loop-with.invariant.low high
    ∙ ap Some (sym (c.new-2.ensures ∙ next))
