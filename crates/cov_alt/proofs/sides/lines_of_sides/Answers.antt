use Rattle.std.proofs.Common.{[], ◌∙◌}
use Rattle.std.specs.List.{fold}
use Rattle.std.proofs.lemmas.Result.{IfOk-weaker}
use Rattle.cov_alt.specs.Marking.{with_marked}
use Rattle.cov_alt.proofs.Seen.{marked_sides}
use Rattle.cov_alt.proofs.sides.lines_of_sides.Goals as goal

pub returns : goal.returns
returns c =
    let history = c.args.engine.now.history in
    IfOk-weaker c.mark_all.result _ _
    (λ lines is.
    is
    ∙ (λ i. fold (with_marked history (c.side_with-on.ensures i) (c.side_with-off.ensures i)) [] ((c.as_slice.ensures ∙ c.in_ok-rows.ensures) i))
    ∙ marked_sides history c.args.on c.args.off c.args.file)
    c.mark_all.ensures
