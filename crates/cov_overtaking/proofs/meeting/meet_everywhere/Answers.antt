use Rattle.std.proofs.Common.{sym, ◌∙◌}
use Rattle.std.proofs.lemmas.Result.{IfOk-weaker}
use Rattle.cov_overtaking.proofs.Everywhere.{left-known, right-known, apart-everywhere, meet-everywhere}
use Rattle.cov_overtaking.proofs.meeting.meet_everywhere.Goals as goal

pub returns-then-not-have_common-clause-decides : goal.returns-then-not-have_common-clause-decides
returns-then-not-have_common-clause-decides c =
    apart-everywhere c.args.table.now c.args.left.now c.args.right.now c.args.a c.args.b (sym c.have_common.ensures ∙ c.if-not-have_common.true)

pub share_choice-requires-clause-a : goal.share_choice-requires-clause-a
share_choice-requires-clause-a c = left-known c.args.table.now c.args.left.now c.args.right.now c.args.a c.requires.left_in (sym c.have_common.ensures ∙ c.if-not-have_common.false)

pub share_choice-requires-clause-b : goal.share_choice-requires-clause-b
share_choice-requires-clause-b c = right-known c.args.table.now c.args.left.now c.args.right.now c.args.b c.requires.right_in (sym c.have_common.ensures ∙ c.if-not-have_common.false)

pub returns-clause-decides : goal.returns-clause-decides
returns-clause-decides c =
    IfOk-weaker c.share_choice.result _ _
    (λ shared denies. meet-everywhere c.args.table.now c.args.left.now c.args.right.now c.args.a c.args.b shared (sym c.have_common.ensures ∙ c.if-not-have_common.false) denies)
    c.share_choice.ensures.decides
