use Rattle.std.proofs.Common.{drop, refl, sym, subst, ◌∙◌}
use Rattle.cov_dd.proofs.CallerLemmas.{extends_trans}
use Rattle.cov_overtaking.specs.Touches.{DoNotMeet}
use Rattle.cov_overtaking.proofs.Crossing.{of_table-grown, now-known, now-rises, rest-known, rest-rises, first-meets, others-meet, none-meet}
use Rattle.cov_overtaking.proofs.Walking.{none-there}
use Rattle.cov_overtaking.proofs.meeting.meet_in_turn.Goals as goal

pub meets_first-requires-clause-others : goal.meets_first-requires-clause-others
meets_first-requires-clause-others c =
    let i = c.loop-touch.invariant in
    of_table-grown c.args.table.now c.loop-touch.table i.extends c.skip_below.new.self
    (now-known c.args.table.now c.loop-touch.table i.extends c.in-Some.touch c.loop-touch.ahead c.loop-touch.others (drop 1 c.loop-touch.ahead) c.skip_below.new.self
    (sym c.in-Some.is ∙ c.first.ensures) refl c.skip_below.ensures i.left_rises i.right_rises i.left_in i.right_in)

pub returns-in_err-meets_first-clause-extends : goal.returns-in_err-meets_first-clause-extends
returns-in_err-meets_first-clause-extends c = extends_trans c.args.table.now c.loop-touch.table c.meets_first.new.table c.loop-touch.invariant.extends c.meets_first.ensures.extends

pub returns-then-branch-clause-extends : goal.returns-then-branch-clause-extends
returns-then-branch-clause-extends c = extends_trans c.args.table.now c.loop-touch.table c.meets_first.new.table c.loop-touch.invariant.extends c.meets_first.ensures.extends

pub returns-then-branch-clause-decides : goal.returns-then-branch-clause-decides
returns-then-branch-clause-decides c =
    let i = c.loop-touch.invariant in
    record {
      yes = λ on apart.
          first-meets c.args.table.now c.loop-touch.table i.extends c.in-Some.touch c.loop-touch.ahead c.loop-touch.others (drop 1 c.loop-touch.ahead) c.skip_below.new.self
          (sym c.in-Some.is ∙ c.first.ensures) refl c.skip_below.ensures i.left_rises i.right_rises i.left_in i.right_in
          (c.in_ok-meets_first.ensures.decides.yes c.if-branch.true) (i.back apart);
      no = λ off. absurd (cc);
    }

pub loop-touch-preserved : goal.loop-touch-preserved
loop-touch-preserved c =
    let i = c.loop-touch.invariant in
    record {
      extends = extends_trans c.args.table.now c.loop-touch.table c.meets_first.new.table i.extends c.meets_first.ensures.extends;
      left_rises =
          rest-rises c.args.table.now c.loop-touch.table i.extends c.in-Some.touch c.loop-touch.ahead c.loop-touch.others c.advance.new.self c.skip_below.new.self
          (sym c.in-Some.is ∙ c.first.ensures) c.advance.ensures c.skip_below.ensures i.left_rises i.right_rises i.left_in i.right_in;
      right_rises =
          now-rises c.args.table.now c.loop-touch.table i.extends c.in-Some.touch c.loop-touch.ahead c.loop-touch.others c.advance.new.self c.skip_below.new.self
          (sym c.in-Some.is ∙ c.first.ensures) c.advance.ensures c.skip_below.ensures i.left_rises i.right_rises i.left_in i.right_in;
      left_in =
          rest-known c.args.table.now c.loop-touch.table i.extends c.in-Some.touch c.loop-touch.ahead c.loop-touch.others c.advance.new.self c.skip_below.new.self
          (sym c.in-Some.is ∙ c.first.ensures) c.advance.ensures c.skip_below.ensures i.left_rises i.right_rises i.left_in i.right_in;
      right_in =
          now-known c.args.table.now c.loop-touch.table i.extends c.in-Some.touch c.loop-touch.ahead c.loop-touch.others c.advance.new.self c.skip_below.new.self
          (sym c.in-Some.is ∙ c.first.ensures) c.advance.ensures c.skip_below.ensures i.left_rises i.right_rises i.left_in i.right_in;
      onward = λ apart. i.onward
          (none-meet c.args.table.now c.loop-touch.table i.extends c.in-Some.touch c.loop-touch.ahead c.loop-touch.others c.advance.new.self c.skip_below.new.self
          (sym c.in-Some.is ∙ c.first.ensures) c.advance.ensures c.skip_below.ensures i.left_rises i.right_rises i.left_in i.right_in
          (c.in_ok-meets_first.ensures.decides.no c.if-branch.false) apart);
      back = λ apart.
          others-meet c.args.table.now c.loop-touch.table i.extends c.in-Some.touch c.loop-touch.ahead c.loop-touch.others c.advance.new.self c.skip_below.new.self
          (sym c.in-Some.is ∙ c.first.ensures) c.advance.ensures c.skip_below.ensures i.left_rises i.right_rises i.left_in i.right_in (i.back apart);
    }

pub returns-clause-decides : goal.returns-clause-decides
returns-clause-decides c = record {
  yes = λ on. absurd (cc);
  no = λ off. c.loop-touch.invariant.onward
      (subst (λ ys. DoNotMeet c.args.table.now ys c.loop-touch.others) (sym (none-there c.loop-touch.ahead (sym c.in_default.is ∙ c.first.ensures))) (λ node choice long. refl));
}
