use Rattle.std.proofs.Common.{◌≡◌, ◌∙◌, ◌+◌, ◌<◌, [], ◌∷◌, ◌++◌, length, take, get_or, ap, sym, subst, arith}
use Rattle.std.proofs.lemmas.List.{length-map}
use Rattle.cov_dd.proofs.CallerLemmas.{extends_none, extends_trans}
use Rattle.cov_rules.specs.Installing.{expressions}
use Rattle.cov_analyse.specs.Analysing.{AreMeeting, IsMeeting}
use Rattle.cov_analyse.proofs.Conjoining.{length_more, meets_more, none_meets, parts_later, parts_more}
use Rattle.cov_analyse.proofs.Orders.{order_length, order_within}
use Rattle.cov_analyse.proofs.analysis.conjoin_all.Goals as goal

pub loop-done-init : goal.loop-done-init
loop-done-init c =
    let es = expressions c.args.rules.now.standing.constraints in
    let ts = c.args.table.now in
    let order = c.args.order.now in
    let pushed : c.push.new.self ≡ 1 ∷ [] = c.in_ok-push.ensures.ok ∙ ap (λ ns. ns ++ 1 ∷ []) c.requires.none in
    record {
      extends = extends_none ts;
      few = omega arith;
      count = ap length pushed;
      each = subst (λ ns. AreMeeting ts ns es order) (sym pushed) (parts_more ts [] 1 es order (λ i n at. absurd (cc)) (none_meets ts es));
      stands = none_meets ts es;
    }

pub bounds-numbers-done : goal.bounds-numbers-done
bounds-numbers-done c =
    let count = length c.args.rules.now.standing.constraints in
    omega (arith, c.loop-done-test.true, c.constraints.ensures, order_length count c.args.order.now c.requires.order, ap length c.as_slice-numbers.ensures)

pub overflow_cast-rule-in-loop-done : goal.overflow_cast-rule-in-loop-done
overflow_cast-rule-in-loop-done c =
    let count = length c.args.rules.now.standing.constraints in
    let inside : c.loop-done.done < length c.args.order.now = omega (arith, c.loop-done-test.true, c.constraints.ensures, order_length count c.args.order.now c.requires.order) in
    let w = order_within count c.args.order.now c.loop-done.done c.requires.order inside in
    omega (arith, w.1, ap (λ xs. get_or xs c.loop-done.done 0) c.as_slice-numbers.ensures, c.constraints.ensures, c.constraints.type_inv)

pub constraint-requires-clause-first : goal.constraint-requires-clause-first
constraint-requires-clause-first c =
    let count = length c.args.rules.now.standing.constraints in
    let inside : c.loop-done.done < length c.args.order.now = omega (arith, c.loop-done-test.true, c.constraints.ensures, order_length count c.args.order.now c.requires.order) in
    let w = order_within count c.args.order.now c.loop-done.done c.requires.order inside in
    omega (arith, w.0, ap (λ xs. get_or xs c.loop-done.done 0) c.as_slice-numbers.ensures)

pub constraint-requires-clause-last : goal.constraint-requires-clause-last
constraint-requires-clause-last c =
    let count = length c.args.rules.now.standing.constraints in
    let inside : c.loop-done.done < length c.args.order.now = omega (arith, c.loop-done-test.true, c.constraints.ensures, order_length count c.args.order.now c.requires.order) in
    let w = order_within count c.args.order.now c.loop-done.done c.requires.order inside in
    omega (arith, w.1, ap (λ xs. get_or xs c.loop-done.done 0) c.as_slice-numbers.ensures)

pub returns-in_err-node-clause-extends : goal.returns-in_err-node-clause-extends
returns-in_err-node-clause-extends c = extends_trans c.args.table.now c.loop-done.table c.conjoin.new.table c.loop-done.invariant.extends c.in_err-node.ensures.extends

pub returns-in_err-push-2-clause-extends : goal.returns-in_err-push-2-clause-extends
returns-in_err-push-2-clause-extends c = extends_trans c.args.table.now c.loop-done.table c.conjoin.new.table c.loop-done.invariant.extends c.in_ok-node.ensures.extends

pub loop-done-preserved : goal.loop-done-preserved
loop-done-preserved c =
    let es = expressions c.args.rules.now.standing.constraints in
    let order = c.args.order.now in
    let ts = c.loop-done.table in
    let us = c.conjoin.new.table in
    let done = c.loop-done.done in
    let node = c.in_ok-node.node in
    let inv = c.loop-done.invariant in
    let inside : done < length order = omega (arith, c.loop-done-test.true, c.constraints.ensures, order_length (length c.args.rules.now.standing.constraints) order c.requires.order) in
    let stands = meets_more ts us es order done (get_or c.as_slice-numbers.result.now done 0) c.constraint.result.now c.loop-done.node node inside (sym (ap (λ xs. get_or xs done 0) c.as_slice-numbers.ensures)) c.constraint.ensures inv.stands c.in_ok-node.ensures.stands in
    let place : done + 1 ≡ length c.loop-done.nodes = omega (arith, inv.count) in
    let pushed : c.push-in-loop-done.new.self ≡ c.loop-done.nodes ++ node ∷ [] = c.in_ok-push-2.ensures.ok in
    record {
      extends = extends_trans c.args.table.now ts us inv.extends c.in_ok-node.ensures.extends;
      few = omega (arith, c.loop-done-test.true, c.constraints.ensures);
      count = omega (arith, ap length pushed, length_more c.loop-done.nodes node, inv.count);
      each = subst (λ ns. AreMeeting us ns es order) (sym pushed)
          (parts_more us c.loop-done.nodes node es order (parts_later ts us c.loop-done.nodes es order c.in_ok-node.ensures.extends inv.each) (subst (λ n. IsMeeting us node es (take n order)) place stands));
      stands = stands;
    }

pub returns-clause-parts : goal.returns-clause-parts
returns-clause-parts c =
    record {
      count = omega (arith, c.loop-done.invariant.count, c.loop-done.invariant.few, c.loop-done-test.false, c.constraints.ensures, length-map c.args.rules.now.standing.constraints (λ r. r.expr));
      each = c.loop-done.invariant.each;
    }
