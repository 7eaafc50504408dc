use Rattle.std.proofs.Common.{length, sym, subst}
use Rattle.cov_rules.specs.Installing.{expressions}
use Rattle.cov_analyse.specs.Orders.{IsOrder}
use Rattle.cov_analyse.proofs.Conjoining.{parts_later}
use Rattle.cov_analyse.proofs.Orders.{order_reversed}
use Rattle.cov_analyse.proofs.Parts.{on_ok}
use Rattle.cov_analyse.proofs.analysis.conjoin_both.Goals as goal

pub conjoin_all-requires-2-clause-order : goal.conjoin_all-requires-2-clause-order
conjoin_all-requires-2-clause-order c =
    let count = length c.args.rules.now.standing.constraints in
    subst (IsOrder count) (sym c.in_ok-backward.ensures) (order_reversed count c.order_constraints.new.order c.in_ok-order_constraints.ensures)

pub returns-clause-before : goal.returns-clause-before
returns-clause-before c =
    let es = expressions c.args.rules.now.standing.constraints in
    let parts = c.in_ok-conjoin_all.ensures.parts in
    on_ok c.conjoin_all-2.result
    (λ done. record {
      count = parts.count;
      each = parts_later c.conjoin_all.new.table c.conjoin_all-2.new.table c.conjoin_all.new.nodes es c.order_constraints.new.order c.conjoin_all-2.ensures.extends parts.each;
    })
    c.conjoin_all-2.ensures.parts
