use Rattle.std.proofs.Common.{Bool, List, length, subst, sym}
use Rattle.std.specs.List.{filter}
use Rattle.cov_expr.specs.Formula.{value}
use Rattle.cov_rules.specs.Installing.{literal}
use Rattle.cov_rules.specs.Lefts.{choices_left, IsLeft}
use Rattle.cov_rules.proofs.Leaving.{bound_left}
use Rattle.cov_rules.proofs.lefts.Left.bind.Goals as goal

pub returns-clause-binds : goal.returns-clause-binds
returns-clause-binds c =
    let left = c.args.self.now in
    subst (λ (q : List Bool × List Bool). IsLeft c.restrict.new.self (length left.bound) (filter (value (literal c.args.option c.args.on)) (choices_left c.args.table.now left)) (record { node = c.in_ok-node.node; bound = q.0; values = q.1 }))
    (λ j. (sym c.with.ensures j, sym c.with-2.ensures j))
    (bound_left c.args.table.now left c.requires.sound c.restrict.new.self c.args.option c.args.on c.in_ok-node.node c.requires.option c.requires.unbound c.in_ok-node.ensures.stands)
