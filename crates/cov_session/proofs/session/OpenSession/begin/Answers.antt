use Rattle.std.proofs.Common.{◌≤◌, ap, arith, subst, sym}
use Rattle.cov_edit.specs.History.{option_count}
use Rattle.cov_expr.specs.Formula.{reach, value}
use Rattle.cov_session.proofs.Staying.{open-first}
use Rattle.cov_session.proofs.session.OpenSession.begin.Goals as goal

pub returns-clause-open : goal.returns-clause-open
returns-clause-open c =
    open-first c.args.engine.now.history c.args.name _ c.args.choice c.args.ambition c.everywhere.result c.new.result c.in_ok-view.view c.position.ensures c.new.ensures c.in_ok-view.ensures.nodes c.in_ok-view.ensures.lines
    c.requires.count c.requires.ambition c.requires.valid c.requires.inside
    (subst (λ side. reach side ≤ option_count c.args.engine.now.history) (sym c.everywhere.ensures) (omega arith)) (ap (λ side. value side c.args.choice) c.everywhere.ensures) c.in_ok-view.ensures.shows
