use Rattle.std.proofs.Common.{sym, ap, subst, ◌∙◌}
use Rattle.std.proofs.lemmas.Result.{on_ok_weaker}
use Rattle.cov_expr.specs.Validity.{first_false}
use Rattle.cov_rules.specs.Installing.{expressions_at}
use Rattle.cov_rules.proofs.CallerLemmas.{allowed}
use Rattle.cov_engine.specs.Ruling.{AreRulesOf}
use Rattle.cov_engine.specs.States.{EngineValue}
use Rattle.cov_engine.proofs.Ruling.{constraints-now}
use Rattle.cov_engine.proofs.engine.Engine.valid.Goals as goal

pub returns-clause-ok : goal.returns-clause-ok
returns-clause-ok c =
    let history = c.args.self.now.history in
    let ts = c.self.inside.state.visible.table in
    let s = c.self.inside.state.rules.standing in
    let are : AreRulesOf history ts s = subst (λ (e : EngineValue). AreRulesOf e.history ts s) c.self.view_is c.self.invariant.0.0.rules in
    on_ok_weaker c.valid.result
    (λ valid. ap (λ es. first_false es c.args.choice) (sym (constraints-now history ts s c.position.result are c.position.ensures)) ∙ allowed c.args.choice (expressions_at c.position.result s.constraints) valid)
    c.valid.ensures.ok
