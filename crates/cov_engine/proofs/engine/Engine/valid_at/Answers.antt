use Rattle.std.proofs.Common.{◌≡◌, ◌≤◌, length, take, arith, sym, ap, subst, ◌∙◌}
use Rattle.std.proofs.lemmas.Result.{on_ok_weaker}
use Rattle.cov_edit.specs.History.{constraints_of, option_count}
use Rattle.cov_expr.specs.Validity.{first_false}
use Rattle.cov_rules.specs.Installing.{expressions_at, reach_of}
use Rattle.cov_rules.proofs.CallerLemmas.{allowed}
use Rattle.cov_engine.specs.States.{EngineValue}
use Rattle.cov_engine.proofs.Refused.{rules-within}
use Rattle.cov_engine.proofs.engine.Engine.valid_at.Goals as goal

pub valid-requires : goal.valid-requires
valid-requires c =
    let history = c.self.inside.state.commands.commands in
    let low = rules-within history c.args.at c.self.invariant.0.0.legal in
    let count = ap (λ (e : EngineValue). option_count (take c.args.at e.history)) c.self.view_is in
    let few = c.requires in
    subst (λ es. reach_of es ≤ length c.args.choice) (sym (c.self.invariant.0.0.rules.at c.args.at)) (omega (arith, low, count, few))

pub returns-clause-ok : goal.returns-clause-ok
returns-clause-ok c =
    let s = c.self.inside.state.rules.standing in
    let are : expressions_at c.args.at s.constraints ≡ constraints_of (take c.args.at c.args.self.now.history) =
    c.self.invariant.0.0.rules.at c.args.at ∙ ap (λ (e : EngineValue). constraints_of (take c.args.at e.history)) c.self.view_is in
    on_ok_weaker c.valid.result
    (λ valid. ap (λ es. first_false es c.args.choice) (sym are) ∙ allowed c.args.choice (expressions_at c.args.at s.constraints) valid)
    c.valid.ensures.ok
