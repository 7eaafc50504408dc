use Rattle.std.proofs.Common.{ap, ◌∙◌}
use Rattle.cov_expr.specs.Validity.{first_false}
use Rattle.cov_rules.specs.Installing.{RulesValue, expressions_at}
use Rattle.cov_rules.proofs.Deciding.{none_false}
use Rattle.cov_rules.proofs.rules.Rules.valid.Goals as goal

pub returns-in-None-clause-ok : goal.returns-in-None-clause-ok
returns-in-None-clause-ok c =
    none_false c.args.choice (expressions_at c.args.at c.args.self.now.standing.constraints)
    (c.in-None.ensures ∙ ap (λ rs. first_false (expressions_at c.args.at rs) c.args.choice) c.as_slice.ensures.value ∙ ap (λ (v : RulesValue). first_false (expressions_at c.args.at v.standing.constraints) c.args.choice) c.self.view_is)
