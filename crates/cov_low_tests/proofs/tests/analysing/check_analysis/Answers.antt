use Rattle.std.proofs.Common.{◌∙◌, true, [], ◌∷◌, length, refl, sym, ap}
use Rattle.cov_expr.specs.Validity.{is_valid}
use Rattle.cov_rules.specs.Installing.{expressions}
use Rattle.cov_low_tests.proofs.tests.analysing.check_analysis.Goals as goal

pub of-requires-clause-met : goal.of-requires-clause-met
of-requires-clause-met g c = (true ∷ [], refl, ap (λ es. is_valid es (true ∷ [])) c.requires)

pub nearest-nearest-requires-clause-analysis : goal.nearest-nearest-requires-clause-analysis
nearest-nearest-requires-clause-analysis g c = (expressions c.args.rules.now.standing.constraints, c.in_ok-analysis.ensures.analysis)

pub nearest-nearest-requires-clause-count : goal.nearest-nearest-requires-clause-count
nearest-nearest-requires-clause-count g c = ap length c.new.ensures ∙ sym c.in_ok-analysis.ensures.count
