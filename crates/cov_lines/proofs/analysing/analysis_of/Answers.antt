use Rattle.std.proofs.Common.{◌≡◌, ◌∙◌, ap, subst, length, arith}
use Rattle.std.specs.Prelude.{IfOk}
use Rattle.cov_analyse.specs.Analysing.{IsAnalysisOf}
use Rattle.cov_rules.specs.Installing.{expressions}
use Rattle.cov_lines.proofs.Analysed.{has-valid}
use Rattle.cov_lines.proofs.analysing.analysis_of.Goals as goal

pub of-requires-clause-below : goal.of-requires-clause-below
of-requires-clause-below c =
    let low = c.rules.ensures.below.constraints in
    let count = c.count.ensures.count ∙ ap length c.options.ensures in
    omega (arith, low, count)

pub of-requires-clause-met : goal.of-requires-clause-met
of-requires-clause-met c =
    let history = c.args.engine.now.history in
    has-valid history c.count.result (expressions c.rules.result.now.standing.constraints) (c.count.ensures.count ∙ ap length c.options.ensures) c.rules.ensures.constraints
    (c.legal_leaves_variant.ensures history c.history_is_legal.ensures)

pub returns-clause-analysis : goal.returns-clause-analysis
returns-clause-analysis c = subst (λ es. IfOk c.of.result (IsAnalysisOf es)) c.rules.ensures.constraints c.of.ensures.analysis

pub returns-clause-count : goal.returns-clause-count
returns-clause-count c = subst (λ n. IfOk c.of.result (λ a. a.count ≡ n)) (c.count.ensures.count ∙ ap length c.options.ensures) c.of.ensures.count
