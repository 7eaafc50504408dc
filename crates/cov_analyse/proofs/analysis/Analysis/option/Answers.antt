use Rattle.std.proofs.Common.{◌≡◌, ◌∙◌, ◌-◌, Some, ap, sym, subst, length}
use Rattle.std.specs.Prelude.{slice_get}
use Rattle.cov_analyse.specs.Analysing.{AnalysisValue, IsAnalysis, IsAnalysisOf}
use Rattle.cov_analyse.specs.States.{option_state}
use Rattle.cov_analyse.proofs.Parts.{all_within, analysis_later, option_same}
use Rattle.cov_analyse.proofs.analysis.Analysis.option.Goals as goal

pub sides_of-requires-clause-node : goal.sides_of-requires-clause-node
sides_of-requires-clause-node c = (all_within _ c.all-all.result (subst IsAnalysis (sym c.self.view_is) c.requires.analysis) (subst (λ (a : AnalysisValue). slice_get a.before (length a.before - 1) ≡ Some c.all-all.result) (sym c.self.view_is) c.all-all.ensures)).0

pub sides_of-requires-clause-options : goal.sides_of-requires-clause-options
sides_of-requires-clause-options c = (all_within _ c.all-all.result (subst IsAnalysis (sym c.self.view_is) c.requires.analysis) (subst (λ (a : AnalysisValue). slice_get a.before (length a.before - 1) ≡ Some c.all-all.result) (sym c.self.view_is) c.all-all.ensures)).1

pub returns-in_err-off-clause-kept : goal.returns-in_err-off-clause-kept
returns-in_err-off-clause-kept c es is =
    analysis_later es c.self.inside.table c.sides_of.new.table c.self.inside.order c.self.inside.before c.self.inside.behind c.self.inside.count c.in_err-off.ensures.extends
    (subst (IsAnalysisOf es) (sym c.self.view_is) is)

pub returns-clause-state : goal.returns-clause-state
returns-clause-state c es is =
    c.option_state.ensures
    ∙ option_same es _ (subst (IsAnalysisOf es) (sym c.self.view_is) is) c.all-all.result c.args.option (subst (λ (a : AnalysisValue). slice_get a.before (length a.before - 1) ≡ Some c.all-all.result) (sym c.self.view_is) c.all-all.ensures) c.in_ok-off.off c.in_ok-off.on c.in_ok-off.ensures.off c.in_ok-off.ensures.on
    ∙ ap (λ (a : AnalysisValue). option_state a.count es c.args.option) c.self.view_is

pub returns-clause-kept : goal.returns-clause-kept
returns-clause-kept c es is =
    analysis_later es c.self.inside.table c.sides_of.new.table c.self.inside.order c.self.inside.before c.self.inside.behind c.self.inside.count c.in_ok-off.ensures.extends
    (subst (IsAnalysisOf es) (sym c.self.view_is) is)
