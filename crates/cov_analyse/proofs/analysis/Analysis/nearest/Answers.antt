use Rattle.std.proofs.Common.{◌≡◌, ◌∙◌, ◌-◌, ℕ, List, Bool, true, Some, ap, sym, subst, length, arith}
use Rattle.std.specs.Prelude.{slice_get}
use Rattle.cov_expr.specs.Formula.{Formula}
use Rattle.cov_expr.specs.Validity.{is_valid}
use Rattle.cov_vis.specs.Listings.{has_options_below, is_reduced, reads}
use Rattle.cov_analyse.specs.Analysing.{AnalysisValue, IsAnalysis, IsAnalysisOf}
use Rattle.cov_analyse.specs.Nearest.{first_nearest, nearest}
use Rattle.cov_analyse.specs.declared.walking.Nearest.{Nearest}
use Rattle.cov_analyse.proofs.Parts.{all_meets, all_within, if_ok}
use Rattle.cov_analyse.proofs.analysis.Analysis.nearest.Goals as goal

pub list-requires : goal.list-requires
list-requires c = record {
  within = (all_within _ c.all.result (subst IsAnalysis (sym c.self.view_is) c.requires.analysis) (subst (λ (a : AnalysisValue). slice_get a.before (length a.before - 1) ≡ Some c.all.result) (sym c.self.view_is) c.all.ensures)).0;
}

pub nearest_in-requires-clause-options : goal.nearest_in-requires-clause-options
nearest_in-requires-clause-options c =
    let within = all_within _ c.all.result (subst IsAnalysis (sym c.self.view_is) c.requires.analysis) (subst (λ (a : AnalysisValue). slice_get a.before (length a.before - 1) ≡ Some c.all.result) (sym c.self.view_is) c.all.ensures) in
    c.in_ok-listing.ensures.options (length c.args.choice) (omega (arith, within.1, c.requires.count, ap (λ (a : AnalysisValue). a.count) c.self.view_is))

pub nearest_in-requires-clause-met : goal.nearest_in-requires-clause-met
nearest_in-requires-clause-met c =
    let is = subst IsAnalysis (sym c.self.view_is) c.requires.analysis in
    let met = is.1.met in
    let meets = all_meets is.0 _ is.1 c.all.result (subst (λ (a : AnalysisValue). slice_get a.before (length a.before - 1) ≡ Some c.all.result) (sym c.self.view_is) c.all.ensures) in
    (met.0, met.1 ∙ ap (λ (a : AnalysisValue). a.count) c.self.view_is ∙ sym c.requires.count, c.in_ok-listing.ensures.reads met.0 ∙ meets.value met.0 ∙ met.2)

pub returns-clause-nearest : goal.returns-clause-nearest
returns-clause-nearest c =
    if_ok (λ (found : Nearest). first_nearest (length c.args.choice) (reads c.in_ok-listing.listing) c.args.choice ≡ Some found.choice)
    (λ (found : Nearest). (es : List (Formula ℕ)) → IsAnalysisOf es c.args.self.now → nearest c.args.self.now.count es c.args.choice ≡ Some found.choice)
    c.nearest_in.result
    (λ found first es is.
    let meets = all_meets es _ (subst (IsAnalysisOf es) (sym c.self.view_is) is) c.all.result (subst (λ (a : AnalysisValue). slice_get a.before (length a.before - 1) ≡ Some c.all.result) (sym c.self.view_is) c.all.ensures) in
    (λ j. first_nearest (sym c.requires.count j) (λ d. sym (c.in_ok-listing.ensures.reads d ∙ meets.value d) j) c.args.choice) ∙ first)
    c.nearest_in.ensures.nearest

pub returns-clause-reduced : goal.returns-clause-reduced
returns-clause-reduced c =
    if_ok (λ (found : Nearest). found.listing ≡ c.in_ok-listing.listing) (λ (found : Nearest). is_reduced found.listing ≡ true) c.nearest_in.result
    (λ found same. ap is_reduced same ∙ c.in_ok-listing.ensures.reduced)
    c.nearest_in.ensures.listing

pub returns-clause-options : goal.returns-clause-options
returns-clause-options c =
    let within = all_within _ c.all.result (subst IsAnalysis (sym c.self.view_is) c.requires.analysis) (subst (λ (a : AnalysisValue). slice_get a.before (length a.before - 1) ≡ Some c.all.result) (sym c.self.view_is) c.all.ensures) in
    if_ok (λ (found : Nearest). found.listing ≡ c.in_ok-listing.listing) (λ (found : Nearest). has_options_below c.args.self.now.count found.listing ≡ true) c.nearest_in.result
    (λ found same. ap (has_options_below c.args.self.now.count) same ∙ c.in_ok-listing.ensures.options c.args.self.now.count (omega (arith, within.1, ap (λ (a : AnalysisValue). a.count) c.self.view_is)))
    c.nearest_in.ensures.listing

pub returns-clause-reads : goal.returns-clause-reads
returns-clause-reads c =
    if_ok (λ (found : Nearest). found.listing ≡ c.in_ok-listing.listing)
    (λ (found : Nearest). (es : List (Formula ℕ)) → IsAnalysisOf es c.args.self.now → (d : List Bool) → reads found.listing d ≡ is_valid es d)
    c.nearest_in.result
    (λ found same es is d.
    let meets = all_meets es _ (subst (IsAnalysisOf es) (sym c.self.view_is) is) c.all.result (subst (λ (a : AnalysisValue). slice_get a.before (length a.before - 1) ≡ Some c.all.result) (sym c.self.view_is) c.all.ensures) in
    ap (λ l. reads l d) same ∙ c.in_ok-listing.ensures.reads d ∙ meets.value d)
    c.nearest_in.ensures.listing
