use Rattle.std.proofs.Common.{◌≡◌, ◌∙◌, ◌-◌, Some, ap, sym, subst, length, arith}
use Rattle.std.specs.Prelude.{slice_get}
use Rattle.cov_analyse.specs.Analysing.{AnalysisValue, HasConstraint, IsAnalysis, IsAnalysisOf}
use Rattle.cov_analyse.specs.States.{need_by, rule_state}
use Rattle.cov_analyse.proofs.Orders.{order_has}
use Rattle.cov_analyse.proofs.Parts.{all_within, analysis_later, before_within, behind_within, place_within, rule_same}
use Rattle.cov_analyse.proofs.analysis.Analysis.constraint.Goals as goal

pub place_of-place-requires : goal.place_of-place-requires
place_of-place-requires c =
    let has = subst (HasConstraint c.args.rule) (sym c.self.view_is) c.requires in
    order_has (length has.0) c.self.inside.order c.args.rule has.1.order has.2 has.3

pub first-before-requires : goal.first-before-requires
first-before-requires c =
    let at = subst (λ (a : AnalysisValue). slice_get a.order c.place_of-place.result ≡ Some c.args.rule) c.self.view_is c.place_of-place.ensures in
    omega (arith, place_within c.requires.0 c.args.self.now c.requires.1 c.place_of-place.result c.args.rule at)

pub last-behind-requires-clause-place : goal.last-behind-requires-clause-place
last-behind-requires-clause-place c =
    let at = subst (λ (a : AnalysisValue). slice_get a.order c.place_of-place.result ≡ Some c.args.rule) c.self.view_is c.place_of-place.ensures in
    place_within c.requires.0 c.args.self.now c.requires.1 c.place_of-place.result c.args.rule at

pub broken_alone-requires-clause-before : goal.broken_alone-requires-clause-before
broken_alone-requires-clause-before c =
    let is = subst IsAnalysis (sym c.self.view_is) (c.requires.0, c.requires.1) in
    let at = subst (λ (a : AnalysisValue). slice_get a.before c.place_of-place.result ≡ Some c.first-before.result) (sym c.self.view_is) c.first-before.ensures in
    (before_within _ c.first-before.result c.place_of-place.result is at).0

pub broken_alone-requires-clause-behind : goal.broken_alone-requires-clause-behind
broken_alone-requires-clause-behind c =
    let is = subst IsAnalysis (sym c.self.view_is) (c.requires.0, c.requires.1) in
    let at = subst (λ (a : AnalysisValue). slice_get a.behind (length a.behind - 2 - c.place_of-place.result) ≡ Some c.last-behind.result) (sym c.self.view_is) c.last-behind.ensures in
    (behind_within _ c.last-behind.result (length c.self.inside.behind - 2 - c.place_of-place.result) is at).0

pub broken_alone-requires-clause-all : goal.broken_alone-requires-clause-all
broken_alone-requires-clause-all c =
    let is = subst IsAnalysis (sym c.self.view_is) (c.requires.0, c.requires.1) in
    let at = subst (λ (a : AnalysisValue). slice_get a.before (length a.before - 1) ≡ Some c.all-all.result) (sym c.self.view_is) c.all-all.ensures in
    (all_within _ c.all-all.result is at).0

pub returns-in_err-broken-clause-kept : goal.returns-in_err-broken-clause-kept
returns-in_err-broken-clause-kept c es is =
    analysis_later es c.self.inside.table c.broken_alone.new.table c.self.inside.order c.self.inside.before c.self.inside.behind c.self.inside.count c.in_err-broken.ensures.extends
    (subst (IsAnalysisOf es) (sym c.self.view_is) is)

pub least-requires-clause-options : goal.least-requires-clause-options
least-requires-clause-options c =
    let is = subst IsAnalysis (sym c.self.view_is) (c.requires.0, c.requires.1) in
    let place = c.place_of-place.result in
    let before = subst (λ (a : AnalysisValue). slice_get a.before place ≡ Some c.first-before.result) (sym c.self.view_is) c.first-before.ensures in
    let behind = subst (λ (a : AnalysisValue). slice_get a.behind (length a.behind - 2 - place) ≡ Some c.last-behind.result) (sym c.self.view_is) c.last-behind.ensures in
    let all = subst (λ (a : AnalysisValue). slice_get a.before (length a.before - 1) ≡ Some c.all-all.result) (sym c.self.view_is) c.all-all.ensures in
    omega (
      arith,
      c.in_ok-broken.ensures.stands.below,
      (before_within _ c.first-before.result place is before).1,
      (behind_within _ c.last-behind.result (length c.self.inside.behind - 2 - place) is behind).1,
      (all_within _ c.all-all.result is all).1,
    )

pub returns-clause-state : goal.returns-clause-state
returns-clause-state c es is =
    let place = c.place_of-place.result in
    let before = subst (λ (a : AnalysisValue). slice_get a.before place ≡ Some c.first-before.result) (sym c.self.view_is) c.first-before.ensures in
    let behind = subst (λ (a : AnalysisValue). slice_get a.behind (length a.behind - 2 - place) ≡ Some c.last-behind.result) (sym c.self.view_is) c.last-behind.ensures in
    let all = subst (λ (a : AnalysisValue). slice_get a.before (length a.before - 1) ≡ Some c.all-all.result) (sym c.self.view_is) c.all-all.ensures in
    c.rule_state.ensures
    ∙ ap need_by (c.least.ensures.first
    ∙ rule_same es _ (subst (IsAnalysisOf es) (sym c.self.view_is) is) c.broken_alone.new.table c.first-before.result c.last-behind.result c.all-all.result c.in_ok-broken.broken _ place c.args.rule
    c.place_of-place.ensures before behind all c.in_ok-broken.ensures.stands)
    ∙ ap (λ (a : AnalysisValue). rule_state a.count es c.args.rule) c.self.view_is

pub returns-clause-kept : goal.returns-clause-kept
returns-clause-kept c es is =
    analysis_later es c.self.inside.table c.broken_alone.new.table c.self.inside.order c.self.inside.before c.self.inside.behind c.self.inside.count c.in_ok-broken.ensures.extends
    (subst (IsAnalysisOf es) (sym c.self.view_is) is)
