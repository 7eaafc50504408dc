use Rattle.std.proofs.Common.{◌∙◌, ap, subst, []}
use Rattle.std.proofs.lemmas.Result.{err_from_is_err_and}
use Rattle.cov_history.specs.Sessions.{edits_of}
use Rattle.cov_session.specs.Adding.{IsAdditionFault}
use Rattle.cov_session.specs.Open.{SessionValue}
use Rattle.cov_session.specs.Refreshing.{first_lost}
use Rattle.cov_session.proofs.Refreshing.{begins-again, goes-on, now}
use Rattle.cov_session.proofs.session.OpenSession.view_on.Goals as goal

pub returns-in_err-apply_all-clause-refused : goal.returns-in_err-apply_all-clause-refused
returns-in_err-apply_all-clause-refused c =
    let h = c.args.engine.now.history in
    let is = c.in_ok-view.ensures in
    let s : SessionValue = now h c.args.self.now c.args.choice c.in_ok-view.view is.nodes is.lines c.requires.count c.requires.reach c.requires.valid c.requires.inside is.shows in
    let here = begins-again h c.args.self.now c.args.choice c.in_ok-view.view is.nodes is.lines c.requires.count c.requires.reach c.requires.valid c.requires.inside is.shows in
    let own = c.as_slice.ensures.items ∙ ap (λ (t : SessionValue). edits_of t.session) c.self.view_is in
    let p = err_from_is_err_and c.from_residual-in_err-apply_all.result c.from_residual-in_err-apply_all.ensures.1 in
    rw (p.1, p.2) (subst (λ es. IsAdditionFault c.in_err-apply_all.field-0.0 (first_lost h s.session es)) own (c.in_err-apply_all.ensures.refused h s here))

pub returns-clause-open : goal.returns-clause-open
returns-clause-open c =
    let h = c.args.engine.now.history in
    let is = c.in_ok-view.ensures in
    let s : SessionValue = now h c.args.self.now c.args.choice c.in_ok-view.view is.nodes is.lines c.requires.count c.requires.reach c.requires.valid c.requires.inside is.shows in
    let here = begins-again h c.args.self.now c.args.choice c.in_ok-view.view is.nodes is.lines c.requires.count c.requires.reach c.requires.valid c.requires.inside is.shows in
    let own = c.as_slice.ensures.items ∙ ap (λ (t : SessionValue). edits_of t.session) c.self.view_is in
    goes-on h c.args.self.now c.args.choice c.in_ok-view.view is.nodes is.lines c.requires.count c.requires.reach c.requires.valid c.requires.inside is.shows
    c.as_slice.result.now c.apply_all.new.view own (c.in_ok-apply_all.ensures.open h s here)
