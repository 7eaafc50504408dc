use Rattle.std.proofs.Common.{◌∙◌, sym, ap, map, is_some, true≢false}
use Rattle.std.specs.Option.{option_copied_mut}
use Rattle.cov_session.specs.Calls.{IsSessionFaultOf, refreshed_among}
use Rattle.cov_session.specs.Open.{as_named}
use Rattle.cov_session.proofs.Changing.{there-is, changed-kept}
use Rattle.cov_session.proofs.Faulting.{passed-on}
use Rattle.cov_session.proofs.Taking.{none-refreshes, one-open, refuses-refresh, refreshes, stay-open}
use Rattle.cov_session.proofs.sessions.Sessions.refresh.Goals as goal

pub returns-in_default-clause-refused : goal.returns-in_default-clause-refused
returns-in_default-clause-refused c = none-refreshes c.self.inside.keys.entries c.self.inside.sessions c.args.name.now c.self.invariant c.args.self.now c.self.view_is (sym c.in_default.ensures) c.args.engine.now.history

pub unreachable-requires : goal.unreachable-requires
unreachable-requires c =
    true≢false
    (sym (there-is c.self.inside.keys.entries c.self.inside.sessions c.args.name.now c.self.invariant c.in-Some.key (sym c.in-Some.ensures))
    ∙ ap is_some (sym c.get_mut.ensures.value ∙ ap option_copied_mut c.in_default-get_mut.is))

pub refresh-requires : goal.refresh-requires
refresh-requires c = record {
  «open» = one-open c.self.inside.keys.entries c.self.inside.sessions c.args.name.now c.self.invariant c.args.self.now c.self.view_is c.in-Some.key (sym c.in-Some.ensures) c.in-Some-get_mut.session.now (sym c.in-Some-get_mut.ensures.value) c.args.engine.now.history c.requires.«open»;
}

pub returns-in_err-refresh-clause-refused : goal.returns-in_err-refresh-clause-refused
returns-in_err-refresh-clause-refused c =
    passed-on (IsSessionFaultOf (refreshed_among c.args.engine.now.history (map as_named c.args.self.now) c.args.name.now)) c.in_err-refresh.field-0.0 c.from_residual.result c.from_residual.ensures.1
    (refuses-refresh c.self.inside.keys.entries c.self.inside.sessions c.args.name.now c.self.invariant c.args.self.now c.self.view_is c.in-Some.key (sym c.in-Some.ensures) c.in-Some-get_mut.session.now (sym c.in-Some-get_mut.ensures.value)
    c.args.engine.now.history c.in_err-refresh.field-0.0 c.in_err-refresh.ensures.refused)

pub invariant_of-self-2 : goal.invariant_of-self-2
invariant_of-self-2 c =
    changed-kept c.self.inside.keys.entries c.self.inside.sessions c.args.name.now c.self.invariant c.in-Some.key (sym c.in-Some.ensures) c.in-Some-get_mut.session.now (sym c.in-Some-get_mut.ensures.value) c.refresh.new.self c.refresh.ensures.name

pub returns-clause-refreshed : goal.returns-clause-refreshed
returns-clause-refreshed c =
    refreshes c.self.inside.keys.entries c.self.inside.sessions c.args.name.now c.self.invariant c.args.self.now c.self.view_is c.in-Some.key (sym c.in-Some.ensures) c.in-Some-get_mut.session.now (sym c.in-Some-get_mut.ensures.value)
    c.refresh.new.self c.refresh.ensures.name c.args.engine.now.history c.standing.result c.refresh.ensures.side c.in_ok-refresh.ensures.refreshed c.standing.ensures.base c.standing.ensures.choice

pub returns-clause-open : goal.returns-clause-open
returns-clause-open c =
    stay-open c.self.inside.keys.entries c.self.inside.sessions c.args.name.now c.self.invariant c.args.self.now c.self.view_is c.in-Some.key (sym c.in-Some.ensures) c.in-Some-get_mut.session.now (sym c.in-Some-get_mut.ensures.value)
    c.refresh.new.self c.refresh.ensures.name c.args.engine.now.history c.requires.«open» (λ here. c.in_ok-refresh.ensures.«open»)
