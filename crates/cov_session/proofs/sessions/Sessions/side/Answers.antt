use Rattle.std.proofs.Common.{◌∙◌, sym, ap, is_some, true≢false}
use Rattle.std.specs.Option.{option_copied_mut}
use Rattle.std.proofs.lemmas.Result.{IfErr-weaker}
use Rattle.cov_session.proofs.Changing.{there-is, changed-kept}
use Rattle.cov_session.proofs.Faulting.{both-done}
use Rattle.cov_session.proofs.Taking.{none-sets, refuses-side, sets, stay-open}
use Rattle.cov_session.proofs.sessions.Sessions.side.Goals as goal

pub returns-in_default-clause-refused : goal.returns-in_default-clause-refused
returns-in_default-clause-refused c = none-sets c.self.inside.keys.entries c.self.inside.sessions c.args.name.now c.self.invariant c.args.self.now c.self.view_is (sym c.in_default.ensures) c.args.side

pub unreachable-requires : goal.unreachable-requires
unreachable-requires c =
    true≢false
    (sym (there-is c.self.inside.keys.entries c.self.inside.sessions c.args.name.now c.self.invariant c.in-Some.key (sym c.in-Some.ensures))
    ∙ ap is_some (sym c.get_mut.ensures.value ∙ ap option_copied_mut c.in_default-get_mut.is))

pub invariant_of-self : goal.invariant_of-self
invariant_of-self c =
    changed-kept c.self.inside.keys.entries c.self.inside.sessions c.args.name.now c.self.invariant c.in-Some.key (sym c.in-Some.ensures) c.in-Some-get_mut.session.now (sym c.in-Some-get_mut.ensures.value) c.set_side.new.self c.set_side.ensures.name

pub returns-clause-set : goal.returns-clause-set
returns-clause-set c =
    both-done c.set_side.result
    (sets c.self.inside.keys.entries c.self.inside.sessions c.args.name.now c.self.invariant c.args.self.now c.self.view_is c.in-Some.key (sym c.in-Some.ensures) c.in-Some-get_mut.session.now (sym c.in-Some-get_mut.ensures.value)
    c.set_side.new.self c.set_side.ensures.name c.args.side) c.set_side.ensures.accepted c.set_side.ensures.set

pub returns-clause-open : goal.returns-clause-open
returns-clause-open c = λ history are.
    stay-open c.self.inside.keys.entries c.self.inside.sessions c.args.name.now c.self.invariant c.args.self.now c.self.view_is c.in-Some.key (sym c.in-Some.ensures) c.in-Some-get_mut.session.now (sym c.in-Some-get_mut.ensures.value)
    c.set_side.new.self c.set_side.ensures.name history are (c.set_side.ensures.open history)

pub returns-clause-refused : goal.returns-clause-refused
returns-clause-refused c =
    IfErr-weaker c.set_side.result _ _
    (refuses-side c.self.inside.keys.entries c.self.inside.sessions c.args.name.now c.self.invariant c.args.self.now c.self.view_is c.in-Some.key (sym c.in-Some.ensures) c.in-Some-get_mut.session.now (sym c.in-Some-get_mut.ensures.value)
    c.args.side) c.set_side.ensures.refused
