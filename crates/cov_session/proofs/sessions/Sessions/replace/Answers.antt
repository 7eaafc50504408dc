use Rattle.std.proofs.Common.{◌∙◌, subst, List, map, Some, sym, ap, ◌∷◌, [], is_some, option_map, true≢false}
use Rattle.std.specs.Option.{option_copied_mut}
use Rattle.cov_edit.specs.declared.command.Command.{Command}
use Rattle.cov_edit.specs.declared.edit.Edit.TheVariants as edits
use Rattle.cov_session.specs.Calls.{AreOpen, IsSessionFaultOf, taken}
use Rattle.cov_session.specs.Counting.{own_lines}
use Rattle.cov_session.specs.Open.{NamedSession, as_named, IsOpen}
use Rattle.cov_session.proofs.Changing.{there-is, changed-kept}
use Rattle.cov_session.proofs.Faulting.{passed-on}
use Rattle.cov_session.proofs.Taking.{none-takes, one-named, refuses, stay-open, takes}
use Rattle.cov_session.proofs.sessions.Sessions.replace.Goals as goal

pub returns-in_default-clause-refused : goal.returns-in_default-clause-refused
returns-in_default-clause-refused c = λ history are. none-takes c.self.inside.keys.entries c.self.inside.sessions c.args.name.now c.self.invariant c.args.self.now c.self.view_is (sym c.in_default.ensures) history (edits.Insert c.args.file c.args.line c.args.text ∷ edits.Delete c.args.file c.args.line ∷ [])

pub unreachable-requires : goal.unreachable-requires
unreachable-requires c =
    true≢false
    (sym (there-is c.self.inside.keys.entries c.self.inside.sessions c.args.name.now c.self.invariant c.in-Some.key (sym c.in-Some.ensures))
    ∙ ap is_some (sym c.get_mut.ensures.value ∙ ap option_copied_mut c.in_default-get_mut.is))

pub returns-in_err-replace-clause-open : goal.returns-in_err-replace-clause-open
returns-in_err-replace-clause-open c = λ history are.
    stay-open c.self.inside.keys.entries c.self.inside.sessions c.args.name.now c.self.invariant c.args.self.now c.self.view_is c.in-Some.key (sym c.in-Some.ensures) c.in-Some-get_mut.session.now (sym c.in-Some-get_mut.ensures.value)
    c.replace.new.self c.replace.ensures.name history are (λ here. subst (IsOpen history) (sym c.in_err-replace.ensures.same) here)

pub returns-in_err-replace-clause-refused : goal.returns-in_err-replace-clause-refused
returns-in_err-replace-clause-refused c =
    passed-on (λ fault. (history : List Command) → AreOpen history c.args.self.now → IsSessionFaultOf (taken history (map as_named c.args.self.now) c.args.name.now (edits.Insert c.args.file c.args.line c.args.text ∷ edits.Delete c.args.file c.args.line ∷ [])) fault)
    c.in_err-replace.field-0.0 c.from_residual.result c.from_residual.ensures.1
    (refuses c.self.inside.keys.entries c.self.inside.sessions c.args.name.now c.self.invariant c.args.self.now c.self.view_is c.in-Some.key (sym c.in-Some.ensures) c.in-Some-get_mut.session.now (sym c.in-Some-get_mut.ensures.value)
    (edits.Insert c.args.file c.args.line c.args.text ∷ edits.Delete c.args.file c.args.line ∷ []) c.in_err-replace.field-0.0 c.in_err-replace.ensures.refused)

pub invariant_of-self-2 : goal.invariant_of-self-2
invariant_of-self-2 c =
    changed-kept c.self.inside.keys.entries c.self.inside.sessions c.args.name.now c.self.invariant c.in-Some.key (sym c.in-Some.ensures) c.in-Some-get_mut.session.now (sym c.in-Some-get_mut.ensures.value) c.replace.new.self c.replace.ensures.name

pub returns-clause-taken : goal.returns-clause-taken
returns-clause-taken c =
    takes c.self.inside.keys.entries c.self.inside.sessions c.args.name.now c.self.invariant c.args.self.now c.self.view_is c.in-Some.key (sym c.in-Some.ensures) c.in-Some-get_mut.session.now (sym c.in-Some-get_mut.ensures.value)
    c.replace.new.self c.replace.ensures.name (edits.Insert c.args.file c.args.line c.args.text ∷ edits.Delete c.args.file c.args.line ∷ []) c.replace.ensures.side c.in_ok-replace.ensures.accepted c.in_ok-replace.ensures.grown

pub returns-clause-open : goal.returns-clause-open
returns-clause-open c = λ history are.
    stay-open c.self.inside.keys.entries c.self.inside.sessions c.args.name.now c.self.invariant c.args.self.now c.self.view_is c.in-Some.key (sym c.in-Some.ensures) c.in-Some-get_mut.session.now (sym c.in-Some-get_mut.ensures.value)
    c.replace.new.self c.replace.ensures.name history are (c.in_ok-replace.ensures.open history)

pub returns-clause-number : goal.returns-clause-number
returns-clause-number c =
    ap (option_map (λ (s : NamedSession). own_lines s.session)) (one-named c.self.inside.keys.entries c.self.inside.sessions c.args.name.now c.self.invariant c.args.self.now c.self.view_is c.in-Some.key (sym c.in-Some.ensures) c.in-Some-get_mut.session.now (sym c.in-Some-get_mut.ensures.value))
    ∙ ap Some (sym c.own_lines-number.ensures)
