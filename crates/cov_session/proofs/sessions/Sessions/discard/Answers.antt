use Rattle.std.proofs.Common.{◌≡◌, ◌∙◌, sym, ap, subst, ◌+◌, length, map, is_some}
use Rattle.std.specs.List.{IsDistinct}
use Rattle.std.specs.Map.{keys_of, lookup, remove_entry}
use Rattle.cov_session.specs.Calls.{AreOpen}
use Rattle.cov_session.specs.Kept.{AreKept, same_name, kept}
use Rattle.cov_session.specs.Named.{named, without}
use Rattle.cov_session.specs.Open.{as_named}
use Rattle.cov_session.proofs.Changing.{none-named, there-is, its-named, out-kept, out-named, out-open}
use Rattle.cov_session.proofs.Keeping.{is_of}
use Rattle.cov_session.proofs.sessions.Sessions.discard.Goals as goal

pub remove-requires : goal.remove-requires
remove-requires c =
    there-is c.self.inside.keys.entries c.self.inside.sessions c.args.name.now c.self.invariant c.in-Some.key
    (ap (λ n. lookup (is_of n) c.self.inside.keys.entries) (sym c.as_slice.ensures.bytes) ∙ sym c.in-Some.ensures.value)

pub invariant_of-self : goal.invariant_of-self
invariant_of-self c =
    let keys = c.self.inside.keys.entries in
    let left : c.shift_remove.new.self.entries ≡ remove_entry (is_of c.args.name.now) keys = c.in-Some.ensures.entries ∙ ap (λ n. remove_entry (is_of n) keys) c.as_slice.ensures.bytes in
    let fewer : length (remove_entry (is_of c.args.name.now) keys) + 1 ≡ length keys = ap (λ es. length es + 1) (sym left) ∙ c.in-Some.ensures.len in
    subst (λ es. AreKept es c.remove.new.self) (sym left)
    (out-kept keys c.self.inside.sessions c.args.name.now c.self.invariant c.in-Some.key
    (ap (λ n. lookup (is_of n) keys) (sym c.as_slice.ensures.bytes) ∙ sym c.in-Some.ensures.value) c.remove.result c.remove.ensures.value c.remove.new.self c.remove.ensures.updates
    (subst (λ es. IsDistinct same_name (keys_of es)) left c.in-Some.ensures.unique) fewer c.remove.ensures.len)

pub returns-in-Some-clause-without : goal.returns-in-Some-clause-without
returns-in-Some-clause-without c =
    let keys = c.self.inside.keys.entries in
    let left : c.shift_remove.new.self.entries ≡ remove_entry (is_of c.args.name.now) keys = c.in-Some.ensures.entries ∙ ap (λ n. remove_entry (is_of n) keys) c.as_slice.ensures.bytes in
    ap (λ es. map as_named (kept es c.remove.new.self)) left
    ∙ out-named keys c.self.inside.sessions c.args.name.now c.self.invariant c.in-Some.key
    (ap (λ n. lookup (is_of n) keys) (sym c.as_slice.ensures.bytes) ∙ sym c.in-Some.ensures.value) c.remove.result c.remove.ensures.value c.remove.new.self c.remove.ensures.updates
    ∙ ap (λ ss. without (map as_named ss) c.args.name.now) c.self.view_is

pub returns-in-Some-clause-open : goal.returns-in-Some-clause-open
returns-in-Some-clause-open c = λ history are.
    let keys = c.self.inside.keys.entries in
    let left : c.shift_remove.new.self.entries ≡ remove_entry (is_of c.args.name.now) keys = c.in-Some.ensures.entries ∙ ap (λ n. remove_entry (is_of n) keys) c.as_slice.ensures.bytes in
    subst (λ es. AreOpen history (kept es c.remove.new.self)) (sym left)
    (out-open keys c.self.inside.sessions c.args.name.now c.self.invariant c.in-Some.key
    (ap (λ n. lookup (is_of n) keys) (sym c.as_slice.ensures.bytes) ∙ sym c.in-Some.ensures.value) c.remove.result c.remove.ensures.value c.remove.new.self c.remove.ensures.updates
    history (subst (AreOpen history) (sym c.self.view_is) are))

pub returns-in-Some-clause-there : goal.returns-in-Some-clause-there
returns-in-Some-clause-there c =
    let keys = c.self.inside.keys.entries in
    ap (λ ss. is_some (named (map as_named ss) c.args.name.now)) (sym c.self.view_is)
    ∙ ap is_some
    (its-named keys c.self.inside.sessions c.args.name.now c.self.invariant c.in-Some.key
    (ap (λ n. lookup (is_of n) keys) (sym c.as_slice.ensures.bytes) ∙ sym c.in-Some.ensures.value) c.remove.result c.remove.ensures.value)

pub returns-in-None-clause-none : goal.returns-in-None-clause-none
returns-in-None-clause-none c =
    ap (λ ss. named (map as_named ss) c.args.name.now) (sym c.self.view_is)
    ∙ none-named c.self.inside.keys.entries c.self.inside.sessions c.args.name.now c.self.invariant
    (ap (λ n. lookup (is_of n) c.self.inside.keys.entries) (sym c.as_slice.ensures.bytes) ∙ sym c.in-None.ensures.value)
