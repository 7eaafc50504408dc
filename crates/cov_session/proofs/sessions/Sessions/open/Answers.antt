use Rattle.std.proofs.Common.{◌≡◌, ◌∙◌, sym, ap, subst, ◌<◌, ◌≤◌, false, length, map, is_some, arith}
use Rattle.std.specs.Map.{lookup}
use Rattle.std.proofs.lemmas.Bool.Decides.{nat_tests}
use Rattle.cov_session.specs.Calls.{IsSessionFaultOf, opened_among}
use Rattle.cov_session.specs.Kept.{AreKept}
use Rattle.cov_session.specs.Open.{as_named}
use Rattle.cov_session.specs.declared.sessions.TheConstants.{MOST_SESSIONS}
use Rattle.cov_session.proofs.Beginning.{exists, key-added, many, not_opened, begins, begins-kept, begins-open}
use Rattle.cov_session.proofs.Changing.{slots-kept}
use Rattle.cov_session.proofs.Faulting.{passed-on}
use Rattle.cov_session.proofs.Keeping.{is_of}
use Rattle.cov_session.proofs.sessions.Sessions.open.Goals as goal

pub returns-then-contains_key-clause-refused : goal.returns-then-contains_key-clause-refused
returns-then-contains_key-clause-refused c =
    exists c.self.inside.keys.entries c.self.inside.sessions c.args.name c.self.invariant c.args.self.now c.self.view_is c.args.engine.now.history c.args.partial.now c.args.ambition
    (ap (λ n. is_some (lookup (is_of n) c.self.inside.keys.entries)) (sym c.as_slice.ensures.bytes) ∙ sym c.contains_key.ensures ∙ c.if-contains_key.true)

pub returns-then-len-ge-MOST_SESSIONS-clause-refused : goal.returns-then-len-ge-MOST_SESSIONS-clause-refused
returns-then-len-ge-MOST_SESSIONS-clause-refused c =
    let keys = c.self.inside.keys.entries in
    let free : is_some (lookup (is_of c.args.name) keys) ≡ false = ap (λ n. is_some (lookup (is_of n) keys)) (sym c.as_slice.ensures.bytes) ∙ sym c.contains_key.ensures ∙ c.if-contains_key.false in
    let most : MOST_SESSIONS ≤ length keys = let n = c.len.ensures.len in let b = c.if-len-ge-MOST_SESSIONS.true in grind (arith, nat_tests, n, b) in
    many c.self.inside.keys.entries c.self.inside.sessions c.args.name c.self.invariant c.args.self.now c.self.view_is c.args.engine.now.history c.args.partial.now c.args.ambition free most

pub invariant_of-self : goal.invariant_of-self
invariant_of-self c =
    subst (λ es. AreKept es c.make_room.new.sessions) (sym c.in_err-own.ensures.keys)
    (slots-kept c.self.inside.keys.entries c.self.inside.sessions c.make_room.new.sessions c.in_err-own.ensures.sessions c.self.invariant)

pub invariant_of-self-in_err-session : goal.invariant_of-self-in_err-session
invariant_of-self-in_err-session c =
    subst (λ es. AreKept es c.make_room.new.sessions) (sym c.in_ok-own.ensures.keys)
    (slots-kept c.self.inside.keys.entries c.self.inside.sessions c.make_room.new.sessions c.in_ok-own.ensures.sessions c.self.invariant)

pub returns-in_err-session-clause-refused : goal.returns-in_err-session-clause-refused
returns-in_err-session-clause-refused c =
    let keys = c.self.inside.keys.entries in
    let free : is_some (lookup (is_of c.args.name) keys) ≡ false = ap (λ n. is_some (lookup (is_of n) keys)) (sym c.as_slice.ensures.bytes) ∙ sym c.contains_key.ensures ∙ c.if-contains_key.false in
    let few : length keys < MOST_SESSIONS = let n = c.len.ensures.len in let b = c.if-len-ge-MOST_SESSIONS.false in grind (arith, nat_tests, n, b) in
    passed-on (IsSessionFaultOf (opened_among c.args.engine.now.history (map as_named c.args.self.now) c.args.name c.args.partial.now c.args.ambition)) c.in_err-session.field-0.0 c.from_residual-in_err-session.result
    c.from_residual-in_err-session.ensures.1 (not_opened c.self.inside.keys.entries c.self.inside.sessions c.args.name c.self.invariant c.args.self.now c.self.view_is c.args.engine.now.history c.args.partial.now c.args.ambition free few c.in_err-session.field-0.0 c.in_err-session.ensures.refused)

pub invariant_of-self-2 : goal.invariant_of-self-2
invariant_of-self-2 c =
    let keys = c.self.inside.keys.entries in
    let free : is_some (lookup (is_of c.args.name) keys) ≡ false = ap (λ n. is_some (lookup (is_of n) keys)) (sym c.as_slice.ensures.bytes) ∙ sym c.contains_key.ensures ∙ c.if-contains_key.false in
    let few : length keys < MOST_SESSIONS = let n = c.len.ensures.len in let b = c.if-len-ge-MOST_SESSIONS.false in grind (arith, nat_tests, n, b) in
    let added = key-added keys c.make_room.new.keys c.args.name c.in_ok-own.own c.insert_reserved-key.result c.insert.new.self.entries free c.in_ok-own.ensures.name c.in_ok-own.ensures.keys c.in-Ok.ensures.entries in
    begins-kept c.self.inside.keys.entries c.self.inside.sessions c.args.name c.self.invariant c.args.self.now c.self.view_is c.args.engine.now.history c.args.partial.now c.args.ambition free few
    c.make_room.new.sessions c.insert_reserved-key.new.self c.in_ok-own.ensures.sessions c.in_ok-own.own c.insert_reserved-key.result c.insert.new.self.entries added c.in_ok-session.session
    c.insert_reserved-key.ensures.was_vacant c.insert_reserved-key.ensures.updates (c.in_ok-session.ensures.name ∙ sym c.in_ok-own.ensures.name) c.in-Ok.ensures.unique c.insert_reserved-key.ensures.len

pub returns-clause-opened : goal.returns-clause-opened
returns-clause-opened c =
    let keys = c.self.inside.keys.entries in
    let free : is_some (lookup (is_of c.args.name) keys) ≡ false = ap (λ n. is_some (lookup (is_of n) keys)) (sym c.as_slice.ensures.bytes) ∙ sym c.contains_key.ensures ∙ c.if-contains_key.false in
    let few : length keys < MOST_SESSIONS = let n = c.len.ensures.len in let b = c.if-len-ge-MOST_SESSIONS.false in grind (arith, nat_tests, n, b) in
    let added = key-added keys c.make_room.new.keys c.args.name c.in_ok-own.own c.insert_reserved-key.result c.insert.new.self.entries free c.in_ok-own.ensures.name c.in_ok-own.ensures.keys c.in-Ok.ensures.entries in
    begins c.self.inside.keys.entries c.self.inside.sessions c.args.name c.self.invariant c.args.self.now c.self.view_is c.args.engine.now.history c.args.partial.now c.args.ambition free few
    c.make_room.new.sessions c.insert_reserved-key.new.self c.in_ok-own.ensures.sessions c.in_ok-own.own c.insert_reserved-key.result c.insert.new.self.entries added c.in_ok-session.session
    c.insert_reserved-key.ensures.was_vacant c.insert_reserved-key.ensures.updates c.standing-opened.result c.in_ok-session.ensures.name c.in_ok-session.ensures.side c.in_ok-session.ensures.opened c.standing-opened.ensures.base c.standing-opened.ensures.choice

pub returns-clause-open : goal.returns-clause-open
returns-clause-open c = λ are.
    let keys = c.self.inside.keys.entries in
    let free : is_some (lookup (is_of c.args.name) keys) ≡ false = ap (λ n. is_some (lookup (is_of n) keys)) (sym c.as_slice.ensures.bytes) ∙ sym c.contains_key.ensures ∙ c.if-contains_key.false in
    let few : length keys < MOST_SESSIONS = let n = c.len.ensures.len in let b = c.if-len-ge-MOST_SESSIONS.false in grind (arith, nat_tests, n, b) in
    let added = key-added keys c.make_room.new.keys c.args.name c.in_ok-own.own c.insert_reserved-key.result c.insert.new.self.entries free c.in_ok-own.ensures.name c.in_ok-own.ensures.keys c.in-Ok.ensures.entries in
    begins-open c.self.inside.keys.entries c.self.inside.sessions c.args.name c.self.invariant c.args.self.now c.self.view_is c.args.engine.now.history c.args.partial.now c.args.ambition free few
    c.make_room.new.sessions c.insert_reserved-key.new.self c.in_ok-own.ensures.sessions c.in_ok-own.own c.insert_reserved-key.result c.insert.new.self.entries added c.in_ok-session.session
    c.insert_reserved-key.ensures.was_vacant c.insert_reserved-key.ensures.updates are c.in_ok-session.ensures.«open»
