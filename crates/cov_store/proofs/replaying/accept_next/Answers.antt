use Rattle.std.proofs.Common.{subst, sym, arith}
use Rattle.std.proofs.lemmas.List.{length-map}
use Rattle.cov_journal.specs.Gates.{HasGate}
use Rattle.cov_record.specs.Payload.{payload}
use Rattle.cov_store.specs.Replaying.{HaltsFor, IsAccepted, IsUnread}
use Rattle.cov_store.specs.Stands.{payloads}
use Rattle.cov_store.proofs.Legal.{legal-few}
use Rattle.cov_store.proofs.Replays.{ends_here, step_on, stop_halts, unread_halts}
use Rattle.cov_store.proofs.replaying.accept_next.Goals as goal

pub next-requires-clause-few : goal.next-requires-clause-few
next-requires-clause-few g c =
    let history = c.args.engine.now.history in
    omega (arith, legal-few history c.requires.behind.legal, c.requires.behind.given.given, length-map history payload)

pub returns-in-Ok-clause-steps : goal.returns-in-Ok-clause-steps
returns-in-Ok-clause-steps g c =
    let history = c.args.engine.now.history in
    let next = rw c.in-Ok-Record.field-0-is at c.in-Ok-Record.ensures.next in
    let given = rw c.in-Ok-Record.field-0-is at (c.in-Ok-Record.ensures.given (payloads history) c.requires.behind.given) in
    let gate = rw c.in-Ok-Record.field-0-is at c.in-Ok-Record.ensures.gate in
    step_on (g.D.Disk.contents c.args.disk.now) c.args.reader history c.requires.behind c.in-Ok-Record.payload c.in-Ok-Record.next next.0 c.read.new.engine.history
    (subst (λ o. HasGate o c.in-Ok-Record.next.at) c.next.ensures.same gate) given next.1
    (subst (λ p. IsAccepted history p c.read.new.engine.history) c.as_slice.ensures c.in-Ok.ensures.accepted)

pub returns-in-Ok-Record-clause-halts : goal.returns-in-Ok-Record-clause-halts
returns-in-Ok-Record-clause-halts g c =
    let history = c.args.engine.now.history in
    let next = rw c.in-Ok-Record.field-0-is at c.in-Ok-Record.ensures.next in
    subst (λ h. HaltsFor (g.D.Disk.contents c.args.disk.now) h c.in-Err-read.halt) (sym c.in-Err-read.ensures.same)
    (unread_halts (g.D.Disk.contents c.args.disk.now) c.args.reader history c.requires.behind c.in-Ok-Record.payload c.in-Ok-Record.next next.0 c.in-Err-read.halt next.1
    (subst (λ p. IsUnread history p c.in-Err-read.halt) c.as_slice.ensures c.in-Err-read.ensures.unread))

pub returns-in-Ok-End-clause-steps : goal.returns-in-Ok-End-clause-steps
returns-in-Ok-End-clause-steps g c =
    let history = c.args.engine.now.history in
    let next = rw c.in-Ok-End.field-0-is at c.in-Ok-End.ensures.next in
    let fits = rw c.in-Ok-End.field-0-is at (c.in-Ok-End.ensures.given (payloads history) c.requires.behind.given) in
    ends_here (g.D.Disk.contents c.args.disk.now) c.args.reader history c.requires.behind c.in-Ok-End.journal fits next.1

pub returns-clause-halts : goal.returns-clause-halts
returns-clause-halts g c =
    subst (HaltsFor (g.D.Disk.contents c.args.disk.now) c.args.engine.now.history) (sym c.as_halt.ensures)
    (stop_halts (g.D.Disk.contents c.args.disk.now) c.args.reader c.args.engine.now.history c.requires.behind
    (g.D.Disk.faults c.args.disk.now) (g.D.Disk.faults c.next.new.disk) c.in-Err.fault c.in-Err.ensures.fault)
