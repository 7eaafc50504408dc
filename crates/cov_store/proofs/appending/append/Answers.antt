use Rattle.std.proofs.Common.{arith, ap, length, subst, sym}
use Rattle.cov_journal.proofs.CallerLemmas.{some_to}
use Rattle.cov_journal.specs.Journal.{IsWritten}
use Rattle.cov_store.specs.Applying.{IsAccepted}
use Rattle.cov_store.specs.Stands.{payloads, IsJournalOf, IsStored}
use Rattle.cov_store.proofs.Applies.{gate_with, journal_still, journal_with, moments_with, near, short, stored_with, told_with}
use Rattle.cov_store.proofs.appending.append.Goals as goal

pub extend-requires-clause-payload : goal.extend-requires-clause-payload
extend-requires-clause-payload g c =
    let h = c.args.engine.now.history in
    let k = c.args.command in
    let p = c.in-Ok.payload in
    let accepted : IsAccepted h k p = record { legal = c.history_is_legal.ensures; accepted = c.in-Ok-append_releasing.ensures.accepted; record_is = c.in-Ok.ensures.record } in
    omega (arith, ap length c.as_slice.ensures, short h k p accepted)

pub extend-requires-clause-end : goal.extend-requires-clause-end
extend-requires-clause-end g c =
    let h = c.args.engine.now.history in
    let k = c.args.command in
    let p = c.in-Ok.payload in
    let accepted : IsAccepted h k p = record { legal = c.history_is_legal.ensures; accepted = c.in-Ok-append_releasing.ensures.accepted; record_is = c.in-Ok.ensures.record } in
    let of = journal_still c.args.journal.now c.make_record.new.journal h c.make_record.ensures.at c.make_record.ensures.digest c.requires.journal in
    omega (arith, ap length c.as_slice.ensures, near h k p accepted c.make_record.new.journal of)

pub returns-in-Ok-extend-clause-journal : goal.returns-in-Ok-extend-clause-journal
returns-in-Ok-extend-clause-journal g c =
    let h = c.args.engine.now.history in
    let k = c.args.command in
    let p = c.in-Ok.payload in
    let j = c.make_record.new.journal in
    let accepted : IsAccepted h k p = record { legal = c.history_is_legal.ensures; accepted = c.in-Ok-append_releasing.ensures.accepted; record_is = c.in-Ok.ensures.record } in
    let of : IsJournalOf j h = journal_still c.args.journal.now j h c.make_record.ensures.at c.make_record.ensures.digest c.requires.journal in
    subst (IsJournalOf c.extend.new.self) (sym c.in-Ok-append_releasing.ensures.appended)
    (journal_with h k p accepted j of c.as_slice.result.now c.as_slice.ensures c.extend.new.self (c.extend.ensures.fits (payloads h) of.fits))

pub returns-in-Ok-extend-clause-written : goal.returns-in-Ok-extend-clause-written
returns-in-Ok-extend-clause-written g c held =
    let h = c.args.engine.now.history in
    let k = c.args.command in
    let p = c.in-Ok.payload in
    let j = c.make_record.new.journal in
    let accepted : IsAccepted h k p = record { legal = c.history_is_legal.ensures; accepted = c.in-Ok-append_releasing.ensures.accepted; record_is = c.in-Ok.ensures.record } in
    let of : IsJournalOf j h = journal_still c.args.journal.now j h c.make_record.ensures.at c.make_record.ensures.digest c.requires.journal in
    told_with h k p accepted j of c.as_slice.result.now c.as_slice.ensures (g.D.Disk.contents c.extend.new.disk)
    (c.in-Ok-extend.ensures.written (payloads h) of.fits
    (some_to (λ image. IsStored image h) (λ image. IsWritten image (payloads h)) (λ image s. s.written) (g.D.Disk.contents c.args.disk.now) held))

pub returns-in-Ok-extend-clause-gate : goal.returns-in-Ok-extend-clause-gate
returns-in-Ok-extend-clause-gate g c =
    let h = c.args.engine.now.history in
    let k = c.args.command in
    let p = c.in-Ok.payload in
    let j = c.make_record.new.journal in
    let accepted : IsAccepted h k p = record { legal = c.history_is_legal.ensures; accepted = c.in-Ok-append_releasing.ensures.accepted; record_is = c.in-Ok.ensures.record } in
    let of : IsJournalOf j h = journal_still c.args.journal.now j h c.make_record.ensures.at c.make_record.ensures.digest c.requires.journal in
    gate_with h k p accepted j of c.as_slice.result.now c.as_slice.ensures c.extend.new.self (g.D.Disk.contents c.extend.new.disk) (c.extend.ensures.fits (payloads h) of.fits) c.in-Ok-extend.ensures.gate

pub returns-in-Ok-extend-clause-stored : goal.returns-in-Ok-extend-clause-stored
returns-in-Ok-extend-clause-stored g c all image now =
    let h = c.args.engine.now.history in
    let k = c.args.command in
    let p = c.in-Ok.payload in
    let j = c.make_record.new.journal in
    let accepted : IsAccepted h k p = record { legal = c.history_is_legal.ensures; accepted = c.in-Ok-append_releasing.ensures.accepted; record_is = c.in-Ok.ensures.record } in
    let of : IsJournalOf j h = journal_still c.args.journal.now j h c.make_record.ensures.at c.make_record.ensures.digest c.requires.journal in
    stored_with h k p accepted j of c.as_slice.result.now c.as_slice.ensures image
    (c.in-Ok-extend.ensures.stored (payloads h) of.fits (λ i is. (all i is).written) image now)

pub returns-in-Ok-extend-clause-any_moment : goal.returns-in-Ok-extend-clause-any_moment
returns-in-Ok-extend-clause-any_moment g c all =
    let h = c.args.engine.now.history in
    let k = c.args.command in
    let p = c.in-Ok.payload in
    let j = c.make_record.new.journal in
    let accepted : IsAccepted h k p = record { legal = c.history_is_legal.ensures; accepted = c.in-Ok-append_releasing.ensures.accepted; record_is = c.in-Ok.ensures.record } in
    let of : IsJournalOf j h = journal_still c.args.journal.now j h c.make_record.ensures.at c.make_record.ensures.digest c.requires.journal in
    moments_with h k p accepted j of c.as_slice.result.now c.as_slice.ensures g.D.Disk.moment g.D.Disk.images_since
    c.args.disk.now c.extend.new.disk (c.extend.ensures.any_moment (payloads h) of.fits (λ i is. (all i is).written))

pub returns-in-Ok-append_releasing-clause-journal : goal.returns-in-Ok-append_releasing-clause-journal
returns-in-Ok-append_releasing-clause-journal g c =
    let h = c.args.engine.now.history in
    let k = c.args.command in
    let p = c.in-Ok.payload in
    let j = c.make_record.new.journal in
    let accepted : IsAccepted h k p = record { legal = c.history_is_legal.ensures; accepted = c.in-Ok-append_releasing.ensures.accepted; record_is = c.in-Ok.ensures.record } in
    let of : IsJournalOf j h = journal_still c.args.journal.now j h c.make_record.ensures.at c.make_record.ensures.digest c.requires.journal in
    subst (IsJournalOf c.extend.new.self) (sym c.in-Ok-append_releasing.ensures.appended)
    (journal_with h k p accepted j of c.as_slice.result.now c.as_slice.ensures c.extend.new.self (c.extend.ensures.fits (payloads h) of.fits))

pub returns-in-Ok-append_releasing-clause-any_moment : goal.returns-in-Ok-append_releasing-clause-any_moment
returns-in-Ok-append_releasing-clause-any_moment g c all =
    let h = c.args.engine.now.history in
    let k = c.args.command in
    let p = c.in-Ok.payload in
    let j = c.make_record.new.journal in
    let accepted : IsAccepted h k p = record { legal = c.history_is_legal.ensures; accepted = c.in-Ok-append_releasing.ensures.accepted; record_is = c.in-Ok.ensures.record } in
    let of : IsJournalOf j h = journal_still c.args.journal.now j h c.make_record.ensures.at c.make_record.ensures.digest c.requires.journal in
    moments_with h k p accepted j of c.as_slice.result.now c.as_slice.ensures g.D.Disk.moment g.D.Disk.images_since
    c.args.disk.now c.extend.new.disk (c.extend.ensures.any_moment (payloads h) of.fits (λ i is. (all i is).written))
