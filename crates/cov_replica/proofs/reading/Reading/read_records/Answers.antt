use Rattle.std.proofs.Common.{◌<◌, ◌≤◌, length, ◌∙◌, ap, subst, sym}
use Rattle.cov_store.proofs.CallerLemmas.{legal-few}
use Rattle.cov_replica.proofs.Steps.{first_ahead, place_within, step_damaged, step_given_back, step_quiet, step_read}
use Rattle.cov_replica.proofs.reading.Reading.read_records.Goals as goal

pub slice_bounds-first_length-count : goal.slice_bounds-first_length-count
slice_bounds-first_length-count c =
    let s = c.records.self in
    let large = subst (λ v. 13 < length v.items) (sym c.records.invariant.bytes) c.requires.long in
    subst (λ l. s.at ≤ length l) (sym c.deref.ensures.value) (place_within s.bytes.items s.at s.digest s.engine.history c.records.invariant.read large)

pub slice_bounds-first_length-start : goal.slice_bounds-first_length-start
slice_bounds-first_length-start c =
    let s = c.records.self in
    let large = subst (λ v. 13 < length v.items) (sym c.records.invariant.bytes) c.requires.long in
    subst (λ l. s.at ≤ length l) (sym c.deref.ensures.value) (place_within s.bytes.items s.at s.digest s.engine.history c.records.invariant.read large)

pub records-preserved : goal.records-preserved
records-preserved c =
    let s = c.records.self in
    let n = c.read_record.new.self in
    let first = first_ahead c.deref.result.now s.bytes.items s.at c.in-Some.count c.deref.ensures.value c.in-Some.ensures in
    let within = subst (λ v. c.args.before ≤ length v.items) (sym c.records.invariant.bytes) c.requires.within in
    let same = ap (λ v. v.items) c.in-Ok.ensures.bytes in
    record {
      bytes = c.in-Ok.ensures.bytes ∙ c.records.invariant.bytes;
      read = step_read s.bytes.items s.at c.in-Some.count c.args.before s.digest s.engine.history c.records.invariant.read first n.bytes.items n.at n.digest n.engine.history same
          c.in-Ok.ensures.at c.in-Ok.ensures.digest c.in-Ok.ensures.accepted;
      rest = step_quiet s.bytes.items s.at c.in-Some.count c.args.before s.digest s.engine.history c.records.invariant.read first n.bytes.items n.at n.digest n.engine.history same
          c.in-Ok.ensures.at within c.records.invariant.rest;
    }

pub damaged-requires : goal.damaged-requires
damaged-requires c =
    let told = rw c.in-Err-Refused.field-0-is at c.in-Err-Refused.ensures.accepted in
    record { most = subst (λ h. length h ≤ 1048576) (sym told.1) (legal-few c.records.self.engine.history c.records.invariant.read.legal) }

pub returns-in-Err-Refused-clause-reads : goal.returns-in-Err-Refused-clause-reads
returns-in-Err-Refused-clause-reads c =
    let s = c.records.self in
    let n = c.read_record.new.self in
    let told = rw c.in-Err-Refused.field-0-is at c.in-Err-Refused.ensures.accepted in
    let first = first_ahead c.deref.result.now s.bytes.items s.at c.in-Some.count c.deref.ensures.value c.in-Some.ensures in
    let large = subst (λ v. 13 < length v.items) (sym c.records.invariant.bytes) c.requires.long in
    step_damaged s.bytes.items s.at c.in-Some.count c.args.before s.digest s.engine.history c.records.invariant.read first n.bytes.items n.at n.digest n.engine.history
    (ap (λ v. v.items) c.read_record.ensures.bytes) c.in-Err-Refused.cause c.damaged.result large told c.damaged.ensures

pub returns-in-Err-Memory-clause-reads : goal.returns-in-Err-Memory-clause-reads
returns-in-Err-Memory-clause-reads c =
    let s = c.records.self in
    let n = c.read_record.new.self in
    let b = c.give_back.new.self in
    let told = rw c.in-Err-Memory.field-0-is at c.in-Err-Memory.ensures.accepted in
    let stays = c.in-Err-Memory.ensures.stays in
    let large = subst (λ v. 13 < length v.items) (sym c.records.invariant.bytes) c.requires.long in
    let within = subst (λ v. c.args.before ≤ length v.items) (sym c.records.invariant.bytes) c.requires.within in
    step_given_back (Unit {0}) s.bytes.items s.at c.args.before s.digest s.engine.history c.records.invariant.read large within c.records.invariant.rest
    n.bytes.items n.at (ap (λ v. v.items) c.read_record.ensures.bytes) stays.0 b.bytes.items b.at b.digest b.engine.history
    c.give_back.ensures.bytes (c.give_back.ensures.at ∙ stays.0) (c.give_back.ensures.digest ∙ stays.1) (ap (λ e. e.history) c.give_back.ensures.engine ∙ told)
    c.give_back.result c.give_back.ensures.wanting
