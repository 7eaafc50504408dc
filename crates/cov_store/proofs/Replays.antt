-- One record after another is read.
use Rattle.std.proofs.Common.{◌≡◌, ◌≢◌, ℕ, ◌+◌, ◌<◌, ◌≤◌, List, [], ◌∷◌, ◌++◌, length, get_or, drop, Option, Some, None, IfSome, refl, sym, ◌∙◌, ap, subst, arith}
use Rattle.std.proofs.lemmas.List.{drop_more, length_push}
use Rattle.cov_edit.specs.History.{options_of}
use Rattle.cov_edit.specs.declared.command.Command.{Command}
use Rattle.cov_expr.specs.Options.{Declared}
use Rattle.cov_history.specs.Verdict.{verdict, RefusedBy}
use Rattle.cov_history.specs.declared.refusal.Refusal.{Refusal}
use Rattle.cov_history.specs.declared.refusal.Refusal.TheVariants as refusals
use Rattle.cov_journal.specs.Gates.{HasGate}
use Rattle.cov_journal.specs.Journal.{State, FitsState, no_digest, next_digest, last_digest, body, stored}
use Rattle.cov_journal.specs.Places.{Place}
use Rattle.cov_journal.specs.Reading.{HasGiven, HasOtherDigest, IsDamaged as IsDamagedAt, IsFault, IsRecord, Passes}
use Rattle.cov_journal.specs.declared.damage.Damage.TheVariants as found
use Rattle.cov_journal.specs.declared.reader.ReadRecordFault.{ReadRecordFault}
use Rattle.cov_journal.specs.declared.reader.ReadRecordFault.TheVariants as reads
use Rattle.cov_journal.proofs.CallerLemmas.{length-digest, some_to, stored_push}
use Rattle.cov_record.specs.Laws.{IsRecordOf}
use Rattle.cov_store.specs.Damages.{Begins, HasCause, IsDamagedAfter}
use Rattle.cov_store.specs.Opening.{HasReason, IsNoWant, IsOfVerdict}
use Rattle.cov_store.specs.Replaying.{StandsBehind, IsAccepted, IsByVerdict, IsUnread, HaltsFor, HaltsBy, IsFaultOf, IsFoundIn, Steps, as_halt, as_refused}
use Rattle.cov_store.specs.Stands.{payloads, IsStored}
use Rattle.cov_store.specs.declared.damage.StoreDamage.{StoreDamage}
use Rattle.cov_store.specs.declared.damage.StoreDamage.TheVariants as damages
use Rattle.cov_store.specs.declared.damage.StoreFault.{StoreFault}
use Rattle.cov_store.specs.declared.damage.StoreFault.TheVariants as faults
use Rattle.cov_store.specs.declared.replaying.Halt.{Halt}
use Rattle.cov_store.specs.declared.replaying.Halt.TheVariants as halts
use Rattle.cov_store.specs.declared.replaying.Step.TheVariants as steps
use Rattle.cov_store.proofs.Legal.{fits-push, legal-push, payloads-push}

pub some_all : (o : Option (List ℕ)) (P : List ℕ → Type 0) → ((b : List ℕ) → P b) → IfSome o P
some_all None P all = tt
some_all (Some b) P all = all b

pub some_both : (o : Option (List ℕ)) (P Q R : List ℕ → Type 0) → ((b : List ℕ) → P b → Q b → R b) → IfSome o P → IfSome o Q → IfSome o R
some_both None P Q R to p q = tt
some_both (Some b) P Q R to p q = to b p q

-- what a reader reads behind the records of a history
module _ (o : Option (List ℕ)) (before : Place) (history : List Command) (s : StandsBehind o before history) where
  abbrev last : List ℕ
  last = last_digest no_digest (payloads history)

  -- an image with a damaged record behind the history
  damaged_after : (image behind : List ℕ) (cause : StoreDamage) → image ≡ stored (payloads history) (drop before.at image) → drop before.at image ≡ 1 ∷ behind → HasCause history last behind cause → IsDamagedAfter history image cause
  damaged_after image behind cause is at_gate why = record { legal = s.legal; fits = s.fits; behind = behind; bytes = is ∙ ap (stored (payloads history)) at_gate; cause_is = why }

  -- a record that was read
  module _ (p : List ℕ) (after : Place) (passes : Passes before p after) where
    abbrev read_behind : List ℕ → List ℕ
    read_behind image = body (next_digest last p) p ++ drop after.at image

    read_open : (image : List ℕ) → IsRecord before image p after → drop before.at image ≡ 1 ∷ read_behind image
    read_open image r = r.bytes ∙ ap (λ d. 1 ∷ (body (next_digest d p) p ++ drop after.at image)) s.given.fits.digest

    read_begins : (image : List ℕ) → IsRecord before image p after → Begins (read_behind image) p (next_digest last p)
    read_begins image r = record {
      short = passes.short;
      size = length-digest (last ++ p);
      gate = get_or image after.at 0;
      rest = drop (after.at + 1) image;
      bytes = ap (λ l. body (next_digest last p) p ++ l) (drop_more image after.at 0 r.within);
    }

    -- where its command is accepted the reader stands behind it
    accepted_behind : (c : Command) → IsRecordOf p c → verdict history c ≡ None → HasGate o after.at → HasGiven after (payloads history ++ p ∷ []) → IfSome o (λ image. IsRecord before image p after) → StandsBehind o after (history ++ c ∷ [])
    accepted_behind c is accepted gate given read =
        let more : payloads history ++ p ∷ [] ≡ payloads (history ++ c ∷ []) = ap (λ q. payloads history ++ q ∷ []) is.1 ∙ sym (payloads-push history c) in
        record {
          legal = legal-push history c s.legal is.0.0 accepted;
          fits = fits-push history c s.fits is.0;
          given = subst (HasGiven after) more given;
          gate = gate;
          bytes = some_both o (λ image. image ≡ stored (payloads history) (drop before.at image)) (λ image. IsRecord before image p after) (λ image. image ≡ stored (payloads (history ++ c ∷ [])) (drop after.at image))
              (λ image is r. is ∙ ap (stored (payloads history)) (read_open image r) ∙ sym (stored_push (payloads history) p (drop after.at image)) ∙ ap (λ ps. stored ps (drop after.at image)) more) s.bytes read;
        }

    pub step_on : (now : List Command) → HasGate o after.at → HasGiven after (payloads history ++ p ∷ []) → IfSome o (λ image. IsRecord before image p after) → IsAccepted history p now → Steps o history now (steps.On after)
    step_on now gate given read (c, is, accepted, grew) = (
      ap length grew ∙ length_push history c,
      subst (λ h. StandsBehind o after h) (sym grew) (accepted_behind c is accepted gate given read),
    )

    -- and where it isn't, that is the image's damage, or memory is wanting
    pub unread_halts : (halt : Halt) → IfSome o (λ image. IsRecord before image p after) → IsUnread history p halt → HaltsFor o history halt
    unread_halts (halts.Damaged damages.Cut) read un = absurd un
    unread_halts (halts.Damaged damages.Digest) read un = absurd un
    unread_halts (halts.Damaged damages.NotARecord) read un = (
      tt,
      some_both o (λ image. image ≡ stored (payloads history) (drop before.at image)) (λ image. IsRecord before image p after) (λ image. IsDamagedAfter history image damages.NotARecord)
          (λ image is r. damaged_after image (read_behind image) damages.NotARecord is (read_open image r) (p, read_begins image r, un)) s.bytes read,
    )
    unread_halts (halts.Damaged (damages.Refused refusal)) read un = (
      (un.1.0, un.1.2),
      some_both o (λ image. image ≡ stored (payloads history) (drop before.at image)) (λ image. IsRecord before image p after) (λ image. IsDamagedAfter history image (damages.Refused refusal))
          (λ image is r. damaged_after image (read_behind image) (damages.Refused refusal) is (read_open image r)
          (un.1.0, subst (λ q. Begins (read_behind image) q (next_digest last q)) un.1.1.1 (read_begins image r), un.1.1.0, un.1.2)) s.bytes read,
    )
    unread_halts halts.DiskFault read un = absurd un
    unread_halts halts.Memory read un = tt

  -- no record is left
  pub ends_here : (journal : State) → FitsState journal (payloads history) → IfSome o (λ image. get_or image before.at 0 ≢ 1) → Steps o history history (steps.End journal)
  ends_here journal fits closed = (
    some_both o (λ image. (image ≡ stored (payloads history) (drop before.at image)) × (before.at < length image)) (λ image. get_or image before.at 0 ≢ 1) (λ image. IsStored image history)
        (λ image is closed. record {
          legal = s.legal;
          fits = s.fits;
          written = record { gate = get_or image before.at 0; rest = drop (before.at + 1) image; is_closed = closed; bytes = is.0 ∙ ap (stored (payloads history)) (drop_more image before.at 0 is.1) };
        })
        (some_both o (λ image. image ≡ stored (payloads history) (drop before.at image)) (λ image. before.at < length image) (λ image. (image ≡ stored (payloads history) (drop before.at image)) × (before.at < length image)) (λ image is within. (is, within)) s.bytes s.gate)
        closed,
    subst (HasGate o) s.given.fits.place s.gate,
    record { fits = fits; records = s.fits },
  )

  gate_open : (image : List ℕ) → before.at < length image → get_or image before.at 0 ≡ 1 → drop before.at image ≡ 1 ∷ drop (before.at + 1) image
  gate_open image within is = drop_more image before.at 0 within ∙ ap (λ k. k ∷ drop (before.at + 1) image) is

  other_begins : (image : List ℕ) (x : HasOtherDigest before image) (rest : List ℕ) → x.rest ≡ rest → Begins (body x.digest x.payload ++ x.rest) x.payload x.digest
  other_begins image x [] is = absurd (omega (arith, x.more, ap length is))
  other_begins image x (k ∷ ks) is = record { short = x.short; size = x.size; gate = k; rest = ks; bytes = ap (λ l. body x.digest x.payload ++ l) is }

  within_bytes : IfSome o (λ image. (image ≡ stored (payloads history) (drop before.at image)) × (before.at < length image))
  within_bytes = some_both o (λ image. image ≡ stored (payloads history) (drop before.at image)) (λ image. before.at < length image) (λ image. (image ≡ stored (payloads history) (drop before.at image)) × (before.at < length image)) (λ image is within. (is, within)) s.bytes s.gate

  cut_found : IfSome o (λ image. IsDamagedAt before image found.Cut) → IfSome o (λ image. IsDamagedAfter history image damages.Cut)
  cut_found damage =
      some_both o (λ image. (image ≡ stored (payloads history) (drop before.at image)) × (before.at < length image)) (λ image. IsDamagedAt before image found.Cut) (λ image. IsDamagedAfter history image damages.Cut)
      (λ image is cut. damaged_after image (drop (before.at + 1) image) damages.Cut is.0 (gate_open image is.1 cut.0) cut.1) within_bytes damage

  digest_found : IfSome o (λ image. IsDamagedAt before image found.Digest) → IfSome o (λ image. IsDamagedAfter history image damages.Digest)
  digest_found damage =
      some_both o (λ image. (image ≡ stored (payloads history) (drop before.at image)) × (before.at < length image)) (λ image. IsDamagedAt before image found.Digest) (λ image. IsDamagedAfter history image damages.Digest)
      (λ image is x. damaged_after image (body x.digest x.payload ++ x.rest) damages.Digest is.0 x.bytes
      (x.payload, x.digest, other_begins image x x.rest refl, subst (λ d. x.digest ≢ next_digest d x.payload) s.given.fits.digest x.other)) within_bytes damage

  -- a fault of the reader is the image's damage, or comes of the disk or of memory
  pub stop_halts : (old new : ℕ) (fault : ReadRecordFault) → IsFault before o old new fault → HaltsFor o history (as_halt fault)
  stop_halts old new (reads.Damaged number found.Cut) is = (tt, cut_found is.1)
  stop_halts old new (reads.Damaged number found.Digest) is = (tt, digest_found is.1)
  stop_halts old new reads.DiskFault is = tt
  stop_halts old new reads.Memory is = tt

  pub stop_reason : (old new : ℕ) (fault : ReadRecordFault) → IsFault before o old new fault → HaltsBy old new (as_halt fault)
  stop_reason old new (reads.Damaged number found.Cut) is = tt
  stop_reason old new (reads.Damaged number found.Digest) is = tt
  stop_reason old new reads.DiskFault is = is
  stop_reason old new reads.Memory is = tt

-- the payload's command is refused
pub refused_unread : (history : List Command) (p : List ℕ) (c : Command) (refusal : Refusal) → IsRecordOf p c → RefusedBy refusal (verdict history c) → IsUnread history p (as_refused refusal)
refused_unread history p c refusals.Memory is by = tt
refused_unread history p c refusals.Full is by = (tt, (c, is, by))
refused_unread history p c refusals.Exists is by = (tt, (c, is, by))
refused_unread history p c refusals.NoVariantLeft is by = (tt, (c, is, by))
refused_unread history p c refusals.Upgraded is by = (tt, (c, is, by))
refused_unread history p c refusals.BadBase is by = (tt, (c, is, by))
refused_unread history p c refusals.BadOption is by = (tt, (c, is, by))
refused_unread history p c refusals.TooManyEdits is by = (tt, (c, is, by))
refused_unread history p c refusals.TooManyLines is by = (tt, (c, is, by))
refused_unread history p c refusals.TooManyNodes is by = (tt, (c, is, by))
refused_unread history p c refusals.TooManyBytes is by = (tt, (c, is, by))
refused_unread history p c (refusals.Invalid rule) is by = (tt, (c, is, by))
refused_unread history p c refusals.OutsideAmbition is by = (tt, (c, is, by))
refused_unread history p c (refusals.OutsideSide edit) is by = (tt, (c, is, by))
refused_unread history p c refusals.Empty is by = (tt, (c, is, by))
refused_unread history p c (refusals.BadRecord edit) is by = (tt, (c, is, by))
refused_unread history p c (refusals.Overtaken position) is by = (tt, (c, is, by))
refused_unread history p c (refusals.Clash low high choice) is by = (tt, (c, is, by))
refused_unread history p c (refusals.Orphan node choice) is by = (tt, (c, is, by))
refused_unread history p c (refusals.Loop node choice) is by = (tt, (c, is, by))

-- a payload is unread for damage, or memory is wanting
pub unread_reason : (history : List Command) (p : List ℕ) (old new : ℕ) (halt : Halt) → IsUnread history p halt → HaltsBy old new halt
unread_reason history p old new (halts.Damaged damages.Cut) un = absurd un
unread_reason history p old new (halts.Damaged damages.Digest) un = absurd un
unread_reason history p old new (halts.Damaged damages.NotARecord) un = tt
unread_reason history p old new (halts.Damaged (damages.Refused refusal)) un = un.0
unread_reason history p old new halts.DiskFault un = absurd un
unread_reason history p old new halts.Memory un = tt

-- a count that rose since a moment rose since each one before
pub halts_since : (first old new : ℕ) (halt : Halt) → first ≤ old → HaltsBy old new halt → HaltsBy first new halt
halts_since first old new (halts.Damaged cause) later by = by
halts_since first old new halts.DiskFault later by = omega (arith, later, by)
halts_since first old new halts.Memory later by = by

-- the fault that is told of what halts is found in the image, has its reason, and is one of the verdict
module _ (o : Option (List ℕ)) (history : List Command) where
  pub fault_found : (halt : Halt) (fault : StoreFault) → HaltsFor o history halt → IsFaultOf history halt fault → IfSome o (λ image. IsFoundIn image fault)
  fault_found (halts.Damaged cause) faults.NotAStore for told = absurd told
  fault_found (halts.Damaged cause) (faults.Damaged number what options) for told =
      some_to (λ image. IsDamagedAfter history image cause) (λ image. IsFoundIn image (faults.Damaged number what options))
      (λ image d. (history, told.1, subst (IsDamagedAfter history image) (sym told.0) d)) o for.1
  fault_found (halts.Damaged cause) faults.DiskFault for told = absurd told
  fault_found (halts.Damaged cause) faults.Memory for told = absurd told
  fault_found halts.DiskFault fault for told = subst (λ f. IfSome o (λ image. IsFoundIn image f)) (sym told) (some_all o (λ image. Unit {0}) (λ image. tt))
  fault_found halts.Memory fault for told = subst (λ f. IfSome o (λ image. IsFoundIn image f)) (sym told) (some_all o (λ image. Unit {0}) (λ image. tt))

  pub fault_reason : (old new : ℕ) (halt : Halt) (fault : StoreFault) → HaltsBy old new halt → IsFaultOf history halt fault → HasReason old new fault
  fault_reason old new (halts.Damaged cause) faults.NotAStore by told = absurd told
  fault_reason old new (halts.Damaged cause) (faults.Damaged number what options) by told = subst IsNoWant (sym told.0) by
  fault_reason old new (halts.Damaged cause) faults.DiskFault by told = absurd told
  fault_reason old new (halts.Damaged cause) faults.Memory by told = absurd told
  fault_reason old new halts.DiskFault fault by told = subst (HasReason old new) (sym told) by
  fault_reason old new halts.Memory fault by told = subst (HasReason old new) (sym told) tt

  damage_verdict : (cause : StoreDamage) (number : ℕ) (options : Declared) → IsByVerdict history cause → options.names ≡ options_of history → IsOfVerdict (faults.Damaged number cause options)
  damage_verdict damages.Cut number options by names = tt
  damage_verdict damages.Digest number options by names = tt
  damage_verdict damages.NotARecord number options by names = tt
  damage_verdict (damages.Refused refusal) number options by names = record { history = history; command = by.0; names_are = names; refused = by.1 }

  pub fault_verdict : (halt : Halt) (fault : StoreFault) → HaltsFor o history halt → IsFaultOf history halt fault → IsOfVerdict fault
  fault_verdict (halts.Damaged cause) faults.NotAStore for told = absurd told
  fault_verdict (halts.Damaged cause) (faults.Damaged number what options) for told =
      subst (λ w. IsOfVerdict (faults.Damaged number w options)) (sym told.0) (damage_verdict cause number options for.0 told.1.1)
  fault_verdict (halts.Damaged cause) faults.DiskFault for told = absurd told
  fault_verdict (halts.Damaged cause) faults.Memory for told = absurd told
  fault_verdict halts.DiskFault fault for told = subst IsOfVerdict (sym told) tt
  fault_verdict halts.Memory fault for told = subst IsOfVerdict (sym told) tt
