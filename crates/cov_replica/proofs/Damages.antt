-- What is taken of images that aren't opened.
use Rattle.std.proofs.Common.{◌≡◌, ◌≢◌, Bool, true, false, ℕ, List, ◌∷◌, take, Some, Err, refl, sym, ◌∙◌, ap}
use Rattle.std.specs.Prelude.{if◌then◌else◌}
use Rattle.std.specs.Str.{bytes_eq}
use Rattle.std.proofs.lemmas.Slice.Eq.{bytes_eq-Decides}
use Rattle.cov_journal.specs.Journal.{header, no_digest, next_digest, last_digest}
use Rattle.cov_record.specs.Payload.{payload}
use Rattle.cov_replica.specs.Laws.{DamageIsTaken, NoStoreIsTaken, as_store_damage}
use Rattle.cov_replica.specs.Taken.{counted, command_in, judged, by_command, by_verdict, taken, taken_from, taken_on}
use Rattle.cov_replica.specs.declared.fault.ReplicaDamage.{ReplicaDamage}
use Rattle.cov_replica.specs.declared.fault.ReplicaDamage.TheVariants as damages
use Rattle.cov_replica.specs.declared.fault.ReplicaFault.TheVariants as faults
use Rattle.cov_store.specs.Damages.{Begins, HasDamage}
use Rattle.cov_store.specs.Stands.{payloads}
use Rattle.cov_replica.proofs.Counting.{counted_first}
use Rattle.cov_replica.proofs.Judging.{judged_by, judged_command}
use Rattle.cov_replica.proofs.Spelling.{unread}
use Rattle.cov_replica.proofs.Taking.{taken_other, taken_stored}

other_bytes : (xs ys : List ℕ) → xs ≢ ys → bytes_eq xs ys ≡ false
other_bytes xs ys differ = by (bytes_eq xs ys) refl
  where
    by : (t : Bool) → bytes_eq xs ys ≡ t → bytes_eq xs ys ≡ false
    by true e = absurd (differ ((bytes_eq-Decides xs ys).0 e))
    by false e = e

-- the record behind the history of a damaged image
module _ (image : List ℕ) (number : ℕ) (cause : ReplicaDamage) (damage : HasDamage image number (as_store_damage cause)) where
  abbrev last : List ℕ
  last = last_digest no_digest (payloads damage.history)

  first_damaged : (p d : List ℕ) → Begins damage.after.behind p d → judged damage.history last (record { payload = p; digest = d }) ≡ Err cause
      → taken image ≡ record { history = damage.history; fault = Some (faults.Damaged number cause) }
  first_damaged p d begins is =
      taken_stored image (1 ∷ damage.after.behind) damage.history damage.after.legal damage.after.fits damage.long damage.after.bytes
      ∙ ap (λ b. taken_from damage.history last (counted (1 ∷ b))) begins.bytes
      ∙ ap (taken_from damage.history last) (counted_first p d (begins.gate ∷ begins.rest) begins.short begins.size)
      ∙ ap (λ j. taken_on damage.history j (λ h. taken_from h d (counted (begins.gate ∷ begins.rest)))) is
      ∙ ap (λ n. record { history = damage.history; fault = Some (faults.Damaged n cause) }) (sym damage.number_is)

pub damage_is_taken : DamageIsTaken
damage_is_taken image number damages.Digest damage =
    let is = damage.after.cause_is in
    first_damaged image number damages.Digest damage is.0 is.1 is.2
    (ap (λ t. if t then by_command damage.history (command_in is.0) else Err damages.Digest)
    (other_bytes is.1 (next_digest (last_digest no_digest (payloads damage.history)) is.0) is.3))
damage_is_taken image number damages.NotARecord damage =
    let before = last_digest no_digest (payloads damage.history) in
    let is = damage.after.cause_is in
    first_damaged image number damages.NotARecord damage is.0 (next_digest before is.0) is.1
    (judged_by damage.history before is.0 ∙ ap (by_command damage.history) (unread is.0 is.2))
damage_is_taken image number (damages.Refused refusal) damage =
    let before = last_digest no_digest (payloads damage.history) in
    let is = damage.after.cause_is in
    first_damaged image number (damages.Refused refusal) damage (payload is.0) (next_digest before (payload is.0)) is.1
    (judged_command damage.history before is.0 is.2 ∙ ap (by_verdict is.0) is.3)

pub no_store_is_taken : NoStoreIsTaken
no_store_is_taken image none = taken_other image none.0 (other_bytes (take 12 image) header none.1)
