-- How far bytes are read, step by step.
use Rattle.std.proofs.Common.{◌≡◌, inl, inr, ℕ, zero, suc, ◌+◌, ◌-◌, ◌<◌, ◌≤◌, ◌^◌, true, false, max, List, [], ◌∷◌, ◌++◌, length, take, drop, slice_range, Option, Some, None, Result, Ok, Err, refl, sym, ◌∙◌, ap, subst, arith, append_assoc, length-append, length-drop, length-take, take-append-drop}
use Rattle.std.specs.Str.{bytes_eq}
use Rattle.std.specs.Int.{w32, to_be_bytes}
use Rattle.std.proofs.lemmas.Bool.{cases_lt}
use Rattle.std.proofs.lemmas.List.{drop-append-le, drop-drop, drop-take, drop_all, take-take, take_at, take_rest}
use Rattle.cov_base.specs.declared.error.MemoryOr.{MemoryOr}
use Rattle.cov_base.specs.declared.error.MemoryOr.TheVariants.{Memory, Refused}
use Rattle.cov_edit.specs.declared.command.Command.{Command}
use Rattle.cov_journal.specs.Journal.{header, no_digest, next_digest, last_digest, body, records, stored, gate_place}
use Rattle.cov_journal.proofs.CallerLemmas.{fits_push, length-front, stored_front, stored_push}
use Rattle.cov_store.specs.Stands.{payloads}
use Rattle.cov_store.proofs.CallerLemmas.{fits-push, legal-push, payloads-push}
use Rattle.cov_replica.specs.Accepting.{Accepts}
use Rattle.cov_replica.specs.Feeding.{IsReplica}
use Rattle.cov_replica.specs.Reading.{IsReadTo, IsCaughtUp, HasFirst, Keeps, Reads, TakesPiece, record_at}
use Rattle.cov_replica.specs.Taken.{Counted, counted, taken, taken_from, taken_on, judged, at_rest, damaged}
use Rattle.cov_replica.specs.declared.fault.ReplicaDamage.{ReplicaDamage}
use Rattle.cov_replica.specs.declared.fault.ReplicaFault.{ReplicaFault}
use Rattle.cov_replica.specs.declared.fault.ReplicaFault.TheVariants as faults
use Rattle.cov_replica.proofs.Counting.{counted_few, counted_first}
use Rattle.cov_replica.proofs.Judging.{judged_ok}
use Rattle.cov_replica.proofs.Taking.{has_header, none_by_place, stored_size, taken_other, taken_small, taken_stored}

-- what was read is what is taken, where no record that counts begins at the place
pub caught_up : (bytes : List ℕ) (at : ℕ) (digest : List ℕ) (history : List Command) → IsCaughtUp bytes at digest history → taken bytes ≡ at_rest history
caught_up bytes at digest history c = elim (cases_lt 13 (length bytes)) [
  | inl large ↦ taken_stored bytes (drop at bytes) history c.read.legal c.read.records large (c.read.bytes_are large)
      ∙ ap (taken_from history (last_digest no_digest (payloads history))) c.rest
  | inr small ↦ taken_small bytes small ∙ ap at_rest (sym (c.read.few small))
]

-- the place is within bytes that have a header
module _ (bytes : List ℕ) (at : ℕ) (digest : List ℕ) (history : List Command) (r : IsReadTo bytes at digest history) where
  pub place_within : 13 < length bytes → at ≤ length bytes
  place_within large = omega (arith, r.fits.place, stored_size (payloads history) (drop at bytes) bytes (r.bytes_are large))

  -- the records before the place
  abbrev front : List ℕ
  front = header ++ records no_digest (payloads history)

  front_size : length front ≡ at
  front_size = length-front (payloads history) ∙ sym r.fits.place

  bytes_split : 13 < length bytes → bytes ≡ front ++ drop at bytes
  bytes_split large = r.bytes_are large ∙ stored_front (payloads history) (drop at bytes)

  front_of : 13 < length bytes → take at bytes ≡ front
  front_of large = ap (take at) (bytes_split large) ∙ take_at front (drop at bytes) at front_size

  few_by_place : at ≤ 13 → history ≡ []
  few_by_place small = none_by_place history (omega (arith, small, r.fits.place))

-- a record that counts and begins at a place, with a payload of this length
pub record IsFirst (bytes : List ℕ) (at count : ℕ) : Type 0 where
  pub short : length (record_at at count bytes).payload < 2 ^ 32
  pub payload : length (record_at at count bytes).payload ≡ count
  pub digest : length (record_at at count bytes).digest ≡ 32
  pub end : at + count + 37 ≤ length bytes
  pub ahead : drop at bytes ≡ 1 ∷ (body (record_at at count bytes).digest (record_at at count bytes).payload ++ drop (at + count + 37) bytes)

module _ (bytes : List ℕ) (at count : ℕ) (first : HasFirst (drop at bytes) (Some count)) where
  abbrev p : List ℕ
  p = take count (drop (at + 5) bytes)

  abbrev d : List ℕ
  d = take 32 (drop (at + 5 + count) bytes)

  abbrev rest : List ℕ
  rest = drop (at + count + 37) bytes

  end_within : at + count + 37 ≤ length bytes
  end_within = omega (arith, first.1, length-drop at bytes)

  payload_size : length p ≡ count
  payload_size = omega (arith, length-take count (drop (at + 5) bytes), length-drop (at + 5) bytes, end_within)

  digest_size : length d ≡ 32
  digest_size = omega (arith, length-take 32 (drop (at + 5 + count) bytes), length-drop (at + 5 + count) bytes, end_within)

  behind_digest : drop (at + 5 + count) bytes ≡ d ++ rest
  behind_digest =
      sym (take-append-drop 32 (drop (at + 5 + count) bytes))
      ∙ ap (λ l. d ++ l) (drop-drop 32 (at + 5 + count) bytes ∙ ap (λ k. drop k bytes) (let e : at + 5 + count + 32 ≡ at + count + 37 = omega arith in e))

  behind_count : drop 5 (drop at bytes) ≡ p ++ (d ++ rest)
  behind_count =
      drop-drop 5 at bytes ∙ sym (take-append-drop count (drop (at + 5) bytes))
      ∙ ap (λ l. p ++ l) (drop-drop count (at + 5) bytes ∙ behind_digest)

  pub first_record : IsFirst bytes at count
  first_record = record {
    short = omega (arith, payload_size, first.0);
    payload = payload_size;
    digest = digest_size;
    end = end_within;
    ahead = first.2 ∙ ap (λ l. 1 ∷ (to_be_bytes w32 count ++ l)) behind_count
        ∙ ap (λ n. 1 ∷ (to_be_bytes w32 n ++ (p ++ (d ++ rest)))) (sym payload_size)
        ∙ ap (λ l. 1 ∷ l) (ap (λ l. to_be_bytes w32 (length p) ++ l) (sym (append_assoc p d rest)) ∙ sym (append_assoc (to_be_bytes w32 (length p)) (p ++ d) rest));
  }

pub counts_first : (bytes : List ℕ) (at count : ℕ) → IsFirst bytes at count → counted (drop at bytes) ≡ record_at at count bytes ∷ counted (drop (at + count + 37) bytes)
counts_first bytes at count f =
    ap counted f.ahead ∙ counted_first (record_at at count bytes).payload (record_at at count bytes).digest (drop (at + count + 37) bytes) f.short f.digest

-- the same in the first bytes
first_within : (bytes : List ℕ) (at count before : ℕ) → HasFirst (drop at bytes) (Some count) → before ≤ length bytes → at + count + 37 ≤ before → HasFirst (drop at (take before bytes)) (Some count)
first_within bytes at count before first within long =
    let m = before - at in
    let at_is : drop at (take before bytes) ≡ take m (drop at bytes) =
    ap (λ k. drop at (take k bytes)) (let e : before ≡ at + m = omega (arith, long) in e) ∙ drop-take at m bytes in
    let five : take 5 (drop at (take before bytes)) ≡ 1 ∷ to_be_bytes w32 count =
    ap (take 5) at_is ∙ take-take 5 m (drop at bytes) (omega (arith, long)) ∙ ap (take 5) first.2 ∙ take_at (1 ∷ to_be_bytes w32 count) (drop 5 (drop at bytes)) 5 refl in (
      first.0,
      omega (arith, long, within, length-drop at (take before bytes), length-take before bytes),
      sym (take-append-drop 5 (drop at (take before bytes))) ∙ ap (λ l. l ++ drop 5 (drop at (take before bytes))) five,
    )

-- a record was read at the place
module _ (bytes : List ℕ) (at count : ℕ) (digest : List ℕ) (history : List Command) (r : IsReadTo bytes at digest history) (first : HasFirst (drop at bytes) (Some count)) where
  abbrev own : Counted
  own = record_at at count bytes

  f : IsFirst bytes at count
  f = first_record bytes at count first

  -- it is damaged
  pub damage_found : (cause : ReplicaDamage) → 13 < length bytes → judged history digest own ≡ Err cause → taken bytes ≡ damaged history cause
  damage_found cause large e =
      taken_stored bytes (drop at bytes) history r.legal r.records large (r.bytes_are large)
      ∙ ap (λ last. taken_from history last (counted (drop at bytes))) (sym r.fits.digest)
      ∙ ap (taken_from history digest) (counts_first bytes at count f)
      ∙ ap (λ j. taken_on history j (λ h. taken_from h own.digest (counted (drop (at + count + 37) bytes)))) e

  -- its command is accepted
  pub read_on : (c : Command) → judged history digest own ≡ Ok c → IsReadTo bytes (at + count + 37) own.digest (history ++ c ∷ [])
  read_on c e =
      let ok = judged_ok history digest own c e in
      let ps = payloads history in
      let rest = drop (at + count + 37) bytes in
      let more : ps ++ own.payload ∷ [] ≡ payloads (history ++ c ∷ []) = ap (λ q. ps ++ q ∷ []) ok.is.1 ∙ sym (payloads-push history c) in
      let on = fits_push at digest ps own.payload r.fits in
      record {
        legal = legal-push history c r.legal ok.is.0.0 ok.accepted;
        records = fits-push history c r.records ok.is.0;
        fits = record {
          place = ap (λ n. at + n + 37) (sym f.payload) ∙ on.place ∙ ap gate_place more;
          digest = ok.digest ∙ on.digest ∙ ap (last_digest no_digest) more;
        };
        bytes_are = λ large. r.bytes_are large ∙ ap (stored ps) f.ahead
            ∙ ap (λ d. stored ps (1 ∷ (body d own.payload ++ rest))) (ok.digest ∙ ap (λ d. next_digest d own.payload) r.fits.digest)
            ∙ sym (stored_push ps own.payload rest) ∙ ap (λ ps. stored ps rest) more;
        few = λ small. absurd (omega (arith, small, f.end));
      }

  -- the first bytes, in which no record counted at the place, end before the next
  pub quiet_on : (before : ℕ) → before ≤ length bytes → counted (drop at (take before bytes)) ≡ [] → counted (drop (at + count + 37) (take before bytes)) ≡ []
  quiet_on before within quiet = elim (cases_lt before (at + count + 37)) [
    | inl less ↦ ap counted (drop_all (at + count + 37) (take before bytes) (omega (arith, less, length-take before bytes)))
    | inr more ↦ absurd (let two = sym quiet ∙ counts_first (take before bytes) at count (first_record (take before bytes) at count (first_within bytes at count before first within more)) in omega (arith, ap length two))
  ]

-- bytes are given back
pub given_back : (bytes : List ℕ) (at before : ℕ) (digest : List ℕ) (history : List Command) → IsReadTo bytes at digest history → 13 < length bytes → before ≤ length bytes
    → counted (drop at (take before bytes)) ≡ [] → IsCaughtUp (take (max before at) bytes) at digest history
given_back bytes at before digest history r large within quiet =
    let m = max before at in
    let inside = place_within bytes at digest history r large in
    record {
      read = record {
        legal = r.legal;
        records = r.records;
        fits = r.fits;
        bytes_are = λ _. sym (take-append-drop at (take m bytes))
            ∙ ap (λ l. l ++ drop at (take m bytes)) (take-take at m bytes (omega arith) ∙ front_of bytes at digest history r large)
            ∙ sym (stored_front (payloads history) (drop at (take m bytes)));
        few = λ small. few_by_place bytes at digest history r (omega (arith, small, inside, length-take m bytes));
      };
      rest = elim (cases_lt before at) [
        | inl less ↦ ap counted (drop_all at (take m bytes) (omega (arith, less, length-take m bytes)))
        | inr more ↦ ap (λ k. counted (drop at (take k bytes))) (let e : m ≡ before = omega (arith, more) in e) ∙ quiet
      ];
    }

-- bytes came behind those that were read
module _ (bytes : List ℕ) (at before : ℕ) (digest : List ℕ) (history : List Command) (c : IsCaughtUp (take before bytes) at digest history) (within : before ≤ length bytes) where
  abbrev first_bytes : List ℕ
  first_bytes = take before bytes

  abbrev later_bytes : List ℕ
  later_bytes = drop before bytes

  old_size : length first_bytes ≡ before
  old_size = omega (arith, within, length-take before bytes)

  place_of_none : history ≡ [] → at ≡ 12
  place_of_none none = c.read.fits.place ∙ ap (λ h. gate_place (payloads h)) none

  split_old : 13 < length first_bytes → bytes ≡ stored (payloads history) (drop at bytes)
  split_old large =
      let ps = payloads history in
      let front = header ++ records no_digest ps in
      sym (take-append-drop before bytes)
      ∙ ap (λ l. l ++ later_bytes) (c.read.bytes_are large ∙ stored_front ps (drop at first_bytes))
      ∙ append_assoc front (drop at first_bytes) later_bytes
      ∙ ap (λ l. front ++ l) (sym (drop-append-le at first_bytes later_bytes (place_within first_bytes at digest history c.read large)) ∙ ap (drop at) (take-append-drop before bytes))
      ∙ sym (stored_front ps (drop at bytes))

  split_new : history ≡ [] → take 12 bytes ≡ header → bytes ≡ stored (payloads history) (drop at bytes)
  split_new none headed =
      sym (take-append-drop 12 bytes) ∙ ap (λ l. l ++ drop 12 bytes) headed
      ∙ ap (λ k. stored [] (drop k bytes)) (sym (place_of_none none))
      ∙ ap (λ h. stored (payloads h) (drop at bytes)) (sym none)

  -- with a header
  pub fed_read : 13 < length bytes → take 12 bytes ≡ header → IsReadTo bytes at digest history
  fed_read large headed = record {
    legal = c.read.legal;
    records = c.read.records;
    fits = c.read.fits;
    bytes_are = λ _. elim (cases_lt 13 (length first_bytes)) [ inl before ↦ split_old before | inr small ↦ split_new (c.read.few small) headed ];
    few = λ small. absurd (omega (arith, small, large));
  }

  -- too few for a header
  pub fed_few : length bytes ≤ 13 → IsCaughtUp bytes at digest history
  fed_few small =
      let none = c.read.few (omega (arith, small, old_size, within)) in
      record {
        read = record { legal = c.read.legal; records = c.read.records; fits = c.read.fits; bytes_are = λ large. absurd (omega (arith, small, large)); few = λ _. none };
        rest = counted_few (drop at bytes) (omega (arith, small, place_of_none none, length-drop at bytes));
      }

  -- with another header
  none_read : bytes_eq (take 12 bytes) header ≡ false → history ≡ []
  none_read e = elim (cases_lt 13 (length first_bytes)) [
    | inl large ↦ absurd (
        let headed = has_header first_bytes (drop at first_bytes) (payloads history) (c.read.bytes_are large) in
        let same : take 12 first_bytes ≡ take 12 bytes = take-take 12 before bytes (omega (arith, large, old_size)) in
        let both : true ≡ false = sym headed ∙ ap (λ l. bytes_eq l header) same ∙ e in cc)
    | inr small ↦ c.read.few small
  ]

  pub fed_other : 13 < length bytes → bytes_eq (take 12 bytes) header ≡ false → taken bytes ≡ record { history = history; fault = Some faults.NotAStore }
  fed_other large e = taken_other bytes large e ∙ ap (λ h. record { history = h; fault = Some faults.NotAStore }) (sym (none_read e))

-- a record's parts in a slice of the bytes
pub parts_are : (slice bytes front back : List ℕ) (at count : ℕ) → slice ≡ bytes → front ≡ take count (slice_range slice (at + 5) (at + count + 37)) → back ≡ drop count (slice_range slice (at + 5) (at + count + 37))
    → record { payload = front; digest = back } ≡ record_at at count bytes
parts_are slice bytes front back at count same front_is back_is =
    let size : at + count + 37 - (at + 5) ≡ count + 32 = omega arith in
    let payload : front ≡ take count (drop (at + 5) bytes) =
    front_is ∙ ap (λ n. take count (take n (drop (at + 5) slice))) size ∙ take-take count (count + 32) (drop (at + 5) slice) (omega arith) ∙ ap (λ l. take count (drop (at + 5) l)) same in
    let digest : back ≡ take 32 (drop (at + 5 + count) bytes) =
    back_is ∙ ap (λ n. drop count (take n (drop (at + 5) slice))) size ∙ drop-take count 32 (drop (at + 5) slice)
    ∙ ap (take 32) (drop-drop count (at + 5) slice) ∙ ap (λ l. take 32 (drop (at + 5 + count) l)) same in
    λ i. record { payload = payload i; digest = digest i }

-- a failed call answers the same whatever else it might have answered
pub err_alike : (X Y : Type 0) (wanted : Result Command ReplicaDamage) (old new : List Command) (fault : MemoryOr ReplicaDamage)
    → Accepts {X = X} wanted old new (Err fault) → Accepts {X = Y} wanted old new (Err fault)
err_alike X Y wanted old new Memory a = a
err_alike X Y wanted old new (Refused cause) a = a

-- a record that counts at a place, by the slice from there on
pub first_ahead : (slice bytes : List ℕ) (at count : ℕ) → slice ≡ bytes → HasFirst (slice_range slice at (length slice)) (Some count) → HasFirst (drop at bytes) (Some count)
first_ahead slice bytes at count same first = subst (λ l. HasFirst l (Some count)) (take_rest slice at ∙ ap (drop at) same) first

alike : (b b' : List ℕ) (a a' : ℕ) (d d' : List ℕ) (h h' : List Command) → b' ≡ b → a' ≡ a → d' ≡ d → h' ≡ h → IsReadTo b a d h → IsReadTo b' a' d' h'
alike b b' a a' d d' h h' eb ea ed eh r =
    subst (λ x. IsReadTo x a' d' h') (sym eb) (subst (λ x. IsReadTo b x d' h') (sym ea) (subst (λ x. IsReadTo b a x h') (sym ed) (subst (λ x. IsReadTo b a d x) (sym eh) r)))

module _ (bytes : List ℕ) (at count before : ℕ) (digest : List ℕ) (history : List Command) (r : IsReadTo bytes at digest history) (first : HasFirst (drop at bytes) (Some count))
    (bytes' : List ℕ) (at' : ℕ) (digest' : List ℕ) (history' : List Command) (same : bytes' ≡ bytes) where
  -- after a record that is accepted
  pub step_read : at' ≡ at + count + 37 → digest' ≡ (record_at at count bytes).digest
      → (c : Command) × (judged history digest (record_at at count bytes) ≡ Ok c) × (history' ≡ history ++ c ∷ []) → IsReadTo bytes' at' digest' history'
  step_read at_is digest_is accepted =
      alike bytes bytes' (at + count + 37) at' (record_at at count bytes).digest digest' (history ++ accepted.0 ∷ []) history' same at_is digest_is accepted.2
      (read_on bytes at count digest history r first accepted.0 accepted.1)

  pub step_quiet : at' ≡ at + count + 37 → before ≤ length bytes → counted (drop at (take before bytes)) ≡ [] → counted (drop at' (take before bytes')) ≡ []
  step_quiet at_is within quiet = (λ i. counted (drop (at_is i) (take before (same i)))) ∙ quiet_on bytes at count digest history r first before within quiet

  -- after one that is damaged
  pub step_damaged : (cause : ReplicaDamage) (fault : ReplicaFault) → 13 < length bytes → (judged history digest (record_at at count bytes) ≡ Err cause) × (history' ≡ history)
      → fault ≡ faults.Damaged (length history' + 1) cause → taken bytes' ≡ record { history = history'; fault = Some fault }
  step_damaged cause fault large told is =
      ap taken same ∙ damage_found bytes at count digest history r first cause large told.0
      ∙ ap (λ h. damaged h cause) (sym told.1) ∙ ap (λ f. record { history = history'; fault = Some f }) (sym is)

-- after want of memory
pub step_given_back : (X : Type 0) (bytes : List ℕ) (at before : ℕ) (digest : List ℕ) (history : List Command) → IsReadTo bytes at digest history → 13 < length bytes → before ≤ length bytes
    → counted (drop at (take before bytes)) ≡ [] → (mid : List ℕ) (place : ℕ) → mid ≡ bytes → place ≡ at
    → (bytes' : List ℕ) (at' : ℕ) (digest' : List ℕ) (history' : List Command) → bytes' ≡ take (max before place) mid → at' ≡ at → digest' ≡ digest → history' ≡ history
    → (fault : MemoryOr ReplicaFault) → fault ≡ Memory → Reads {X = X} bytes' at' digest' history' (Err fault)
step_given_back X bytes at before digest history r large within quiet mid place mid_is place_is bytes' at' digest' history' eb ea ed eh fault wanting =
    let back = given_back bytes at before digest history r large within quiet in
    let b = take (max before at) bytes in
    let is : bytes' ≡ b = eb ∙ (λ i. take (max before (place_is i)) (mid_is i)) in
    subst (λ f. Reads {X = X} bytes' at' digest' history' (Err f)) (sym wanting) (record {
      read = alike b bytes' at at' digest digest' history history' is ea ed eh back.read;
      rest = (λ i. counted (drop (ea i) (is i))) ∙ back.rest;
    })

take_behind : (xs ys : List ℕ) (n m : ℕ) → n ≡ length xs + m → take n (xs ++ ys) ≡ xs ++ take m ys
take_behind [] ys n m e = ap (λ k. take k ys) (let is : n ≡ m = omega (arith, e) in is)
take_behind (x ∷ xs) ys zero m e = absurd (omega (arith, e))
take_behind (x ∷ xs) ys (suc n) m e = ap (λ l. x ∷ l) (take_behind xs ys n m (omega (arith, e)))

-- what is kept of bytes with a piece is what is taken of the piece
pub takes_piece : {X : Type 0} (before : ℕ) (old piece mid new : List ℕ) (result : Result X (MemoryOr ReplicaFault)) → before ≡ length old → mid ≡ old ++ piece
    → Keeps before mid new result → TakesPiece old piece new result
takes_piece before old piece mid new (Ok u) size is keeps = keeps ∙ is
takes_piece before old piece mid new (Err Memory) size is (n, more, most, kept) =
    (n - before, omega (arith, more, most, size, ap length is, length-append old piece), kept ∙ ap (take n) is ∙ take_behind old piece n (n - before) (omega (arith, more, size)))
takes_piece before old piece mid new (Err (Refused fault)) size is keeps = keeps ∙ is

-- what a replica keeps tells what is taken of its bytes
pub replica_taken : (bytes : List ℕ) (at : ℕ) (digest : List ℕ) (history : List Command) (fault : Option ReplicaFault) → IsReplica bytes at digest history fault
    → taken bytes ≡ record { history = history; fault = fault }
replica_taken bytes at digest history None c = caught_up bytes at digest history c
replica_taken bytes at digest history (Some fault) c = c

pub history_taken : (bytes : List ℕ) (at : ℕ) (digest : List ℕ) (history : List Command) (fault : Option ReplicaFault) → IsReplica bytes at digest history fault → history ≡ (taken bytes).history
history_taken bytes at digest history fault c = sym (ap (λ t. t.history) (replica_taken bytes at digest history fault c))
