-- What is taken of bytes.
use Rattle.std.proofs.Common.{◌≡◌, ◌≢◌, inl, inr, ℕ, ◌+◌, ◌<◌, ◌≤◌, Bool, true, false, nat_le, List, [], ◌∷◌, ◌++◌, length, take, drop, Option, Some, None, refl, sym, ◌∙◌, ap, arith, length-append, take-append-drop}
use Rattle.std.specs.Prelude.{if◌then◌else◌}
use Rattle.std.specs.Str.{bytes_eq}
use Rattle.std.specs.List.{AllByRecursion}
use Rattle.std.proofs.lemmas.Bool.{cases_lt, le-leb}
use Rattle.std.proofs.lemmas.Bool.Decides.{nat_tests}
use Rattle.std.proofs.lemmas.List.{append-nil, drop-append-le, drop_at, take-append-le, take_at}
use Rattle.std.proofs.lemmas.Slice.Eq.{bytes_eq-Decides}
use Rattle.cov_edit.specs.declared.command.Command.{Command}
use Rattle.cov_history.specs.Verdict.{IsLegal}
use Rattle.cov_journal.specs.Journal.{header, no_digest, last_digest, records, stored, records_size, gate_place}
use Rattle.cov_journal.proofs.CallerLemmas.{length-front, stored_front}
use Rattle.cov_record.specs.FitsRecord.{FitsRecord}
use Rattle.cov_store.specs.Stands.{StandsFor, payloads}
use Rattle.cov_store.proofs.CallerLemmas.{payloads-are-short}
use Rattle.cov_replica.specs.Laws.{ImageIsTaken, FaultStays, HistoryStays}
use Rattle.cov_replica.specs.Taken.{Counted, Taken, counted, taken, taken_from, at_rest, behind_header, no_store}
use Rattle.cov_replica.specs.declared.fault.ReplicaFault.{ReplicaFault}
use Rattle.cov_replica.proofs.Counting.{counted_shut, grows}
use Rattle.cov_replica.proofs.Judging.{counted_records, extends_from, fault_stays_from, goes_on_from, taken_own}

-- of at most 13 bytes nothing is taken
pub taken_small : (bytes : List ℕ) → length bytes ≤ 13 → taken bytes ≡ at_rest []
unfolding taken
taken_small bytes small = ap (λ t. if t then at_rest [] else (if bytes_eq (take 12 bytes) header then behind_header bytes else no_store)) (le-leb (length bytes) 13 small)

is_large : (bytes : List ℕ) → 13 < length bytes → nat_le (length bytes) 13 ≡ false
is_large bytes large = grind (arith, nat_tests, large)

taken_large : (bytes : List ℕ) → 13 < length bytes → taken bytes ≡ (if bytes_eq (take 12 bytes) header then behind_header bytes else no_store)
unfolding taken
taken_large bytes large = ap (λ t. if t then at_rest [] else (if bytes_eq (take 12 bytes) header then behind_header bytes else no_store)) (is_large bytes large)

-- of more the records are
pub taken_headed : (bytes : List ℕ) → 13 < length bytes → bytes_eq (take 12 bytes) header ≡ true → taken bytes ≡ behind_header bytes
taken_headed bytes large e = taken_large bytes large ∙ ap (λ t. if t then behind_header bytes else no_store) e

-- if they begin with the header
pub taken_other : (bytes : List ℕ) → 13 < length bytes → bytes_eq (take 12 bytes) header ≡ false → taken bytes ≡ no_store
taken_other bytes large e = taken_large bytes large ∙ ap (λ t. if t then behind_header bytes else no_store) e

pub has_header : (bytes behind : List ℕ) (ps : List (List ℕ)) → bytes ≡ stored ps behind → bytes_eq (take 12 bytes) header ≡ true
has_header bytes behind ps is = (bytes_eq-Decides (take 12 bytes) header).1 (ap (take 12) is ∙ take_at header (records no_digest ps ++ behind) 12 refl)

-- of bytes that begin with the records of a history, it and what comes of the others
pub taken_stored : (bytes behind : List ℕ) (history : List Command) → IsLegal history → AllByRecursion FitsRecord history → 13 < length bytes → bytes ≡ stored (payloads history) behind
    → taken bytes ≡ taken_from history (last_digest no_digest (payloads history)) (counted behind)
taken_stored bytes behind history legal fits large is =
    taken_headed bytes large (has_header bytes behind (payloads history) is)
    ∙ ap (λ l. taken_from [] no_digest (counted l)) (ap (drop 12) is ∙ drop_at header (records no_digest (payloads history) ++ behind) 12 refl)
    ∙ ap (taken_from [] no_digest) (counted_records no_digest (payloads history) behind (payloads-are-short history legal fits))
    ∙ taken_own [] no_digest history (counted behind) legal fits

-- bytes of which a fault was taken are no few
fault_large : (bytes : List ℕ) (fault : ReplicaFault) → (taken bytes).fault ≡ Some fault → 13 < length bytes
fault_large bytes fault e = elim (cases_lt 13 (length bytes)) [
  | inl large ↦ large
  | inr small ↦ absurd (let none : None ≡ Some fault = sym (ap (λ t. t.fault) (taken_small bytes small)) ∙ e in cc)
]

-- more bytes behind those that are enough for a header
module _ (bytes more : List ℕ) (large : 13 < length bytes) where
  larger : 13 < length (bytes ++ more)
  larger = omega (arith, large, length-append bytes more)

  same_header : bytes_eq (take 12 (bytes ++ more)) header ≡ bytes_eq (take 12 bytes) header
  same_header = ap (λ l. bytes_eq l header) (take-append-le 12 bytes more (omega (arith, large)))

  later_records : (rs : List Counted) × (counted (drop 12 (bytes ++ more)) ≡ counted (drop 12 bytes) ++ rs)
  later_records =
      let on = grows (drop 12 bytes) more in
      (on.0, ap counted (drop-append-le 12 bytes more (omega (arith, large))) ∙ on.1)

  headed_on : bytes_eq (take 12 bytes) header ≡ true → taken (bytes ++ more) ≡ taken_from [] no_digest (counted (drop 12 bytes) ++ later_records.0)
  headed_on e = taken_headed (bytes ++ more) larger (same_header ∙ e) ∙ ap (taken_from [] no_digest) later_records.1

  stays_large : (fault : ReplicaFault) (t : Bool) → bytes_eq (take 12 bytes) header ≡ t → (taken bytes).fault ≡ Some fault → taken (bytes ++ more) ≡ taken bytes
  stays_large fault true e f =
      headed_on e
      ∙ fault_stays_from [] no_digest (counted (drop 12 bytes)) later_records.0 fault (sym (ap (λ t. t.fault) (taken_headed bytes large e)) ∙ f)
      ∙ sym (taken_headed bytes large e)
  stays_large fault false e f = taken_other (bytes ++ more) larger (same_header ∙ e) ∙ sym (taken_other bytes large e)

  abbrev before : Taken
  before = behind_header bytes

  on_by : (o : Option ReplicaFault) → before.fault ≡ o → (later : List Command) × ((taken_from [] no_digest (counted (drop 12 bytes) ++ later_records.0)).history ≡ before.history ++ later)
  on_by None e =
      let on = goes_on_from [] no_digest (counted (drop 12 bytes)) later_records.0 e in
      let more = extends_from before.history on.0 later_records.0 in
      (more.0, ap (λ t. t.history) on.1 ∙ more.1)
  on_by (Some fault) e = ([], ap (λ t. t.history) (fault_stays_from [] no_digest (counted (drop 12 bytes)) later_records.0 fault e) ∙ sym (append-nil before.history))

  grows_large : (t : Bool) → bytes_eq (take 12 bytes) header ≡ t → (later : List Command) × ((taken (bytes ++ more)).history ≡ (taken bytes).history ++ later)
  grows_large true e =
      let on = on_by before.fault refl in
      (on.0, ap (λ t. t.history) (headed_on e) ∙ on.1 ∙ ap (λ t. t.history ++ on.0) (sym (taken_headed bytes large e)))
  grows_large false e =
      ([], ap (λ t. t.history) (taken_other (bytes ++ more) larger (same_header ∙ e)) ∙ ap (λ t. t.history ++ []) (sym (taken_other bytes large e)))

pub fault_stays : FaultStays
fault_stays bytes more fault e =
    let large = fault_large bytes fault e in
    stays_large bytes more large fault (bytes_eq (take 12 bytes) header) refl e

pub history_stays : HistoryStays
history_stays bytes more = elim (cases_lt 13 (length bytes)) [
  | inl large ↦ grows_large bytes more large (bytes_eq (take 12 bytes) header) refl
  | inr small ↦ ((taken (bytes ++ more)).history, ap (λ t. t.history ++ (taken (bytes ++ more)).history) (sym (taken_small bytes small)))
]

none_of : (history : List Command) → payloads history ≡ [] → history ≡ []
none_of [] e = refl
none_of (c ∷ history) e = absurd (omega (arith, ap length e))

-- payloads whose gate stands where the first does are none
pub none_by_place : (history : List Command) → records_size (payloads history) ≤ 1 → history ≡ []
none_by_place [] small = refl
none_by_place (c ∷ history) small = absurd (omega (arith, small))

pub stored_size : (ps : List (List ℕ)) (behind bytes : List ℕ) → bytes ≡ stored ps behind → length bytes ≡ gate_place ps + length behind
stored_size ps behind bytes is = ap length (is ∙ stored_front ps behind) ∙ length-append (header ++ records no_digest ps) behind ∙ ap (λ n. n + length behind) (length-front ps)

-- an image that stands for a history
module _ (image : List ℕ) (history : List Command) (stands : StandsFor image history) where
  shut_none : (gate : ℕ) (rest : List ℕ) → gate ≢ 1 → counted (gate ∷ rest) ≡ []
  shut_none gate rest shut = counted_shut gate rest (grind (arith, nat_tests, shut))

  whole : taken image ≡ at_rest history
  whole = elim stands.holds [
    | inl none ↦ taken_small image none.1 ∙ ap at_rest (sym (none_of history none.0))
    | inr w ↦ elim (cases_lt 13 (length image)) [
      | inl large ↦ taken_stored image (w.gate ∷ w.rest) history stands.legal stands.fits large w.bytes
          ∙ ap (taken_from history (last_digest no_digest (payloads history))) (shut_none w.gate w.rest w.is_closed)
      | inr small ↦ taken_small image small ∙ ap at_rest (sym (none_by_place history (size_small w.gate w.rest small w.bytes)))
    ]
  ]
    where
      size_small : (gate : ℕ) (rest : List ℕ) → length image ≤ 13 → image ≡ stored (payloads history) (gate ∷ rest) → records_size (payloads history) ≤ 1
      size_small gate rest small is = omega (arith, small, stored_size (payloads history) (gate ∷ rest) image is)

  part_none : (n : ℕ) (o : Option ReplicaFault) → (taken (take n image)).fault ≡ o → (taken (take n image)).fault ≡ None
  part_none n None e = e
  part_none n (Some fault) e =
      absurd (let told : None ≡ Some fault =
      sym (ap (λ t. t.fault) whole) ∙ ap (λ l. (taken l).fault) (sym (take-append-drop n image)) ∙ ap (λ t. t.fault) (fault_stays (take n image) (drop n image) fault e) ∙ e in cc)

  part : (n : ℕ) → (k : ℕ) × (taken (take n image) ≡ at_rest (take k history))
  part n =
      let t = taken (take n image) in
      let on = history_stays (take n image) (drop n image) in
      let all : history ≡ t.history ++ on.0 = sym (ap (λ t. t.history) whole) ∙ ap (λ l. (taken l).history) (sym (take-append-drop n image)) ∙ on.1 in
      let first : take (length t.history) history ≡ t.history = ap (take (length t.history)) all ∙ take_at t.history on.0 (length t.history) refl in
      let same = sym first in
      let none = part_none n t.fault refl in
      (length t.history, (λ i. record { history = same i; fault = none i }))

pub image_is_taken : ImageIsTaken
image_is_taken image history stands = (whole image history stands, part image history stands)
