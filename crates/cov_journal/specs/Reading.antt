-- What a reader gives of the bytes from its place on.
use Rattle.std.specs.Prelude.{◌≡◌, ◌≢◌, ◌⊎◌, ℕ, ◌+◌, ◌^◌, ◌≤◌, ◌<◌, List, [], ◌∷◌, ◌++◌, length, take, drop, slice_index, Bool, true, false, Option, IfSome, Result, Ok, Err}
use Rattle.std.specs.Int.{w32, to_be_bytes, from_be_bytes}
use Rattle.cov_journal.specs.Journal.{header, next_digest, body, State, Fits, FitsState}
use Rattle.cov_base.specs.Causes.{Rose}
use Rattle.cov_base.specs.declared.error.Failed.{Failed}
use Rattle.cov_base.specs.declared.error.MemoryOr.{MemoryOr}
use Rattle.cov_base.specs.declared.error.MemoryOr.TheVariants.{Memory, Refused}
use Rattle.cov_journal.specs.Places.{Place}
use Rattle.cov_journal.specs.Gates.{HasGate}
use Rattle.cov_journal.specs.declared.front.Front.{Front}
use Rattle.cov_journal.specs.declared.front.Front.TheVariants as fronts
use Rattle.cov_journal.specs.declared.reader.Next.{Next}
use Rattle.cov_journal.specs.declared.reader.Next.TheVariants.{Record, End}
use Rattle.cov_journal.specs.declared.reader.ReadRecordFault.{ReadRecordFault}
use Rattle.cov_journal.specs.declared.reader.ReadRecordFault.TheVariants as faults
use Rattle.cov_journal.specs.declared.opening.OpenFault.{OpenFault}
use Rattle.cov_journal.specs.declared.opening.OpenFault.TheVariants as opens
use Rattle.cov_journal.specs.declared.damage.Damage.{Damage}
use Rattle.cov_journal.specs.declared.damage.Damage.TheVariants as damages

-- a reader has given these payloads
pub record HasGiven (place : Place) (payloads : List (List ℕ)) : Type 0 where
  pub fits : Fits place.at place.digest payloads
  pub given : place.given ≡ length payloads

abbrev pub IsNoStore : List ℕ → Type 0
IsNoStore image = (13 < length image) × (take 12 image ≢ header)

-- a disk of over 13 bytes is as it was and begins with the header; another is made anew
abbrev pub IsOpened : List ℕ → List ℕ → Type 0
IsOpened old new = ((13 < length old) × (take 12 old ≡ header) × (new ≡ old)) ⊎ ((length old ≤ 13) × (new ≡ header ++ 0 ∷ []))

-- the length that stands behind an open gate
abbrev pub record_length : List ℕ → ℕ
record_length behind = from_be_bytes w32 (take 4 behind)

-- the bytes behind an open gate end before the next gate
abbrev pub IsCut : List ℕ → Type 0
IsCut behind = (length behind < 4) ⊎ (length behind < 4 + record_length behind + 33)

-- the bytes behind an open gate hold a record and the next gate
abbrev pub IsLongEnough : List ℕ → Type 0
IsLongEnough behind = (4 ≤ length behind) × (4 + record_length behind + 33 ≤ length behind)

-- the bytes behind an open gate begin with a whole record of this length, and there is a gate behind it
abbrev pub HasLength : List ℕ → ℕ → Type 0
HasLength behind n = (n < 2 ^ 32) × (take 4 behind ≡ to_be_bytes w32 n) × (4 + n + 33 ≤ length behind)

-- what stands at a gate
abbrev pub HasFront : ℕ → List ℕ → Front → Type 0
HasFront at image fronts.Closed = slice_index image at ≢ 1
HasFront at image fronts.Cut = (slice_index image at ≡ 1) × IsCut (drop (at + 1) image)
HasFront at image (fronts.Whole n) = (slice_index image at ≡ 1) × HasLength (drop (at + 1) image) n

-- the first five bytes from a gate on, behind which are so many bytes, tell what stands there
abbrev pub IsFront : List ℕ → ℕ → Front → Type 0
IsFront front behind fronts.Closed = slice_index front 0 ≢ 1
IsFront front behind fronts.Cut = (slice_index front 0 ≡ 1) × (behind < from_be_bytes w32 (drop 1 front) + 37)
IsFront front behind (fronts.Whole n) = (slice_index front 0 ≡ 1) × (n < 2 ^ 32) × (drop 1 front ≡ to_be_bytes w32 n) × (n + 37 ≤ behind)

-- an open record with this payload, and these bytes from the next gate on
pub record IsRecord (before : Place) (image p : List ℕ) (after : Place) : Type 0 where
  pub bytes : drop before.at image ≡ 1 ∷ (body (next_digest before.digest p) p ++ drop after.at image)
  pub within : after.at < length image

-- the place behind a record
pub record Passes (before : Place) (p : List ℕ) (after : Place) : Type 0 where
  pub short : length p < 2 ^ 32
  pub at : after.at ≡ before.at + length p + 37
  pub digest : after.digest ≡ next_digest before.digest p
  pub given : after.given ≡ before.given + 1

-- the journal whose closed gate is the next
pub record EndsJournal (before : Place) (journal : State) : Type 0 where
  pub at : journal.at ≡ before.at
  pub digest : journal.digest ≡ before.digest

-- a whole record with another digest
pub record HasOtherDigest (before : Place) (image : List ℕ) : Type 0 where
  pub payload : List ℕ
  pub digest : List ℕ
  pub rest : List ℕ
  pub bytes : drop before.at image ≡ 1 ∷ (body digest payload ++ rest)
  pub short : length payload < 2 ^ 32
  pub size : length digest ≡ 32
  pub more : 1 ≤ length rest
  pub other : digest ≢ next_digest before.digest payload

-- what is wrong with the record at a place
abbrev pub IsDamaged : Place → List ℕ → Damage → Type 0
IsDamaged before image damages.Cut = (slice_index image before.at ≡ 1) × IsCut (drop (before.at + 1) image)
IsDamaged before image damages.Digest = HasOtherDigest before image

-- a call that takes memory fails for want of it, or by the disk
abbrev pub MayFail : ℕ → ℕ → MemoryOr Failed → Type 0
MayFail before now Memory = Unit {0}
MayFail before now (Refused f) = Rose before now

-- what is given at a place
abbrev pub IsNext : Place → Option (List ℕ) → Next → Type 0
IsNext before contents (Record after payload) = Passes before payload after × IfSome contents (λ image. IsRecord before image payload after)
IsNext before contents (End journal) = EndsJournal before journal × IfSome contents (λ image. slice_index image before.at ≢ 1)

-- there is a gate behind what is given
abbrev pub HasNextGate : Option (List ℕ) → Next → Type 0
HasNextGate contents (Record after p) = HasGate contents after.at
HasNextGate contents (End journal) = HasGate contents journal.at

-- why nothing is given; memory is taken only for a record that is whole
abbrev pub IsFault : Place → Option (List ℕ) → ℕ → ℕ → ReadRecordFault → Type 0
IsFault before contents old new (faults.Damaged number cause) = (number ≡ before.given + 1) × IfSome contents (λ image. IsDamaged before image cause)
IsFault before contents old new faults.DiskFault = Rose old new
IsFault before contents old new faults.Memory = IfSome contents (λ image. (slice_index image before.at ≡ 1) × IsLongEnough (drop (before.at + 1) image))

-- the fault of the record at a place
abbrev pub IsDamagedRecord : Place → Damage → ReadRecordFault → Type 0
IsDamagedRecord before cause (faults.Damaged number named) = (number ≡ before.given + 1) × (named ≡ cause)
IsDamagedRecord before cause faults.DiskFault = ⊥
IsDamagedRecord before cause faults.Memory = ⊥

-- a record goes with its digest, and is damaged with another
abbrev pub Compares : Place → List ℕ → List ℕ → Result Next ReadRecordFault → Type 0
Compares before payload digest (Ok (Record after p)) = (digest ≡ next_digest before.digest payload) × (p ≡ payload) × Passes before p after
Compares before payload digest (Ok (End journal)) = ⊥
Compares before payload digest (Err (faults.Damaged number damages.Cut)) = ⊥
Compares before payload digest (Err (faults.Damaged number damages.Digest)) = (number ≡ before.given + 1) × (digest ≢ next_digest before.digest payload)
Compares before payload digest (Err faults.DiskFault) = ⊥
Compares before payload digest (Err faults.Memory) = ⊥

-- why a disk can't be opened, which takes no memory
abbrev pub IsOpenFault : Option (List ℕ) → ℕ → ℕ → OpenFault → Type 0
IsOpenFault contents old new opens.NotAStore = IfSome contents IsNoStore
IsOpenFault contents old new opens.DiskFault = Rose old new
IsOpenFault contents old new opens.Memory = ⊥

-- whether an image begins with the header
abbrev pub HasHeader : Bool → List ℕ → Type 0
HasHeader true image = take 12 image ≡ header
HasHeader false image = take 12 image ≢ header

-- a reader has given one payload more, and a journal fits those that were given
abbrev pub GivesOn : List (List ℕ) → Next → Type 0
GivesOn payloads (Record after p) = HasGiven after (payloads ++ p ∷ [])
GivesOn payloads (End journal) = FitsState journal payloads
