-- Laws of what an image holds.
use Rattle.std.specs.Prelude.{◌≡◌, ℕ, ◌<◌, ◌^◌, List, length}
use Rattle.std.specs.List.{AllByRecursion}
use Rattle.cov_journal.specs.Journal.{IsWritten, Holds, Fits}

-- payloads of which each is short enough for the four bytes of its length
abbrev pub AreShort : List (List ℕ) → Type 0
AreShort payloads = AllByRecursion (λ p. length p < 2 ^ 32) payloads

-- an image holds one list of payloads at most
abbrev pub OneJournal : Type 0
OneJournal = (image : List ℕ) (ps qs : List (List ℕ)) → AreShort ps → AreShort qs → Holds image ps → Holds image qs → ps ≡ qs

-- the next gate of what fits the payloads of an image is within it
abbrev pub GateIsWithin : Type 0
GateIsWithin = (image : List ℕ) (payloads : List (List ℕ)) (at : ℕ) (last : List ℕ) → Fits at last payloads → IsWritten image payloads → at < length image
