-- What callers cite.
use Rattle.std.proofs.Common.{inl, inr, ◌<◌, ℕ, List, length}
use Rattle.cov_store.specs.Damages.{IsUnopened}
pub use Rattle.cov_store.proofs.Legal.{fits-push, legal-few, legal-push, payloads-are-short, payloads-push}

-- an image from which no store is opened has more than a header and a gate
pub unopened-long : (image : List ℕ) → IsUnopened image → 13 < length image
unopened-long image (inl none) = none.0
unopened-long image (inr damaged) = damaged.2.long
