-- What a caller cites of records, gates and runs of calls.
pub use Rattle.cov_disk.proofs.CallerLemmas.{goes_on, joined, started, weakened}
pub use Rattle.cov_journal.proofs.Anew.{holds_none, only_has, opened_written, told_written}
pub use Rattle.cov_journal.proofs.Appending.{gate_within}
pub use Rattle.cov_journal.proofs.Moments.{all_after, keeps_both, some_to, told_after}
pub use Rattle.cov_journal.proofs.Records.{fits_push, length-body, length-digest, length-front, stored_front, stored_push}
pub use Rattle.cov_journal.proofs.Uniqueness.{counted_one, one_journal}
