-- What callers cite.
pub use Rattle.cov_record.proofs.Lengths.{IsWithinLimits, payload-length, payload-short, payloads-short}
pub use Rattle.cov_record.proofs.Records.{one_command, one_history, one_record}
