-- What callers cite.
pub use Rattle.cov_replica.proofs.Faults.{never_want, refusal_is_of_verdict}
pub use Rattle.cov_replica.proofs.Pieces.{piece_goes}
