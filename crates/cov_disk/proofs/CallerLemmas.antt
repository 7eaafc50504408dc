-- What callers cite.
pub use Rattle.cov_disk.proofs.Moments.{goes_on, joined, started, weakened}
