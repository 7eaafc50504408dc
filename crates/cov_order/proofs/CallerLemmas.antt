-- What callers cite.
pub use Rattle.cov_order.proofs.Places.{any-after}
