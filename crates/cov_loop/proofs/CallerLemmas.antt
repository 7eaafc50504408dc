-- What callers cite.
pub use Rattle.cov_loop.proofs.Appending.{all_some, all_then, all_then_some, same_all, same_some, some_more}
pub use Rattle.cov_loop.proofs.Counting.{counted_then, given_then}
pub use Rattle.cov_loop.proofs.Outcomes.{nothing_first, nothing_next}
pub use Rattle.cov_loop.proofs.Turning.{fault_turn}
