-- What a caller cites.
pub use Rattle.cov_engine.proofs.Refused.{accepted-low, accepted-sizes, all-valid, declared-less, edits-few, text-few}
pub use Rattle.cov_engine.proofs.Siding.{runs-reach}
pub use Rattle.cov_engine.proofs.States.{options-append}
pub use Rattle.cov_engine.proofs.Trying.{Accepts, Applies, Refuses}
