-- What a caller cites.
pub use Rattle.cov_session.proofs.Faulting.{set-fault}
pub use Rattle.cov_session.proofs.Naming.{all-stay, its-name, named-none, named-open, named-same, named-some}
pub use Rattle.cov_session.proofs.Sided.{edits-grown}
