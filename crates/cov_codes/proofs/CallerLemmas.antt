-- What a caller cites.
pub use Rattle.cov_codes.proofs.RefusalCodes.{refusal-code}
