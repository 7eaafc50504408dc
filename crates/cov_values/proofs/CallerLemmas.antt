-- What a caller cites of lists whose items all hold something: that of none, and that of the first and of all others.
pub use Rattle.cov_values.proofs.Valued.{all-none, all-with}
