-- What callers cite of conditional texts.
pub use Rattle.cov_cond_text.proofs.Runs.{conjunction-value, lines-runs, projection-append, run-projection}
