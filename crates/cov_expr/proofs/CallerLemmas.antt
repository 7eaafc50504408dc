-- What a caller cites.
pub use Rattle.cov_base.proofs.CallerLemmas.{any-map as list_any-map}
pub use Rattle.cov_expr.proofs.ListLemmas.{insert_key-new}
pub use Rattle.cov_expr.proofs.SameParts.{alike-same, same-is, same-itself}
