-- What a caller cites of listings.
pub use Rattle.cov_vis.proofs.Below.{below_more, one_listing_below, reads_by_first_options}
pub use Rattle.cov_vis.proofs.OneListing.{one_listing}
pub use Rattle.cov_vis.proofs.Testing.{listing_of-same, one_listing_of}
