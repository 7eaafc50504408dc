use Rattle.cov_vis.proofs.Testing.{one_listing_of}
use Rattle.cov_vis.proofs.laws.tests_have_one_listing.Goals as goal

pub returns : goal.returns
returns c = one_listing_of
