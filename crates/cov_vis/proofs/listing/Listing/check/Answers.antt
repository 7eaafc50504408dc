use Rattle.std.proofs.Common.{◌≡◌, ◌∙◌, ap}
use Rattle.cov_vis.specs.Listings.{is_reduced}
use Rattle.cov_vis.proofs.listing.Listing.check.Goals as goal

pub returns-clause-reduced : goal.returns-clause-reduced
returns-clause-reduced c =
    let whole : record { root = c.self.inside.root; entries = c.as_slice.result.now } ≡ c.args.self.now = (λ j. record { root = c.self.inside.root; entries = c.as_slice.ensures j }) ∙ c.self.view_is in
    c.reduced.ensures ∙ ap is_reduced whole
