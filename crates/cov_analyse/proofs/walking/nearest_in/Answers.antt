use Rattle.std.proofs.Common.{◌≡◌, ◌∙◌, Some, ap, sym, subst}
use Rattle.cov_base.specs.declared.limits.TheConstants.{CHOICE_WIDTH}
use Rattle.cov_analyse.specs.Bounding.{bound_of, distance}
use Rattle.cov_analyse.specs.LeastNumbers.{AreLeast}
use Rattle.cov_analyse.specs.Walking.{walked}
use Rattle.cov_analyse.proofs.LeastNumbers.{least_checked}
use Rattle.cov_analyse.proofs.Walked.{found_far, found_nearest}
use Rattle.cov_analyse.proofs.walking.nearest_in.Goals as goal

pub returns-clause-checked : goal.returns-clause-checked
returns-clause-checked c =
    least_checked c.args.listing c.args.choice c.in-Ok.bounds c.requires.reduced (subst (λ es. AreLeast es c.args.choice c.in-Ok.bounds) c.entries.ensures c.in-Ok.ensures)

pub returns-clause-changed : goal.returns-clause-changed
returns-clause-changed c =
    let least = subst (λ es. AreLeast es c.args.choice c.in-Ok.bounds) c.entries.ensures c.in-Ok.ensures in
    let found : c.walk-nearest.result ≡ walked c.args.listing.entries c.in-Ok.bounds c.args.choice CHOICE_WIDTH c.args.listing.root =
    c.walk-nearest.ensures.walked ∙ (λ j. walked ((c.as_slice.ensures ∙ c.entries-2.ensures) j) (c.as_slice-2.ensures j) c.args.choice CHOICE_WIDTH (c.root.ensures j)) in
    c.bound-changed.ensures
    ∙ (λ j. bound_of (c.as_slice-3.ensures j) (c.root-2.ensures j))
    ∙ found_far c.args.listing c.in-Ok.bounds c.args.choice c.requires.reduced c.requires.options c.requires.few least c.requires.met
    ∙ ap (distance c.args.choice) (sym found)

pub returns-clause-nearest : goal.returns-clause-nearest
returns-clause-nearest c =
    let least = subst (λ es. AreLeast es c.args.choice c.in-Ok.bounds) c.entries.ensures c.in-Ok.ensures in
    let found : c.walk-nearest.result ≡ walked c.args.listing.entries c.in-Ok.bounds c.args.choice CHOICE_WIDTH c.args.listing.root =
    c.walk-nearest.ensures.walked ∙ (λ j. walked ((c.as_slice.ensures ∙ c.entries-2.ensures) j) (c.as_slice-2.ensures j) c.args.choice CHOICE_WIDTH (c.root.ensures j)) in
    found_nearest c.args.listing c.in-Ok.bounds c.args.choice c.requires.reduced c.requires.options c.requires.few least c.requires.met ∙ ap Some (sym found)
