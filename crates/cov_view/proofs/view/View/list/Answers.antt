use Rattle.std.proofs.Common.{◌≡◌, List, ℕ, Some, not, refl}
use Rattle.cov_base.specs.declared.number.Kind.TheVariants as kinds
use Rattle.cov_edit.specs.Numbering.{Numbers}
use Rattle.cov_edit.specs.Variant.{Variant}
use Rattle.cov_view.specs.Listing.{IsListingOf, listed_in}
use Rattle.cov_view.specs.Seen.{kind_in}
use Rattle.cov_view.specs.Views.{Shows}
use Rattle.cov_view.proofs.Finding.{ok, absent-shown, kind-there, listing-shown}
use Rattle.cov_view.proofs.view.View.list.Goals as goal

pub returns-clause-shown : goal.returns-clause-shown
returns-clause-shown c =
    let s = c.args.self.now in
    let dir = c.args.dir in
    ok c.list_of.result (kind_in s.rows dir ≡ Some kinds.Dir) (λ rows. rows ≡ listed_in s.rows dir)
    (λ rows. (ns : Numbers) (table : List (List ℕ)) (v : Variant) → Shows ns table s v → IsListingOf ns v dir rows)
    c.list_of.ensures.directory c.list_of.ensures.rows
    (λ rows kind listing ns table v shows. listing-shown ns table s v shows dir rows kind listing)

pub returns-clause-absent_shown : goal.returns-clause-absent_shown
returns-clause-absent_shown c = λ fault ns table v shows.
    absent-shown ns table c.args.self.now v shows c.args.dir (c.list_of.ensures.absent fault)

pub returns-clause-not_directory_shown : goal.returns-clause-not_directory_shown
returns-clause-not_directory_shown c = λ fault ns table v shows.
    kind-there ns table c.args.self.now v shows c.args.dir kinds.File not (c.list_of.ensures.not_directory fault) refl
