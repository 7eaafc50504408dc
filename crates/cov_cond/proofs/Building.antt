-- The expression of a child that is an entry.
use Rattle.std.proofs.Common.{◌≡◌, ℕ, zero, suc, ◌-◌, ◌<◌, List, slice_get, Some, ap, ◌∙◌, arith}
use Rattle.cov_vis.specs.declared.listing.Child.{Child}
use Rattle.cov_vis.specs.declared.listing.Child.TheVariants.{At}
use Rattle.cov_vis.specs.declared.listing.ListingEntry.{ListingEntry}
use Rattle.cov_cond.specs.Exporting.{child_expression, entry_expression, expression_at}

pub child-entry : (entries : List ListingEntry) (steps : ℕ) (child : Child) (i : ℕ) (e : ListingEntry) → child ≡ At i → 0 < steps → slice_get entries i ≡ Some e
    → child_expression entries steps child ≡ entry_expression (child_expression entries (steps - 1)) e.option e.off e.on
child-entry entries zero child i e is some found = absurd (omega (arith, some))
child-entry entries (suc k) child i e is some found =
    ap (child_expression entries (suc k)) is
    ∙ ap (expression_at (child_expression entries k)) found
    ∙ ap (λ n. entry_expression (child_expression entries n) e.option e.off e.on) rest
  where
    rest : k ≡ suc k - 1
    rest = omega arith
