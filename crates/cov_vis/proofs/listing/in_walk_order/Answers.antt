use Rattle.std.proofs.Common.{◌∙◌, sym, ap, length}
use Rattle.cov_vis.proofs.Walking.{is_count, walk_by_count}
use Rattle.cov_vis.proofs.listing.in_walk_order.Goals as goal

pub returns-in-Some : goal.returns-in-Some
returns-in-Some c =
    ap (λ r. is_count r (length c.args.entries.now)) (sym c.in-Some.is ∙ c.count.ensures.count) ∙ walk_by_count (record { root = c.args.root; entries = c.args.entries.now })

pub returns-in-None : goal.returns-in-None
returns-in-None c =
    ap (λ r. is_count r (length c.args.entries.now)) (sym c.in-None.is ∙ c.count.ensures.count) ∙ walk_by_count (record { root = c.args.root; entries = c.args.entries.now })
