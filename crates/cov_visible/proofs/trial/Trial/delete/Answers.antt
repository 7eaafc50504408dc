use Rattle.std.proofs.Common.{sym, ap, ◌∙◌}
use Rattle.cov_visible.specs.Trying.{deleted_from}
use Rattle.cov_visible.proofs.trial.Trial.delete.Goals as goal

pub returns-in_ok-insert-in-Old-Old : goal.returns-in_ok-insert-in-Old-Old
returns-in_ok-insert-in-Old-Old c =
    ap (λ ds. record { rows = c.self.inside.rows; made = c.self.inside.made.items; deleted = ds }) c.in_ok-insert-in-Old-Old.ensures.keys
    ∙ (λ i. deleted_from (c.self.view_is i) (sym c.in-Old-Old.is-0 i) (sym c.in-Old-Old.is-1 i))
