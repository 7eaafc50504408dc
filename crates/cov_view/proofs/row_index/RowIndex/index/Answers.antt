use Rattle.std.proofs.Common.{sym, ap, subst, ◌∙◌}
use Rattle.cov_view.specs.Finding.{FindsBy}
use Rattle.cov_view.specs.Keys.{IsIndexOf}
use Rattle.cov_view.specs.Shown.{bare_rows}
use Rattle.cov_view.specs.declared.row_index.FoundBy.{FoundBy}
use Rattle.cov_view.proofs.Holding.{of-bare}
use Rattle.cov_view.proofs.row_index.RowIndex.index.Goals as goal

pub returns-in-Shared : goal.returns-in-Shared
returns-in-Shared c = λ rows h.
    of-bare c.index.result.now rows
    (subst (IsIndexOf c.index.result.now) (ap bare_rows c.lend.ensures ∙ sym (subst (λ (found : FoundBy). FindsBy found rows) c.in-Shared.is h)) c.index.ensures)
