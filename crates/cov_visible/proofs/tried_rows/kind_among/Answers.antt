use Rattle.std.proofs.Common.{map, ap, ◌∙◌, sym}
use Rattle.cov_view.specs.Seen.{kind_in}
use Rattle.cov_visible.specs.Showing.{bare_row}
use Rattle.cov_visible.proofs.TriedRows.{kind-new}
use Rattle.cov_visible.proofs.tried_rows.kind_among.Goals as goal

pub returns-in-New : goal.returns-in-New
returns-in-New c = kind-new c.args.rows.now c.in-New.field-0 ∙ ap (kind_in (map bare_row c.args.rows.now)) (sym c.in-New.is)
