use Rattle.std.proofs.Common.{◌∙◌, ap, sym}
use Rattle.cov_file.specs.Forward.{is_shown_by}
use Rattle.cov_file.proofs.Forward.{others, row_taken_out, rows_stay}
use Rattle.cov_file.proofs.Showing.{if_some}
use Rattle.cov_file.proofs.sights.after_delete.Goals as goal

pub returns-then-not-is_shown : goal.returns-then-not-is_shown
returns-then-not-is_shown c =
    if_some c.without_row.result _ _
    (λ after fewer. λ f ls at agrees before once is.
    row_taken_out f c.args.line c.args.vis at ls (c.in-Some.ensures.known f agrees ∙ c.if-not-is_shown.true) ∙ ap (others c.args.line) is ∙ sym fewer)
    c.without_row.ensures

pub returns-then-is_true : goal.returns-then-is_true
returns-then-is_true c = λ f ls at agrees before once is.
    rows_stay f c.args.line c.args.vis at ls once (ap (is_shown_by f) before ∙ c.is_true.ensures c.if-is_true.true f agrees) (c.in-Some.ensures.known f agrees ∙ c.if-not-is_shown.false) ∙ is
