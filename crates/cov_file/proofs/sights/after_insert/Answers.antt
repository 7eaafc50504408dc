use Rattle.std.proofs.Common.{◌≡◌, ◌∙◌, ap, sym}
use Rattle.std.specs.List.{insert}
use Rattle.cov_file.specs.Dated.{new_line}
use Rattle.cov_file.proofs.Forward.{hidden_anywhere}
use Rattle.cov_file.proofs.Showing.{if_some}
use Rattle.cov_file.proofs.sights.after_insert.Goals as goal

pub returns-then-not-is_shown : goal.returns-then-not-is_shown
returns-then-not-is_shown c = λ f ls at agrees beside is.
    hidden_anywhere f c.args.anchor (new_line c.args.line c.args.text.now c.args.vis at) ls (c.in-Some.ensures.known f agrees ∙ c.if-not-is_shown.true) ∙ is

pub returns-in-Some-place_behind : goal.returns-in-Some-place_behind
returns-in-Some-place_behind c =
    let rows : c.as_slice.result.now ≡ c.args.rows = c.as_slice.ensures ∙ c.lend.ensures in
    if_some c.with_row.result _ _
    (λ after put. λ f ls at agrees beside is.
    c.in-Some-place_behind.ensures.place f ls (new_line c.args.line c.args.text.now c.args.vis at) agrees beside (is ∙ sym rows) (c.in-Some.ensures.known f agrees ∙ c.if-not-is_shown.false)
    ∙ ap (λ rs. insert rs c.in-Some-place_behind.at (record { line = c.args.line; text = c.args.text.now })) rows ∙ sym put)
    c.with_row.ensures
