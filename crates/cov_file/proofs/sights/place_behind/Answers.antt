use Rattle.std.proofs.Common.{◌<◌, ◌∙◌, ap, sym, arith}
use Rattle.std.proofs.lemmas.Bool.Decides.{nat_tests}
use Rattle.cov_file.specs.Dated.{file_row_of}
use Rattle.std.specs.List.{insert}
use Rattle.cov_file.specs.Forward.{is_shown_by}
use Rattle.cov_file.proofs.Forward.{row_placed}
use Rattle.cov_file.proofs.Showing.{if_some}
use Rattle.cov_file.proofs.sights.place_behind.Goals as goal

pub returns-then-is_true-clause-place : goal.returns-then-is_true-clause-place
returns-then-is_true-clause-place c =
    let behind : 0 < c.args.anchor = grind (arith, nat_tests, c.number.ensures, c.if-number-eq0.false) in
    if_some c.place_after.result _ _
    (λ at place. λ f ls new agrees beside is shown.
    row_placed f c.args.anchor new ls c.args.rows.now place.0 behind shown (ap (is_shown_by f) beside ∙ c.is_true.ensures c.if-is_true.true f agrees) is place.2
    ∙ ap (λ i. insert c.args.rows.now i (file_row_of new)) (sym place.1))
    c.place_after.ensures.place
