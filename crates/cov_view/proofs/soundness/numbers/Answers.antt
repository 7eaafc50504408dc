use Rattle.std.proofs.Common.{◌≡◌, ℕ, true, List, [], ◌∷◌, ◌++◌, map, ap, ◌∙◌}
use Rattle.std.proofs.lemmas.Bool.{and_parts}
use Rattle.std.proofs.lemmas.List.{take_all}
use Rattle.cov_edit.specs.Numbering.{node_number}
use Rattle.cov_view.specs.Soundness.{is_old, is_old_row}
use Rattle.cov_view.specs.declared.row.ViewRow.{ViewRow}
use Rattle.cov_view.proofs.Placed.{all-got, numbers-more}
use Rattle.cov_view.proofs.soundness.numbers.Goals as goal

pub rows-init : goal.rows-init
rows-init c = c.new-numbers.ensures.items

pub rows-preserved : goal.rows-preserved
rows-preserved c =
    let rows = c.args.rows.now in
    let row = c.row-item.result in
    let old : is_old_row row ≡ true = ap is_old_row c.row-item.is ∙ all-got (λ r. is_old_row r ≡ true) rows c.rows.row-index row c.requires c.rows-test.true in
    c.in_ok-push.ensures.items
    ∙ ap (λ (l : List ℕ). l ++ c.number.result ∷ []) c.rows.invariant
    ∙ numbers-more rows c.rows.row-index c.number.result row c.rows-test.true c.row-item.is (c.number.ensures (and_parts (is_old row.node) (is_old row.parent) old).0)

pub returns : goal.returns
returns c = c.rows.invariant ∙ ap (map (λ (r : ViewRow). node_number 0 r.node)) (take_all c.rows.row-index c.args.rows.now c.rows-test.false)
