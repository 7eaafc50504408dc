use Rattle.std.proofs.Common.{◌≡◌, ◌+◌, ◌∷◌, ◌++◌, [], suc, take, refl, sym, ap, subst, ◌∙◌, arith}
use Rattle.std.proofs.Math.Seq.{take-suc}
use Rattle.std.proofs.lemmas.List.{take_all}
use Rattle.cov_view.specs.Keys.{IsIndexOf}
use Rattle.cov_view.specs.Seen.{has_row}
use Rattle.cov_view.specs.declared.row.ViewRow.{ViewRow}
use Rattle.cov_view.proofs.Standing.{fresh-at}
use Rattle.cov_view.proofs.node_index.NodeIndex.of_rows.Goals as goal

pub rows-preserved : goal.rows-preserved
rows-preserved c =
    let rows = c.args.rows.now in
    let i = c.rows.row-index in
    let row = c.row-item.result in
    let one : i + 1 ≡ suc i = omega arith in
    let taken : take (i + 1) rows ≡ take i rows ++ row ∷ [] = ap (λ n. take n rows) one ∙ take-suc rows i row c.rows-test.true ∙ ap (λ (r : ViewRow). take i rows ++ r ∷ []) (sym c.row-item.is) in
    let fresh = ap (λ (r : ViewRow). has_row (take i rows) r.node) c.row-item.is ∙ fresh-at rows i row c.rows-test.true c.requires in
    subst (IsIndexOf c.note.new.self) (sym taken) (c.in_ok-note.ensures.ok (take i rows) row refl refl (sym c.as_slice.ensures.bytes) fresh c.rows.invariant)

pub returns : goal.returns
returns c = subst (IsIndexOf c.rows.index) (take_all c.rows.row-index c.args.rows.now c.rows-test.false) c.rows.invariant
