use Rattle.std.proofs.Common.{ap, sym, ◌∙◌}
use Rattle.std.specs.List.{remove}
use Rattle.cov_view.specs.References.{same_node}
use Rattle.cov_view.proofs.Keys.{keys_of, keys-remove, no_place, removed_row}
use Rattle.cov_view.proofs.Standing.{none-among, none-without}
use Rattle.cov_view.proofs.node_index.NodeIndex.remove.Goals as goal

pub returns-in-Some : goal.returns-in-Some
returns-in-Some c =
    let rows = c.args.rows.now in (
      c.shift_remove_index.ensures.keys ∙ ap (λ ks. remove ks c.in-Some.at) c.requires.index.0 ∙ sym (keys-remove rows c.in-Some.at)
          ∙ ap keys_of (removed_row c.args.node.now rows c.in-Some.at c.requires.once (sym c.requires.place ∙ c.in-Some.is)),
      c.remove_row.ensures,
    )

pub returns-in-None : goal.returns-in-None
returns-in-None c =
    let node = c.args.node.now in
    let rows = c.args.rows.now in
    let none = none-among rows node (no_place (λ r. same_node r.node node) rows (sym c.requires.place ∙ c.in-None.is)) in
    (c.requires.index.0 ∙ ap keys_of (sym (none-without node rows none)), c.remove_row.ensures)
