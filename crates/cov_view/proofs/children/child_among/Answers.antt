use Rattle.std.proofs.Common.{option_map, sym, ap, ◌∙◌}
use Rattle.cov_view.specs.Keys.{is_child}
use Rattle.cov_view.specs.declared.row.ViewRow.{ViewRow}
use Rattle.cov_view.proofs.Keys.{read_row, no_place}
use Rattle.cov_view.proofs.children.child_among.Goals as goal

pub returns-in-Some : goal.returns-in-Some
returns-in-Some c =
    sym (ap (option_map (λ (r : ViewRow). r.node)) (read_row (is_child c.args.dir.now c.args.name.now) c.args.rows.now c.in-Some.at c.index-rows-at.result (sym c.find_child.ensures ∙ c.in-Some.is)))

pub returns-in-None : goal.returns-in-None
returns-in-None c = sym (ap (option_map (λ (r : ViewRow). r.node)) (no_place (is_child c.args.dir.now c.args.name.now) c.args.rows.now (sym c.find_child.ensures ∙ c.in-None.is)))
