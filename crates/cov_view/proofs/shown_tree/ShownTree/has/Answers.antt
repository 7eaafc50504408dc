use Rattle.std.proofs.Common.{List, ap, sym, ◌||◌, nat_eq, ◌∙◌}
use Rattle.std.specs.List.{list_any}
use Rattle.cov_base.specs.Rows.{Row}
use Rattle.cov_view.specs.Shown.{bare_rows}
use Rattle.cov_view.proofs.Shown.{has-bare, root-number}
use Rattle.cov_view.proofs.shown_tree.ShownTree.has.Goals as goal

pub returns-else-is_root : goal.returns-else-is_root
returns-else-is_root c =
    let rows = c.self.inside.rows.items in
    let found = c.is_some.ensures ∙ c.place.ensures.found (bare_rows rows) c.self.invariant.1 ∙ has-bare c.args.node rows in
    found
    ∙ ap (λ b. b || list_any (λ (r : Row). nat_eq r.node c.args.node) rows) (sym c.if-is_root.false ∙ c.is_root.ensures ∙ root-number c.args.node)
    ∙ ap (λ (rs : List Row). nat_eq c.args.node 0 || list_any (λ (r : Row). nat_eq r.node c.args.node) rs) c.self.view_is
