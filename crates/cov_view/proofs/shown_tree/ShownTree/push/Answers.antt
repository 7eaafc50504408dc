use Rattle.std.proofs.Common.{List, [], ◌∷◌, ◌++◌, nat_eq, refl, ap, sym, subst, ◌∙◌}
use Rattle.std.proofs.lemmas.Bool.{or_parts}
use Rattle.std.proofs.lemmas.List.{map-append}
use Rattle.std.specs.List.{list_any}
use Rattle.cov_base.specs.Rows.{Row, is_present}
use Rattle.cov_base.specs.declared.number.NodeRef.TheVariants as nodes
use Rattle.cov_view.specs.Keys.{IsIndexOf}
use Rattle.cov_view.specs.Seen.{has_row, AreRows}
use Rattle.cov_view.specs.Shown.{bare_row, bare_rows}
use Rattle.cov_view.proofs.Changes.{rows-append}
use Rattle.cov_view.proofs.Shown.{has-bare, once-bare, root-number, rows-bare}
use Rattle.cov_view.proofs.shown_tree.ShownTree.push.Goals as goal

pub invariant_of-self-2 : goal.invariant_of-self-2
invariant_of-self-2 c =
    let rows = c.self.inside.rows.items in
    let row : Row = c.args.row in
    let is = sym c.row.view_is in
    let joined = ap bare_rows (c.push_reserved.ensures.items ∙ ap (λ (rs : List Row). rs ++ row ∷ []) c.reserve.ensures.items) ∙ map-append bare_row rows (row ∷ []) in
    let none = or_parts (nat_eq row.node 0) (list_any (λ (r : Row). nat_eq r.node row.node) rows) (ap (λ (rs : List Row). is_present rs row.node) c.self.view_is ∙ c.requires) in
    let fresh = has-bare row.node rows ∙ none.1 in (
      once-bare c.push_reserved.new.self.items (subst (AreRows 0) (sym joined) (rows-append 0 (bare_rows rows) (bare_row row) (rows-bare rows c.self.invariant.0) (root-number row.node ∙ none.0) refl fresh)),
      subst (IsIndexOf c.note.new.self) (sym joined) (c.in_ok-note.ensures.ok (bare_rows rows) (bare_row row) (λ i. nodes.Old (is i).node) (λ i. nodes.Old (is i).parent) ((λ i. (is i).name) ∙ sym c.as_slice.ensures.bytes)
          (ap (λ n. has_row (bare_rows rows) (nodes.Old n)) (λ i. (sym is i).node) ∙ fresh) c.self.invariant.1),
    )
