use Rattle.std.proofs.Common.{◌≡◌, List, ℕ, true, is_some, option_map, ap, sym, refl, ◌∙◌}
use Rattle.cov_base.specs.declared.number.NodeRef.TheVariants as nodes
use Rattle.cov_edit.specs.Numbering.{Numbers, node_number}
use Rattle.cov_edit.specs.Variant.{Variant}
use Rattle.cov_view.specs.References.{is_made_node}
use Rattle.cov_view.specs.Seen.{kind_in}
use Rattle.cov_view.specs.Views.{Shows}
use Rattle.cov_view.proofs.Finding.{some, path-shown, path-made, node-there}
use Rattle.cov_view.proofs.view.View.follow.Goals as goal

pub returns-clause-there : goal.returns-clause-there
returns-clause-there c =
    let rows = c.args.self.now.rows in
    some c.node_at.result (λ node. is_some (kind_in rows node) ≡ true)
    (λ node e. node-there rows c.args.names.now (nodes.Old 0) node refl (sym c.node_at.ensures ∙ e))

pub returns-clause-shown : goal.returns-clause-shown
returns-clause-shown c = λ ns table v shows. ap (option_map (node_number ns.nodes)) c.node_at.ensures ∙ path-shown ns table c.args.self.now v shows c.args.names.now

pub returns-clause-made : goal.returns-clause-made
returns-clause-made c =
    let s = c.args.self.now in
    some c.node_at.result
    (λ node. (ns : Numbers) (table : List (List ℕ)) (v : Variant) → Shows ns table s v → is_made_node ns.nodes s.nodes_made node ≡ true)
    (λ node e ns table v shows. path-made ns table s v shows c.args.names.now node (sym c.node_at.ensures ∙ e))
