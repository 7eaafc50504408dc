use Rattle.std.proofs.Common.{◌≡◌, List, ℕ, sym, ap, ◌∙◌}
use Rattle.cov_base.specs.declared.number.NodeRef.TheVariants as nodes
use Rattle.cov_view.specs.Seen.{Seen, child_in, node_at}
use Rattle.cov_view.specs.declared.row.ViewRow.{ViewRow}
use Rattle.cov_view.proofs.Paths.{name_found, name_missing, names_done}
use Rattle.cov_view.proofs.view.View.node_at.Goals as goal

pub names-init : goal.names-init
names-init c = ap (λ n. node_at c.args.self.now.rows (nodes.Old n) c.args.path.now) c.new.ensures

pub returns-in-None : goal.returns-in-None
returns-in-None c =
    let rows = c.args.self.now.rows in
    let same : c.self.inside.rows ≡ rows = ap (λ (s : Seen). s.rows) c.self.view_is in
    let name = c.as_slice.ensures.bytes ∙ c.name-item.is in
    let missing = sym (c.child_in.ensures ∙ ap (λ (r : List ViewRow). child_in r c.names.node c.as_slice.result.now) same ∙ ap (λ (n : List ℕ). child_in rows c.names.node n) name) ∙ c.in-None.is in
    sym (name_missing rows c.names.node c.args.path.now c.names.name-index c.name-item.result c.names-test.true missing)
    ∙ c.names.invariant

pub names-preserved : goal.names-preserved
names-preserved c =
    let rows = c.args.self.now.rows in
    let same : c.self.inside.rows ≡ rows = ap (λ (s : Seen). s.rows) c.self.view_is in
    let name = c.as_slice.ensures.bytes ∙ c.name-item.is in
    let found = sym (c.child_in.ensures ∙ ap (λ (r : List ViewRow). child_in r c.names.node c.as_slice.result.now) same ∙ ap (λ (n : List ℕ). child_in rows c.names.node n) name) ∙ c.in-Some.is in
    sym (name_found rows c.names.node c.in-Some.child c.args.path.now c.names.name-index c.name-item.result c.names-test.true found) ∙ c.names.invariant

pub returns : goal.returns
returns c =
    sym (names_done c.args.self.now.rows c.names.node c.args.path.now c.names.name-index c.names-test.false)
    ∙ c.names.invariant
