use Rattle.std.proofs.Common.{◌≡◌, [], true, ◌&&◌, nat_eq, position, sym, ap, subst, ◌∙◌}
use Rattle.std.specs.List.{find, AllByRecursion}
use Rattle.std.specs.Option.{option_map}
use Rattle.std.specs.Str.{bytes_eq}
use Rattle.cov_base.specs.Rows.{Row, has_node}
use Rattle.cov_tree.specs.declared.dated.DatedEntry.{DatedEntry}
use Rattle.cov_tree.specs.Dated.{Dated, entry_at, nodes_at}
use Rattle.cov_tree.specs.Entries.{rows_in}
use Rattle.cov_tree.specs.Looking.{stands_in}
use Rattle.cov_tree.proofs.Installing.{nodes_are}
use Rattle.cov_tree.proofs.Noting.{all_seen}
use Rattle.cov_tree.proofs.Looking.{child_nowhere, child_there}
use Rattle.cov_tree.proofs.entries.Entries.child_at.Goals as goal

pub first_child-requires-clause-noted : goal.first_child-requires-clause-noted
first_child-requires-clause-noted c =
    let table = c.args.table.now in
    let name = c.args.name.now in
    subst (λ es. AllByRecursion (λ (e : DatedEntry). stands_in table c.args.choice c.args.dir name (entry_at c.args.at e).places ≡ true → has_node e.node c.at-noted.result.now ≡ true) es) (sym c.deref.ensures.value)
    (subst (λ ns. AllByRecursion (λ (e : DatedEntry). stands_in table c.args.choice c.args.dir name (entry_at c.args.at e).places ≡ true → has_node e.node ns ≡ true) c.self.inside.entries.items) (sym c.at-noted.ensures)
    (all_seen c.self.inside.noted.nodes.entries table c.args.choice c.args.at c.args.dir name c.self.inside.entries.items c.self.invariant.3))

pub returns-in-Some : goal.returns-in-Some
returns-in-Some c =
    let es = c.self.inside.entries.items in
    let table = c.args.table.now in
    let choice = c.args.choice in
    let name = c.args.name.now in
    let is_child = λ (r : Row). nat_eq r.parent c.args.dir && bytes_eq r.name name in
    child_there table choice c.args.dir name c.args.at es c.in-Some.index c.index.result.now
    (ap (λ xs. position (λ e. stands_in table choice c.args.dir name (entry_at c.args.at e).places) xs) (sym c.deref.ensures.value) ∙ sym c.first_child.ensures.place ∙ c.in-Some.is)
    c.index.ensures
    ∙ ap (λ xs. option_map (λ (r : Row). r.node) (find is_child (rows_in table choice xs)))
    (sym (nodes_are c.args.at (record { from = c.self.inside.from; entries = es; room = 0; noted = [] }) c.self.invariant.1))
    ∙ ap (λ (d : Dated). option_map (λ (r : Row). r.node) (find is_child (rows_in table choice (nodes_at c.args.at d)))) c.self.view_is

pub returns-in-None : goal.returns-in-None
returns-in-None c =
    let es = c.self.inside.entries.items in
    let table = c.args.table.now in
    let choice = c.args.choice in
    let name = c.args.name.now in
    let is_child = λ (r : Row). nat_eq r.parent c.args.dir && bytes_eq r.name name in
    child_nowhere table choice c.args.dir name c.args.at es
    (ap (λ xs. position (λ e. stands_in table choice c.args.dir name (entry_at c.args.at e).places) xs) (sym c.deref.ensures.value) ∙ sym c.first_child.ensures.place ∙ c.in-None.is)
    ∙ ap (λ xs. option_map (λ (r : Row). r.node) (find is_child (rows_in table choice xs)))
    (sym (nodes_are c.args.at (record { from = c.self.inside.from; entries = es; room = 0; noted = [] }) c.self.invariant.1))
    ∙ ap (λ (d : Dated). option_map (λ (r : Row). r.node) (find is_child (rows_in table choice (nodes_at c.args.at d)))) c.self.view_is
