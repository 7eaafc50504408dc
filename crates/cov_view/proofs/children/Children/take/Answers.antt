use Rattle.std.proofs.Common.{List, ℕ, option_map, sym, ap, subst, ◌∙◌}
use Rattle.cov_view.specs.Keys.{RemovesName}
use Rattle.cov_view.proofs.Directories.{key_found, removes_by}
use Rattle.cov_view.proofs.children.Children.take.Goals as goal

pub returns-in-Some-clause-left : goal.returns-in-Some-clause-left
returns-in-Some-clause-left c =
    let old = c.args.self.now.nodes.entries in
    let new = c.swap_remove_entry.new.self.entries in
    let dir = c.args.row.now.parent in
    subst (λ (name : List ℕ). RemovesName dir name old new) c.as_slice.ensures.bytes
    (removes_by dir c.as_slice.result.now old new c.swap_remove_entry.ensures.updates.1 c.swap_remove_entry.ensures.updates.3)

pub returns-in-Some-clause-name : goal.returns-in-Some-clause-name
returns-in-Some-clause-name c =
    sym (key_found c.args.row.now.parent c.as_slice.result.now c.args.self.now.nodes.entries c.in-Some.key
    (sym c.swap_remove_entry.ensures.key ∙ ap (option_map (λ p. p.0)) c.in-Some.is)).1 ∙ c.as_slice.ensures.bytes
