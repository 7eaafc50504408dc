use Rattle.std.proofs.Common.{◌≡◌, false, ◌∷◌, ◌++◌, [], ap, sym, subst, ◌∙◌}
use Rattle.std.proofs.lemmas.Bool.{or_parts}
use Rattle.cov_base.specs.Rows.{has_node}
use Rattle.cov_tree.specs.Entries.{nodes_of}
use Rattle.cov_tree.specs.declared.entry.Entry.{Entry}
use Rattle.cov_tree.proofs.Keys.{keys_behind}
use Rattle.cov_tree.proofs.Planned.{distinct_behind}
use Rattle.cov_tree.proofs.plan.EntryPlan.add.Goals as goal

pub invariant_of-self-2 : goal.invariant_of-self-2
invariant_of-self-2 c =
    let entry : Entry = c.args.entry in
    let before = c.self.inside.entries.items in
    let after = c.push_reserved.new.self.items in
    let behind = c.push_reserved.ensures.items ∙ ap (λ es. es ++ entry ∷ []) c.in_ok-reserve.ensures.items in
    let fresh = subst (λ es. has_node entry.node (0 ∷ nodes_of es) ≡ false) (sym c.self.view_is) c.requires.fresh in (
      distinct_behind before after entry c.self.invariant.0 fresh behind,
      c.in_ok-insert.ensures.keys ∙ keys_behind c.self.inside.keys.keys before after entry c.self.invariant.1 (or_parts _ _ fresh).1 behind,
    )
