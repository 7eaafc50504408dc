use Rattle.std.proofs.Common.{◌≡◌, ℕ, List, None, sym, ap, subst, ◌∙◌}
use Rattle.cov_base.specs.Faults.{fault_of}
use Rattle.cov_edit.specs.Numbering.{Numbers}
use Rattle.cov_edit.specs.Variant.{Variant}
use Rattle.cov_view.specs.Seen.{Seen, AreRows}
use Rattle.cov_view.specs.SeenTree.{tree_in, AreNamed}
use Rattle.cov_view.specs.Tree.{tree_of, IsTreeOf}
use Rattle.cov_view.specs.Views.{Shows}
use Rattle.cov_view.proofs.Finding.{if-ok, ok}
use Rattle.cov_view.proofs.Treeing.{tree_shown, whole-shown}
use Rattle.cov_view.proofs.view.View.tree.Goals as goal

pub returns-clause-shown : goal.returns-clause-shown
returns-clause-shown c =
    let s = c.args.self.now in
    if-ok c.tree.result (λ tree. tree ≡ tree_in c.self.inside.rows)
    (λ tree. (ns : Numbers) (table : List (List ℕ)) (v : Variant) → Shows ns table s v → tree ≡ tree_of v) c.tree.ensures.tree
    (λ tree is ns table v shows. is ∙ ap (λ (t : Seen). tree_in t.rows) c.self.view_is ∙ tree_shown ns table s v shows)

pub returns-clause-whole : goal.returns-clause-whole
returns-clause-whole c =
    let s = c.args.self.now in
    ok c.tree.result (AreNamed c.self.inside.rows) (λ tree. tree ≡ tree_in c.self.inside.rows)
    (λ tree. (ns : Numbers) (table : List (List ℕ)) (v : Variant) → Shows ns table s v → fault_of v.rows ≡ None → IsTreeOf v tree)
    c.tree.ensures.named c.tree.ensures.tree
    (λ tree named is ns table v shows sound.
    subst (IsTreeOf v) (sym (is ∙ ap (λ (t : Seen). tree_in t.rows) c.self.view_is))
    (whole-shown ns table s v shows (subst (λ (t : Seen). AreRows t.nodes_made t.rows) c.self.view_is c.self.invariant)
    (subst (λ (t : Seen). AreNamed t.rows) c.self.view_is named) sound))
