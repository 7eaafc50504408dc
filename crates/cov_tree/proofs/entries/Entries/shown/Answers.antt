use Rattle.std.proofs.Common.{◌∙◌, sym, subst}
use Rattle.std.proofs.lemmas.Result.{IfOk-weaker}
use Rattle.cov_base.specs.Rows.{AreOnce}
use Rattle.cov_tree.proofs.Shown.{rows_there}
use Rattle.cov_tree.proofs.entries.Entries.shown.Goals as goal

pub tree_on-requires : goal.tree_on-requires
tree_on-requires c = record {
  once = subst AreOnce (sym (rows_there c.args.table.now c.args.choice c.args.at c.as_slice.result.now _ c.args.self.now c.as_slice.ensures.value c.self.view_is c.self.invariant.1)) c.requires.once;
}

pub returns : goal.returns
returns c =
    IfOk-weaker c.tree_on.result _ _
    (λ tree is. is ∙ rows_there c.args.table.now c.args.choice c.args.at c.as_slice.result.now _ c.args.self.now c.as_slice.ensures.value c.self.view_is c.self.invariant.1)
    c.tree_on.ensures
