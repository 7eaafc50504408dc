use Rattle.std.proofs.Common.{[], ◌∷◌, subst}
use Rattle.cov_tree.specs.Dated.{nodes_with}
use Rattle.cov_visible.specs.RowPlans.{row_changes, AreWithin, MakeNewNodes}
use Rattle.cov_visible.proofs.row_planning.plan_row.Goals as goal

pub created-requires-clause-fresh : goal.created-requires-clause-fresh
created-requires-clause-fresh c = (subst (λ s. MakeNewNodes (nodes_with c.args.plan.now c.args.entries.now) (row_changes (s ∷ []))) c.in-New.is c.requires.new).0

pub created-requires-clause-may : goal.created-requires-clause-may
created-requires-clause-may c = record {
  within = c.requires.within;
  once = c.requires.once;
  ambition = (subst (λ s. AreWithin c.args.table.now (row_changes (s ∷ []))) c.in-New.is c.requires.on).0;
}

pub renamed-requires : goal.renamed-requires
renamed-requires c = record {
  may = record {
    within = c.requires.within;
    once = c.requires.once;
    ambition = (subst (λ s. AreWithin c.args.table.now (row_changes (s ∷ []))) c.in-Rename.is c.requires.on).0;
  };
}

pub moved-requires : goal.moved-requires
moved-requires c = record {
  may = record {
    within = c.requires.within;
    once = c.requires.once;
    ambition = (subst (λ s. AreWithin c.args.table.now (row_changes (s ∷ []))) c.in-Move.is c.requires.on).0;
  };
}

pub removed-requires : goal.removed-requires
removed-requires c = record {
  may = record {
    within = c.requires.within;
    once = c.requires.once;
    ambition = (subst (λ s. AreWithin c.args.table.now (row_changes (s ∷ []))) c.in-Remove.is c.requires.on).0;
  };
}
