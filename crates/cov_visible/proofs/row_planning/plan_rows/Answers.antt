use Rattle.std.proofs.Common.{◌++◌, [], ◌∷◌, refl}
use Rattle.cov_dd.proofs.CallerLemmas.{extends_none, extends_trans}
use Rattle.cov_visible.specs.RowPlans.{row_changes}
use Rattle.cov_visible.proofs.RowPlans.{new-first, new-rest, within-first, within-rest, nodes-rest, kinds-rest, changes-rest, also-both, also-none, also-all, nodes-all, kinds-all}
use Rattle.cov_visible.proofs.row_planning.plan_rows.Goals as goal

pub loop-ahead-init : goal.loop-ahead-init
loop-ahead-init c = record {
  extends = extends_none c.args.table.now;
  within = c.requires.within;
  once = c.requires.once;
  new = c.requires.new;
  on = c.requires.on;
  makes = ([], also-none c.args.table.now c.args.entries.now c.args.plan.now, refl);
  kinds = refl;
  nodes = refl;
}

pub plan_row-requires-clause-new : goal.plan_row-requires-clause-new
plan_row-requires-clause-new c = new-first c.edit-item.result c.edit-item.result c.loop-ahead.ahead.now c.edit-item.is c.in-len1-up.len_at_least _ c.loop-ahead.invariant.new

pub plan_row-requires-clause-on : goal.plan_row-requires-clause-on
plan_row-requires-clause-on c = within-first c.edit-item.result c.edit-item.result c.loop-ahead.ahead.now c.edit-item.is c.in-len1-up.len_at_least c.loop-ahead.table c.loop-ahead.invariant.on

pub loop-ahead-preserved : goal.loop-ahead-preserved
loop-ahead-preserved c =
    let i = c.loop-ahead.invariant in
    let s = c.edit-item.result in
    let x = c.plan_row.ensures.extends in
    record {
      extends = extends_trans c.args.table.now c.loop-ahead.table c.plan_row.new.table i.extends x;
      within = c.plan_row.ensures.within;
      once = c.plan_row.ensures.once;
      new = new-rest s s c.loop-ahead.ahead.now c.edit-item.is c.in-len1-up.len_at_least _ _ c.in_ok-plan_row.ensures.nodes i.new;
      on = within-rest s s c.loop-ahead.ahead.now c.edit-item.is c.in-len1-up.len_at_least c.loop-ahead.table c.plan_row.new.table x i.on;
      makes = (
        i.makes.0 ++ row_changes (s ∷ []),
        also-both c.args.table.now c.loop-ahead.table c.plan_row.new.table c.args.entries.now c.args.plan.now c.loop-ahead.plan c.plan_row.new.plan i.makes.0 (row_changes (s ∷ [])) i.makes.1 c.in_ok-plan_row.ensures.makes,
        changes-rest s s c.loop-ahead.ahead.now c.edit-item.is c.in-len1-up.len_at_least i.makes.0 _ i.makes.2,
      );
      kinds = kinds-rest s s c.loop-ahead.ahead.now c.edit-item.is c.in-len1-up.len_at_least _ _ _ c.in_ok-plan_row.ensures.kinds i.kinds;
      nodes = nodes-rest s s c.loop-ahead.ahead.now c.edit-item.is c.in-len1-up.len_at_least _ _ _ c.in_ok-plan_row.ensures.nodes i.nodes;
    }

pub returns-in_err-plan_row-clause-extends : goal.returns-in_err-plan_row-clause-extends
returns-in_err-plan_row-clause-extends c = extends_trans c.args.table.now c.loop-ahead.table c.plan_row.new.table c.loop-ahead.invariant.extends c.plan_row.ensures.extends

pub returns-clause-makes : goal.returns-clause-makes
returns-clause-makes c =
    let i = c.loop-ahead.invariant in
    also-all c.args.table.now c.loop-ahead.table c.args.entries.now c.args.plan.now c.loop-ahead.plan c.loop-ahead.ahead.now i.makes.0 _ c.in_default.len_below i.makes.2 i.makes.1

pub returns-clause-nodes : goal.returns-clause-nodes
returns-clause-nodes c = nodes-all c.loop-ahead.ahead.now _ _ c.in_default.len_below c.loop-ahead.invariant.nodes

pub returns-clause-kinds : goal.returns-clause-kinds
returns-clause-kinds c = kinds-all c.loop-ahead.ahead.now _ _ c.in_default.len_below c.loop-ahead.invariant.kinds
