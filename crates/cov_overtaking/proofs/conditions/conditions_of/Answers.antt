use Rattle.std.proofs.Common.{sym, subst, ◌∙◌}
use Rattle.cov_edit.specs.Sides.{unsided}
use Rattle.cov_overtaking.specs.EditConditions.{HaveConditions}
use Rattle.cov_overtaking.proofs.Filling.{first-all, first-filled, have-conditions, unsided-count}
use Rattle.cov_overtaking.proofs.conditions.conditions_of.Goals as goal

pub fill_runs-requires-clause-all : goal.fill_runs-requires-clause-all
fill_runs-requires-clause-all c =
    first-all c.args.table.now c.args.within _ c.runs-runs.result.now c.fill.new.nodes.items c.requires c.runs-runs.ensures.rise
    (first-filled c.new-nodes.result.items c.fill.new.nodes.items c.args.within _ _ c.new-nodes.ensures.items c.first_place.ensures c.in_ok-fill.ensures)

pub returns-clause-are : goal.returns-clause-are
returns-clause-are c =
    subst (HaveConditions c.args.table.now c.fill_runs.new.table c.args.within c.fill_runs.new.nodes.items) (sym c.runs-runs.ensures.sides)
    (have-conditions c.args.table.now c.fill_runs.new.table c.args.within c.runs-runs.result.now 0 c.fill_runs.new.nodes.items (unsided c.args.edits.now)
    (c.in_ok-fill_runs.ensures.reached ∙ c.len-count.ensures ∙ sym (unsided-count c.args.edits.now)) c.in_ok-fill_runs.ensures.all)
