use Rattle.std.proofs.Common.{◌<◌, ◌&&◌, ◌||◌, length, ap, sym, subst, ◌∙◌}
use Rattle.std.specs.List.{AllByRecursion}
use Rattle.std.proofs.lemmas.List.{length-replicate}
use Rattle.cov_dd.specs.Diagrams.{diagram_size}
use Rattle.cov_dd.proofs.CallerLemmas.{extends_none, extends_trans}
use Rattle.cov_edit.specs.Touched.{has_number}
use Rattle.cov_overtaking.specs.Touches.{have_node_on, touched_in}
use Rattle.cov_overtaking.proofs.Gathering.{rest-known, rest-count, one-more}
use Rattle.cov_overtaking.proofs.Joining.{have-none, known-none}
use Rattle.cov_overtaking.proofs.places.joined.Goals as goal

pub loop-ahead-init : goal.loop-ahead-init
loop-ahead-init c = record {
  extends = extends_none c.args.table.now;
  each = subst (AllByRecursion (λ n. n < diagram_size c.args.table.now)) (sym c.in_ok-each.ensures) (known-none c.args.table.now (length c.args.nodes.now));
  long = ap length c.in_ok-each.ensures ∙ length-replicate (length c.args.nodes.now) 0;
  count = c.requires.count;
  conditions = c.requires.conditions;
  are = λ x choice.
      ap (λ b. b || (has_number x c.args.nodes.now && touched_in c.args.table.now c.args.conditions.now c.args.edits.now x choice))
      (ap (λ ns. have_node_on c.args.table.now c.args.nodes.now ns x choice) c.in_ok-each.ensures ∙ have-none c.args.table.now c.args.nodes.now x choice);
}

pub returns-in_err-join_edit-clause-extends : goal.returns-in_err-join_edit-clause-extends
returns-in_err-join_edit-clause-extends c = extends_trans c.args.table.now c.loop-ahead.table c.join_edit.new.table c.loop-ahead.invariant.extends c.join_edit.ensures.extends

pub loop-ahead-preserved : goal.loop-ahead-preserved
loop-ahead-preserved c =
    let i = c.loop-ahead.invariant in
    record {
      extends = extends_trans c.args.table.now c.loop-ahead.table c.join_edit.new.table i.extends c.join_edit.ensures.extends;
      each = c.in_ok-join_edit.ensures.each;
      long = c.in_ok-join_edit.ensures.long;
      count = rest-count c.args.table.now c.loop-ahead.table i.extends c.edit-item.result c.edit-item.result c.loop-ahead.ahead.now c.loop-ahead.within.now c.edit-item.is c.in-len1-up.len_at_least c.in-len1-up-within.len_at_least i.conditions i.count;
      conditions = rest-known c.args.table.now c.loop-ahead.table i.extends c.edit-item.result c.edit-item.result c.loop-ahead.ahead.now c.loop-ahead.within.now c.edit-item.is c.in-len1-up.len_at_least c.in-len1-up-within.len_at_least i.conditions;
      are = λ x choice.
          one-more c.args.table.now c.loop-ahead.table i.extends c.edit-item.result c.edit-item.result c.loop-ahead.ahead.now c.loop-ahead.within.now c.edit-item.is c.in-len1-up.len_at_least c.in-len1-up-within.len_at_least i.conditions
          _ (has_number x c.args.nodes.now) x choice (have_node_on c.loop-ahead.table c.args.nodes.now c.loop-ahead.each x choice) (have_node_on c.join_edit.new.table c.args.nodes.now c.join_edit.new.each x choice)
          (i.are x choice) (c.in_ok-join_edit.ensures.are x choice);
    }
