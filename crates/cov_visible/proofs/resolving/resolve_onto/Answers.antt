use Rattle.std.proofs.Common.{ℕ, ◌++◌, get_or, refl, sym, ap, subst}
use Rattle.cov_dd.proofs.CallerLemmas.{extends_none, extends_trans}
use Rattle.cov_visible.specs.Nodes.{IsTaken}
use Rattle.cov_visible.specs.Resolved.{AreOfTable, HaveNumbers, AreResolvedWith}
use Rattle.cov_visible.proofs.Resolved.{nodes-later, numbers-first, numbers-rest, of_table-later, one-grown, resolved-push, resolved-end, rest-length}
use Rattle.cov_edit.proofs.CallerLemmas.{all-rest, opened, rest_of}
use Rattle.cov_visible.proofs.resolving.resolve_onto.Goals as goal

pub loop-ahead-init : goal.loop-ahead-init
loop-ahead-init c = record {
  extends = extends_none c.args.table.now;
  nodes = c.requires.nodes;
  inserted = c.requires.inserted;
  each = c.requires.each;
  conditions = c.requires.conditions;
  near = c.requires.near;
  low = c.requires.low;
  few = c.requires.few;
  resolved = λ us x start ss h. subst (AreResolvedWith c.args.inserted.now c.args.context.now c.args.files.now us c.args.conditions.now c.args.edits.now) (sym (ap (λ l. l ++ ss) start)) h;
}

pub resolve_edit-requires-clause-few : goal.resolve_edit-requires-clause-few
resolve_edit-requires-clause-few c =
    numbers-first c.loop-ahead.made c.edit-item.result (rest_of c.loop-ahead.ahead.now)
    (subst (HaveNumbers c.loop-ahead.made) (opened c.edit-item.result c.edit-item.result c.loop-ahead.ahead.now c.edit-item.is c.in-len1-up.len_at_least) c.loop-ahead.invariant.few)

pub loop-ahead-preserved : goal.loop-ahead-preserved
loop-ahead-preserved c =
    let i = c.loop-ahead.invariant in
    let k = c.args.context.now in
    let files = c.args.files.now in
    let x = c.resolve_edit.ensures.extends in
    let parts = opened c.edit-item.result c.edit-item.result c.loop-ahead.ahead.now c.edit-item.is c.in-len1-up.len_at_least in
    let on : ℕ = get_or c.loop-ahead.behind.now 0 0 in
    let nodes_parts = opened on 0 c.loop-ahead.behind.now refl c.in-len1-up-behind.len_at_least in
    let nodes = nodes-later c.loop-ahead.table c.resolve_edit.new.table k.at files x i.nodes in
    let inserted = of_table-later c.loop-ahead.table c.resolve_edit.new.table c.args.inserted.now x i.inserted in
    let conditions = of_table-later c.loop-ahead.table c.resolve_edit.new.table c.loop-ahead.behind.now x i.conditions in
    record {
      extends = extends_trans c.args.table.now c.loop-ahead.table c.resolve_edit.new.table i.extends x;
      nodes = nodes;
      inserted = inserted;
      each = rest-length c.edit-item.result on c.loop-ahead.ahead.now c.loop-ahead.behind.now parts nodes_parts i.each;
      conditions = all-rest _ c.loop-ahead.behind.now conditions;
      near = all-rest _ c.loop-ahead.ahead.now i.near;
      low = all-rest _ c.loop-ahead.ahead.now i.low;
      few = numbers-rest c.loop-ahead.made c.resolve_edit.new.made c.edit-item.result (rest_of c.loop-ahead.ahead.now) c.in_ok-next.ensures.made (subst (HaveNumbers c.loop-ahead.made) parts i.few);
      resolved = λ us y start ss h.
          resolved-push (IsTaken us k.at files k.lines c.args.inserted.now) k.nodes k.lines on c.loop-ahead.behind.now
          c.loop-ahead.made c.resolve_edit.new.made c.edit-item.result c.in_ok-next.next (AreResolvedWith c.args.inserted.now k files us c.args.conditions.now c.args.edits.now)
          c.loop-ahead.ahead.now c.loop-ahead.resolved.items c.push.new.self.items ss parts nodes_parts c.in_ok-next.ensures.made c.in_ok-push.ensures.items
          (one-grown k.at files c.args.inserted.now c.resolve_edit.new.table us y nodes inserted k.nodes k.lines on c.loop-ahead.made.nodes c.loop-ahead.made.lines c.edit-item.result c.in_ok-next.next
          (subst (AreOfTable c.resolve_edit.new.table) nodes_parts conditions).0 c.in_ok-next.ensures.resolved)
          h (i.resolved us (extends_trans c.loop-ahead.table c.resolve_edit.new.table us x y) start);
    }

pub returns-in_err-next-clause-extends : goal.returns-in_err-next-clause-extends
returns-in_err-next-clause-extends c = extends_trans c.args.table.now c.loop-ahead.table c.resolve_edit.new.table c.loop-ahead.invariant.extends c.resolve_edit.ensures.extends

pub returns-in_err-push-clause-extends : goal.returns-in_err-push-clause-extends
returns-in_err-push-clause-extends c = extends_trans c.args.table.now c.loop-ahead.table c.resolve_edit.new.table c.loop-ahead.invariant.extends c.resolve_edit.ensures.extends

pub returns-clause-resolved : goal.returns-clause-resolved
returns-clause-resolved c = λ start.
    let k = c.args.context.now in
    resolved-end (IsTaken c.loop-ahead.table k.at c.args.files.now k.lines c.args.inserted.now) k.nodes k.lines c.loop-ahead.behind.now
    c.loop-ahead.made.nodes c.loop-ahead.made.lines (AreResolvedWith c.args.inserted.now k c.args.files.now c.loop-ahead.table c.args.conditions.now c.args.edits.now)
    c.loop-ahead.ahead.now c.loop-ahead.resolved.items c.in_default.len_below
    (c.loop-ahead.invariant.resolved c.loop-ahead.table (extends_none c.loop-ahead.table) start)
