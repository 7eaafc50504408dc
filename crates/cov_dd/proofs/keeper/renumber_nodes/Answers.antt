use Rattle.std.proofs.Common.{◌∙◌, ◌<◌, length, drop, set, get_or-drop, sym, arith}
use Rattle.std.proofs.lemmas.List.{length-drop, length-set}
use Rattle.cov_base.proofs.CallerLemmas.{having-step}
use Rattle.cov_dd.proofs.keeper.renumber_nodes.Goals as goal

pub loop-index-preserved : goal.loop-index-preserved
loop-index-preserved g c =
    let now = c.loop-index.items.items in
    let i = c.loop-index.index in
    let v = c.loop-index.invariant in
    let within : i < length c.args.items.now.items = omega (arith, c.loop-index-test.true, c.len.ensures, c.loop-index.items.ok.0, v.long) in
    record {
      within = omega (arith, within);
      items =
          (λ j. set now i (c.set_node.ensures j))
          ∙ (λ j. set now i (g.T.HasNode.having_node (sym (get_or-drop c.args.first c.args.from.now i 0) j) (c.index_mut.ensures.value j)))
          ∙ having-step g.T.HasNode.having_node c.args.items.now.items now (drop c.args.first c.args.from.now) i _ c.index_mut.result.now within
          (omega (arith, within, c.requires, length-drop c.args.first c.args.from.now)) (omega arith) v.items;
      long = length-set now i _ ∙ v.long;
      capacity = v.capacity;
      len = v.len;
    }
