use Rattle.std.proofs.Common.{◌≡◌, ◌∙◌, ◌<◌, Some, length, slice_get, slice_index, sym, arith}
use Rattle.cov_dd.proofs.Keeping.{mapped-within, mapped-more, mapped-all}
use Rattle.cov_dd.proofs.table.sweeping.renumber.Goals as goal

there : (c : goal.After-set) → slice_get c.loop-node.nodes c.loop-node.index ≡ Some c.in-Some.node
there c = sym c.get.ensures ∙ c.in-Some.is

within : (c : goal.After-set) → c.loop-node.index < length c.args.nodes.now
within c =
    let i = c.loop-node.invariant in
    mapped-within (slice_index c.args.numbers.now) c.args.nodes.now c.loop-node.nodes c.loop-node.index i.within i.mapped c.in-Some.node (there c)

pub overflow_add-index : goal.overflow_add-index
overflow_add-index c = let lt = within c in omega (arith, lt, c.loop-node.invariant.short)

pub loop-node-smaller : goal.loop-node-smaller
loop-node-smaller c = let lt = within c in omega (arith, lt)

pub loop-node-preserved : goal.loop-node-preserved
loop-node-preserved c =
    let i = c.loop-node.invariant in
    let lt = within c in
    record {
      within = omega (arith, lt);
      mapped = c.set.ensures ∙ mapped-more (slice_index c.args.numbers.now) c.args.nodes.now c.loop-node.nodes c.loop-node.index i.within i.mapped c.in-Some.node (there c);
      short = i.short;
    }

pub returns : goal.returns
returns c =
    let i = c.loop-node.invariant in
    mapped-all (slice_index c.args.numbers.now) c.args.nodes.now c.loop-node.nodes c.loop-node.index i.within i.mapped (sym c.get.ensures ∙ c.in_default.is)
