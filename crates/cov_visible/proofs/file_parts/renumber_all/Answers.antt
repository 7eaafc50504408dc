use Rattle.std.proofs.Common.{◌≡◌, ◌≤◌, ◌<◌, ◌+◌, ◌-◌, ◌∙◌, ap, sym, refl, subst, drop, length, arith, ℕ, List}
use Rattle.std.proofs.lemmas.List.{drop-drop}
use Rattle.cov_tree.specs.Renumbered.{Gets}
use Rattle.cov_tree.proofs.CallerLemmas.{gets-all, gets-count, gets-here, gets-long, gets-room, gets-step}
use Rattle.cov_visible.specs.Parts.{part_node}
use Rattle.cov_visible.specs.Renumbered.{kept_nodes, IsRenumberedPart}
use Rattle.cov_visible.specs.declared.file_part.FilePart.{FilePart}
use Rattle.cov_visible.proofs.Renumbering.{zip-all, zip-step}
use Rattle.cov_visible.proofs.file_parts.renumber_all.Goals as goal

pub renumber-next-requires : goal.renumber-next-requires
renumber-next-requires c =
    let xs = c.args.parts.now.items in
    let now = c.loop-index.parts.items in
    let ns = drop c.args.first c.args.from.now in
    let i = c.loop-index.index in
    let v = c.loop-index.invariant in
    let x = c.index_mut.result.now in
    let h : i < length xs = omega (arith, c.loop-index-test.true, c.len.ensures, c.loop-index.parts.ok.0, gets-long kept_nodes part_node xs now ns i (c.loop-index.next - c.args.first) v.gets v.within) in
    let here = c.index_mut.ensures.value ∙ gets-here kept_nodes part_node xs now ns i (c.loop-index.next - c.args.first) v.gets x h in
    omega (arith, c.requires, v.first, v.gets.counted, ap (λ (e : FilePart). length (kept_nodes e)) here, gets-room kept_nodes part_node xs i x h)

pub loop-index-preserved : goal.loop-index-preserved
loop-index-preserved c =
    let xs = c.args.parts.now.items in
    let now = c.loop-index.parts.items in
    let ns = drop c.args.first c.args.from.now in
    let i = c.loop-index.index in
    let v = c.loop-index.invariant in
    let count = c.loop-index.next - c.args.first in
    let x = c.index_mut.result.now in
    let long = gets-long kept_nodes part_node xs now ns i count v.gets v.within in
    let h : i < length xs = omega (arith, c.loop-index-test.true, c.len.ensures, c.loop-index.parts.ok.0, long) in
    let here = c.index_mut.ensures.value ∙ gets-here kept_nodes part_node xs now ns i count v.gets x h in
    let at : c.loop-index.next ≡ c.args.first + count = omega (arith, v.first) in
    let dropped : drop c.loop-index.next c.args.from.now ≡ drop count ns = ap (λ k. drop k c.args.from.now) at ∙ sym (drop-drop count c.args.first c.args.from.now) in
    let part = subst (λ (e : FilePart). IsRenumberedPart e c.renumber-next.new.self) here c.renumber-next.ensures.part in
    record {
      within = omega (arith, h);
      first = omega (arith, v.first, c.renumber-next.ensures.next);
      gets = gets-step kept_nodes part_node xs now ns i count v.gets x h c.renumber-next.new.self _ _ (omega arith)
          (omega (arith, v.first, c.renumber-next.ensures.next, ap (λ (e : FilePart). length (kept_nodes e)) here))
          (subst (λ (q : FilePart × List ℕ). Gets kept_nodes part_node q.0 c.renumber-next.new.self q.1) (λ j. (here j, dropped j))
          (record { got = c.renumber-next.ensures.nodes; same = c.renumber-next.ensures.part.node }))
          _ refl;
      parts = zip-step xs now i _ x c.renumber-next.new.self (omega arith) h long v.parts part;
    }

pub returns-clause-next : goal.returns-clause-next
returns-clause-next c =
    let xs = c.args.parts.now.items in
    let now = c.loop-index.parts.items in
    let ns = drop c.args.first c.args.from.now in
    let v = c.loop-index.invariant in
    let count = c.loop-index.next - c.args.first in
    let e : length xs ≤ c.loop-index.index = omega (arith, c.loop-index-test.false, c.len.ensures, c.loop-index.parts.ok.0, gets-long kept_nodes part_node xs now ns c.loop-index.index count v.gets v.within) in
    omega (arith, v.first, gets-count kept_nodes part_node xs now ns c.loop-index.index count v.gets e)

pub returns-clause-nodes : goal.returns-clause-nodes
returns-clause-nodes c =
    let xs = c.args.parts.now.items in
    let now = c.loop-index.parts.items in
    let ns = drop c.args.first c.args.from.now in
    let v = c.loop-index.invariant in
    let count = c.loop-index.next - c.args.first in
    let e : length xs ≤ c.loop-index.index = omega (arith, c.loop-index-test.false, c.len.ensures, c.loop-index.parts.ok.0, gets-long kept_nodes part_node xs now ns c.loop-index.index count v.gets v.within) in
    (gets-all kept_nodes part_node xs now ns c.loop-index.index count v.gets e).got

pub returns-clause-parts : goal.returns-clause-parts
returns-clause-parts c =
    let xs = c.args.parts.now.items in
    let now = c.loop-index.parts.items in
    let ns = drop c.args.first c.args.from.now in
    let v = c.loop-index.invariant in
    let count = c.loop-index.next - c.args.first in
    let long = gets-long kept_nodes part_node xs now ns c.loop-index.index count v.gets v.within in
    let e : length xs ≤ c.loop-index.index = omega (arith, c.loop-index-test.false, c.len.ensures, c.loop-index.parts.ok.0, long) in
    zip-all xs now c.loop-index.index e long v.parts
