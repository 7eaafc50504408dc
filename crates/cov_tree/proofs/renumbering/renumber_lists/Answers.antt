use Rattle.std.proofs.Common.{◌≡◌, ◌≤◌, ◌<◌, ◌+◌, ◌-◌, ◌∙◌, ap, sym, subst, [], drop, length, reverse, arith, ℕ, List}
use Rattle.std.proofs.lemmas.List.{drop-drop, length-reverse}
use Rattle.cov_tree.specs.declared.entry.Place.{Place}
use Rattle.cov_tree.specs.Renumbered.{list_visibilities, list_without_vis, Gets}
use Rattle.cov_tree.proofs.Numbering.{gets-all, gets-count, gets-here, gets-long, gets-room, gets-step}
use Rattle.cov_tree.proofs.renumbering.renumber_lists.Goals as goal

pub renumber_list-next-requires-clause-room : goal.renumber_list-next-requires-clause-room
renumber_list-next-requires-clause-room c =
    let xs = reverse c.args.older.now.lists in
    let now = reverse c.loop-index.older.lists in
    let ns = drop c.args.first c.args.from.now in
    let i = c.loop-index.index in
    let v = c.loop-index.invariant in
    let long = gets-long list_visibilities list_without_vis xs now ns i (c.loop-index.next - c.args.first) v.gets v.within in
    let h : i < length xs = omega (arith, c.loop-index-test.true, ap length c.as_slice.ensures, length-reverse c.as_slice.result.now, length-reverse c.loop-index.older.lists, long) in
    let here = gets-here list_visibilities list_without_vis xs now ns i (c.loop-index.next - c.args.first) v.gets (0, []) h in
    omega (arith, c.requires, v.first, v.gets.counted, ap (λ l. length (list_visibilities l)) here, gets-room list_visibilities list_without_vis xs i (0, []) h)

pub loop-index-preserved : goal.loop-index-preserved
loop-index-preserved c =
    let xs = reverse c.args.older.now.lists in
    let now = reverse c.loop-index.older.lists in
    let ns = drop c.args.first c.args.from.now in
    let i = c.loop-index.index in
    let v = c.loop-index.invariant in
    let count = c.loop-index.next - c.args.first in
    let long = gets-long list_visibilities list_without_vis xs now ns i count v.gets v.within in
    let h : i < length xs = omega (arith, c.loop-index-test.true, ap length c.as_slice.ensures, length-reverse c.as_slice.result.now, length-reverse c.loop-index.older.lists, long) in
    let here = gets-here list_visibilities list_without_vis xs now ns i count v.gets (0, []) h in
    let g = c.renumber_list-next.ensures.list in
    let at : c.loop-index.next ≡ c.args.first + count = omega (arith, v.first) in
    let dropped : drop c.loop-index.next c.args.from.now ≡ drop count ns = ap (λ k. drop k c.args.from.now) at ∙ sym (drop-drop count c.args.first c.args.from.now) in
    record {
      within = omega (arith, h);
      first = omega (arith, v.first, c.renumber_list-next.ensures.next);
      gets = gets-step list_visibilities list_without_vis xs now ns i count v.gets (0, []) h g.list _ _ (omega arith)
          (omega (arith, v.first, c.renumber_list-next.ensures.next, ap (λ l. length (list_visibilities l)) here))
          (subst (λ (q : (ℕ × List Place) × List ℕ). Gets list_visibilities list_without_vis q.0 g.list q.1) (λ j. (here j, dropped j)) g.gets)
          (reverse c.renumber_list-next.new.older.lists) g.is;
      room = c.renumber_list-next.ensures.room ∙ v.room;
    }

pub returns-clause-next : goal.returns-clause-next
returns-clause-next c =
    let xs = reverse c.args.older.now.lists in
    let now = reverse c.loop-index.older.lists in
    let ns = drop c.args.first c.args.from.now in
    let v = c.loop-index.invariant in
    let count = c.loop-index.next - c.args.first in
    let long = gets-long list_visibilities list_without_vis xs now ns c.loop-index.index count v.gets v.within in
    let e : length xs ≤ c.loop-index.index = omega (arith, c.loop-index-test.false, ap length c.as_slice.ensures, length-reverse c.as_slice.result.now, length-reverse c.loop-index.older.lists, long) in
    omega (arith, v.first, gets-count list_visibilities list_without_vis xs now ns c.loop-index.index count v.gets e)

pub returns-clause-lists : goal.returns-clause-lists
returns-clause-lists c =
    let xs = reverse c.args.older.now.lists in
    let now = reverse c.loop-index.older.lists in
    let ns = drop c.args.first c.args.from.now in
    let v = c.loop-index.invariant in
    let count = c.loop-index.next - c.args.first in
    let long = gets-long list_visibilities list_without_vis xs now ns c.loop-index.index count v.gets v.within in
    let e : length xs ≤ c.loop-index.index = omega (arith, c.loop-index-test.false, ap length c.as_slice.ensures, length-reverse c.as_slice.result.now, length-reverse c.loop-index.older.lists, long) in
    gets-all list_visibilities list_without_vis xs now ns c.loop-index.index count v.gets e
