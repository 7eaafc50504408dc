use Rattle.std.proofs.Common.{◌≡◌, ◌≤◌, ◌<◌, ◌+◌, ◌-◌, ◌∙◌, ap, sym, refl, subst, drop, length, arith, ℕ, List}
use Rattle.std.proofs.lemmas.List.{drop-drop}
use Rattle.cov_tree.specs.declared.dated.DatedEntry.{DatedEntry}
use Rattle.cov_tree.specs.Renumbered.{entry_visibilities, entry_without_vis, Gets}
use Rattle.cov_tree.proofs.Numbering.{gets-all, gets-count, gets-here, gets-long, gets-room, gets-step}
use Rattle.cov_tree.proofs.entries.renumbering.renumber_all.Goals as goal

pub renumber-next-requires : goal.renumber-next-requires
renumber-next-requires c =
    let xs = c.args.entries.now.items in
    let now = c.loop-index.entries.items in
    let ns = drop c.args.first c.args.from.now in
    let i = c.loop-index.index in
    let v = c.loop-index.invariant in
    let x = c.index_mut.result.now in
    let h : i < length xs = omega (arith, c.loop-index-test.true, c.len.ensures, c.loop-index.entries.ok.0, gets-long entry_visibilities entry_without_vis xs now ns i (c.loop-index.next - c.args.first) v.gets v.within) in
    let here = c.index_mut.ensures.value ∙ gets-here entry_visibilities entry_without_vis xs now ns i (c.loop-index.next - c.args.first) v.gets x h in
    omega (arith, c.requires, v.first, v.gets.counted, ap (λ (e : DatedEntry). length (entry_visibilities e)) here, gets-room entry_visibilities entry_without_vis xs i x h)

pub loop-index-preserved : goal.loop-index-preserved
loop-index-preserved c =
    let xs = c.args.entries.now.items in
    let now = c.loop-index.entries.items in
    let ns = drop c.args.first c.args.from.now in
    let i = c.loop-index.index in
    let v = c.loop-index.invariant in
    let count = c.loop-index.next - c.args.first in
    let x = c.index_mut.result.now in
    let h : i < length xs = omega (arith, c.loop-index-test.true, c.len.ensures, c.loop-index.entries.ok.0, gets-long entry_visibilities entry_without_vis xs now ns i count v.gets v.within) in
    let here = c.index_mut.ensures.value ∙ gets-here entry_visibilities entry_without_vis xs now ns i count v.gets x h in
    let at : c.loop-index.next ≡ c.args.first + count = omega (arith, v.first) in
    let dropped : drop c.loop-index.next c.args.from.now ≡ drop count ns = ap (λ k. drop k c.args.from.now) at ∙ sym (drop-drop count c.args.first c.args.from.now) in
    record {
      within = omega (arith, h);
      first = omega (arith, v.first, c.renumber-next.ensures.next);
      gets = gets-step entry_visibilities entry_without_vis xs now ns i count v.gets x h c.renumber-next.new.self _ _ (omega arith)
          (omega (arith, v.first, c.renumber-next.ensures.next, ap (λ (e : DatedEntry). length (entry_visibilities e)) here))
          (subst (λ (q : DatedEntry × List ℕ). Gets entry_visibilities entry_without_vis q.0 c.renumber-next.new.self q.1) (λ j. (here j, dropped j)) c.renumber-next.ensures.entry)
          _ refl;
      capacity = v.capacity;
      len = v.len;
    }

pub returns-clause-next : goal.returns-clause-next
returns-clause-next c =
    let xs = c.args.entries.now.items in
    let now = c.loop-index.entries.items in
    let ns = drop c.args.first c.args.from.now in
    let v = c.loop-index.invariant in
    let count = c.loop-index.next - c.args.first in
    let e : length xs ≤ c.loop-index.index = omega (arith, c.loop-index-test.false, c.len.ensures, c.loop-index.entries.ok.0, gets-long entry_visibilities entry_without_vis xs now ns c.loop-index.index count v.gets v.within) in
    omega (arith, v.first, gets-count entry_visibilities entry_without_vis xs now ns c.loop-index.index count v.gets e)

pub returns-clause-entries : goal.returns-clause-entries
returns-clause-entries c =
    let xs = c.args.entries.now.items in
    let now = c.loop-index.entries.items in
    let ns = drop c.args.first c.args.from.now in
    let v = c.loop-index.invariant in
    let count = c.loop-index.next - c.args.first in
    let e : length xs ≤ c.loop-index.index = omega (arith, c.loop-index-test.false, c.len.ensures, c.loop-index.entries.ok.0, gets-long entry_visibilities entry_without_vis xs now ns c.loop-index.index count v.gets v.within) in
    gets-all entry_visibilities entry_without_vis xs now ns c.loop-index.index count v.gets e
