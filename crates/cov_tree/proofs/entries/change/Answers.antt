use Rattle.std.proofs.Common.{◌≡◌, ◌<◌, false, Some, map, ap, sym, subst, ◌∙◌}
use Rattle.cov_base.specs.Rows.{has_node}
use Rattle.cov_tree.specs.declared.dated.DatedEntry.{DatedEntry}
use Rattle.cov_tree.specs.Dated.{newest_entry}
use Rattle.cov_tree.specs.Entries.{nodes_of}
use Rattle.cov_tree.specs.Installing.{IsPlaceOf, IsChanged}
use Rattle.cov_tree.proofs.Indexing.{index_set}
use Rattle.cov_tree.proofs.Installing.{put_changed, room_at, room_before, room_beside, set_changed}
use Rattle.cov_tree.proofs.entries.change.Goals as goal

pub set-requires : goal.set-requires
set-requires c =
    let here = subst (λ es. IsPlaceOf c.args.entry.node es (Some c.in-Some.place)) c.deref.ensures.value c.in-Some.ensures.place in
    record {
      room = subst (λ (e : DatedEntry). 0 < e.older.room) (sym c.index_mut.ensures.value)
          (room_at c.args.entry.node c.args.entries.now.items c.in-Some.place c.index_mut.result.now here.0 (here.1 c.index_mut.result.now) c.requires.room);
    }

pub returns-in-Some-clause-changed : goal.returns-in-Some-clause-changed
returns-in-Some-clause-changed c =
    let here = subst (λ es. IsPlaceOf c.args.entry.node es (Some c.in-Some.place)) c.deref.ensures.value c.in-Some.ensures.place in
    set_changed c.args.at c.args.entry c.set.new.self c.args.entries.now.items c.in-Some.place c.index_mut.result.now c.requires.once here.0 (here.1 c.index_mut.result.now)
    (subst (λ e. IsChanged c.args.at c.args.entry.places e c.set.new.self) c.index_mut.ensures.value c.set.ensures)

pub returns-in-Some-clause-indexed : goal.returns-in-Some-clause-indexed
returns-in-Some-clause-indexed c =
    index_set c.args.index.now.entries c.args.entries.now.items c.in-Some.place c.index_mut.result.now c.set.new.self (c.set.ensures.node ∙ ap (λ (e : DatedEntry). e.node) c.index_mut.ensures.value)
    c.requires.indexed

pub returns-in-Some-clause-kept : goal.returns-in-Some-clause-kept
returns-in-Some-clause-kept c =
    let here = subst (λ es. IsPlaceOf c.args.entry.node es (Some c.in-Some.place)) c.deref.ensures.value c.in-Some.ensures.place in
    room_beside c.args.at c.args.entry c.set.new.self c.args.entries.now.items c.in-Some.place c.index_mut.result.now (here.1 c.index_mut.result.now)
    (subst (λ e. IsChanged c.args.at c.args.entry.places e c.set.new.self) c.index_mut.ensures.value c.set.ensures)

pub returns-in-None-clause-changed : goal.returns-in-None-clause-changed
returns-in-None-clause-changed c =
    put_changed c.args.at c.args.entry c.args.entries.now.items c.put.new.entries.items
    (subst (λ es. has_node c.args.entry.node (nodes_of (map newest_entry es)) ≡ false) c.deref.ensures.value c.in-None.ensures.place) c.put.ensures.put

pub returns-in-None-clause-kept : goal.returns-in-None-clause-kept
returns-in-None-clause-kept c = room_before c.args.at c.args.entry c.args.entries.now.items c.put.new.entries.items c.put.ensures.put
