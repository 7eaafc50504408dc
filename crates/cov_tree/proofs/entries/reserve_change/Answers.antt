use Rattle.std.proofs.Common.{◌≡◌, false, Some, map, ap, subst, ◌∙◌}
use Rattle.std.proofs.lemmas.Result.{on_ok_weaker}
use Rattle.cov_base.specs.Rows.{has_node}
use Rattle.cov_tree.specs.Dated.{newest_entry, with_no_room}
use Rattle.cov_tree.specs.Entries.{nodes_of}
use Rattle.cov_tree.specs.Installing.{IsPlaceOf}
use Rattle.cov_tree.proofs.Installing.{none_wanted, room_made, room_same}
use Rattle.cov_tree.proofs.entries.reserve_change.Goals as goal

pub returns-in-Some-clause-same : goal.returns-in-Some-clause-same
returns-in-Some-clause-same c =
    room_same c.args.entries.now.items c.in-Some.at c.index_mut.result.now c.reserve.new.self (c.reserve.ensures.same ∙ ap with_no_room c.index_mut.ensures.value)

pub returns-in-Some-clause-room : goal.returns-in-Some-clause-room
returns-in-Some-clause-room c =
    let here = subst (λ es. IsPlaceOf c.args.node es (Some c.in-Some.at)) c.deref.ensures.value c.in-Some.ensures.place in
    on_ok_weaker c.reserve.result (λ some. room_made c.args.node c.reserve.new.self some c.args.entries.now.items c.in-Some.at c.index_mut.result.now c.requires.once here.0 (here.1 c.index_mut.result.now))
    c.reserve.ensures.room

pub returns-in-None-clause-room : goal.returns-in-None-clause-room
returns-in-None-clause-room c =
    none_wanted c.args.node c.args.entries.now.items (subst (λ es. has_node c.args.node (nodes_of (map newest_entry es)) ≡ false) c.deref.ensures.value c.in-None.ensures.place)
