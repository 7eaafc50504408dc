use Rattle.std.proofs.Common.{◌≡◌, ◌≤◌, ◌+◌, ◌∙◌, min, nat_eq, cond, position, set, sym, ap, subst, true, true≢false, None, Some, arith}
use Rattle.std.specs.Map.{keys_of}
use Rattle.std.specs.Option.{option_map_or}
use Rattle.indexmap.specs.IndexMap.{spare}
use Rattle.cov_base.proofs.CallerLemmas.{none-placed}
use Rattle.cov_order.specs.Orders.{has_line, AreLines}
use Rattle.cov_file.specs.Dated.{newest_of, with_change, line_numbers_of, AreAlike}
use Rattle.cov_file.specs.Renumbered.{AddsNode}
use Rattle.cov_file.specs.Rooms.{DatedFile, is_room_at}
use Rattle.cov_file.specs.Kept.{dated_lines, changes_at, changes_in, is_at, with_node, position_of, changeable}
use Rattle.cov_file.specs.Sights.{shown_by}
use Rattle.cov_file.proofs.Changing.{numbers, deleted_alike}
use Rattle.cov_file.proofs.Finding.{list_found, same_number}
use Rattle.cov_file.proofs.Rooms.{as_many, room_for, delete_stays, deleted_kept, changeable_stays}
use Rattle.cov_file.proofs.Forward.{sights_alike}
use Rattle.cov_file.proofs.lines.FileLines.delete.Goals as goal
use Rattle.cov_file.proofs.lines.FileLines.delete.Goals.{In-Some}

pub unreachable-requires : goal.unreachable-requires
unreachable-requires c =
    let there = ap (has_line c.args.line) (sym (numbers c.self.inside.texts.entries c.self.inside.changes.lists c.self.inside.order.lines) ∙ ap (λ (f : DatedFile). line_numbers_of f.lines) c.self.view_is) ∙ c.requires.there in
    true≢false (sym there ∙ c.self.invariant.0.keys c.args.line ∙ none-placed (nat_eq c.args.line) (keys_of c.self.inside.texts.entries) (sym c.get_index_of.ensures.index ∙ c.in-None.is))

found_at : (c : In-Some) → position (nat_eq c.args.line) (keys_of c.self.inside.texts.entries) ≡ Some c.in-Some.index
found_at c = sym c.get_index_of.ensures.index ∙ c.in-Some.is

-- there is room at the position
room_there : (c : In-Some) → option_map_or (λ p. nat_eq c.args.at p) (position_of c.self.inside.changes) true ≡ true
room_there c = subst (λ (f : DatedFile). is_room_at c.args.at f.room ≡ true) (sym c.self.view_is) c.requires.position

may_change : (c : In-Some) → has_line c.args.line (changeable c.self.inside.changes (keys_of c.self.inside.texts.entries) c.self.inside.coming.deletes.items c.self.inside.order.lines) ≡ true
may_change c = ap (λ (f : DatedFile). has_line c.args.line f.room.changes) c.self.view_is ∙ c.requires.room

-- the changes at the index are those of the line
changes_are : (c : In-Some) → changes_at c.self.inside.changes.lists c.in-Some.index ≡ changes_in (keys_of c.self.inside.texts.entries) c.self.inside.changes.lists c.args.line
changes_are c = list_found c.args.line (keys_of c.self.inside.texts.entries) c.self.inside.changes.lists c.in-Some.index (found_at c)

pub set-requires-clause-room : goal.set-requires-clause-room
set-requires-clause-room c = λ apart.
    let b = (goal.at.set-requires-clause-room c).In-Some in
    room_for c.self.inside.order.lines c.self.inside.texts.entries c.self.inside.changes c.self.inside.coming.deletes.items c.self.invariant.0 c.args.at (room_there b)
    c.args.line c.args.vis c.in-Some.index (found_at b) (may_change b) (ap (is_at c.args.at) (sym (changes_are b)) ∙ apart)

pub invariant_of-self : goal.invariant_of-self
invariant_of-self c =
    let b = (goal.at.invariant_of-self c).In-Some in (
      deleted_kept c.self.inside.order.lines c.self.inside.texts.entries c.self.inside.changes c.self.inside.coming.deletes.items c.self.invariant.0 c.args.at (room_there b)
          c.args.line c.args.vis c.in-Some.index (found_at b) c.set.new.self
          (c.set.ensures.lists ∙ ap (λ cs. set c.self.inside.changes.lists c.in-Some.index (with_node c.args.at c.args.vis cs)) (changes_are b)) c.set.ensures.newest c.set.ensures.open (may_change b)
          (subst (λ cs. c.self.inside.changes.room ≤ c.set.new.self.room + cond (is_at c.args.at cs) 0 1) (changes_are b) c.set.ensures.room),
      sights_alike (dated_lines c.self.inside.texts.entries c.set.new.self.lists c.self.inside.order.lines)
          (with_change c.args.line c.args.vis c.args.at (dated_lines c.self.inside.texts.entries c.self.inside.changes.lists c.self.inside.order.lines))
          c.change.new.self
          (deleted_alike c.self.inside.order.lines c.self.inside.texts.entries c.self.inside.changes.lists c.self.invariant.0.keys
          (as_many c.self.inside.order.lines c.self.inside.texts.entries c.self.inside.changes c.self.inside.coming.deletes.items c.self.invariant.0 c.args.at (room_there b))
          c.args.at c.args.line c.args.vis c.in-Some.index (found_at b) c.set.new.self.lists
          (c.set.ensures.lists ∙ ap (λ cs. set c.self.inside.changes.lists c.in-Some.index (with_node c.args.at c.args.vis cs)) (changes_are b)))
          (c.change.ensures (shown_by (dated_lines c.self.inside.texts.entries c.self.inside.changes.lists c.self.inside.order.lines))
          (shown_by (with_change c.args.line c.args.vis c.args.at (dated_lines c.self.inside.texts.entries c.self.inside.changes.lists c.self.inside.order.lines)))
          (λ f values rows after brings agrees was. brings f (dated_lines c.self.inside.texts.entries c.self.inside.changes.lists c.self.inside.order.lines) c.args.at agrees (
            ap (λ (f : DatedFile). newest_of c.args.line f.lines) c.self.view_is ∙ sym c.vis-before.ensures.newest,
            subst AreLines (sym (numbers c.self.inside.texts.entries c.self.inside.changes.lists c.self.inside.order.lines)) c.lines_are_once.ensures,
          ) was)
          c.self.invariant.1),
    )

pub returns-clause-lines : goal.returns-clause-lines
returns-clause-lines c =
    let b = (goal.at.returns-clause-lines c).In-Some in
    subst (λ (f : DatedFile). AreAlike (dated_lines c.self.inside.texts.entries c.set.new.self.lists c.self.inside.order.lines) (with_change c.args.line c.args.vis c.args.at f.lines)) c.self.view_is
    (deleted_alike c.self.inside.order.lines c.self.inside.texts.entries c.self.inside.changes.lists c.self.invariant.0.keys
    (as_many c.self.inside.order.lines c.self.inside.texts.entries c.self.inside.changes c.self.inside.coming.deletes.items c.self.invariant.0 c.args.at (room_there b))
    c.args.at c.args.line c.args.vis c.in-Some.index (found_at b) c.set.new.self.lists
    (c.set.ensures.lists ∙ ap (λ cs. set c.self.inside.changes.lists c.in-Some.index (with_node c.args.at c.args.vis cs)) (changes_are b)))

pub returns-clause-numbers : goal.returns-clause-numbers
returns-clause-numbers c =
    numbers c.self.inside.texts.entries c.set.new.self.lists c.self.inside.order.lines
    ∙ sym (numbers c.self.inside.texts.entries c.self.inside.changes.lists c.self.inside.order.lines) ∙ ap (λ (f : DatedFile). line_numbers_of f.lines) c.self.view_is

pub returns-clause-room : goal.returns-clause-room
returns-clause-room c =
    let b = (goal.at.returns-clause-room c).In-Some in
    record {
      inserts = subst (λ (f : DatedFile). f.room.inserts ≤ min c.self.inside.order.spare (min (spare c.self.inside.texts) c.set.new.self.inserts) + 0) c.self.view_is
          (subst (λ n. min c.self.inside.order.spare (min (spare c.self.inside.texts) c.self.inside.changes.inserts) ≤ min c.self.inside.order.spare (min (spare c.self.inside.texts) n) + 0) (sym c.set.ensures.inserts) (omega arith));
      changes = λ line there.
          changeable_stays c.self.inside.changes c.set.new.self (keys_of c.self.inside.texts.entries) (keys_of c.self.inside.texts.entries) c.self.inside.coming.deletes.items c.self.inside.order.lines c.self.inside.order.lines line
          (λ old. old)
          (delete_stays c.self.inside.order.lines c.self.inside.texts.entries c.self.inside.changes c.self.inside.coming.deletes.items c.self.invariant.0 c.args.at (room_there b)
          c.args.line c.args.vis c.in-Some.index (found_at b) c.set.new.self
          (c.set.ensures.lists ∙ ap (λ cs. set c.self.inside.changes.lists c.in-Some.index (with_node c.args.at c.args.vis cs)) (changes_are b)) c.set.ensures.newest c.set.ensures.open line)
          (ap (λ (f : DatedFile). has_line line f.room.changes) c.self.view_is ∙ there);
      position =
          ap (λ b. option_map_or (λ p. nat_eq c.args.at p) (cond b None (Some c.set.new.self.newest)) true) c.set.ensures.open
          ∙ ap (nat_eq c.args.at) c.set.ensures.newest ∙ same_number c.args.at;
    }

pub returns-clause-nodes : goal.returns-clause-nodes
returns-clause-nodes c = subst (λ (f : DatedFile). AddsNode c.args.vis f.nodes c.set.new.self.nodes) c.self.view_is c.set.ensures.nodes
