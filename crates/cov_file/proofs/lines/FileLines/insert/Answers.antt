use Rattle.std.proofs.Common.{◌≡◌, ◌≤◌, ◌+◌, ℕ, List, [], ◌∷◌, ◌++◌, min, ◌∙◌, sym, ap, subst, true, false, cond, nat_eq, None, Some, arith}
use Rattle.std.specs.Map.{keys_of}
use Rattle.std.specs.Option.{option_map_or}
use Rattle.std.proofs.lemmas.Bool.{or_left, or_right}
use Rattle.indexmap.specs.IndexMap.{spare}
use Rattle.cov_base.specs.Addresses.{after_anchor}
use Rattle.cov_order.specs.Orders.{has_line, is_anchor}
use Rattle.cov_file.specs.Dated.{new_line, newest_of, with_line, line_numbers_of, AreAlike}
use Rattle.cov_file.specs.Renumbered.{AddsNode}
use Rattle.cov_file.specs.Rooms.{DatedFile, is_room_at}
use Rattle.cov_file.specs.Kept.{dated_lines, position_of, has_changed}
use Rattle.cov_file.specs.Sights.{shown_by}
use Rattle.cov_file.proofs.Changing.{numbers, has_after, inserted_alike, least_falls}
use Rattle.cov_file.proofs.Finding.{put_last, same_number}
use Rattle.cov_file.proofs.Rooms.{as_many, insert_stays, insert_own, inserted_kept, changeable_stays, changeable_changed}
use Rattle.cov_file.proofs.Forward.{sights_alike}
use Rattle.cov_file.proofs.lines.FileLines.insert.Goals as goal
use Rattle.cov_file.proofs.lines.FileLines.insert.Goals.{After-push}

pub insert_after-requires-clause-anchored : goal.insert_after-requires-clause-anchored
insert_after-requires-clause-anchored c =
    ap (is_anchor c.args.anchor) (sym (numbers c.self.inside.texts.entries c.self.inside.changes.lists c.self.inside.order.lines) ∙ ap (λ (f : DatedFile). line_numbers_of f.lines) c.self.view_is) ∙ c.requires.anchored

pub insert_after-requires-clause-fresh : goal.insert_after-requires-clause-fresh
insert_after-requires-clause-fresh c =
    ap (has_line c.args.line) (sym (numbers c.self.inside.texts.entries c.self.inside.changes.lists c.self.inside.order.lines) ∙ ap (λ (f : DatedFile). line_numbers_of f.lines) c.self.view_is) ∙ c.requires.fresh

new_line_is : (c : After-push) → has_line c.args.line c.self.inside.order.lines ≡ false
new_line_is c =
    ap (has_line c.args.line) (sym (numbers c.self.inside.texts.entries c.self.inside.changes.lists c.self.inside.order.lines) ∙ ap (λ (f : DatedFile). line_numbers_of f.lines) c.self.view_is) ∙ c.requires.fresh

-- there is room at the position
room_there : (c : After-push) → option_map_or (λ p. nat_eq c.args.at p) (position_of c.self.inside.changes) true ≡ true
room_there c = subst (λ (f : DatedFile). is_room_at c.args.at f.room ≡ true) (sym c.self.view_is) c.requires.position

-- the texts with the new one
texts_are : (c : After-push) → c.insert.new.self.entries ≡ c.self.inside.texts.entries ++ (c.args.line, c.args.text) ∷ []
texts_are c = c.in-Ok.ensures.entries ∙ put_last c.self.inside.texts.entries c.args.line c.args.text (sym (c.self.invariant.0.keys c.args.line) ∙ new_line_is c)

-- the lines with the new one
alike_now : (c : After-push) → AreAlike (dated_lines c.insert.new.self.entries c.push.new.self.lists c.insert_after.new.self.lines)
    (with_line c.args.anchor (new_line c.args.line c.args.text c.args.vis c.args.at) (dated_lines c.self.inside.texts.entries c.self.inside.changes.lists c.self.inside.order.lines))
alike_now c =
    inserted_alike c.self.inside.order.lines c.self.inside.texts.entries c.self.inside.changes.lists c.self.invariant.0.keys
    (as_many c.self.inside.order.lines c.self.inside.texts.entries c.self.inside.changes c.self.inside.coming.deletes.items c.self.invariant.0 c.args.at (room_there c))
    c.args.at c.args.line c.args.text c.args.vis (new_line_is c) c.args.anchor
    c.insert_after.new.self.lines c.insert.new.self.entries c.push.new.self.lists c.insert_after.ensures.lines (texts_are c) c.push.ensures.lists

pub invariant_of-self : goal.invariant_of-self
invariant_of-self c = (
  inserted_kept c.self.inside.order.lines c.self.inside.texts.entries c.self.inside.changes c.self.inside.coming.deletes.items c.self.invariant.0 c.args.at (room_there c)
      c.args.line c.args.text c.args.vis (new_line_is c) c.args.anchor c.push.new.self c.push.ensures.lists c.push.ensures.newest c.push.ensures.open
      c.insert_after.new.self.lines c.insert.new.self.entries c.insert_after.ensures.lines (texts_are c) c.push.ensures.room,
  sights_alike (dated_lines c.insert.new.self.entries c.push.new.self.lists c.insert_after.new.self.lines)
      (with_line c.args.anchor (new_line c.args.line c.args.text c.args.vis c.args.at) (dated_lines c.self.inside.texts.entries c.self.inside.changes.lists c.self.inside.order.lines))
      c.change.new.self (alike_now c)
      (c.change.ensures (shown_by (dated_lines c.self.inside.texts.entries c.self.inside.changes.lists c.self.inside.order.lines))
      (shown_by (with_line c.args.anchor (new_line c.args.line c.args.text c.args.vis c.args.at) (dated_lines c.self.inside.texts.entries c.self.inside.changes.lists c.self.inside.order.lines)))
      (λ f values rows after brings agrees was. brings f (dated_lines c.self.inside.texts.entries c.self.inside.changes.lists c.self.inside.order.lines) c.args.at agrees
      (ap (λ (f : DatedFile). newest_of c.args.anchor f.lines) c.self.view_is ∙ sym c.vis-beside.ensures.newest) was)
      c.self.invariant.1),
)

pub returns-clause-lines : goal.returns-clause-lines
returns-clause-lines c =
    subst (λ (f : DatedFile). AreAlike (dated_lines c.insert.new.self.entries c.push.new.self.lists c.insert_after.new.self.lines) (with_line c.args.anchor (new_line c.args.line c.args.text c.args.vis c.args.at) f.lines)) c.self.view_is
    (alike_now c)

has_own : (c : After-push) → has_line c.args.line c.insert_after.new.self.lines ≡ true
has_own c =
    ap (has_line c.args.line) c.insert_after.ensures.lines ∙ has_after c.args.line c.args.anchor c.args.line c.self.inside.order.lines
    ∙ or_left (nat_eq c.args.line c.args.line) (has_line c.args.line c.self.inside.order.lines) (same_number c.args.line)

pub returns-clause-own : goal.returns-clause-own
returns-clause-own c =
    changeable_changed c.push.new.self (keys_of c.insert.new.self.entries) c.self.inside.coming.deletes.items c.insert_after.new.self.lines c.args.line
    (subst (λ (es : List (ℕ × List ℕ)). has_changed c.push.new.self (keys_of es) c.args.line ≡ true) (sym (texts_are c))
    (insert_own c.self.inside.order.lines c.self.inside.texts.entries c.self.inside.changes c.self.inside.coming.deletes.items c.self.invariant.0 c.args.at (room_there c)
    c.args.line c.args.text c.args.vis (new_line_is c) c.args.anchor c.push.new.self c.push.ensures.lists c.push.ensures.newest c.push.ensures.open))
    (has_own c)

pub returns-clause-room : goal.returns-clause-room
returns-clause-room c = record {
  inserts = subst (λ (f : DatedFile). f.room.inserts ≤ min c.insert_after.new.self.spare (min (spare c.insert.new.self) c.push.new.self.inserts) + 1) c.self.view_is
      (least_falls _ _ _ _ _ _ (omega (arith, c.insert_after.ensures.spare)) c.insert.ensures.spare c.push.ensures.inserts);
  changes = λ line there.
      changeable_stays c.self.inside.changes c.push.new.self (keys_of c.self.inside.texts.entries) (keys_of c.insert.new.self.entries) c.self.inside.coming.deletes.items c.self.inside.order.lines c.insert_after.new.self.lines line
      (λ old. ap (has_line line) c.insert_after.ensures.lines ∙ has_after line c.args.anchor c.args.line c.self.inside.order.lines ∙ or_right (nat_eq c.args.line line) (has_line line c.self.inside.order.lines) old)
      (λ changed. subst (λ (es : List (ℕ × List ℕ)). has_changed c.push.new.self (keys_of es) line ≡ true) (sym (texts_are c))
      (insert_stays c.self.inside.order.lines c.self.inside.texts.entries c.self.inside.changes c.self.inside.coming.deletes.items c.self.invariant.0 c.args.at (room_there c)
      c.args.line c.args.text c.args.vis (new_line_is c) c.args.anchor c.push.new.self c.push.ensures.lists c.push.ensures.newest c.push.ensures.open line changed))
      (ap (λ (f : DatedFile). has_line line f.room.changes) c.self.view_is ∙ there);
  position =
      ap (λ b. option_map_or (λ p. nat_eq c.args.at p) (cond b None (Some c.push.new.self.newest)) true) c.push.ensures.open
      ∙ ap (nat_eq c.args.at) c.push.ensures.newest ∙ same_number c.args.at;
}

pub returns-clause-numbers : goal.returns-clause-numbers
returns-clause-numbers c =
    numbers c.insert.new.self.entries c.push.new.self.lists c.insert_after.new.self.lines ∙ c.insert_after.ensures.lines
    ∙ ap (after_anchor c.args.anchor c.args.line)
    (sym (numbers c.self.inside.texts.entries c.self.inside.changes.lists c.self.inside.order.lines) ∙ ap (λ (f : DatedFile). line_numbers_of f.lines) c.self.view_is)

pub returns-clause-nodes : goal.returns-clause-nodes
returns-clause-nodes c = subst (λ (f : DatedFile). AddsNode c.args.vis f.nodes c.push.new.self.nodes) c.self.view_is c.push.ensures.nodes
