use Rattle.std.proofs.Common.{◌≡◌, List, [], ◌∷◌, drop, refl, ◌∙◌, length, sym, ap, subst, arith}
use Rattle.cov_tree.specs.declared.entry.Entry.{Entry}
use Rattle.cov_tree.specs.Installing.{AreChanged}
use Rattle.cov_tree.proofs.Installing.{and_then, first_room, none_changed, rest_distinct, rest_room, still_once}
use Rattle.cov_tree.proofs.entries.change_all.Goals as goal

pub change-requires-clause-spare : goal.change-requires-clause-spare
change-requires-clause-spare c =
    let more : length c.loop-entry.plan.items ≡ length (c.in-Some.entry ∷ c.pop_front.new.self.items) = ap length c.in-Some.ensures.items in
    let room = c.loop-entry.invariant.spare in
    omega (arith, more, room)

pub change-requires-clause-indexed : goal.change-requires-clause-indexed
change-requires-clause-indexed c = c.loop-entry.invariant.indexed

pub change-requires-clause-room : goal.change-requires-clause-room
change-requires-clause-room c =
    first_room c.args.at c.in-Some.entry c.loop-entry.plan.items c.pop_front.new.self.items c.in-Some.ensures.items c.loop-entry.entries.items c.loop-entry.invariant.changed

-- a list without a first has none
none_left : (xs : List Entry) → xs ≡ drop 1 xs → xs ≡ []
none_left [] h = refl
none_left (x ∷ xs) h = absurd (let same = ap length h in omega (arith, same))

pub returns : goal.returns
returns c =
    let now = c.loop-entry.entries.items in
    let plan = c.loop-entry.plan.items in
    record {
      indexed = c.loop-entry.invariant.indexed;
      changed = c.loop-entry.invariant.goes_on now
          (subst (λ xs. AreChanged c.args.at xs now now) (sym (none_left plan (c.in_default.ensures.items ∙ c.in_default.ensures.rest))) (none_changed c.args.at now));
    }

pub loop-entry-preserved : goal.loop-entry-preserved
loop-entry-preserved c =
    let rest = c.pop_front.new.self.items in
    let plan = c.loop-entry.plan.items in
    let entry = c.in-Some.entry in
    let is = c.in-Some.ensures.items in
    let before = c.loop-entry.entries.items in
    let after = c.change.new.entries.items in
    let more : length plan ≡ length (entry ∷ rest) = ap length is in
    let room = c.loop-entry.invariant.made in
    let left = c.change.ensures.made in
    let index_room = c.loop-entry.invariant.spare in
    let index_left = c.change.ensures.spare in
    record {
      distinct = rest_distinct c.args.at entry plan rest is c.loop-entry.invariant.distinct;
      once = still_once c.args.at entry plan rest is before after c.loop-entry.invariant.distinct c.loop-entry.invariant.once c.change.ensures.changed;
      indexed = c.change.ensures.indexed;
      made = omega (arith, more, room, left);
      spare = omega (arith, more, index_room, index_left);
      changed = rest_room c.args.at entry plan rest is before after c.loop-entry.invariant.distinct c.change.ensures.kept c.loop-entry.invariant.changed;
      goes_on = λ last h. c.loop-entry.invariant.goes_on last (and_then c.args.at entry plan rest is before after last c.change.ensures.changed h);
    }
