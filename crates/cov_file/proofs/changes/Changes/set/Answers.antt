use Rattle.std.proofs.Common.{◌≡◌, ◌∙◌, ◌≤◌, ◌+◌, ◌-◌, ℕ, List, min, nat_eq, true, cond, length, reverse, set, get_or, slice_get, Some, vec_len, vec_capacity, refl, sym, ap, subst, arith}
use Rattle.std.proofs.lemmas.Bool.{eqb-true}
use Rattle.std.proofs.lemmas.List.{length-map}
use Rattle.std.proofs.lemmas.Option.{same_Some, slice_get_read}
use Rattle.cov_file.specs.declared.changes.Change.{Change}
use Rattle.cov_file.specs.Kept.{LineChanges, changes_of, lists_of, AreChanges, changes_at, is_at, with_node}
use Rattle.cov_file.specs.Renumbered.{nodes_of, AddsNode}
use Rattle.cov_file.proofs.Added.{followed_node, replaced_node}
use Rattle.cov_file.proofs.Chains.{newest_at, replaced, followed, followed_kept}
use Rattle.cov_file.proofs.changes.Changes.set.Goals as goal
use Rattle.cov_file.proofs.changes.Changes.set.Goals.{After-index}

from_is : (c : After-index) → c.self.inside.from ≡ c.args.at
from_is c = ap (λ (l : LineChanges). l.newest) c.self.view_is ∙ c.begin.ensures.newest

lists_are : (c : After-index) → lists_of c.self.inside.newest.items c.self.inside.earlier.items ≡ c.args.self.now.lists
lists_are c = ap (λ (l : LineChanges). l.lists) c.self.view_is ∙ c.begin.ensures.lists

nodes_are : (c : After-index) → nodes_of c.self.inside.newest.items c.self.inside.earlier.items ≡ c.args.self.now.nodes
nodes_are c = ap (λ (l : LineChanges). l.nodes) c.self.view_is ∙ c.begin.ensures.nodes

kept : (c : After-index) → AreChanges c.args.at c.self.inside.newest.items c.self.inside.earlier.items
kept c = subst (λ p. AreChanges p c.self.inside.newest.items c.self.inside.earlier.items) (from_is c) c.self.invariant

-- the change that was read is that at the index
read : (c : After-index) (x : Change) → x ≡ get_or c.self.inside.newest.items c.args.index x → slice_get c.self.inside.newest.items c.args.index ≡ Some x
read c x is =
    let long = ap length (lists_are c) in
    slice_get_read c.self.inside.newest.items (length c.self.inside.newest.items) c.args.index x refl
    (omega (arith, c.requires.index, long, length-map c.self.inside.newest.items (changes_of (reverse c.self.inside.earlier.items)))) is

-- whether the line has a change at the position
at_is : (c : After-index) → is_at c.args.at (changes_at c.args.self.now.lists c.args.index) ≡ nat_eq c.index.result.now.from c.args.at
at_is c =
    ap (λ ls. is_at c.args.at (changes_at ls c.args.index)) (sym (lists_are c))
    ∙ newest_at c.args.at c.self.inside.newest.items c.self.inside.earlier.items (kept c) c.args.index c.index.result.now (read c c.index.result.now c.index.ensures) c.args.node c.args.at

pub returns-then-eq-clause-lists : goal.returns-then-eq-clause-lists
returns-then-eq-clause-lists c =
    let b = (goal.at.returns-then-eq-clause-lists c).After-index in
    let old = c.index.result.now in
    let found = read b old c.index.ensures in
    let same : c.index_mut.result.now ≡ old = same_Some _ _ (sym (read b c.index_mut.result.now c.index_mut.ensures.value) ∙ found) in
    let here : nat_eq old.from c.args.at ≡ true = sym c.eq.ensures ∙ c.if-eq.true in
    replaced c.args.at c.self.inside.newest.items c.self.inside.earlier.items (kept b) c.args.index old found c.args.node
    (record { node = c.args.node; from = c.index_mut.result.now.from; before = c.index_mut.result.now.before })
    (ap (λ (x : Change). x.from) same ∙ eqb-true old.from c.args.at here) refl (ap (λ (x : Change). x.before) same) here
    ∙ ap (λ ls. set ls c.args.index (with_node c.args.at c.args.node (changes_at ls c.args.index))) (lists_are b)

pub put_behind-before-requires-clause-room : goal.put_behind-before-requires-clause-room
put_behind-before-requires-clause-room c =
    let b = (goal.at.put_behind-before-requires-clause-room c).After-index in
    let some = c.requires.room (at_is b ∙ sym c.eq.ensures ∙ c.if-eq.false) in
    let same = ap (λ (l : LineChanges). l.room) c.self.view_is in
    omega (arith, some, same, c.begin.ensures.room)

pub put_behind-before-requires-clause-few : goal.put_behind-before-requires-clause-few
put_behind-before-requires-clause-few c =
    let b = (goal.at.put_behind-before-requires-clause-few c).After-index in
    let some = c.requires.room (at_is b ∙ sym c.eq.ensures ∙ c.if-eq.false) in
    let same = ap (λ (l : LineChanges). l.room) c.self.view_is in
    omega (arith, some, same, c.begin.ensures.room)

pub invariant_of-self-2 : goal.invariant_of-self-2
invariant_of-self-2 c =
    let b = (goal.at.invariant_of-self-2 c).After-index in
    let number = c.put_behind-before.ensures.count ∙ c.put_behind-before.ensures.len ∙ ap (λ n. n + 1) c.self.inside.earlier.ok.0 in
    subst (λ p. AreChanges p (set c.self.inside.newest.items c.args.index (record { node = c.args.node; from = c.args.at; before = c.put_behind-before.result })) c.put_behind-before.new.earlier.items) (sym (from_is b))
    (subst (λ items. AreChanges c.args.at (set c.self.inside.newest.items c.args.index (record { node = c.args.node; from = c.args.at; before = c.put_behind-before.result })) items) (sym c.put_behind-before.ensures.items)
    (followed_kept c.args.at c.self.inside.newest.items c.self.inside.earlier.items (kept b) c.args.index c.index.result.now (read b c.index.result.now c.index.ensures) c.args.node
    (record { node = c.args.node; from = c.args.at; before = c.put_behind-before.result }) refl number))

pub returns-clause-lists : goal.returns-clause-lists
returns-clause-lists c =
    let b = (goal.at.returns-clause-lists c).After-index in
    let number = c.put_behind-before.ensures.count ∙ c.put_behind-before.ensures.len ∙ ap (λ n. n + 1) c.self.inside.earlier.ok.0 in
    ap (lists_of (set c.self.inside.newest.items c.args.index (record { node = c.args.node; from = c.args.at; before = c.put_behind-before.result }))) c.put_behind-before.ensures.items
    ∙ followed c.args.at c.self.inside.newest.items c.self.inside.earlier.items (kept b) c.args.index c.index.result.now (read b c.index.result.now c.index.ensures) c.args.node
    (record { node = c.args.node; from = c.args.at; before = c.put_behind-before.result }) refl refl number (sym c.eq.ensures ∙ c.if-eq.false)
    ∙ ap (λ ls. set ls c.args.index (with_node c.args.at c.args.node (changes_at ls c.args.index))) (lists_are b)

pub returns-clause-room : goal.returns-clause-room
returns-clause-room c =
    let b = (goal.at.returns-clause-room c).After-index in
    let other = at_is b ∙ sym c.eq.ensures ∙ c.if-eq.false in
    let same = ap (λ (l : LineChanges). l.room) c.self.view_is in
    subst (λ x. c.args.self.now.room ≤ min (vec_capacity c.put_behind-before.new.earlier - vec_len c.put_behind-before.new.earlier) (4294967295 - vec_len c.put_behind-before.new.earlier) + cond x 0 1) (sym other)
    (omega (arith, same, c.begin.ensures.room, c.put_behind-before.ensures.len, c.put_behind-before.ensures.capacity))

pub returns-then-eq-clause-nodes : goal.returns-then-eq-clause-nodes
returns-then-eq-clause-nodes c =
    let b = (goal.at.returns-then-eq-clause-nodes c).After-index in
    let new : Change = record { node = c.args.node; from = c.index_mut.result.now.from; before = c.index_mut.result.now.before } in
    subst (λ ns. AddsNode c.args.node ns (nodes_of (set c.self.inside.newest.items c.args.index new) c.self.inside.earlier.items)) (nodes_are b)
    (replaced_node c.self.inside.newest.items c.self.inside.earlier.items c.args.index new)

pub returns-clause-nodes : goal.returns-clause-nodes
returns-clause-nodes c =
    let b = (goal.at.returns-clause-nodes c).After-index in
    let new : Change = record { node = c.args.node; from = c.args.at; before = c.put_behind-before.result } in
    subst (λ (q : List ℕ × List Change). AddsNode c.args.node q.0 (nodes_of (set c.self.inside.newest.items c.args.index new) q.1))
    (λ j. (nodes_are b j, sym c.put_behind-before.ensures.items j))
    (followed_node c.self.inside.newest.items c.self.inside.earlier.items c.args.index new c.index.result.now (read b c.index.result.now c.index.ensures))
