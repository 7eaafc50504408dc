use Rattle.std.proofs.Common.{◌≡◌, ℕ, List, Some, ◌∷◌, refl, sym, ap, subst, ◌∙◌}
use Rattle.std.specs.Prelude.{Result, Ok, OnOk, OnErr}
use Rattle.std.proofs.lemmas.Result.{on_err_weaker, on_ok_weaker}
use Rattle.cov_base.specs.Rows.{AreDistinct}
use Rattle.cov_base.specs.declared.number.Kind.{Kind}
use Rattle.cov_dd.proofs.CallerLemmas.{extends_none}
use Rattle.cov_tree.specs.declared.entry.Entry.{Entry}
use Rattle.cov_tree.specs.Changes.{nodes_after, kinds_after}
use Rattle.cov_tree.specs.Dated.{newest_nodes, planned, nodes_with, kinds_with}
use Rattle.cov_tree.specs.Entries.{rows_in, nodes_of, kinds_of}
use Rattle.cov_tree.specs.Planning.{IsPlannedAt}
use Rattle.cov_tree.specs.Shifts.{change_of, Becomes}
use Rattle.cov_tree.specs.declared.parting.Shift.{Shift}
use Rattle.cov_tree.specs.declared.parting.Shift.TheVariants as shifts
use Rattle.cov_tree.proofs.Once.{shifts_fresh}
use Rattle.cov_tree.proofs.Planned.{place_at_is}
use Rattle.cov_tree.proofs.PlannedChange.{stays_with, made_with}
use Rattle.cov_tree.proofs.Plans.{by_result}
use Rattle.cov_tree.proofs.ShiftedPlan.{can_shift, plan_kinds, plan_nodes, shifted_nodes, shifted_plan}
use Rattle.cov_tree.proofs.Shifting.{shifted_none}
use Rattle.cov_tree.proofs.plan.EntryPlan.shift.Goals as goal
use Rattle.cov_tree.proofs.plan.EntryPlan.shift.Goals.{After-shift_entry}

-- a shift makes no node
nodes_stay : (node : ℕ) (shift : Shift) (ns : List ℕ) → ns ≡ nodes_after (change_of node shift) ns
nodes_stay node (shifts.Renamed name) ns = refl
nodes_stay node (shifts.Moved parent) ns = refl
nodes_stay node shifts.Removed ns = refl

kinds_stay : (node : ℕ) (shift : Shift) (ks : List (ℕ × Kind)) → ks ≡ kinds_after (change_of node shift) ks
kinds_stay node (shifts.Renamed name) ks = refl
kinds_stay node (shifts.Moved parent) ks = refl
kinds_stay node shifts.Removed ks = refl

pub shift_entry-requires-clause-entry : goal.shift_entry-requires-clause-entry
shift_entry-requires-clause-entry c =
    let es = newest_nodes c.args.entries.now in
    let mid = c.self.inside.entries.items in
    let at = place_at_is c.args.node c.in_ok-at.field-0 c.in-Some.at c.place_for.new.self mid (nodes_with c.args.self.now c.args.entries.now) c.in_ok-at.ensures.place c.in-Some.is c.self.view_is in
    can_shift es c.args.self.now mid c.in-Some.at c.args.node (ap (λ xs. planned xs es) c.self.view_is ∙ c.place_for.ensures.same) at.0 at.1 c.self.invariant.0 c.stand_once.ensures c.args.table.now
    c.requires.may.within c.requires.may.once

abbrev now : After-shift_entry → List Entry
now c = newest_nodes c.args.entries.now

same : (c : After-shift_entry) → planned c.self.inside.entries.items (now c) ≡ planned c.args.self.now (now c)
same c = ap (λ xs. planned xs (now c)) c.self.view_is ∙ c.place_for.ensures.same

at : (c : After-shift_entry) → IsPlannedAt c.args.node (Some c.in-Some.at) c.self.inside.entries.items (nodes_with c.args.self.now c.args.entries.now)
at c =
    place_at_is c.args.node c.in_ok-at.field-0 c.in-Some.at c.place_for.new.self c.self.inside.entries.items (nodes_with c.args.self.now c.args.entries.now) c.in_ok-at.ensures.place c.in-Some.is c.self.view_is

becomes : (c : After-shift_entry) → OnOk c.shift_entry.result
    (Becomes c.args.table.now c.shift_entry.new.table (planned c.args.self.now (now c)) (planned c.shift_entry.new.list.items (now c)) (change_of c.args.node c.args.shift.now) c.args.ambition)
becomes c =
    on_ok_weaker c.shift_entry.result
    (λ s.
    shifted_plan (now c) c.args.self.now c.self.inside.entries.items c.in-Some.at c.args.node (same c) (at c).0 (at c).1 c.self.invariant.0 c.stand_once.ensures c.args.table.now c.shift_entry.new.table
    c.shift_entry.ensures.extends c.shift_entry.new.list.items c.args.shift.now c.args.ambition s c.requires.may.within)
    c.shift_entry.ensures.ok

stays : (c : After-shift_entry) → OnErr c.shift_entry.result (planned c.shift_entry.new.list.items (now c) ≡ planned c.args.self.now (now c))
stays c =
    on_err_weaker {P = (c.shift_entry.new.list.items ≡ c.self.inside.entries.items)} c.shift_entry.result (λ is. ap (λ xs. planned xs (now c)) is ∙ same c) c.shift_entry.ensures.err

pub invariant_of-self : goal.invariant_of-self
invariant_of-self c =
    by_result c.shift_entry.result _ _ _ c.shift_entry.ensures.ok c.shift_entry.ensures.err
    (λ s. let same = sym (shifted_nodes c.args.table.now c.shift_entry.new.table c.self.inside.entries.items c.shift_entry.new.list.items c.in-Some.at c.args.shift.now c.args.ambition s) in
    kept same)
    (λ is. kept (ap nodes_of (sym is)))
  where
    kept : {ns : List ℕ} → nodes_of c.self.inside.entries.items ≡ ns → AreDistinct (0 ∷ ns) × (c.self.inside.keys.keys ≡ ns)
    kept same = (subst (λ ns. AreDistinct (0 ∷ ns)) same c.self.invariant.0, c.self.invariant.1 ∙ same)

pub returns-in-Some-clause-stays : goal.returns-in-Some-clause-stays
returns-in-Some-clause-stays c =
    stays_with c.shift_entry.result c.args.table.now c.shift_entry.new.table c.shift_entry.ensures.extends c.args.entries.now c.args.self.now c.shift_entry.new.list.items
    (change_of c.args.node c.args.shift.now) c.args.ambition c.requires.may (becomes c) (stays c)
    (λ d. shifts_fresh c.args.node c.args.shift.now (rows_in c.args.table.now d (planned c.args.self.now (now c))))

pub returns-in-Some-clause-ok : goal.returns-in-Some-clause-ok
returns-in-Some-clause-ok c =
    made_with c.shift_entry.result c.args.table.now c.shift_entry.new.table c.shift_entry.ensures.extends c.args.entries.now c.args.self.now c.shift_entry.new.list.items
    (change_of c.args.node c.args.shift.now) c.args.ambition c.requires.may (becomes c) (stays c)
    (on_ok_weaker c.shift_entry.result
    (λ s.
    plan_nodes (now c) c.args.self.now c.self.inside.entries.items c.in-Some.at c.args.node (same c) (at c).0 (at c).1 c.self.invariant.0 c.stand_once.ensures c.args.table.now c.shift_entry.new.table
    c.shift_entry.ensures.extends c.shift_entry.new.list.items c.args.shift.now c.args.ambition s
    ∙ nodes_stay c.args.node c.args.shift.now (nodes_with c.args.self.now c.args.entries.now))
    c.shift_entry.ensures.ok)
    (on_ok_weaker c.shift_entry.result
    (λ s.
    plan_kinds (now c) c.args.self.now c.self.inside.entries.items c.in-Some.at c.args.node (same c) (at c).0 (at c).1 c.self.invariant.0 c.stand_once.ensures c.args.table.now c.shift_entry.new.table
    c.shift_entry.ensures.extends c.shift_entry.new.list.items c.args.shift.now c.args.ambition s
    ∙ kinds_stay c.args.node c.args.shift.now (kinds_with c.args.self.now c.args.entries.now))
    c.shift_entry.ensures.ok)

pub returns-in-None-clause-ok : goal.returns-in-None-clause-ok
returns-in-None-clause-ok c =
    let d = c.args.entries.now in
    let es = newest_nodes d in
    let plan = c.args.self.now in
    let table = c.args.table.now in
    let change = change_of c.args.node c.args.shift.now in
    let here : planned c.place_for.new.self es ≡ planned plan es = c.place_for.ensures.same in
    let none = subst (λ o. IsPlannedAt c.args.node o c.place_for.new.self (nodes_with plan d)) c.in-None.is c.in_ok-at.ensures.place in
    let done : Result ℕ ℕ = Ok 0 in
    made_with done table table (extends_none table) d plan c.place_for.new.self change c.args.ambition c.requires.may
    (subst (λ xs. Becomes table table (planned plan es) xs change c.args.ambition) (sym here)
    (shifted_none table c.args.node c.args.shift.now c.args.ambition (planned plan es) none c.requires.may.within))
    tt (ap nodes_of here ∙ nodes_stay c.args.node c.args.shift.now (nodes_with plan d)) (ap kinds_of here ∙ kinds_stay c.args.node c.args.shift.now (kinds_with plan d))
