use Rattle.std.proofs.Common.{◌≡◌, false, List, [], ◌∷◌, ◌++◌, ap, ◌∙◌}
use Rattle.std.specs.Prelude.{OnOk, OnErr}
use Rattle.std.proofs.lemmas.Bool.{or_parts, or_from}
use Rattle.std.proofs.lemmas.List.{map-append}
use Rattle.std.proofs.lemmas.Result.{on_err_weaker, on_ok_weaker}
use Rattle.cov_base.specs.Rows.{Created, has_node}
use Rattle.cov_dd.proofs.CallerLemmas.{extends_none}
use Rattle.cov_tree.specs.declared.entry.Entry.{Entry}
use Rattle.cov_tree.specs.Dated.{newest_nodes, planned}
use Rattle.cov_tree.specs.Entries.{nodes_of, kinds_of}
use Rattle.cov_tree.specs.Shifts.{place_at, Becomes}
use Rattle.cov_tree.proofs.PlannedChange.{stays_with, made_with, alike_with}
use Rattle.cov_tree.proofs.Once.{fresh_there}
use Rattle.cov_tree.proofs.Planned.{absent_planned, made_behind}
use Rattle.cov_tree.proofs.Plans.{created_behind}
use Rattle.cov_tree.proofs.plan.EntryPlan.created.Goals as goal
use Rattle.cov_tree.proofs.plan.EntryPlan.created.Goals.{After-add_new}

abbrev new_entry : After-add_new → Entry
new_entry c = record { node = c.args.node; kind = c.args.kind; places = place_at c.args.parent c.args.name.now c.args.ambition ∷ [] }

abbrev before : After-add_new → List Entry
before c = planned c.args.self.now (newest_nodes c.args.entries.now)

abbrev after : After-add_new → List Entry
after c = planned c.add_new.new.self (newest_nodes c.args.entries.now)

-- no node has the number yet
unused : (c : After-add_new) → has_node c.args.node (nodes_of (before c)) ≡ false
unused c = (or_parts _ _ c.requires.fresh).1

pub add_new-requires : goal.add_new-requires
add_new-requires c = record { fresh = or_from _ _ (or_parts _ _ c.requires.fresh).0 (absent_planned c.args.self.now c.args.node (newest_nodes c.args.entries.now) (or_parts _ _ c.requires.fresh).1).0 }

behind : (c : After-add_new) → OnOk c.add_new.result (after c ≡ before c ++ new_entry c ∷ [])
behind c =
    on_ok_weaker {P = (c.add_new.new.self ≡ c.args.self.now ++ new_entry c ∷ [])} c.add_new.result
    (λ is. made_behind c.args.self.now c.add_new.new.self (new_entry c) (newest_nodes c.args.entries.now) is (unused c))
    c.add_new.ensures.ok

becomes : (c : After-add_new) → OnOk c.add_new.result (Becomes c.args.table.now c.args.table.now (before c) (after c) (Created c.args.node c.args.kind c.args.parent c.args.name.now) c.args.ambition)
becomes c =
    on_ok_weaker {P = (after c ≡ before c ++ new_entry c ∷ [])} c.add_new.result
    (λ is.
    created_behind c.args.table.now (before c) (after c) c.args.node c.args.kind c.args.parent c.args.name.now c.args.ambition c.requires.may.within c.requires.may.ambition is)
    (behind c)

same : (c : After-add_new) → OnErr c.add_new.result (after c ≡ before c)
same c =
    on_err_weaker {P = (c.add_new.new.self ≡ c.args.self.now)} c.add_new.result
    (λ is. ap (λ es. planned es (newest_nodes c.args.entries.now)) is) c.add_new.ensures.err

pub returns-clause-stays : goal.returns-clause-stays
returns-clause-stays c =
    stays_with c.add_new.result c.args.table.now c.args.table.now (extends_none c.args.table.now) c.args.entries.now c.args.self.now c.add_new.new.self
    (Created c.args.node c.args.kind c.args.parent c.args.name.now) c.args.ambition c.requires.may (becomes c) (same c)
    (λ d. fresh_there c.args.table.now d (before c) c.args.node c.args.kind c.args.parent c.args.name.now c.requires.fresh)

pub returns-clause-ok : goal.returns-clause-ok
returns-clause-ok c =
    made_with c.add_new.result c.args.table.now c.args.table.now (extends_none c.args.table.now) c.args.entries.now c.args.self.now c.add_new.new.self
    (Created c.args.node c.args.kind c.args.parent c.args.name.now) c.args.ambition c.requires.may (becomes c) (same c)
    (on_ok_weaker {P = (after c ≡ before c ++ new_entry c ∷ [])} c.add_new.result (λ is. ap nodes_of is ∙ map-append (λ (e : Entry). e.node) (before c) (new_entry c ∷ [])) (behind c))
    (on_ok_weaker {P = (after c ≡ before c ++ new_entry c ∷ [])} c.add_new.result (λ is. ap kinds_of is ∙ map-append (λ (e : Entry). (e.node, e.kind)) (before c) (new_entry c ∷ [])) (behind c))

pub returns-clause-err : goal.returns-clause-err
returns-clause-err c =
    alike_with c.add_new.result c.args.table.now c.args.table.now (extends_none c.args.table.now) c.args.entries.now c.args.self.now c.add_new.new.self
    (Created c.args.node c.args.kind c.args.parent c.args.name.now) c.args.ambition c.requires.may (becomes c) (same c)
