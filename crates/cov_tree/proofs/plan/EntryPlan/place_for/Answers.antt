use Rattle.std.proofs.Common.{◌≡◌, Some, length, sym, ap, subst, ◌∙◌}
use Rattle.std.proofs.lemmas.Bool.{or_from}
use Rattle.std.proofs.lemmas.Result.{IfOk-weaker}
use Rattle.cov_base.specs.Rows.{has_node}
use Rattle.cov_base.proofs.CallerLemmas.{nat_eq-sym}
use Rattle.cov_tree.specs.Dated.{newest_nodes, nodes_with}
use Rattle.cov_tree.specs.Entries.{nodes_of}
use Rattle.cov_tree.specs.Planning.{IsFoundAs}
use Rattle.cov_tree.proofs.Planned.{added_place, none_found, planned_absent, planned_place, taken_either}
use Rattle.cov_tree.proofs.plan.EntryPlan.place_for.Goals as goal

pub returns-in-Some-clause-place : goal.returns-in-Some-clause-place
returns-in-Some-clause-place c =
    planned_place c.args.node c.args.self.now (nodes_with c.args.self.now c.args.entries.now) c.in-Some.at (sym c.place_of.ensures.place ∙ c.in-Some.is)

pub add-requires : goal.add-requires
add-requires c =
    let found = subst (λ o. IsFoundAs c.args.node o (newest_nodes c.args.entries.now)) c.in-Some-2.is c.in_ok-entry.ensures in
    let none = none_found c.args.node c.args.self.now (sym c.place_of.ensures.place ∙ c.in_default.is) in
    record { fresh = or_from _ _ (nat_eq-sym 0 c.in-Some-2.entry.node ∙ found.2) (ap (λ n. has_node n (nodes_of c.args.self.now)) found.1 ∙ none) }

pub returns-in-Some-2-clause-same : goal.returns-in-Some-2-clause-same
returns-in-Some-2-clause-same c =
    let found = subst (λ o. IsFoundAs c.args.node o (newest_nodes c.args.entries.now)) c.in-Some-2.is c.in_ok-entry.ensures in
    let none = none_found c.args.node c.args.self.now (sym c.place_of.ensures.place ∙ c.in_default.is) in
    taken_either c.add.result (λ at. at ≡ Some (length c.args.self.now)) c.args.self.now c.add.new.self c.in-Some-2.entry (newest_nodes c.args.entries.now)
    (ap (λ n. has_node n (nodes_of c.args.self.now)) found.1 ∙ none) found.0 c.add.ensures.ok c.add.ensures.err

pub returns-in-Some-2-clause-place : goal.returns-in-Some-2-clause-place
returns-in-Some-2-clause-place c =
    let found = subst (λ o. IsFoundAs c.args.node o (newest_nodes c.args.entries.now)) c.in-Some-2.is c.in_ok-entry.ensures in
    IfOk-weaker c.add.result _ _
    (λ place ok. added_place c.args.node c.args.self.now c.add.new.self c.in-Some-2.entry place (nodes_with c.args.self.now c.args.entries.now) found.1 ok.0 ok.1) c.add.ensures.ok

pub returns-in-None-clause-place : goal.returns-in-None-clause-place
returns-in-None-clause-place c =
    let none = none_found c.args.node c.args.self.now (sym c.place_of.ensures.place ∙ c.in_default.is) in
    planned_absent c.args.self.now c.args.node (newest_nodes c.args.entries.now) none
    (subst (λ o. IsFoundAs c.args.node o (newest_nodes c.args.entries.now)) c.in-None.is c.in_ok-entry.ensures)
