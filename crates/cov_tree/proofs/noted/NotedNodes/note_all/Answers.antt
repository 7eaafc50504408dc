use Rattle.std.proofs.Common.{[], ◌∷◌, take, sym, subst}
use Rattle.cov_base.proofs.CallerLemmas.{all-append}
use Rattle.cov_tree.specs.declared.entry.Entry.{Entry}
use Rattle.cov_tree.specs.Noted.{AreNoted, ArePlanNoted}
use Rattle.cov_tree.proofs.Noting.{plan_kept}
use Rattle.cov_tree.proofs.Rows.{taken}
use Rattle.cov_tree.proofs.noted.NotedNodes.note_all.Goals as goal

pub plan-preserved : goal.plan-preserved
plan-preserved c =
    let old = c.plan.self.nodes.entries in
    let new = c.note_places.new.self.nodes.entries in
    let done = take c.plan.entry-index c.args.plan.now in
    let entry = c.entry-item.result in
    record {
      kept = λ n p h. c.in_ok-note_places.ensures.kept n p (c.plan.invariant.kept n p h);
      noted = subst (ArePlanNoted new) (sym (taken c.args.plan.now c.plan.entry-index entry c.plan-test.true c.entry-item.is))
          (all-append (λ (e : Entry). AreNoted new e.node e.places) done (entry ∷ []) (plan_kept old new c.in_ok-note_places.ensures.kept done c.plan.invariant.noted)
          (subst (AreNoted new entry.node) c.as_slice.ensures c.in_ok-note_places.ensures.ok, tt));
    }
