use Rattle.std.proofs.Common.{[], ◌∷◌, take, sym, subst, ◌∙◌}
use Rattle.std.specs.List.{AllByRecursion}
use Rattle.std.proofs.lemmas.List.{take_all}
use Rattle.cov_base.specs.Rows.{AreDistinct}
use Rattle.cov_base.proofs.CallerLemmas.{all-append, all-map}
use Rattle.cov_tree.specs.declared.entry.Entry.{Entry}
use Rattle.cov_tree.specs.Dated.{HasRoomFor, HaveRoomFor}
use Rattle.cov_tree.specs.Entries.{nodes_of}
use Rattle.cov_tree.proofs.Indexing.{index_kept}
use Rattle.cov_tree.proofs.Installing.{same_newest}
use Rattle.cov_tree.proofs.Rows.{taken}
use Rattle.cov_tree.proofs.entries.reserve_changes.Goals as goal

pub reserve_change-requires : goal.reserve_change-requires
reserve_change-requires c = record {
  once = subst (λ es. AreDistinct (nodes_of es)) (sym (same_newest c.args.entries.now.items c.plan.entries.items c.plan.invariant.same)) c.requires.once;
  indexed = index_kept c.args.index.now.entries c.args.entries.now.items c.plan.entries.items (same_newest c.args.entries.now.items c.plan.entries.items c.plan.invariant.same) c.requires.indexed;
}

pub plan-preserved : goal.plan-preserved
plan-preserved c =
    let done = take c.plan.entry-index c.args.plan.now in
    let entry = c.entry-item.result in
    record {
      same = c.in_ok-reserve_change.ensures.same ∙ c.plan.invariant.same;
      room = subst (λ plan. HaveRoomFor plan c.reserve_change.new.entries.items) (sym (taken c.args.plan.now c.plan.entry-index entry c.plan-test.true c.entry-item.is))
          (all-append (λ (f : Entry). AllByRecursion (HasRoomFor f.node) c.reserve_change.new.entries.items) done (entry ∷ [])
          (all-map (λ (f : Entry). AllByRecursion (HasRoomFor f.node) c.plan.entries.items) (λ (f : Entry). AllByRecursion (HasRoomFor f.node) c.reserve_change.new.entries.items)
          (λ f. c.in_ok-reserve_change.ensures.kept f.node) done c.plan.invariant.room)
          (c.in_ok-reserve_change.ensures.room, tt));
    }

pub returns-clause-room : goal.returns-clause-room
returns-clause-room c = subst (λ plan. HaveRoomFor plan c.plan.entries.items) (take_all c.plan.entry-index c.args.plan.now c.plan-test.false) c.plan.invariant.room
