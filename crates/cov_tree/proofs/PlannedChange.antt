-- A plan once it is to make a change more.
use Rattle.std.specs.Prelude.{Result, Ok, Err, OnOk, OnErr}
use Rattle.std.proofs.Common.{◌≡◌, ℕ, Bool, List}
use Rattle.std.proofs.lemmas.Result.{on_err_weaker}
use Rattle.cov_base.specs.Rows.{RowChange}
use Rattle.cov_dd.specs.declared.triple.Triple.{Triple}
use Rattle.cov_dd.specs.Diagrams.{Extends}
use Rattle.cov_tree.specs.declared.entry.Entry.{Entry}
use Rattle.cov_tree.specs.Changes.{nodes_after, kinds_after, IsAlike, IsMade, MayChange, Stays}
use Rattle.cov_tree.specs.Dated.{Dated, newest_nodes, planned, rows_with, nodes_with, kinds_with}
use Rattle.cov_tree.specs.Shifts.{Becomes}
use Rattle.cov_tree.proofs.Carried.{alike}
use Rattle.cov_tree.proofs.Once.{IsFresh, once_either, within_either}
use Rattle.cov_tree.proofs.Options.{unread_either}
use Rattle.cov_tree.proofs.Plans.{makes_more}

-- a plan makes a change more
is_made : {A E : Type 0} (r : Result A E) (old new : List Triple) → Extends old new → (d : Dated) (plan after : List Entry) (change : RowChange) (ambition : ℕ) → MayChange old d plan ambition
    → OnOk r (Becomes old new (planned plan (newest_nodes d)) (planned after (newest_nodes d)) change ambition)
    → OnOk r (nodes_with after d ≡ nodes_after change (nodes_with plan d)) → OnOk r (kinds_with after d ≡ kinds_after change (kinds_with plan d)) → OnOk r (IsMade old new d plan after change ambition)
is_made (Ok a) old new grows d plan after change ambition may becomes nodes kinds = record {
  makes = λ changes m. makes_more old new grows d plan after changes change ambition may.ambition m becomes;
  nodes = nodes;
  kinds = kinds;
}
is_made (Err e) old new grows d plan after change ambition may becomes nodes kinds = tt

-- the nodes became those after the change, or stayed as they were
module _ {A E : Type 0} (r : Result A E) (old new : List Triple) (grows : Extends old new) (d : Dated) (plan after : List Entry) (change : RowChange) (ambition : ℕ)
    (may : MayChange old d plan ambition) (becomes : OnOk r (Becomes old new (planned plan (newest_nodes d)) (planned after (newest_nodes d)) change ambition))
    (same : OnErr r (planned after (newest_nodes d) ≡ planned plan (newest_nodes d))) where
  pub stays_with : ((c : List Bool) → IsFresh change (rows_with old c plan d)) → Stays old new d plan after ambition
  stays_with fresh = record {
    extends = grows;
    within = within_either r old new grows (planned plan (newest_nodes d)) (planned after (newest_nodes d)) change ambition may.within becomes same;
    once = once_either r old new grows (planned plan (newest_nodes d)) (planned after (newest_nodes d)) change ambition may.within may.once fresh becomes same;
    options = unread_either r old new grows (planned plan (newest_nodes d)) (planned after (newest_nodes d)) change ambition may.within becomes same;
  }

  pub alike_with : OnErr r (IsAlike d plan after)
  alike_with = on_err_weaker r (alike d plan after) same

  pub made_with : OnOk r (nodes_with after d ≡ nodes_after change (nodes_with plan d)) → OnOk r (kinds_with after d ≡ kinds_after change (kinds_with plan d)) → OnOk r (IsMade old new d plan after change ambition)
  made_with nodes kinds = is_made r old new grows d plan after change ambition may becomes nodes kinds
