-- What is kept of nodes at each position and with a plan, in a table that grows and from position to position.
use Rattle.std.proofs.Common.{◌≡◌, ℕ, ◌≤◌, Bool, true, false, cond, nat_le, List, [], map, sym, ap, subst, ◌∙◌, arith}
use Rattle.std.proofs.lemmas.Bool.Decides.{nat_tests}
use Rattle.cov_base.specs.Rows.{AreOnce}
use Rattle.cov_base.specs.Choices.{with_option}
use Rattle.cov_dd.specs.declared.triple.Triple.{Triple}
use Rattle.cov_dd.specs.Diagrams.{Extends}
use Rattle.cov_tree.specs.declared.entry.Entry.{Entry}
use Rattle.cov_tree.specs.Entries.{rows_in, nodes_of, kinds_of, AllAreWithin}
use Rattle.cov_tree.specs.Dated.{Dated, entry_at, newest_nodes, nodes_at, rows_at, planned, rows_with}
use Rattle.cov_tree.specs.Carried.{AreNodesAt, AreNodesWith, AreOnceAt, AreOnceWith, AreUnread, AreUnreadAt, AreUnreadWith}
use Rattle.cov_tree.specs.Changes.{Makes, IsAlike}
use Rattle.cov_tree.specs.Laws.{RowsStay, NodesStay, OnceStays, OptionsStay}
use Rattle.cov_tree.proofs.Rows.{rows_in-grown, all_within-grown}

-- the newest nodes are those at each position from their own on
pub now_at : (d : Dated) (p : ℕ) → d.from ≤ p → nodes_at p d ≡ newest_nodes d
now_at d p h = let yes : nat_le d.from p ≡ true = grind (arith, nat_tests, h) in ap (λ b. cond b (newest_nodes d) (map (entry_at p) d.entries)) yes

pub newest_at : (d : Dated) → nodes_at d.from d ≡ newest_nodes d
newest_at d = now_at d d.from (omega arith)

-- a new plan has what there is at the newest position
module _ (d : Dated) where
  pub new_rows : (table : List Triple) (c : List Bool) (p : ℕ) → d.from ≤ p → rows_with table c [] d ≡ rows_at table c p d
  new_rows table c p h = ap (rows_in table c) (sym (now_at d p h))

  pub new_within : (table : List Triple) → AreNodesAt table d → AreNodesWith table [] d
  new_within table h = subst (AllAreWithin table) (newest_at d) (h d.from)

  pub new_once : (table : List Triple) → AreOnceAt table d → AreOnceWith table [] d
  new_once table h c = subst (λ es. AreOnce (rows_in table c es)) (newest_at d) (h d.from c)

  pub new_unread : (table : List Triple) (count : ℕ) → AreUnreadAt table d count → AreUnreadWith table [] d count
  new_unread table count h = subst (λ es. AreUnread (λ c. rows_in table c es) count) (newest_at d) (h d.from)

  pub new_makes : (table : List Triple) → AreNodesAt table d → Makes table d [] []
  new_makes table h = record { rows = λ c p le. new_rows table c p le; over = h; within = new_within table h; ambitions = tt }

-- plans with the same nodes are alike
pub alike : (d : Dated) (before after : List Entry) → planned after (newest_nodes d) ≡ planned before (newest_nodes d) → IsAlike d before after
alike d before after e = record {
  rows = λ table c. ap (rows_in table c) e;
  nodes = ap nodes_of e;
  kinds = ap kinds_of e;
  makes = λ table changes m. record {
    rows = λ c p h. ap (rows_in table c) e ∙ m.rows c p h;
    over = m.over;
    within = subst (AllAreWithin table) (sym e) m.within;
    ambitions = m.ambitions;
  };
}

-- the rows keep their options in a table that grows, and for a greater count
pub unread_grown : (old new : List Triple) → Extends old new → (es : List Entry) (count more : ℕ) → count ≤ more → AllAreWithin old es
    → AreUnread (λ c. rows_in old c es) count → AreUnread (λ c. rows_in new c es) more
unread_grown old new grows es count more greater within h o le c long =
    rows_in-grown old new grows (with_option c o true) es within
    ∙ h o (omega (arith, greater, le)) c long
    ∙ sym (rows_in-grown old new grows (with_option c o false) es within)

pub rows_stay : RowsStay
rows_stay = record {
  at = λ old new d grows within c p. rows_in-grown old new grows c (nodes_at p d) (within p);
  planned = λ old new plan d grows within c. rows_in-grown old new grows c (planned plan (newest_nodes d)) within;
}

pub nodes_stay : NodesStay
nodes_stay = record {
  at = λ old new d grows within p. all_within-grown old new grows (nodes_at p d) (within p);
  planned = λ old new plan d grows within. all_within-grown old new grows (planned plan (newest_nodes d)) within;
}

pub once_stays : OnceStays
once_stays = record {
  at = λ old new d grows within once p c. subst AreOnce (sym (rows_in-grown old new grows c (nodes_at p d) (within p))) (once p c);
  planned = λ old new plan d grows within once c. subst AreOnce (sym (rows_in-grown old new grows c (planned plan (newest_nodes d)) within)) (once c);
}

pub options_stay : OptionsStay
options_stay = record {
  at = λ old new d count more grows greater within unread p. unread_grown old new grows (nodes_at p d) count more greater (within p) (unread p);
  planned = λ old new plan d count more grows greater within unread. unread_grown old new grows (planned plan (newest_nodes d)) count more greater within unread;
}
