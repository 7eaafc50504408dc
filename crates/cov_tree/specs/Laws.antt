-- What holds of plans and rows in a table that grows, and for a greater count of options.
use Rattle.std.specs.Prelude.{◌≡◌, ℕ, ◌≤◌, Bool, List}
use Rattle.cov_base.specs.Rows.{RowChange}
use Rattle.cov_dd.specs.declared.triple.Triple.{Triple}
use Rattle.cov_dd.specs.Diagrams.{Extends}
use Rattle.cov_tree.specs.declared.entry.Entry.{Entry}
use Rattle.cov_tree.specs.Carried.{AreNodesAt, AreNodesWith, AreOnceAt, AreOnceWith, AreUnreadAt, AreUnreadWith}
use Rattle.cov_tree.specs.Changes.{Makes}
use Rattle.cov_tree.specs.Dated.{Dated, rows_at, rows_with}

-- a plan makes the same changes in each table that its own grows to
abbrev pub PlansStay : Type 0
PlansStay = (old new : List Triple) (entries : Dated) (plan : List Entry) (changes : List (RowChange × ℕ))
    → Extends old new → Makes old entries plan changes → Makes new entries plan changes

-- the rows at each position, and those with a plan, are the same in each table to which that of their visibilities grows
pub record RowsStay : Type 0 where
  pub at : (old new : List Triple) (entries : Dated) → Extends old new → AreNodesAt old entries → (c : List Bool) (p : ℕ) → rows_at new c p entries ≡ rows_at old c p entries
  pub planned : (old new : List Triple) (plan : List Entry) (entries : Dated) → Extends old new → AreNodesWith old plan entries
      → (c : List Bool) → rows_with new c plan entries ≡ rows_with old c plan entries

-- the visibilities are nodes of each table that theirs grows to
pub record NodesStay : Type 0 where
  pub at : (old new : List Triple) (entries : Dated) → Extends old new → AreNodesAt old entries → AreNodesAt new entries
  pub planned : (old new : List Triple) (plan : List Entry) (entries : Dated) → Extends old new → AreNodesWith old plan entries → AreNodesWith new plan entries

-- no node has two rows in any table that theirs grows to
pub record OnceStays : Type 0 where
  pub at : (old new : List Triple) (entries : Dated) → Extends old new → AreNodesAt old entries → AreOnceAt old entries → AreOnceAt new entries
  pub planned : (old new : List Triple) (plan : List Entry) (entries : Dated) → Extends old new → AreNodesWith old plan entries → AreOnceWith old plan entries → AreOnceWith new plan entries

-- the rows depend on no option from a count on in any table that theirs grows to, nor from a greater count on
pub record OptionsStay : Type 0 where
  pub at : (old new : List Triple) (entries : Dated) (count more : ℕ) → Extends old new → count ≤ more → AreNodesAt old entries → AreUnreadAt old entries count → AreUnreadAt new entries more
  pub planned : (old new : List Triple) (plan : List Entry) (entries : Dated) (count more : ℕ) → Extends old new → count ≤ more
      → AreNodesWith old plan entries → AreUnreadWith old plan entries count → AreUnreadWith new plan entries more
