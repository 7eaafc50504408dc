-- From which nodes the root is reached, round by round.
use Rattle.std.specs.Prelude.{◌≡◌, ℕ, suc, ◌<◌, Bool, true, false, List, length, unwrap_or, slice_get, nat_eq}
use Rattle.std.specs.List.{AllByRecursion, list_any}
use Rattle.cov_base.specs.Rows.{Row}
use Rattle.cov_base.specs.Faults.{is_reached}
use Rattle.cov_base.specs.Reaching.{Reaches}
use Rattle.cov_dd.specs.declared.triple.Triple.{Triple}
use Rattle.cov_dd.specs.Diagrams.{diagram_size, value_in}
use Rattle.cov_tree.specs.declared.entry.Entry.{Entry}
use Rattle.cov_tree.specs.Entries.{rows_of, rows_in}

-- the choices of a node, FALSE where there are none
abbrev pub reach_node : List ℕ → ℕ → ℕ
reach_node reach x = unwrap_or (slice_get reach x) 0

-- whether a node is reached on a choice
abbrev pub reached_in : List Triple → List ℕ → List Bool → ℕ → Bool
reached_in table reach c x = value_in table (reach_node reach x) c

-- each node from which the root is reached in so many steps is in the set, and the root is reached from each node in it
abbrev pub Holds : List Row → ℕ → (ℕ → Bool) → Type 0
Holds rows k v = (x : ℕ) → is_reached rows k x ≡ true → v x ≡ true

abbrev pub AreReached : List Row → (ℕ → Bool) → Type 0
AreReached rows v = (x : ℕ) → v x ≡ true → Reaches rows x

-- at one choice, a node with these rows is in the set from now on exactly where a parent is
pub record Turns (node : ℕ) (own : List Row) (v w : ℕ → Bool) (changed : Bool) : Type 0 where
  pub at : w node ≡ list_any (λ r. v r.parent) own
  pub others : (x : ℕ) → nat_eq x node ≡ false → w x ≡ v x
  pub same : changed ≡ false → (x : ℕ) → w x ≡ v x

-- at one choice, the rows done have been taken anew, beginning with the set u
pub record Rounds (rows done : List Row) (u v : ℕ → Bool) (changed : Bool) : Type 0 where
  pub reached : AreReached rows u → AreReached rows v
  pub holds : (k : ℕ) → Holds rows k u → Holds rows k v
  pub more : (k : ℕ) → Holds rows k u → AllByRecursion (λ r. is_reached rows (suc k) r.node ≡ true → v r.node ≡ true) done
  pub same : changed ≡ false → (x : ℕ) → v x ≡ u x
  pub closed : changed ≡ false → AllByRecursion (λ r. u r.parent ≡ true → u r.node ≡ true) done

-- the choices of a node are those on which it has a parent that is reached
pub record Relaxes (old new : List Triple) (e : Entry) (before after : List ℕ) (changed : Bool) : Type 0 where
  pub within : AllByRecursion (λ n. n < diagram_size new) after
  pub count : length after ≡ length before
  pub turns : (c : List Bool) → Turns e.node (rows_of old c e.node e.kind e.places) (reached_in old before c) (reached_in new after c) changed

-- a round over nodes
pub record Spreads (old new : List Triple) (es : List Entry) (before after : List ℕ) (changed : Bool) : Type 0 where
  pub within : AllByRecursion (λ n. n < diagram_size new) after
  pub count : length after ≡ length before
  pub rounds : (c : List Bool) → Rounds (rows_in old c es) (rows_in old c es) (reached_in old before c) (reached_in new after c) changed

-- each node has the choices on which it reaches the root
pub record IsReach (old new : List Triple) (es : List Entry) (reach : List ℕ) : Type 0 where
  pub within : AllByRecursion (λ n. n < diagram_size new) reach
  pub value : (c : List Bool) (x : ℕ) → reached_in new reach c x ≡ is_reached (rows_in old c es) (length (rows_in old c es)) x
