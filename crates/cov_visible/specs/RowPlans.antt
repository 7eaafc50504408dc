-- The changes of rows that a commit's edits make, and what installing them does.
use Rattle.std.specs.Prelude.{◌≡◌, ℕ, ◌<◌, ◌≤◌, false, Bool, List, [], ◌∷◌, ◌++◌}
use Rattle.std.specs.List.{AllByRecursion}
use Rattle.cov_base.specs.Rows.{RowChange, Created, Renamed, Moved, Removed, has_node}
use Rattle.cov_base.specs.declared.number.Kind.{Kind}
use Rattle.cov_dd.specs.declared.triple.Triple.{Triple}
use Rattle.cov_dd.specs.Diagrams.{diagram_size}
use Rattle.cov_tree.specs.declared.entry.Entry.{Entry}
use Rattle.cov_tree.specs.Carried.{AreNodesAt, AreNodesWith}
use Rattle.cov_tree.specs.Changes.{Makes, nodes_after, kinds_after}
use Rattle.cov_tree.specs.Dated.{Dated, rows_at, rows_with, nodes_in, kinds_in, nodes_with, kinds_with}
use Rattle.cov_tree.specs.Renumbered.{visibilities, AreNodes}
use Rattle.cov_visible.specs.declared.resolved_edit.ResolvedEdit.{ResolvedEdit}
use Rattle.cov_visible.specs.declared.resolved_edit.ResolvedEdit.TheVariants as resolved

-- the changes of rows that edits make, each with the node where it applies
abbrev pub row_changes : List ResolvedEdit → List (RowChange × ℕ)
row_changes [] = []
row_changes (resolved.New node kind parent name on ∷ ss) = (Created node kind parent name, on) ∷ row_changes ss
row_changes (resolved.Insert file anchor line text vis ∷ ss) = row_changes ss
row_changes (resolved.Delete file line vis ∷ ss) = row_changes ss
row_changes (resolved.Rename node name on ∷ ss) = (Renamed node name, on) ∷ row_changes ss
row_changes (resolved.Move node parent on ∷ ss) = (Moved node parent, on) ∷ row_changes ss
row_changes (resolved.Remove node on ∷ ss) = (Removed node, on) ∷ row_changes ss

-- a plan makes the changes of edits besides those that another made
abbrev pub AlsoMakes : List Triple → List Triple → Dated → List Entry → List Entry → List (RowChange × ℕ) → Type 0
AlsoMakes before after entries old new more =
    (changes : List (RowChange × ℕ)) → Makes before entries old changes → Makes after entries new (changes ++ more)

-- changes apply where nodes of a table are true
abbrev pub AreWithin : List Triple → List (RowChange × ℕ) → Type 0
AreWithin ts changes = AllByRecursion (λ change. change.1 < diagram_size ts) changes

-- the numbers of all nodes after changes, and the same with their kinds
abbrev pub nodes_after_all : List (RowChange × ℕ) → List ℕ → List ℕ
nodes_after_all [] ns = ns
nodes_after_all (change ∷ changes) ns = nodes_after_all changes (nodes_after change.0 ns)

abbrev pub kinds_after_all : List (RowChange × ℕ) → List (ℕ × Kind) → List (ℕ × Kind)
kinds_after_all [] ks = ks
kinds_after_all (change ∷ changes) ks = kinds_after_all changes (kinds_after change.0 ks)

-- a node that a change makes has a new number, and isn't the root
abbrev pub MakesNewNode : List ℕ → RowChange → Type 0
MakesNewNode ns (Created node kind parent name) = has_node node (0 ∷ ns) ≡ false
MakesNewNode ns (Renamed node name) = Unit {0}
MakesNewNode ns (Moved node parent) = Unit {0}
MakesNewNode ns (Removed node) = Unit {0}

-- so have those that changes make one after another
abbrev pub MakeNewNodes : List ℕ → List (RowChange × ℕ) → Type 0
MakeNewNodes ns [] = Unit {0}
MakeNewNodes ns (change ∷ changes) = MakesNewNode ns change.0 × MakeNewNodes (nodes_after change.0 ns) changes

-- a plan is installed from a position on
pub record IsSet (at : ℕ) (plan : List Entry) (old new : Dated) : Type 0 where
  pub planned : (table : List Triple) (c : List Bool) (p : ℕ) → at ≤ p → rows_at table c p new ≡ rows_with table c plan old
  pub before : (table : List Triple) (c : List Bool) (p : ℕ) → p < at → rows_at table c p new ≡ rows_at table c p old
  pub from : new.from ≤ at
  pub nodes : nodes_in new ≡ nodes_with plan old
  pub kinds : kinds_in new ≡ kinds_with plan old
  pub within : (table : List Triple) → AreNodesAt table old → AreNodesWith table plan old → AreNodesAt table new
  pub kept : (table : List Triple) → AreNodes table (visibilities old) → AreNodesWith table plan old → AreNodes table (visibilities new)
