-- What is kept of the nodes of a store, at each position and with a plan.
use Rattle.std.specs.Prelude.{◌≡◌, ℕ, ◌≤◌, Bool, true, false, length, List}
use Rattle.cov_base.specs.Choices.{with_option}
use Rattle.cov_base.specs.Rows.{Row, AreOnce}
use Rattle.cov_base.specs.declared.limits.TheConstants.{CHOICE_WIDTH}
use Rattle.cov_dd.specs.declared.triple.Triple.{Triple}
use Rattle.cov_tree.specs.declared.entry.Entry.{Entry}
use Rattle.cov_tree.specs.Entries.{AllAreWithin}
use Rattle.cov_tree.specs.Dated.{Dated, newest_nodes, nodes_at, rows_at, planned, rows_with}

-- each visibility at each position is a node of a table, and so is each one with a plan
abbrev pub AreNodesAt : List Triple → Dated → Type 0
AreNodesAt table d = (p : ℕ) → AllAreWithin table (nodes_at p d)

abbrev pub AreNodesWith : List Triple → List Entry → Dated → Type 0
AreNodesWith table plan d = AllAreWithin table (planned plan (newest_nodes d))

-- on each choice no node has two rows, and the root has none: at each position, and with a plan
abbrev pub AreOnceAt : List Triple → Dated → Type 0
AreOnceAt table d = (p : ℕ) (c : List Bool) → AreOnce (rows_at table c p d)

abbrev pub AreOnceWith : List Triple → List Entry → Dated → Type 0
AreOnceWith table plan d = (c : List Bool) → AreOnce (rows_with table c plan d)

-- from an option on, rows on choices of all options that they can have depend on none
abbrev pub AreUnread : (List Bool → List Row) → ℕ → Type 0
AreUnread rows count = (o : ℕ) → count ≤ o → (c : List Bool) → length c ≡ CHOICE_WIDTH → rows (with_option c o true) ≡ rows (with_option c o false)

-- the rows depend on no option at or above a count: at each position, and with a plan
abbrev pub AreUnreadAt : List Triple → Dated → ℕ → Type 0
AreUnreadAt table d count = (p : ℕ) → AreUnread (λ c. rows_at table c p d) count

abbrev pub AreUnreadWith : List Triple → List Entry → Dated → ℕ → Type 0
AreUnreadWith table plan d count = AreUnread (λ c. rows_with table c plan d) count
