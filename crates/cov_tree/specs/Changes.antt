-- Changes of rows, each where its ambition is true.
use Rattle.std.specs.Prelude.{◌≡◌, ℕ, ◌<◌, ◌≤◌, Bool, List, [], ◌∷◌, ◌++◌, if◌then◌else◌}
use Rattle.std.specs.List.{AllByRecursion}
use Rattle.cov_base.specs.Rows.{Row, RowChange, Created, changed}
use Rattle.cov_base.specs.declared.number.Kind.{Kind}
use Rattle.cov_dd.specs.declared.triple.Triple.{Triple}
use Rattle.cov_dd.specs.Diagrams.{diagram_size, span, value_in, Extends}
use Rattle.cov_tree.specs.declared.entry.Entry.{Entry}
use Rattle.cov_tree.specs.Dated.{Dated, rows_at, rows_with, nodes_with, kinds_with}
use Rattle.cov_tree.specs.Carried.{AreNodesAt, AreNodesWith, AreOnceWith, AreUnreadWith}

-- the rows on a choice after a change where its ambition is true
abbrev pub changed_on : List Triple → List Bool → RowChange → ℕ → List Row → List Row
changed_on table c change ambition rows = if value_in table ambition c then changed rows change else rows

-- the rows on a choice after changes in order, each with its ambition
abbrev pub all_changed : List Triple → List Bool → List (RowChange × ℕ) → List Row → List Row
all_changed table c [] rows = rows
all_changed table c (change ∷ changes) rows = all_changed table c changes (changed_on table c change.0 change.1 rows)

-- over these entries a plan makes these changes in order, each where its ambition is true: on each choice the rows with it are
-- the newest ones after the changes; and all visibilities and ambitions are nodes of the table
pub record Makes (table : List Triple) (entries : Dated) (plan : List Entry) (changes : List (RowChange × ℕ)) : Type 0 where
  pub rows : (c : List Bool) (p : ℕ) → entries.from ≤ p → rows_with table c plan entries ≡ all_changed table c changes (rows_at table c p entries)
  pub over : AreNodesAt table entries
  pub within : AreNodesWith table plan entries
  pub ambitions : AllByRecursion (λ change. change.1 < diagram_size table) changes

-- a plan is over these entries what another was: it has the same nodes, and on each choice the same rows, in each table
pub record IsAlike (entries : Dated) (before after : List Entry) : Type 0 where
  pub rows : (table : List Triple) (c : List Bool) → rows_with table c after entries ≡ rows_with table c before entries
  pub nodes : nodes_with after entries ≡ nodes_with before entries
  pub kinds : kinds_with after entries ≡ kinds_with before entries
  pub makes : (table : List Triple) (changes : List (RowChange × ℕ)) → Makes table entries before changes → Makes table entries after changes

-- a plan may make a change more: all visibilities with it and the ambition are nodes of the table, no node has two rows and the
-- root none
pub record MayChange (table : List Triple) (entries : Dated) (plan : List Entry) (node : ℕ) : Type 0 where
  pub within : AreNodesWith table plan entries
  pub once : AreOnceWith table plan entries
  pub ambition : node < diagram_size table

-- what stays where a plan is to make a change more, also where memory is wanting
pub record Stays (old new : List Triple) (entries : Dated) (before after : List Entry) (ambition : ℕ) : Type 0 where
  pub extends : Extends old new
  pub within : AreNodesWith new after entries
  pub once : AreOnceWith new after entries
  pub options : (count : ℕ) → span old ambition ≤ count → AreUnreadWith old before entries count → AreUnreadWith new after entries count

-- the numbers of all nodes after a change, and the same with their kinds
abbrev pub nodes_after : RowChange → List ℕ → List ℕ
nodes_after (Created node kind parent name) ns = ns ++ node ∷ []
nodes_after _ ns = ns

abbrev pub kinds_after : RowChange → List (ℕ × Kind) → List (ℕ × Kind)
kinds_after (Created node kind parent name) ks = ks ++ (node, kind) ∷ []
kinds_after _ ks = ks

-- a plan makes a change behind those that it made
pub record IsMade (old new : List Triple) (entries : Dated) (before after : List Entry) (change : RowChange) (ambition : ℕ) : Type 0 where
  pub makes : (changes : List (RowChange × ℕ)) → Makes old entries before changes → Makes new entries after (changes ++ (change, ambition) ∷ [])
  pub nodes : nodes_with after entries ≡ nodes_after change (nodes_with before entries)
  pub kinds : kinds_with after entries ≡ kinds_after change (kinds_with before entries)
