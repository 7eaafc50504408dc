-- Rows that clash, by their directories and names.
use Rattle.std.specs.Prelude.{◌≡◌, ℕ, ◌<◌, Bool, List, unwrap_or}
use Rattle.std.specs.List.{list_any, AllByRecursion}
use Rattle.std.specs.Map.{lookup}
use Rattle.cov_base.specs.Rows.{Row}
use Rattle.cov_base.specs.Reaching.{has_clash}
use Rattle.cov_dd.specs.declared.triple.Triple.{Triple}
use Rattle.cov_dd.specs.Diagrams.{diagram_size, value_in}
use Rattle.cov_tree.specs.declared.grouping.PlaceKey.{PlaceKey}
use Rattle.cov_tree.specs.Entries.{is_one_place}

-- the choices of a name in a directory, FALSE where there are none
abbrev pub joined_at : List (PlaceKey × ℕ) → ℕ → List ℕ → ℕ
joined_at groups parent name = unwrap_or (lookup (λ key. is_one_place parent name key.parent key.name.now) groups) 0

-- all choices are nodes of a table
abbrev pub GroupsWithin : List Triple → List (PlaceKey × ℕ) → Type 0
GroupsWithin table groups = AllByRecursion (λ g. g.1 < diagram_size table) groups

-- the groups have for each place the choices on which a row is there, and a node those on which two rows clash
pub record IsClash (table : List Triple) (groups : List (PlaceKey × ℕ)) (clash : ℕ) (rows : List Bool → List Row) : Type 0 where
  pub value : (c : List Bool) → value_in table clash c ≡ has_clash (rows c)
  pub joined : (c : List Bool) (parent : ℕ) (name : List ℕ) → value_in table (joined_at groups parent name) c ≡ list_any (λ r. is_one_place parent name r.parent r.name) (rows c)
