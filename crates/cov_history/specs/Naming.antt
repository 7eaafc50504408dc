-- Which nodes a variant names.
use Rattle.std.specs.Prelude.{ℕ, ◌≤◌}
use Rattle.std.specs.List.{AllByRecursion}
use Rattle.cov_edit.specs.Variant.{Variant}

-- a variant names only the root and the first so many nodes: as its nodes, as their parents and as the files of its lines
pub record NamesOnlyMade (count : ℕ) (v : Variant) : Type 0 where
  pub nodes : AllByRecursion (λ r. r.node ≤ count) v.rows
  pub parents : AllByRecursion (λ r. r.parent ≤ count) v.rows
  pub files : AllByRecursion (λ l. l.file ≤ count) v.lines
