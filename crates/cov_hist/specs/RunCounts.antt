-- Edits that are counted run by run.
use Rattle.std.specs.Prelude.{ℕ, ◌+◌, ◌-◌, Bool, List, [], ◌∷◌, if◌then◌else◌}
use Rattle.cov_expr.specs.Formula.{value}
use Rattle.cov_edit.specs.declared.edits.Run.{Run}

-- the place at which the first of runs begins, or the count of all edits
abbrev pub place_of : ℕ → List Run → ℕ
place_of count [] = count
place_of count (run ∷ runs) = run.first

-- how many edits of a run that ends before a place have a side that is true
abbrev pub edits_in_run : List Bool → Run → ℕ → ℕ
edits_in_run c run end = if value run.side c then end - run.first else 0

-- how many edits of runs have a side that is true
abbrev pub edits_in_runs : List Bool → ℕ → List Run → ℕ
edits_in_runs c count [] = 0
edits_in_runs c count (run ∷ runs) = edits_in_run c run (place_of count runs) + edits_in_runs c count runs
