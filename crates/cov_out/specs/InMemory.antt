-- What trees in memory hold, and what their calls do.
use Rattle.std.specs.Prelude.{◌≡◌, ℕ, false, List, [], ◌∷◌, ◌++◌, if◌then◌else◌}
use Rattle.cov_io.specs.InMemory.{raised, is_next_in}
use Rattle.cov_out.specs.declared.row.OutRow.{OutRow}

-- trees in memory: the rows that were written, the numbers of the calls that fail, and the counts
pub record TreesState : Type 0 where
  pub rows : List OutRow
  pub fail : List ℕ
  pub calls : ℕ
  pub faults : ℕ
  pub starved : ℕ

-- a call that added a row
abbrev pub Adds : OutRow → TreesState → TreesState → Type 0
Adds row old new =
    (is_next_in old.fail old.calls ≡ false) × (new ≡ record old { rows = old.rows ++ row ∷ []; calls = raised old.calls })

-- a call that failed, by its number or else for want of memory, changed the counts alone
abbrev pub FailsToAdd : TreesState → TreesState → Type 0
FailsToAdd old new =
    let starved = if is_next_in old.fail old.calls then old.starved else raised old.starved in
    new ≡ record old { calls = raised old.calls; faults = raised old.faults; starved = starved }
