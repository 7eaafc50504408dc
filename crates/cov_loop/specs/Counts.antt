-- What is counted while lines are served.
use Rattle.std.specs.Prelude.{◌≡◌, ℕ, ◌+◌, ◌≤◌}
use Rattle.cov_io.specs.Progress.{Progress, TracksEnd}

-- the counts of what a run is given, before and after: of the source's faults, bytes and ends, and of the faults of the sink, the disk and the trees
pub record Counts : Type 0 where
  pub source : ℕ
  pub sink : ℕ
  pub disk : ℕ
  pub trees : ℕ
  pub given : ℕ
  pub ends : ℕ

abbrev pub counts : ℕ → ℕ → ℕ → ℕ → ℕ → ℕ → Counts
counts source sink disk trees given ends = record {
  source = source;
  sink = sink;
  disk = disk;
  trees = trees;
  given = given;
  ends = ends;
}

-- what is counted in a turn or several
pub record Counted (before now : Progress) (old new : Counts) : Type 0 where
  pub source_later : old.source ≤ new.source
  pub sink_later : old.sink ≤ new.sink
  pub disk_later : old.disk ≤ new.disk
  pub trees_later : old.trees ≤ new.trees
  pub taken : now.taken + old.given ≡ before.taken + new.given
  pub ended : TracksEnd before.ended now.ended old.ends new.ends

-- the counts of faults haven't fallen
abbrev pub Later : Counts → Counts → Type 0
Later old new = (old.source ≤ new.source) × (old.sink ≤ new.sink) × (old.disk ≤ new.disk) × (old.trees ≤ new.trees)
