-- What a disk in memory holds, and what its calls do.
use Rattle.std.specs.Prelude.{◌≡◌, ◌⊎◌, ℕ, true, false, Result, Ok, Err, List, ◌∷◌, length, take, drop}
use Rattle.cov_io.specs.InMemory.{Calls, fails_next, counted, failed, starved}
use Rattle.cov_disk.specs.Kept.{Disk}
use Rattle.cov_disk.specs.declared.kept.Logged.TheVariants.{Wrote, Missed, Synced}

-- a disk in memory
pub record DiskState : Type 0 where
  pub kept : Disk
  pub calls : Calls

-- a call fails exactly where its number is listed or comes after the fuse, or where it found no memory
abbrev pub Counts : {T E : Type 0} → Result T E → Calls → Calls → Type 0
Counts (Ok x) old new = (fails_next old ≡ false) × (new ≡ counted old)
Counts (Err e) old new = ((fails_next old ≡ true) × (new ≡ failed (counted old))) ⊎ (new ≡ starved (counted old))

-- a call that tells something leaves the bytes and their log
abbrev pub Leaves : DiskState → DiskState → Type 0
Leaves old new = new.kept ≡ old.kept

-- a write that fails by its number is logged with its range, and fails for want of memory where the log can't grow
abbrev pub Misses : ℕ → ℕ → DiskState → DiskState → Type 0
Misses at n old new =
    ((new.kept ≡ record old.kept { log = Missed at n ∷ old.kept.log }) × (new.calls ≡ failed old.calls))
    ⊎ ((new.kept ≡ old.kept) × (new.calls ≡ starved old.calls))

-- a write is logged with what it was written over
abbrev pub LogsWrite : {T E : Type 0} → Result T E → ℕ → List ℕ → DiskState → DiskState → Type 0
LogsWrite (Ok x) at bytes old new =
    new.kept.log ≡ Wrote at (length bytes) (take (length bytes) (drop at old.kept.content)) ∷ old.kept.log
LogsWrite (Err e) at bytes old new = Misses at (length bytes) (record old { calls = counted old.calls }) new

-- a sync is logged where it succeeds
abbrev pub LogsSync : {T E : Type 0} → Result T E → DiskState → DiskState → Type 0
LogsSync (Ok x) old new = new.kept ≡ record old.kept { log = Synced ∷ old.kept.log }
LogsSync (Err e) old new = new.kept ≡ old.kept
