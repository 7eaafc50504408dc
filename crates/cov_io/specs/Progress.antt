-- How far the reading of lines has come.
use Rattle.std.specs.Prelude.{◌≡◌, ℕ, ◌+◌, ◌-◌, ◌^◌, ◌<◌, ◌≤◌, Bool, true, false, List, length, Option, Some, None}
use Rattle.cov_base.specs.Causes.{Rose}
use Rattle.cov_base.specs.declared.limits.TheConstants.{TOO_MANY_SCRIPT_BYTES}
use Rattle.cov_io.specs.declared.buffer.TheConstants.{READ_BYTES}

-- the bytes taken from the source for items not yet given, how many were taken, and whether some read answered 0
pub record Progress : Type 0 where
  pub ahead : List ℕ
  pub taken : ℕ
  pub ended : Bool

-- a bound on the items that can still be given; it falls with each of them
abbrev pub potential : Progress → ℕ
potential p = length p.ahead + (2 ^ 64 - p.taken)

-- the end is known exactly where it was before, or a read answered 0 since and so the source's count of ends rose
pub record TracksEnd (before now : Bool) (old new : ℕ) : Type 0 where
  pub later : old ≤ new
  pub unended : now ≡ false → (before ≡ false) × (new ≡ old)
  pub ended : before ≡ false → now ≡ true → Rose old new

-- where the bytes left are told, the source gave those that are left no more
abbrev pub CountsGiven : Option (List ℕ) → Option (List ℕ) → ℕ → ℕ → Type 0
CountsGiven None later old new = Unit {0}
CountsGiven (Some left) None old new = ⊥
CountsGiven (Some left) (Some later) old new = length left + old ≡ length later + new

-- too many bytes were taken and no read has answered 0
abbrev pub IsTooMuch : Progress → Type 0
IsTooMuch p = (TOO_MANY_SCRIPT_BYTES ≤ p.taken) × (p.ended ≡ false)

-- while the end isn't known fewer bytes were taken than are too many with one read more, and never as many as 2^64
pub record IsBounded (ended : Bool) (taken : ℕ) : Type 0 where
  pub unended : ended ≡ false → taken < TOO_MANY_SCRIPT_BYTES + READ_BYTES
  pub fits : taken < 2 ^ 64
