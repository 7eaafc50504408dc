-- What devices in memory hold, and what their calls do.
use Rattle.std.specs.Prelude.{◌≡◌, ℕ, ◌+◌, ◌-◌, ◌^◌, Bool, false, ◌||◌, min, nat_eq, nat_lt, List, ◌++◌, Option, Some, None, if◌then◌else◌}
use Rattle.std.specs.List.{list_any}

-- one more, up to the greatest value of a count
abbrev pub raised : ℕ → ℕ
raised count = min (count + 1) (2 ^ 64 - 1)

-- whether the number of the call after so many stands in a list
abbrev pub is_next_in : List ℕ → ℕ → Bool
is_next_in fail calls = list_any (λ n. nat_eq n (raised calls)) fail

-- the numbers of the calls that fail, how many calls come before every call fails, and the counts
pub record Calls : Type 0 where
  pub fail : List ℕ
  pub fuse : Option ℕ
  pub calls : ℕ
  pub faults : ℕ
  pub starved : ℕ

-- whether the call of this number comes after the fuse
abbrev pub is_past : Option ℕ → ℕ → Bool
is_past None calls = false
is_past (Some fuse) calls = nat_lt fuse calls

-- whether the next call fails by its number
abbrev pub fails_next : Calls → Bool
fails_next c = is_past c.fuse (raised c.calls) || is_next_in c.fail c.calls

-- the counts after a call, and after one that failed, or failed for want of memory
abbrev pub counted : Calls → Calls
counted c = record c { calls = raised c.calls }

abbrev pub failed : Calls → Calls
failed c = record c { faults = raised c.faults }

abbrev pub starved : Calls → Calls
starved c = record c { faults = raised c.faults; starved = raised c.starved }

-- a source in memory: what is left and was given, the most bytes of a read, the numbers of the calls that fail, and its counts
pub record SourceState : Type 0 where
  pub left : List ℕ
  pub given : ℕ
  pub piece : ℕ
  pub fail : List ℕ
  pub calls : ℕ
  pub faults : ℕ
  pub ends : ℕ

-- a sink in memory: what was written, the numbers of the calls that fail, and its counts
pub record SinkState : Type 0 where
  pub written : List ℕ
  pub fail : List ℕ
  pub calls : ℕ
  pub faults : ℕ
  pub starved : ℕ

-- a call of a source that failed changed its counts alone
abbrev pub FailsToRead : SourceState → SourceState → Type 0
FailsToRead old new = new ≡ record old { calls = raised old.calls; faults = raised old.faults }

-- a call of a sink that wrote all the bytes
abbrev pub Writes : List ℕ → SinkState → SinkState → Type 0
Writes bytes old new =
    (is_next_in old.fail old.calls ≡ false) × (new ≡ record old { written = old.written ++ bytes; calls = raised old.calls })

-- a call of a sink that failed, by its number or else for want of memory, changed its counts alone
abbrev pub FailsToWrite : SinkState → SinkState → Type 0
FailsToWrite old new =
    let starved = if is_next_in old.fail old.calls then old.starved else raised old.starved in
    new ≡ record old { calls = raised old.calls; faults = raised old.faults; starved = starved }
