-- What is counted over several turns.
use Rattle.std.proofs.Common.{ℕ, List, Option, Some, None, arith}
use Rattle.cov_io.specs.Progress.{Progress, CountsGiven}
use Rattle.cov_io.proofs.CallerLemmas.{tracks_both}
use Rattle.cov_loop.specs.Counts.{Counted, Counts}

pub counted_then : {before mid now : Progress} {old between new : Counts} → Counted before mid old between → Counted mid now between new → Counted before now old new
counted_then {before} {mid} {now} {old} {between} {new} first next = record {
  source_later = omega (arith, first.source_later, next.source_later);
  sink_later = omega (arith, first.sink_later, next.sink_later);
  disk_later = omega (arith, first.disk_later, next.disk_later);
  trees_later = omega (arith, first.trees_later, next.trees_later);
  taken = omega (arith, first.taken, next.taken);
  ended = tracks_both before.ended mid.ended now.ended old.ends between.ends new.ends first.ended next.ended;
}

pub given_then : (left between later : Option (List ℕ)) (old mid new : ℕ) → CountsGiven left between old mid → CountsGiven between later mid new → CountsGiven left later old new
given_then None between later old mid new first next = tt
given_then (Some a) None later old mid new first next = absurd first
given_then (Some a) (Some b) None old mid new first next = absurd next
given_then (Some a) (Some b) (Some d) old mid new first next = omega (arith, first, next)
