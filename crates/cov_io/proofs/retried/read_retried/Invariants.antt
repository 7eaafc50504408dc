use Rattle.std.proofs.Common.{◌≡◌, length}
use Rattle.std.specs.Io.KnownBytes.{Keeps}
use Rattle.cov_io.proofs.retried.read_retried.Given as goal

abbrev pub invariant-loop-turn : goal.invariant-loop-turn
invariant-loop-turn g l = (length l.into ≡ length l.fn.into) × Keeps (g.R.Read.remaining l.fn.reader) (g.R.Read.remaining l.reader)
