use Rattle.std.proofs.Common.{◌≡◌, ◌<◌, ◌^◌, length}
use Rattle.cov_script.specs.Fields.{digits_onto}
use Rattle.cov_script.proofs.number.digits_value.Given as goal

abbrev pub invariant-loop-rest : goal.invariant-loop-rest
invariant-loop-rest l = (l.value < 2 ^ 64) × (digits_onto l.value l.rest ≡ digits_onto 0 l.fn.bytes)

abbrev pub decreases-loop-rest : goal.decreases-loop-rest
decreases-loop-rest l = length l.rest
