use Rattle.std.proofs.Common.{◌≡◌, ◌++◌, drop}
use Rattle.cov_expr.specs.Partials.{places_from}
use Rattle.cov_expr.proofs.partial.Partial.of_values.Given as goal

abbrev pub invariant-loop-number : goal.invariant-loop-number
invariant-loop-number l = l.bindings.items ++ places_from l.number (drop l.number l.fn.values) ≡ places_from 0 l.fn.values
