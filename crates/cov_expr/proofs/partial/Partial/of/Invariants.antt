use Rattle.std.proofs.Common.{◌≡◌, ◌++◌, drop}
use Rattle.std.specs.List.{enumerate_from}
use Rattle.cov_expr.proofs.partial.Partial.of.Given as goal

abbrev pub invariant-loop-number : goal.invariant-loop-number
invariant-loop-number l = l.bindings.items ++ enumerate_from l.number (drop l.number l.fn.choice) ≡ enumerate_from 0 l.fn.choice
