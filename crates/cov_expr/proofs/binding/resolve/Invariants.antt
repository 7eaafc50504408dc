use Rattle.std.proofs.Common.{◌≡◌, true, nat_lt, take, drop, length}
use Rattle.std.specs.List.{list_all}
use Rattle.cov_expr.specs.Binding.{numbered, first_undeclared}
use Rattle.cov_expr.proofs.binding.resolve.Given as goal

abbrev pub invariant-loop-name : goal.invariant-loop-name
invariant-loop-name l =
    (l.found.items ≡ numbered l.options.names (take l.name-index l.bindings))
    × (list_all (λ b. nat_lt b.0 (length l.options.names)) l.found.items ≡ true)
    × (first_undeclared l.options.names l.bindings ≡ first_undeclared l.options.names (drop l.name-index l.bindings))
