use Rattle.std.proofs.Common.{◌≡◌, ℕ, ◌<◌, take, drop, map, length, get_or, None}
use Rattle.cov_expr.specs.Partials.{bound_value}
use Rattle.cov_expr.specs.Binding.{first_repeated, first_again}
use Rattle.cov_expr.proofs.binding.fill.Given as goal

abbrev pub invariant-loop-option : goal.invariant-loop-option
invariant-loop-option l =
    ((k : ℕ) → k < length l.values → get_or l.values k None ≡ bound_value (take l.option-index l.bindings) k)
    × (first_repeated l.bindings ≡ first_again (map (λ b. b.0) (take l.option-index l.bindings)) (map (λ b. b.0) (drop l.option-index l.bindings)))
