use Rattle.std.proofs.Common.{◌≡◌, ◌+◌, length}
use Rattle.std.specs.Option.{option_copied, option_map_or}
use Rattle.cov_expr.specs.ChoiceText.{bindings_between_commas}
use Rattle.cov_expr.proofs.ReadingBindings.{with_ahead}
use Rattle.cov_expr.proofs.raw_choice.read_bindings.Given as goal

abbrev pub invariant-loop-ahead : goal.invariant-loop-ahead
invariant-loop-ahead l = bindings_between_commas l.fn.text ≡ with_ahead l.bindings.items (option_copied l.ahead)

abbrev pub decreases-loop-ahead : goal.decreases-loop-ahead
decreases-loop-ahead l = option_map_or (λ t. length t.now + 1) l.ahead 0
