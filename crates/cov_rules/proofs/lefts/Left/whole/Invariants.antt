use Rattle.std.proofs.Common.{ℕ, ◌≡◌, ◌<◌, true}
use Rattle.cov_base.specs.Choices.{is_on}
use Rattle.cov_rules.proofs.lefts.Left.whole.Given as goal

abbrev pub invariant-loop-number : goal.invariant-loop-number
invariant-loop-number l = record {
  bound : (o : ℕ) → o < l.number → is_on l.self.bound o ≡ true;
}
