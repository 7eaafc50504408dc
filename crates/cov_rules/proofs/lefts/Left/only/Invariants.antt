use Rattle.std.proofs.Common.{ℕ, ◌≡◌, ◌-◌, ◌<◌, true, length}
use Rattle.std.specs.List.{find, range_with_len}
use Rattle.cov_base.specs.Choices.{is_on}
use Rattle.cov_dd.specs.Diagrams.{Extends}
use Rattle.cov_rules.specs.Completion.{first_open, is_open}
use Rattle.cov_rules.specs.Lefts.{choices_left, IsLeft}
use Rattle.cov_rules.proofs.lefts.Left.only.Given as goal

abbrev pub invariant-loop-number : goal.invariant-loop-number
invariant-loop-number l = record {
  extends : Extends l.fn.table l.table;
  left : IsLeft l.table (length l.fn.self.bound) (choices_left l.fn.table l.fn.self) l.left;
  bound : (o : ℕ) → o < l.number → is_on l.left.bound o ≡ true;
  ahead : first_open (length l.fn.self.bound) (choices_left l.fn.table l.fn.self) ≡ find (is_open (choices_left l.fn.table l.fn.self)) (range_with_len l.number (length l.fn.self.bound - l.number));
}
