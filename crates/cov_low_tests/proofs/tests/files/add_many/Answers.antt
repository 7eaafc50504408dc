use Rattle.std.proofs.Common.{◌≡◌, ℕ, ◌+◌, ◌≤◌, true, false, nat_eq, List, ap, ◌∙◌, arith}
use Rattle.std.proofs.lemmas.Bool.{or_from, or_right}
use Rattle.std.proofs.lemmas.Bool.Decides.{nat_tests}
use Rattle.cov_base.specs.Addresses.{after_anchor}
use Rattle.cov_order.specs.Orders.{has_line}
use Rattle.cov_order.proofs.CallerLemmas.{any-after}
use Rattle.cov_low_tests.proofs.tests.files.add_many.Goals as goal

still_there : (q anchor line : ℕ) (old new : List ℕ) → new ≡ after_anchor anchor line old → has_line q old ≡ true → has_line q new ≡ true
still_there q anchor line old new e there = ap (has_line q) e ∙ any-after q anchor line old ∙ or_right (nat_eq line q) (has_line q old) there

fresh_more : (q anchor line : ℕ) (old new : List ℕ) → new ≡ after_anchor anchor line old → ((k : ℕ) → line ≤ k → has_line k old ≡ false) → line + 1 ≤ q → has_line q new ≡ false
fresh_more q anchor line old new e before more =
    ap (has_line q) e ∙ any-after q anchor line old ∙ or_from (nat_eq line q) (has_line q old) (grind (arith, nat_tests, more)) (before q (omega (arith, more)))

pub numbers-preserved : goal.numbers-preserved
numbers-preserved c =
    let after = c.insert_after-in-numbers.ensures.lines ∙ ap (λ n. after_anchor c.new-in-numbers.result n c.numbers.order.lines) c.new-in-numbers-2.ensures in
    record {
      anchored = still_there 1 c.new-in-numbers.result c.numbers.number c.numbers.order.lines c.insert_after-in-numbers.new.self.lines after c.numbers.invariant.anchored;
      fresh = λ q more. fresh_more q c.new-in-numbers.result c.numbers.number c.numbers.order.lines c.insert_after-in-numbers.new.self.lines after c.numbers.invariant.fresh more;
      room = omega (arith, c.insert_after-in-numbers.ensures.spare, c.numbers.invariant.room, c.numbers-test.true);
    }
