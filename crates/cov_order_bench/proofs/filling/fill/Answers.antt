use Rattle.std.proofs.Common.{◌≡◌, ℕ, ◌+◌, ◌<◌, ◌≤◌, Bool, true, false, ◌||◌, nat_eq, List, refl, ap, ◌∙◌, arith}
use Rattle.std.proofs.lemmas.Bool.{or_from}
use Rattle.std.proofs.lemmas.Bool.Decides.{nat_tests}
use Rattle.cov_base.specs.Addresses.{after_anchor}
use Rattle.cov_order.specs.Orders.{has_line}
use Rattle.cov_order.proofs.CallerLemmas.{any-after}
use Rattle.cov_order_bench.proofs.filling.fill.Goals as goal

anchored_more : (q anchor line : ℕ) (old new : List ℕ) → new ≡ after_anchor anchor line old → ((k : ℕ) → 0 < k → k < line → has_line k old ≡ true) → 0 < q → q < line + 1 → has_line q new ≡ true
anchored_more q anchor line old new e before some less = ap (has_line q) e ∙ any-after q anchor line old ∙ at (nat_eq line q) refl
  where
    at : (b : Bool) → nat_eq line q ≡ b → (b || has_line q old) ≡ true
    at true f = refl
    at false f = before q some (grind (arith, nat_tests, less, f))

fresh_more : (q anchor line : ℕ) (old new : List ℕ) → new ≡ after_anchor anchor line old → ((k : ℕ) → line ≤ k → has_line k old ≡ false) → line + 1 ≤ q → has_line q new ≡ false
fresh_more q anchor line old new e before more =
    ap (has_line q) e ∙ any-after q anchor line old ∙ or_from (nat_eq line q) (has_line q old) (grind (arith, nat_tests, more)) (before q (omega (arith, more)))

pub numbers-preserved : goal.numbers-preserved
numbers-preserved c =
    let after = c.insert_after-in-numbers.ensures.lines ∙ ap (λ n. after_anchor c.new-in-numbers.result n c.numbers.order.lines) c.new-in-numbers-2.ensures in
    record {
      anchored = λ q some less. anchored_more q c.new-in-numbers.result c.numbers.number c.numbers.order.lines c.insert_after-in-numbers.new.self.lines after c.numbers.invariant.anchored some less;
      fresh = λ q more. fresh_more q c.new-in-numbers.result c.numbers.number c.numbers.order.lines c.insert_after-in-numbers.new.self.lines after c.numbers.invariant.fresh more;
      room = omega (arith, c.insert_after-in-numbers.ensures.spare, c.numbers.invariant.room, c.numbers-test.true);
    }
