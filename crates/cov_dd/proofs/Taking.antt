-- Nodes taken apart at an option.
use Rattle.std.proofs.Common.{◌≡◌, ℕ, ◌<◌, Bool, true, false, cond, List, Some, refl, ap, ◌∙◌, arith}
use Rattle.cov_base.specs.Choices.{is_on}
use Rattle.cov_dd.specs.declared.triple.Triple.{Triple}
use Rattle.cov_dd.specs.Diagrams.{diagram_size, entry_in, top, value_in, IsDiagram, IsEntry}
use Rattle.cov_dd.specs.Combinations.{IsSides}
use Rattle.cov_dd.proofs.Nodes.{entry_facts}
use Rattle.cov_dd.proofs.Reaching.{reaches-off, reaches-on}

-- a node that has the option
pub sides_of_entry : (ts : List Triple) → IsDiagram ts → (a o : ℕ) (t : Triple) → entry_in ts a ≡ Some t → t.option ≡ o → IsSides ts a o t.off t.on
sides_of_entry ts d a o t is at =
    let e : IsEntry ts a t = entry_facts ts d a t is in
    record {
      off_within = omega (arith, e.off_before, e.within);
      on_within = omega (arith, e.on_before, e.within);
      off_above = omega (arith, e.off_above, at);
      on_above = omega (arith, e.on_above, at);
      off_below = omega (arith, e.spans);
      on_below = omega (arith, e.spans);
      off_most = omega (arith, e.off_before);
      on_most = omega (arith, e.on_before);
      falls = λ _. (e.off_before, e.on_before);
      spanned = λ _. omega (arith, e.spans, at);
      value = λ c. e.value c ∙ ap (λ n. cond (is_on c n) (value_in ts t.on c) (value_in ts t.off c)) at;
      off_reached = reaches-off ts d a t is;
      on_reached = reaches-on ts d a t is;
    }

same_both : (b x : Bool) → x ≡ cond b x x
same_both true x = refl
same_both false x = refl

-- a node that doesn't have it
pub sides_of_other : (ts : List Triple) (a o : ℕ) → a < diagram_size ts → o < top ts a → IsSides ts a o a a
sides_of_other ts a o within above = record {
  off_within = within;
  on_within = within;
  off_above = above;
  on_above = above;
  off_below = omega arith;
  on_below = omega arith;
  off_most = omega arith;
  on_most = omega arith;
  falls = λ at. absurd (omega (arith, at, above));
  spanned = λ at. absurd (omega (arith, at, above));
  value = λ c. same_both (is_on c o) (value_in ts a c);
  off_reached = λ n h. h;
  on_reached = λ n h. h;
}
