-- Sides that a session takes, and those that it refuses.
use Rattle.std.proofs.Common.{◌≡◌, ◌∙◌, ◌⊎◌, inl, inr, refl, sym, ap, ℕ, ◌+◌, ◌<◌, ◌≤◌, Bool, true, false, cond, max, not, nat_le, List, [], ◌∷◌, ◌++◌, length, Option, Some, None, arith}
use Rattle.std.specs.List.{find}
use Rattle.std.specs.Option.{option_or}
use Rattle.std.proofs.Math.Nat.{max-le, le-max_left, le-max_right}
use Rattle.std.proofs.lemmas.Bool.Decides.{nat_tests}
use Rattle.std.proofs.lemmas.List.Folds.{find-append}
use Rattle.cov_expr.specs.Formula.{Formula, False, True, On, Not, And, Or, names_in, reach, value}
use Rattle.cov_expr.specs.Parts.{formula}
use Rattle.cov_expr.specs.declared.part.Part.{Part}
use Rattle.cov_edit.specs.declared.command.Command.{Command}
use Rattle.cov_view.specs.Refusals.{when, first_of}
use Rattle.cov_history.specs.Sessions.{Session}
use Rattle.cov_session.specs.Open.{SessionValue, IsOpen}
use Rattle.cov_session.specs.Siding.{first_late, as_late, side_fault}
use Rattle.cov_session.specs.declared.fault.SessionFault.TheVariants as faults

-- the first late option of two expressions is that of the left one, if it has one
pub late-both : (count : ℕ) (a b : Formula ℕ) → find (λ o. nat_le count o) (names_in a ++ names_in b) ≡ option_or (first_late count a) (first_late count b)
late-both count a b = find-append (λ o. nat_le count o) (names_in a) (names_in b)

-- so of an expression that has the options of two, those of the left one before
module _ (count : ℕ) (e a b : Formula ℕ) (both : names_in e ≡ names_in a ++ names_in b) where
  late-of : first_late count e ≡ option_or (first_late count a) (first_late count b)
  late-of = ap (find (λ o. nat_le count o)) both ∙ late-both count a b

  pub late-left : (option : ℕ) → first_late count a ≡ Some option → Some option ≡ first_late count e
  late-left option h = sym (late-of ∙ ap (λ o. option_or o (first_late count b)) h)

  pub late-right : first_late count a ≡ None → first_late count b ≡ first_late count e
  late-right h = sym (late-of ∙ ap (λ o. option_or o (first_late count b)) h)

-- a part that has two operands has their options
pub operands : (part one other : Part) (os : List ℕ) → (part ≡ one) ⊎ (part ≡ other) → names_in (formula one) ≡ os → names_in (formula other) ≡ os → names_in (formula part) ≡ os
operands part one other os (inl is) h k = ap (λ p. names_in (formula p)) is ∙ h
operands part one other os (inr is) h k = ap (λ p. names_in (formula p)) is ∙ k

late-one : (count o : ℕ) (b : Bool) → nat_le count o ≡ b → cond b (Some o) None ≡ None → o + 1 ≤ count
late-one count o true is h = absurd (cc)
late-one count o false is h = grind (arith, nat_tests, is)

-- where neither of two expressions has a late option, both reach no further than the count
neither : (count n m : ℕ) (x y : Option ℕ) → (x ≡ None → n ≤ count) → (y ≡ None → m ≤ count) → option_or x y ≡ None → max n m ≤ count
neither count n m None y left right h = max-le (left refl) (right h)
neither count n m (Some o) y left right h = absurd (cc)

-- an expression without a late option reaches no further than the count
pub none-late : (count : ℕ) (e : Formula ℕ) → first_late count e ≡ None → reach e ≤ count
none-late count False h = omega arith
none-late count True h = omega arith
none-late count (On o) h = late-one count o (nat_le count o) refl h
none-late count (Not e) h = none-late count e h
none-late count (And a b) h = neither count (reach a) (reach b) (first_late count a) (first_late count b) (none-late count a) (none-late count b) (sym (late-both count a b) ∙ h)
none-late count (Or a b) h = neither count (reach a) (reach b) (first_late count a) (first_late count b) (none-late count a) (none-late count b) (sym (late-both count a b) ∙ h)

late-own : (count o option : ℕ) (b : Bool) → cond b (Some o) None ≡ Some option → option < o + 1
late-own count o option true h = let same : o ≡ option = cc in omega (arith, same)
late-own count o option false h = absurd (cc)

either : (option n m : ℕ) (x y : Option ℕ) → (x ≡ Some option → option < n) → (y ≡ Some option → option < m) → option_or x y ≡ Some option → option < max n m
either option n m None y left right h = let own = right h in let most = le-max_right n m in omega (arith, own, most)
either option n m (Some o) y left right h = let own = left h in let most = le-max_left n m in omega (arith, own, most)

-- a late option is one of the expression
pub late-below : (count : ℕ) (e : Formula ℕ) (option : ℕ) → first_late count e ≡ Some option → option < reach e
late-below count False option h = absurd (cc)
late-below count True option h = absurd (cc)
late-below count (On o) option h = late-own count o option (nat_le count o) h
late-below count (Not e) option h = late-below count e option h
late-below count (And a b) option h = either option (reach a) (reach b) (first_late count a) (first_late count b) (late-below count a option) (late-below count b option) (sym (late-both count a b) ∙ h)
late-below count (Or a b) option h = either option (reach a) (reach b) (first_late count a) (first_late count b) (late-below count a option) (late-below count b option) (sym (late-both count a b) ∙ h)

module _ (s : Session) (side : Formula ℕ) where
  -- a side with a late option is refused for it
  pub late-refused : (option : ℕ) → first_late (length s.choice) side ≡ Some option → side_fault s side ≡ Some (faults.LateOption option)
  late-refused option h = ap (λ o. first_of (as_late o ∷ when (not (value side s.choice)) faults.OutsideSide ∷ [])) h

  -- without one, its value on the choice decides
  by-value : (on : Bool) → first_late (length s.choice) side ≡ None → value side s.choice ≡ on → side_fault s side ≡ first_of (when (not on) faults.OutsideSide ∷ [])
  by-value on h is =
      ap (λ o. first_of (as_late o ∷ when (not (value side s.choice)) faults.OutsideSide ∷ [])) h
      ∙ ap (λ b. first_of (when (not b) faults.OutsideSide ∷ [])) is

  pub outside-refused : first_late (length s.choice) side ≡ None → value side s.choice ≡ false → side_fault s side ≡ Some faults.OutsideSide
  outside-refused h is = by-value false h is

  pub side-accepted : first_late (length s.choice) side ≡ None → value side s.choice ≡ true → side_fault s side ≡ None
  side-accepted h is = by-value true h is

-- an open session that takes another side is open
pub open-on : (history : List Command) (s : SessionValue) (side : Formula ℕ) → first_late (length s.session.choice) side ≡ None → value side s.session.choice ≡ true → IsOpen history s
    → IsOpen history (record { name = s.name; side = side; session = s.session; view = s.view })
open-on history s side none is here = record {
  good = here.good;
  side_in_reach = (let low = none-late (length s.session.choice) side none in let whole = here.good.of_all_options in omega (arith, low, whole));
  in_side = is;
  shows = here.shows;
  nodes = here.nodes;
  lines = here.lines;
}
