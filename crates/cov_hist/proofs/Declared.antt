-- The options for which bindings are refused.
use Rattle.std.proofs.Common.{◌≡◌, ◌⊎◌, inl, inr, ℕ, zero, suc, ◌+◌, ◌<◌, ◌≤◌, Bool, true, false, cond, nat_le, nat_lt, List, [], ◌∷◌, length, take, Option, Some, None, option_map, Result, Err, refl, sym, subst, arith}
use Rattle.std.specs.Prelude.{is_none}
use Rattle.std.specs.List.{find, list_all, range_with_len}
use Rattle.std.proofs.lemmas.Bool.{and_parts}
use Rattle.std.proofs.lemmas.Bool.Decides.{nat_tests}
use Rattle.cov_expr.specs.Partials.{bound_value}
use Rattle.cov_edit.specs.declared.command.Command.{Command}
use Rattle.cov_edit.specs.History.{first_false_in, option_count}
use Rattle.cov_engine.proofs.CallerLemmas.{declared-less}
use Rattle.cov_hist.specs.Past.{choice_after, choice_at, first_late, first_open, unless_invalid, unless_late, unless_open, values_of}
use Rattle.cov_hist.specs.declared.fault.PastFault.{PastFault}
use Rattle.cov_hist.specs.declared.fault.PastFault.TheVariants as faults

-- a late option is among those that are bound
late-low : (count n option : ℕ) (partial : List (ℕ × Bool)) → list_all (λ b. nat_lt b.0 n) partial ≡ true → first_late count partial ≡ Some option → option < n
late-low count n option [] all late = absurd (cc)
late-low count n option (b ∷ partial) all late =
    let parts = and_parts (nat_lt b.0 n) (list_all (λ c. nat_lt c.0 n) partial) all in
    at (nat_le count b.0) parts.0 late (λ rest. late-low count n option partial parts.1 rest)
  where
    at : (t : Bool) → nat_lt b.0 n ≡ true → option_map (λ c. c.0) (cond t (Some b) (find (λ c. nat_le count c.0) partial)) ≡ Some option
        → (first_late count partial ≡ Some option → option < n) → option < n
    at true low late rest = let same : b.0 ≡ option = cc in grind (arith, nat_tests, low, same)
    at false low late rest = rest late

-- what is found among numbers is one of them
found-low : (test : ℕ → Bool) (a n option : ℕ) → find test (range_with_len a n) ≡ Some option → option < a + n
found-low test a zero option found = absurd (cc)
found-low test a (suc n) option found = at (test a) found (λ rest. found-low test (a + 1) n option rest)
  where
    at : (t : Bool) → cond t (Some a) (find test (range_with_len (a + 1) n)) ≡ Some option → (find test (range_with_len (a + 1) n) ≡ Some option → option < a + 1 + n) → option < a + suc n
    at true found rest = let same : a ≡ option = cc in omega (arith, same)
    at false found rest = let low = rest found in omega (arith, low)

-- which refusal comes
not-late : (late : Option ℕ) (next : Result (List Bool) PastFault) (fault : PastFault) → unless_late late next ≡ Err fault → (late ≡ None) × (next ≡ Err fault) ⊎ ((option : ℕ) × (late ≡ Some option) × (fault ≡ faults.LateOption option))
not-late None next fault h = inl (refl, h)
not-late (Some option) next fault h = inr (option, refl, let same : faults.LateOption option ≡ fault = cc in sym same)

not-open : (unbound : Option ℕ) (next : Result (List Bool) PastFault) (fault : PastFault) → unless_open unbound next ≡ Err fault → (unbound ≡ None) × (next ≡ Err fault) ⊎ ((option : ℕ) × (unbound ≡ Some option) × (fault ≡ faults.Incomplete option))
not-open None next fault h = inl (refl, h)
not-open (Some option) next fault h = inr (option, refl, let same : faults.Incomplete option ≡ fault = cc in sym same)

not-invalid : (rule : Option ℕ) (choice : List Bool) (fault : PastFault) → unless_invalid rule choice ≡ Err fault → (r : ℕ) × (fault ≡ faults.Invalid r)
not-invalid None choice fault h = absurd (cc)
not-invalid (Some rule) choice fault h = (rule, let same : faults.Invalid rule ≡ fault = cc in sym same)

-- the option that a fault names, if it names one, is below a number
abbrev IsLow : ℕ → PastFault → Type 0
IsLow n faults.NoSuchPosition = Unit {0}
IsLow n (faults.LateOption option) = option < n
IsLow n (faults.Incomplete option) = option < n
IsLow n (faults.Invalid rule) = Unit {0}

module _ (before : List Command) (partial : List (ℕ × Bool)) (n : ℕ) (few : option_count before ≤ n) (all : list_all (λ b. nat_lt b.0 n) partial ≡ true) where
  abbrev count : ℕ
  count = option_count before

  abbrev values : List Bool
  values = values_of count partial

  refused-after : (fault : PastFault) → choice_after before partial ≡ Err fault → IsLow n fault
  refused-after fault h = at (not-late (first_late count partial) (unless_open (first_open count partial) (unless_invalid (first_false_in before values) values)) fault h)
    where
      last : (r : ℕ) × (fault ≡ faults.Invalid r) → IsLow n fault
      last (r, is) = subst (IsLow n) (sym is) tt

      next : ((first_open count partial ≡ None) × (unless_invalid (first_false_in before values) values ≡ Err fault)) ⊎ ((option : ℕ) × (first_open count partial ≡ Some option) × (fault ≡ faults.Incomplete option)) → IsLow n fault
      next (inl (none, k)) = last (not-invalid (first_false_in before values) values fault k)
      next (inr (option, unbound, is)) =
          let low = found-low (λ o. is_none (bound_value partial o)) 0 count option unbound in
          subst (IsLow n) (sym is) (omega (arith, low, few))

      at : ((first_late count partial ≡ None) × (unless_open (first_open count partial) (unless_invalid (first_false_in before values) values) ≡ Err fault)) ⊎ ((option : ℕ) × (first_late count partial ≡ Some option) × (fault ≡ faults.LateOption option)) → IsLow n fault
      at (inl (none, k)) = next (not-open (first_open count partial) (unless_invalid (first_false_in before values) values) fault k)
      at (inr (option, late, is)) = subst (IsLow n) (sym is) (late-low count n option partial all late)

refused-low : (history : List Command) (partial : List (ℕ × Bool)) (at : ℕ) (fault : PastFault) → list_all (λ b. nat_lt b.0 (option_count history)) partial ≡ true → choice_at history partial at ≡ Err fault → IsLow (option_count history) fault
refused-low history partial at fault all h = by (nat_lt (length history) at) h
  where
    by : (b : Bool) → cond b (Err faults.NoSuchPosition) (choice_after (take at history) partial) ≡ Err fault → IsLow (option_count history) fault
    by true h = let same : faults.NoSuchPosition ≡ fault = cc in subst (IsLow (option_count history)) same tt
    by false h = refused-after (take at history) partial (option_count history) (declared-less at history) all fault h

pub refused-declared : (history : List Command) (partial : List (ℕ × Bool)) (at option : ℕ) → list_all (λ b. nat_lt b.0 (option_count history)) partial ≡ true
    → (choice_at history partial at ≡ Err (faults.LateOption option)) ⊎ (choice_at history partial at ≡ Err (faults.Incomplete option)) → option < option_count history
refused-declared history partial at option all (inl late) = refused-low history partial at (faults.LateOption option) all late
refused-declared history partial at option all (inr unbound) = refused-low history partial at (faults.Incomplete option) all unbound
