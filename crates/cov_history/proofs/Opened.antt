-- The options that a completion leaves open.
use Rattle.std.proofs.Common.{◌≡◌, ℕ, zero, suc, ◌+◌, ◌<◌, Bool, true, false, cond, List, [], ◌∷◌, Some, arith}
use Rattle.std.specs.List.{find, filter, range_with_len}
use Rattle.cov_expr.specs.Formula.{Formula}
use Rattle.cov_expr.specs.Validity.{is_valid}
use Rattle.cov_rules.specs.Completion.{Incomplete, agreeing, answer_of, completed_from, first_open, is_open, keep_all, literals}
use Rattle.cov_edit.specs.declared.command.Command.{Command}
use Rattle.cov_edit.specs.History.{option_count, constraints_of, preferences_of, defaults_of}
use Rattle.cov_history.specs.Completing.{completed_in}

-- a number that is found is one of them
found-below : (p : ℕ → Bool) (a n o : ℕ) → find p (range_with_len a n) ≡ Some o → o < a + n
found-below p a zero o h = absurd (cc)
found-below p a (suc n) o h = at (p a) h (λ k. found-below p (a + 1) n o k)
  where
    at : (b : Bool) → cond b (Some a) (find p (range_with_len (a + 1) n)) ≡ Some o → (find p (range_with_len (a + 1) n) ≡ Some o → o < a + 1 + n) → o < a + suc n
    at true k rest = let same : a ≡ o = cc in omega (arith, same)
    at false k rest = let later = rest k in omega (arith, later)

answer-below : (n : ℕ) (cs : List (List Bool)) (option : ℕ) → answer_of n cs ≡ Incomplete (Some option) → option < n
answer-below n [] option h = absurd (cc)
answer-below n (c ∷ []) option h = absurd (cc)
answer-below n (c ∷ d ∷ cs) option h =
    let found : first_open n (c ∷ d ∷ cs) ≡ Some option = cc in
    let below = found-below (is_open (c ∷ d ∷ cs)) 0 n option found in
    omega (arith, below)

open-below : (n : ℕ) (constraints preferences defaults : List (Formula ℕ)) (agree valid : List (List Bool)) (option : ℕ)
    → completed_from n constraints preferences defaults agree valid ≡ Incomplete (Some option) → option < n
open-below n constraints preferences defaults agree [] option h = absurd (cc)
open-below n constraints preferences defaults agree (c ∷ cs) option h = answer-below n (keep_all (keep_all (c ∷ cs) preferences) defaults) option h

-- an option that the rules leave open is declared
pub open-declared : (history : List Command) (partial : List (ℕ × Bool)) (option : ℕ) → completed_in history partial ≡ Incomplete (Some option) → option < option_count history
open-declared history partial option h =
    let n = option_count history in
    open-below n (constraints_of history) (preferences_of history) (literals (defaults_of history)) (agreeing n partial) (filter (is_valid (constraints_of history)) (agreeing n partial)) option h
