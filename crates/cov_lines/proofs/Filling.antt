-- What bindings give to the first options, and choices that bind them all.
use Rattle.std.proofs.Common.{◌≡◌, ℕ, zero, suc, ◌+◌, ◌-◌, ◌<◌, ◌≤◌, Bool, true, false, cond, List, [], ◌∷◌, ◌++◌, length, map, replicate, Some, None, Ok, append-nil, append_assoc, length-append, refl, sym, ap, ◌∙◌, arith}
use Rattle.std.specs.List.{find, range_with_len}
use Rattle.std.proofs.lemmas.List.{length-replicate}
use Rattle.std.proofs.lemmas.List.FromFn.{length-map-range_with_len, map-range_with_len_more}
use Rattle.cov_base.specs.Choices.{bits_of, with_option}
use Rattle.cov_base.proofs.CallerLemmas.{with_option-middle}
use Rattle.cov_edit.specs.History.{option_count}
use Rattle.cov_hist.specs.Past.{first_open, values_of}
use Rattle.cov_script.specs.declared.code.Code.TheVariants as codes
use Rattle.cov_codes.specs.declared.stop.Stop.TheVariants as stops
use Rattle.cov_lines.specs.Acting.{Stops}
use Rattle.cov_lines.specs.Finding.{unless_open, whole_choice}
use Rattle.cov_lines.specs.States.{State}

-- the choice with all options off
all-off : (count : ℕ) → bits_of count 0 ≡ replicate count false
all-off zero = refl
all-off (suc count) = ap (λ c. false ∷ c) (all-off count)

-- the first so many values of options, and off for the others
abbrev pub filled : (ℕ → Bool) → ℕ → ℕ → List Bool
filled f count n = map f (range_with_len 0 n) ++ replicate (count - n) false

-- it begins with all options off, and has them all in the end
pub filled-none : (f : ℕ → Bool) (count : ℕ) → bits_of count 0 ≡ filled f count 0
filled-none f count = all-off count ∙ (let all : count ≡ count - 0 = omega arith in ap (λ k. replicate k false) all)

pub filled-all : (f : ℕ → Bool) (count n : ℕ) (choice : List Bool) → count ≤ n → n ≤ count → choice ≡ filled f count n → choice ≡ map f (range_with_len 0 count)
filled-all f count n choice high low is =
    is
    ∙ (let none : count - n ≡ 0 = omega (arith, high) in ap (λ k. map f (range_with_len 0 n) ++ replicate k false) none)
    ∙ append-nil (map f (range_with_len 0 n))
    ∙ (let same : n ≡ count = omega (arith, high, low) in ap (λ k. map f (range_with_len 0 k)) same)

pub filled-length : (f : ℕ → Bool) (count n : ℕ) → n ≤ count → length (filled f count n) ≡ count
filled-length f count n low =
    let parts = length-append (map f (range_with_len 0 n)) (replicate (count - n) false) in
    let front = length-map-range_with_len f 0 n in
    let behind = length-replicate (count - n) false in
    omega (arith, parts, front, behind, low)

-- with one option more set
pub filled-more : (f : ℕ → Bool) (count n : ℕ) (choice : List Bool) (on : Bool) → n < count → choice ≡ filled f count n → on ≡ f n → with_option choice n on ≡ filled f count (n + 1)
filled-more f count n choice on less is value =
    let more_off : replicate (count - n) false ≡ false ∷ replicate (count - (n + 1)) false =
    (let more : count - n ≡ suc (count - (n + 1)) = omega (arith, less) in ap (λ k. replicate k false) more) in
    ap (λ c. with_option c n on) (is ∙ ap (λ rest. map f (range_with_len 0 n) ++ rest) more_off)
    ∙ ap (λ k. with_option (map f (range_with_len 0 n) ++ false ∷ replicate (count - (n + 1)) false) k on) (sym (length-map-range_with_len f 0 n))
    ∙ with_option-middle (map f (range_with_len 0 n)) (replicate (count - (n + 1)) false) false on
    ∙ ap (λ b. map f (range_with_len 0 n) ++ b ∷ replicate (count - (n + 1)) false) value
    ∙ sym (append_assoc (map f (range_with_len 0 n)) (f n ∷ []) (replicate (count - (n + 1)) false))
    ∙ sym (ap (λ front. front ++ replicate (count - (n + 1)) false) (map-range_with_len_more f 0 n n (omega arith)))

module _ (test : ℕ → Bool) (n count : ℕ) where
  -- a number that isn't found is passed over
  pub find-later : n < count → test n ≡ false → find test (range_with_len (n + 1) (count - (n + 1))) ≡ find test (range_with_len n (count - n))
  find-later less out =
      sym
      ((let more : count - n ≡ suc (count - (n + 1)) = omega (arith, less) in ap (λ k. find test (range_with_len n k)) more)
      ∙ ap (λ b. cond b (Some n) (find test (range_with_len (n + 1) (count - (n + 1))))) out)

  -- one that is found is the first
  pub find-here : n < count → test n ≡ true → find test (range_with_len n (count - n)) ≡ Some n
  find-here less in_it =
      (let more : count - n ≡ suc (count - (n + 1)) = omega (arith, less) in ap (λ k. find test (range_with_len n k)) more)
      ∙ ap (λ b. cond b (Some n) (find test (range_with_len (n + 1) (count - (n + 1))))) in_it

  -- at the end there is none
  pub find-none : count ≤ n → find test (range_with_len n (count - n)) ≡ None
  find-none high = let none : count - n ≡ 0 = omega (arith, high) in ap (λ k. find test (range_with_len n k)) none

module _ (n : ℕ) (partial : List (ℕ × Bool)) where
  -- bindings that leave no option open are a choice
  pub whole-found : (choice : List Bool) → first_open n partial ≡ None → choice ≡ values_of n partial → whole_choice n partial ≡ Ok choice
  whole-found choice none is = ap (λ o. unless_open o (values_of n partial)) none ∙ ap Ok (sym is)

  -- of others the least that they leave open is told
  pub whole-stops : (st : State) (option : ℕ) → n ≡ option_count st.history → first_open n partial ≡ Some option → option < n
      → Stops (whole_choice n partial) st st (stops.Refused (codes.Incomplete option))
  whole-stops st option count first below = record { is = ap (λ o. unless_open o (values_of n partial)) first; same = refl; told = omega (arith, count, below) }
