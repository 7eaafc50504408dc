-- What bindings give to the first options, and that the past stays.
use Rattle.std.proofs.Common.{◌≡◌, ℕ, zero, suc, ◌+◌, ◌-◌, ◌<◌, ◌≤◌, Bool, false, cond, nat_lt, List, [], ◌∷◌, ◌++◌, length, map, take, replicate, Some, Err, append-nil, append_assoc, length-append, refl, sym, ap, ◌∙◌, arith}
use Rattle.std.specs.List.{find, range_with_len}
use Rattle.std.proofs.lemmas.Bool.Decides.{nat_tests}
use Rattle.std.proofs.lemmas.List.{length-replicate, take-append-le}
use Rattle.std.proofs.lemmas.List.FromFn.{length-map-range_with_len, map-range_with_len_more}
use Rattle.cov_base.specs.Choices.{bits_of, with_option}
use Rattle.cov_base.proofs.CallerLemmas.{with_option-middle}
use Rattle.cov_edit.specs.declared.command.Command.{Command}
use Rattle.cov_edit.specs.Replay.{replay}
use Rattle.cov_hist.specs.Past.{choice_after, choice_at}
use Rattle.cov_hist.specs.declared.fault.PastFault.TheVariants as faults

-- the choice with all options off
pub all-off : (count : ℕ) → bits_of count 0 ≡ replicate count false
all-off zero = refl
all-off (suc count) = ap (λ c. false ∷ c) (all-off count)

-- the first so many values of options, and off for the others
abbrev pub filled : (ℕ → Bool) → ℕ → ℕ → List Bool
filled f count n = map f (range_with_len 0 n) ++ replicate (count - n) false

-- it begins with all options off, and has them all in the end
pub filled-none : (f : ℕ → Bool) (count : ℕ) → bits_of count 0 ≡ filled f count 0
filled-none f count = all-off count ∙ (let all : count ≡ count - 0 = omega arith in ap (λ k. replicate k false) all)

pub filled-all : (f : ℕ → Bool) (count n : ℕ) (choice : List Bool) → count ≤ n → n ≤ count → choice ≡ filled f count n → choice ≡ map f (range_with_len 0 count)
filled-all f count n choice high low is =
    is
    ∙ (let none : count - n ≡ 0 = omega (arith, high) in ap (λ k. map f (range_with_len 0 n) ++ replicate k false) none)
    ∙ append-nil (map f (range_with_len 0 n))
    ∙ (let same : n ≡ count = omega (arith, high, low) in ap (λ k. map f (range_with_len 0 k)) same)

pub filled-length : (f : ℕ → Bool) (count n : ℕ) → n ≤ count → length (filled f count n) ≡ count
filled-length f count n low =
    let parts = length-append (map f (range_with_len 0 n)) (replicate (count - n) false) in
    let front = length-map-range_with_len f 0 n in
    let behind = length-replicate (count - n) false in
    omega (arith, parts, front, behind, low)

-- with one option more set
pub filled-more : (f : ℕ → Bool) (count n : ℕ) (choice : List Bool) (on : Bool) → n < count → choice ≡ filled f count n → on ≡ f n → with_option choice n on ≡ filled f count (n + 1)
filled-more f count n choice on less is value =
    let more_off : replicate (count - n) false ≡ false ∷ replicate (count - (n + 1)) false =
    (let more : count - n ≡ suc (count - (n + 1)) = omega (arith, less) in ap (λ k. replicate k false) more) in
    ap (λ c. with_option c n on) (is ∙ ap (λ rest. map f (range_with_len 0 n) ++ rest) more_off)
    ∙ ap (λ k. with_option (map f (range_with_len 0 n) ++ false ∷ replicate (count - (n + 1)) false) k on) (sym (length-map-range_with_len f 0 n))
    ∙ with_option-middle (map f (range_with_len 0 n)) (replicate (count - (n + 1)) false) false on
    ∙ ap (λ b. map f (range_with_len 0 n) ++ b ∷ replicate (count - (n + 1)) false) value
    ∙ sym (append_assoc (map f (range_with_len 0 n)) (f n ∷ []) (replicate (count - (n + 1)) false))
    ∙ sym (ap (λ front. front ++ replicate (count - (n + 1)) false) (map-range_with_len_more f 0 n n (omega arith)))

-- a number that isn't found is passed over
pub find-later : (test : ℕ → Bool) (n count : ℕ) → n < count → test n ≡ false → find test (range_with_len (n + 1) (count - (n + 1))) ≡ find test (range_with_len n (count - n))
find-later test n count less out =
    sym
    ((let more : count - n ≡ suc (count - (n + 1)) = omega (arith, less) in ap (λ k. find test (range_with_len n k)) more)
    ∙ ap (λ b. cond b (Some n) (find test (range_with_len (n + 1) (count - (n + 1))))) out)

-- the past of a history is that of a longer one
pub past-stays : (history later : List Command) (at : ℕ) → at ≤ length history
    → ((partial : List (ℕ × Bool)) → choice_at (history ++ later) partial at ≡ choice_at history partial at)
    × ((c : List Bool) → replay c (take at (history ++ later)) ≡ replay c (take at history))
past-stays history later at there = (
  λ partial.
      ap (λ b. cond b (Err faults.NoSuchPosition) (choice_after (take at (history ++ later)) partial)) (within (history ++ later) longer ∙ sym (within history there))
      ∙ ap (λ before. cond (nat_lt (length history) at) (Err faults.NoSuchPosition) (choice_after before partial)) (take-append-le at history later there),
  λ c. ap (replay c) (take-append-le at history later there),
)
  where
    longer : at ≤ length (history ++ later)
    longer = let count = length-append history later in omega (arith, count, there)

    within : (ks : List Command) → at ≤ length ks → nat_lt (length ks) at ≡ false
    within ks low = grind (arith, nat_tests, low)
