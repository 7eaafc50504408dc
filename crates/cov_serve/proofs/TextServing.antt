-- What is served of texts that are at hand.
use Rattle.std.proofs.Common.{◌≡◌, ◌∙◌, refl, sym, ap, ℕ, ◌≤◌, arith, true, false, List, [], ◌∷◌, ◌++◌, append-nil, append_assoc, length, Option, Some, IfSome}
use Rattle.std.proofs.lemmas.Bool.{false≢true}
use Rattle.std.proofs.lemmas.List.{nil_from_length}
use Rattle.cov_base.specs.Lines.{lines_of}
use Rattle.cov_loop.specs.Keeping.{AddsNoCommand, KeepsAnswered}
use Rattle.cov_loop.specs.Outcome.{Outcome, answers}
use Rattle.cov_loop.specs.Turns.{AtEnd, HasRows, HasStored, IsWhole, WritesFront}
use Rattle.cov_loop.specs.declared.ending.Ending.{Ending}
use Rattle.cov_loop.specs.declared.ending.Ending.TheVariants as endings
use Rattle.cov_loop.proofs.CallerLemmas.{nothing_first, nothing_next}
use Rattle.cov_out.specs.declared.row.OutRow.{OutRow}
use Rattle.cov_serve.specs.TextServing.{answers_after, is_end}

-- what holds at the end of a script, at the end
pub at_end : (ending : Ending) (P : Type 0) → is_end ending ≡ true → AtEnd ending P → P
at_end endings.Done P is h = h
at_end endings.SomeRefused P is h = h
at_end ending P is h = absurd (false≢true is)

-- and where it isn't
pub not_end : (ending : Ending) (P : Type 0) → is_end ending ≡ false → AtEnd ending P
not_end endings.Done P is = absurd (false≢true (sym is))
not_end endings.SomeRefused P is = absurd (false≢true (sym is))
not_end ending P is = tt

pub end_to : (ending : Ending) (P Q : Type 0) → (P → Q) → AtEnd ending P → AtEnd ending Q
end_to endings.Done P Q to h = to h
end_to endings.SomeRefused P Q to h = to h
end_to ending P Q to h = tt

pub whole_end : {S : Type 0} (ending : Ending) (outcome : Outcome S) (before : List ℕ) (left written : Option (List ℕ)) → IsWhole ending outcome before left written
    → AtEnd ending (written ≡ Some (before ++ outcome.reply))
whole_end endings.Done outcome before left written h = h.2
whole_end endings.SomeRefused outcome before left written h = h.2
whole_end ending outcome before left written h = tt

pub rows_end : {S : Type 0} (ending : Ending) (outcome : Outcome S) (before : List OutRow) (grown : Option (List OutRow)) → HasRows ending outcome before grown
    → AtEnd ending (grown ≡ Some (before ++ outcome.rows))
rows_end endings.Done outcome before grown h = h
rows_end endings.SomeRefused outcome before grown h = h
rows_end ending outcome before grown h = tt

pub stored_end : {S : Type 0} (ending : Ending) (stored : S → List ℕ → Type 0) (outcome : Outcome S) (contents : Option (List ℕ)) → HasStored ending stored outcome contents
    → AtEnd ending (IfSome contents (stored outcome.state))
stored_end endings.Done stored outcome contents h = h
stored_end endings.SomeRefused stored outcome contents h = h
stored_end ending stored outcome contents h = tt

module _ {S : Type 0} (step : S → List ℕ → Outcome S) (stored : S → List ℕ → Type 0) (count : S → ℕ)
    (silent_keeps : (s : S) (line : List ℕ) → (step s line).reply ≡ [] → count (step s line).state ≤ count s) where
  -- lines without a reply add no command
  quiet_all : (s : S) (ls : List (List ℕ)) → (answers step s ls).reply ≡ [] → count (answers step s ls).state ≤ count s
  quiet_all s [] e = omega arith
  quiet_all s (l ∷ ls) e =
      let o : Outcome S = step s l in
      let rest : Outcome S = answers step o.state ls in
      omega (arith, silent_keeps s l (nothing_first o.reply rest.reply e), quiet_all o.state ls (nothing_next o.reply rest.reply e))

  -- nothing was served
  pub keeps_none : (start : S) (lines : List (List ℕ)) (bytes image : List ℕ) → bytes ≡ [] → stored start image → KeepsAnswered step stored count start lines bytes image
  keeps_none start lines bytes image none is = record {
    first = [];
    rest = lines;
    front = refl;
    stands = is;
    answered = λ ls ms e short. quiet_all start ls (nil_from_length (answers step start ls).reply (omega (arith, short, ap length none)));
  }

module _ {S : Type 0} (step : S → List ℕ → Outcome S) (count : S → ℕ) (rises : (s : S) (line : List ℕ) → count s ≤ count (step s line).state) where
  -- no lines take a command away
  all_rise : (s : S) (ls : List (List ℕ)) → count s ≤ count (answers step s ls).state
  all_rise s [] = omega arith
  all_rise s (l ∷ ls) = omega (arith, rises s l, all_rise (step s l).state ls)

  -- where two texts add no command, neither does the first, nor the second
  pub first_adds_none : (start : S) (made told : List ℕ) → AddsNoCommand count start (answers_after step start made told) → AddsNoCommand count start (answers step start (lines_of made))
  first_adds_none start made told few = omega (arith, few, all_rise (answers step start (lines_of made)).state (lines_of told))

  pub second_adds_none : (start : S) (made told : List ℕ) → AddsNoCommand count start (answers_after step start made told)
      → AddsNoCommand count (answers step start (lines_of made)).state (answers_after step start made told)
  second_adds_none start made told few = omega (arith, few, all_rise start (lines_of made))

-- what is written of the first of two lists is of both
pub front_first_of : {X : Type 0} (before xs ys : List X) (written : Option (List X)) → WritesFront before xs written → WritesFront before (xs ++ ys) written
front_first_of before xs ys written h = record { first = h.first; rest = h.rest ++ ys; front = ap (λ all. all ++ ys) h.front ∙ append_assoc h.first h.rest ys; is = h.is }

-- and what is written of the second, behind the whole of the first
pub front_second_of : {X : Type 0} (before xs ys : List X) (written : Option (List X)) → WritesFront (before ++ xs) ys written → WritesFront before (xs ++ ys) written
front_second_of before xs ys written h = record {
  first = xs ++ h.first;
  rest = h.rest;
  front = ap (λ all. xs ++ all) h.front ∙ sym (append_assoc xs h.first h.rest);
  is = h.is ∙ ap Some (append_assoc before xs h.first);
}

pub none_of : {X : Type 0} (before xs : List X) (written : Option (List X)) → written ≡ Some before → WritesFront before xs written
none_of before xs written e = record { first = []; rest = xs; front = refl; is = e ∙ ap Some (sym (append-nil before)) }
