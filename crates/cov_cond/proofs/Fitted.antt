-- What an import is where there is room, and where there is none.
use Rattle.std.proofs.Common.{◌≡◌, ℕ, ◌+◌, ◌<◌, ◌≤◌, Bool, true, false, ◌||◌, nat_le, nat_lt, List, [], ◌∷◌, length, Option, Some, None, refl, sym, ap, ◌∙◌, arith}
use Rattle.std.specs.List.{sum_by}
use Rattle.std.proofs.lemmas.Bool.Decides.{nat_tests}
use Rattle.std.proofs.lemmas.List.Sums.{sum_by-cons}
use Rattle.cov_base.specs.declared.limits.TheConstants.{LIMITS}
use Rattle.cov_edit.specs.declared.command.Command.{Command}
use Rattle.cov_edit.specs.History.{byte_count}
use Rattle.cov_edit.specs.Limits.{limits_of}
use Rattle.cov_edit.specs.Numbering.{line_count}
use Rattle.cov_view.specs.Refusals.{first_of, when}
use Rattle.cov_view.proofs.CallerLemmas.{none-when}
use Rattle.cov_cond_text.specs.Conditional.{CondLine, runs_of}
use Rattle.cov_cond_text.specs.declared.run.Run.{Run}
use Rattle.cov_cond.specs.Committing.{texts_in, text_count, run_bytes, text_fault, growth_fault, IsFaultBy}
use Rattle.cov_cond.specs.Fitting.{cond_bytes, room_fault, unless, imported_in, imported_at, IsImportFaultOf}
use Rattle.cov_cond.specs.Importing.{run_commits}
use Rattle.cov_cond.specs.declared.fault.ImportFault.{ImportFault}
use Rattle.cov_cond.specs.declared.fault.ImportFault.TheVariants as faults
use Rattle.cov_cond.proofs.Importable.{of_run, runs-measure, counted}

module _ (history : List Command) (path : List (List ℕ)) (t : List CondLine) where
  -- with room it is the commits or what refuses the file
  pub imported_where : room_fault history t ≡ None → imported_at history path t ≡ imported_in history path t
  unfolding imported_at
  imported_where h = ap (λ o. unless o (imported_in history path t)) h

  -- without it is the first limit that is broken
  pub refused_where : (fault : ImportFault) → IsFaultBy (room_fault history t) fault → IsImportFaultOf (imported_at history path t) fault
  unfolding imported_at
  refused_where faults.TooManyEdits h = ap (λ o. unless o (imported_in history path t)) h
  refused_where faults.TooManyBytes h = ap (λ o. unless o (imported_in history path t)) h
  refused_where faults.Full h = ap (λ o. unless o (imported_in history path t)) h
  refused_where faults.TooManyLines h = ap (λ o. unless o (imported_in history path t)) h
  refused_where faults.NoSuchPath h = ap (λ o. unless o (imported_in history path t)) h
  refused_where (faults.Edit fault) h = ap (λ o. unless o (imported_in history path t)) h
  refused_where faults.Memory h = tt

-- a text has as many texts and bytes as its runs
texts-counted : (t : List CondLine) → text_count (runs_of t) ≡ length t
texts-counted t = each (runs_of t) ∙ runs-measure (λ text. 1) t ∙ counted t
  where
    each : (rs : List Run) → text_count rs ≡ sum_by (of_run (λ text. 1)) rs
    each [] = refl
    each (r ∷ rs) =
        let rest = each rs in
        let e = sum_by-cons texts_in r rs in
        let f = sum_by-cons (of_run (λ text. 1)) r rs in
        let g = counted r.texts in
        omega (arith, rest, e, f, g)

bytes-counted : (t : List CondLine) → run_bytes (runs_of t) ≡ cond_bytes t
bytes-counted t = runs-measure length t

module _ {F : Type 0} (a b : Bool) (e f : F) (os : List (Option F)) where
  -- the first two tests come before the others
  later-first : first_of (when a e ∷ when b f ∷ []) ≡ None → first_of (when a e ∷ when b f ∷ os) ≡ first_of os
  later-first h = at a b h
    where
      at : (x y : Bool) → first_of (when x e ∷ when y f ∷ []) ≡ None → first_of (when x e ∷ when y f ∷ os) ≡ first_of os
      at true y k = absurd (cc)
      at false true k = absurd (cc)
      at false false k = refl

  early-first : (g : F) → first_of (when a e ∷ when b f ∷ []) ≡ Some g → first_of (when a e ∷ when b f ∷ os) ≡ Some g
  early-first g h = at a b h
    where
      at : (x y : Bool) → first_of (when x e ∷ when y f ∷ []) ≡ Some g → first_of (when x e ∷ when y f ∷ os) ≡ Some g
      at true y k = k
      at false true k = k
      at false false k = absurd (cc)

module _ (history : List Command) (t : List CondLine) where
  abbrev pub rs : List Run
  rs = runs_of t

  abbrev pub commits : ℕ
  commits = length (run_commits history 0 rs) + 1

  -- the tests for so many texts and bytes
  abbrev pub tests : ℕ → ℕ → Option ImportFault
  tests texts bytes =
      first_of (when (nat_le LIMITS.edits texts) faults.TooManyEdits
      ∷ when (nat_lt LIMITS.commit_bytes bytes || nat_lt LIMITS.bytes (byte_count history + bytes)) faults.TooManyBytes
      ∷ when (nat_lt LIMITS.commands (length history + commits)) faults.Full
      ∷ when (nat_lt (limits_of history).lines (line_count history + texts)) faults.TooManyLines ∷ [])

  abbrev too_many : Bool
  too_many = nat_le LIMITS.edits (text_count rs)

  abbrev too_much : Bool
  too_much = nat_lt LIMITS.commit_bytes (run_bytes rs) || nat_lt LIMITS.bytes (byte_count history + run_bytes rs)

  abbrev on_growth : List (Option ImportFault)
  on_growth =
      when (nat_lt LIMITS.commands (length history + commits)) faults.Full
      ∷ when (nat_lt (limits_of history).lines (line_count history + text_count rs)) faults.TooManyLines ∷ []

  counted-tests : room_fault history t ≡ tests (text_count rs) (run_bytes rs)
  counted-tests = ap (λ n. tests n (cond_bytes t)) (sym (texts-counted t)) ∙ ap (λ n. tests (text_count rs) n) (sym (bytes-counted t))

  pub room_growth : text_fault history rs ≡ None → room_fault history t ≡ growth_fault history commits (text_count rs)
  room_growth h = counted-tests ∙ later-first too_many too_much faults.TooManyEdits faults.TooManyBytes on_growth h

  pub room_texts : (fault : ImportFault) → text_fault history rs ≡ Some fault → room_fault history t ≡ Some fault
  room_texts fault h = counted-tests ∙ early-first too_many too_much faults.TooManyEdits faults.TooManyBytes on_growth fault h

  pub fault_texts : (fault : ImportFault) → text_fault history rs ≡ Some fault → IsFaultBy (room_fault history t) fault
  fault_texts faults.TooManyEdits h = room_texts faults.TooManyEdits h
  fault_texts faults.TooManyBytes h = room_texts faults.TooManyBytes h
  fault_texts faults.Full h = room_texts faults.Full h
  fault_texts faults.TooManyLines h = room_texts faults.TooManyLines h
  fault_texts faults.NoSuchPath h = room_texts faults.NoSuchPath h
  fault_texts (faults.Edit fault) h = room_texts (faults.Edit fault) h
  fault_texts faults.Memory h = tt

  -- what there is room for
  pub record Fits : Type 0 where
    pub few : text_count rs < LIMITS.edits
    pub short : length history ≤ LIMITS.commands
    pub lines : line_count history + text_count rs ≤ (limits_of history).lines

  pub room_fits : room_fault history t ≡ None → Fits
  room_fits h =
      let edits = none-when too_many _ _ (sym counted-tests ∙ h) in
      let bytes = none-when too_much _ _ edits.1 in
      let full = none-when (nat_lt LIMITS.commands (length history + commits)) _ _ bytes.1 in
      let more = none-when (nat_lt (limits_of history).lines (line_count history + text_count rs)) _ _ full.1 in
      record {
        few = below LIMITS.edits (text_count rs) edits.0;
        short = let low = within LIMITS.commands (length history + commits) full.0 in omega (arith, low);
        lines = within (limits_of history).lines (line_count history + text_count rs) more.0;
      }
    where
      below : (most n : ℕ) → nat_le most n ≡ false → n < most
      below most n e = grind (arith, nat_tests, e)

      within : (most n : ℕ) → nat_lt most n ≡ false → n ≤ most
      within most n e = grind (arith, nat_tests, e)
