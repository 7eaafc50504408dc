-- The refusal of a command can be told.
use Rattle.std.proofs.Common.{◌≡◌, ℕ, Bool, true, false, List, [], ◌∷◌, length, Option, Some, None, option_map, refl, subst, arith}
use Rattle.std.specs.List.{AllByRecursion}
use Rattle.cov_base.specs.Faults.{Fault, Clash, Orphan, Loop}
use Rattle.cov_expr.specs.Formula.{Formula}
use Rattle.cov_edit.specs.declared.command.Command.{Command}
use Rattle.cov_edit.specs.declared.command.Command.TheVariants as commands
use Rattle.cov_edit.specs.History.{option_count}
use Rattle.cov_view.specs.Refusals.{when, first_of}
use Rattle.cov_view.specs.declared.fault.EditFault.{EditFault}
use Rattle.cov_history.proofs.CallerLemmas.{bad-is}
use Rattle.cov_history.specs.BadChoices.{as_unsound, bad_choice, fault_after, fault_refusal, unsound_refusal}
use Rattle.cov_history.specs.Verdict.{as_bad_record, as_invalid, as_outside, as_overtaken, refusals_of, verdict, when_full}
use Rattle.cov_history.specs.declared.refusal.Refusal.{Refusal}
use Rattle.cov_history.specs.declared.refusal.Refusal.TheVariants as refusals
use Rattle.cov_script.specs.Replies.{IsCodeOf}
use Rattle.cov_codes.specs.Codes.{refusal_code}

module _ (n : ℕ) where
  -- a refusal, if there is one, names no option beyond so many
  abbrev Told : Option Refusal → Type 0
  Told None = Unit {0}
  Told (Some refusal) = IsCodeOf n (refusal_code refusal)

  told-first : (os : List (Option Refusal)) → AllByRecursion Told os → Told (first_of os)
  told-first [] all = tt
  told-first (Some refusal ∷ os) all = all.0
  told-first (None ∷ os) all = told-first os all.1

  told-when : (b : Bool) (refusal : Refusal) → IsCodeOf n (refusal_code refusal) → Told (when b refusal)
  told-when true refusal h = h
  told-when false refusal h = tt

  told-invalid : (o : Option ℕ) → Told (as_invalid o)
  told-invalid None = tt
  told-invalid (Some rule) = tt

  told-bad_record : (o : Option (ℕ × EditFault)) → Told (as_bad_record o)
  told-bad_record None = tt
  told-bad_record (Some refused) = tt

  told-outside : (o : Option ℕ) → Told (as_outside o)
  told-outside None = tt
  told-outside (Some edit) = tt

  told-overtaken : (o : Option ℕ) → Told (as_overtaken o)
  told-overtaken None = tt
  told-overtaken (Some position) = tt

  told-fault : (c : List Bool) (o : Option Fault) → length c ≡ n → Told (option_map (fault_refusal c) o)
  told-fault c None h = tt
  told-fault c (Some (Clash low high)) h = omega (arith, h)
  told-fault c (Some (Orphan node)) h = omega (arith, h)
  told-fault c (Some (Loop node)) h = omega (arith, h)

-- the choice of a refusal for a fault is of the options that are declared
told-unsound : (history : List Command) (ambition : Formula ℕ) (k : Command) → Told (option_count history) (unsound_refusal history ambition k)
told-unsound history ambition k = at (bad_choice history ambition k) refl
  where
    at : (o : Option (List Bool)) → bad_choice history ambition k ≡ o → Told (option_count history) (as_unsound (fault_after history k) o)
    at None e = tt
    at (Some c) e = told-fault (option_count history) c (fault_after history k c) (bad-is history ambition k c e).0

told-all : (history : List Command) (k : Command) → AllByRecursion (Told (option_count history)) (refusals_of history k)
told-all history (commands.Option name) = let n : ℕ = option_count history in (told-when n _ refusals.Full tt, (told-when n _ refusals.Exists tt, tt))
told-all history (commands.Constraint expr) = let n : ℕ = option_count history in (told-when n _ refusals.BadOption tt, (told-when n _ refusals.Full tt, (told-when n _ refusals.NoVariantLeft tt, tt)))
told-all history (commands.Prefer expr) = let n : ℕ = option_count history in (told-when n _ refusals.BadOption tt, (told-when n _ refusals.Full tt, tt))
told-all history (commands.Default option on) = let n : ℕ = option_count history in (told-when n _ refusals.BadOption tt, (told-when n _ refusals.Full tt, tt))
told-all history (commands.Commit base choice ambition ss) = let n : ℕ = option_count history in (told-when n _ refusals.BadBase tt, (told-when n _ refusals.BadOption tt, (told-when n _ refusals.TooManyEdits tt, (told-when n _ refusals.TooManyLines tt, (told-when n _ refusals.TooManyNodes tt, (told-when n _ refusals.TooManyBytes tt, (told-invalid n _, (told-when n _ refusals.OutsideAmbition tt, (told-outside n _, (told-when n _ refusals.Empty tt, (told-bad_record n _, (told-overtaken n _, (told-unsound history ambition (commands.Commit base choice ambition ss), tt)))))))))))))
told-all history commands.Upgrade = (told-when (option_count history) _ refusals.Upgraded tt, tt)

-- a command's refusal can be told
refusal-told : (history : List Command) (k : Command) → Told (option_count history) (verdict history k)
refusal-told history k = told-first (option_count history) (when_full history ∷ refusals_of history k) (told-when (option_count history) _ refusals.Full tt, told-all history k)

-- a verdict's refusal names no option beyond those declared
pub refusal-code : (history : List Command) (k : Command) (r : Refusal) → verdict history k ≡ Some r → IsCodeOf (option_count history) (refusal_code r)
refusal-code history k r h = subst (Told (option_count history)) h (refusal-told history k)
