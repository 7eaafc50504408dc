-- What a legal history is within.
use Rattle.std.proofs.Common.{◌≡◌, ℕ, ◌*◌, ◌<◌, ◌≤◌, ◌^◌, true, nat_le, List, [], ◌∷◌, ◌++◌, length, None, refl, ap, subst, arith, append_assoc, length-append}
use Rattle.std.specs.List.{AllByRecursion}
use Rattle.std.proofs.lemmas.Bool.Decides.{nat_tests}
use Rattle.std.proofs.lemmas.List.{length-map}
use Rattle.cov_base.proofs.CallerLemmas.{all-append, all-map}
use Rattle.cov_base.specs.declared.limits.TheConstants.{LIMITS}
use Rattle.cov_edit.specs.Fits.{fits_command}
use Rattle.cov_edit.specs.Sides.{the_edit, unsided}
use Rattle.cov_edit.specs.declared.command.Command.{Command}
use Rattle.cov_edit.specs.declared.command.Command.TheVariants as commands
use Rattle.cov_engine.proofs.CallerLemmas.{accepted-sizes, edits-few, text-few}
use Rattle.cov_history.proofs.CallerLemmas.{accepted-room, legal-one}
use Rattle.cov_history.specs.Verdict.{verdict, refusals_of, IsLegal, IsLegalFrom}
use Rattle.cov_history.specs.declared.refusal.Refusal.TheVariants as refusals
use Rattle.cov_journal.specs.Journal.{records_size}
use Rattle.cov_journal.specs.Laws.{AreShort}
use Rattle.cov_record.specs.FitsRecord.{FitsRecord}
use Rattle.cov_record.specs.Payload.{payload}
use Rattle.cov_record.proofs.CallerLemmas.{IsWithinLimits, payloads-short}
use Rattle.cov_store.specs.Stands.{payloads, gate_of}
use Rattle.cov_view.proofs.CallerLemmas.{none-when}

-- where a command is accepted, it has no more edits and text than a commit may have
pub accepted-within : (history : List Command) (c : Command) → verdict history c ≡ None → IsWithinLimits c
accepted-within history (commands.Option name) accepted = record { edits = omega arith; bytes = omega arith }
accepted-within history (commands.Constraint expr) accepted = record { edits = omega arith; bytes = omega arith }
accepted-within history (commands.Prefer expr) accepted = record { edits = omega arith; bytes = omega arith }
accepted-within history (commands.Default option on) accepted = record { edits = omega arith; bytes = omega arith }
accepted-within history (commands.Commit base choice ambition ss) accepted =
    let sized = accepted-sizes history base choice ambition ss accepted in
    record { edits = omega (arith, length-map ss the_edit, edits-few history (unsided ss) sized.0 sized.1); bytes = text-few history (unsided ss) sized.0 sized.1 }
accepted-within history commands.Upgrade accepted = record { edits = omega arith; bytes = omega arith }

legal-from-within : (before history : List Command) → IsLegalFrom before history → AllByRecursion IsWithinLimits history
legal-from-within before [] legal = tt
legal-from-within before (c ∷ history) legal = (accepted-within before c legal.1, legal-from-within (before ++ c ∷ []) history legal.2)

legal-from-few : (before history : List Command) → IsLegalFrom before history → length before ≤ LIMITS.commands → length (before ++ history) ≤ LIMITS.commands
legal-from-few before [] legal few = omega (arith, few, length-append before [])
legal-from-few before (c ∷ history) legal few =
    let room = accepted-room before c legal.1 in
    subst (λ h. length h ≤ LIMITS.commands) (append_assoc before (c ∷ []) history)
    (legal-from-few (before ++ c ∷ []) history legal.2 (omega (arith, room, length-append before (c ∷ []))))

-- a legal history has no more commands than it may
pub legal-few : (history : List Command) → IsLegal history → length history ≤ LIMITS.commands
legal-few history legal = legal-from-few [] history legal (omega arith)

-- with a command that it accepts it stays legal
pub legal-push : (history : List Command) (c : Command) → IsLegal history → fits_command c ≡ true → verdict history c ≡ None → IsLegal (history ++ c ∷ [])
legal-push history c legal fits accepted = legal-one [] history c legal fits accepted

pub fits-push : (history : List Command) (c : Command) → AllByRecursion FitsRecord history → FitsRecord c → AllByRecursion FitsRecord (history ++ c ∷ [])
fits-push history c fits own = all-append FitsRecord history (c ∷ []) fits (own, tt)

pub payloads-push : (history : List Command) (c : Command) → payloads (history ++ c ∷ []) ≡ payloads history ++ payload c ∷ []
payloads-push [] c = refl
payloads-push (d ∷ history) c = ap (λ ps. payload d ∷ ps) (payloads-push history c)

payloads-below : (history : List Command) → IsLegal history → AllByRecursion FitsRecord history → AllByRecursion (λ p. length p < 2 ^ 27) (payloads history)
payloads-below history legal fits = payloads-short history fits (legal-from-within [] history legal)

pub payloads-are-short : (history : List Command) → IsLegal history → AllByRecursion FitsRecord history → AreShort (payloads history)
payloads-are-short history legal fits =
    all-map (λ p. length p < 2 ^ 27) (λ p. length p < 2 ^ 32) (λ p short. omega (arith, short)) (payloads history) (payloads-below history legal fits)

size-below : (ps : List (List ℕ)) → AllByRecursion (λ p. length p < 2 ^ 27) ps → records_size ps ≤ 134217765 * length ps
size-below [] short = omega arith
size-below (p ∷ ps) short = omega (arith, short.0, size-below ps short.1)

-- its gate is far from the end of what can be numbered
pub gate-near : (history : List Command) → IsLegal history → AllByRecursion FitsRecord history → gate_of history ≤ 2 ^ 48
gate-near history legal fits =
    omega (arith, size-below (payloads history) (payloads-below history legal fits), length-map history payload, legal-few history legal)
