-- A legal history with one command more.
use Rattle.std.proofs.Common.{◌≡◌, ◌↔◌, ℕ, ◌<◌, Bool, true, false, nat_le, List, [], ◌∷◌, ◌++◌, length, None, refl, sym, ap, ◌∙◌, arith, append-nil, append_assoc}
use Rattle.std.proofs.lemmas.Bool.Decides.{nat_tests}
use Rattle.cov_base.specs.declared.limits.TheConstants.{LIMITS}
use Rattle.cov_edit.specs.declared.command.Command.{Command}
use Rattle.cov_edit.specs.declared.command.Command.TheVariants as commands
use Rattle.cov_edit.specs.Fits.{fits_command}
use Rattle.cov_edit.specs.Limits.{is_upgraded}
use Rattle.cov_view.specs.Refusals.{when, first_of}
use Rattle.cov_view.proofs.CallerLemmas.{none-when}
use Rattle.cov_history.specs.Laws.{UpgradeIsLegalOnce}
use Rattle.cov_history.specs.Verdict.{verdict, refusals_of, IsLegalFrom, IsLegal}
use Rattle.cov_history.specs.declared.refusal.Refusal.TheVariants as refusals

-- a command that is accepted leaves the history legal
pub legal-one : (before history : List Command) (k : Command) → IsLegalFrom before history → fits_command k ≡ true → verdict (before ++ history) k ≡ None → IsLegalFrom before (history ++ k ∷ [])
legal-one before [] k legal fits accepted = (fits, ap (λ h. verdict h k) (sym (append-nil before)) ∙ accepted, tt)
legal-one before (j ∷ history) k legal fits accepted =
    (legal.0, legal.1, legal-one (before ++ j ∷ []) history k legal.2 fits (ap (λ h. verdict h k) (append_assoc before (j ∷ []) history) ∙ accepted))

-- the last command of a legal history was accepted
last-accepted : (before history : List Command) (k : Command) → IsLegalFrom before (history ++ k ∷ []) → verdict (before ++ history) k ≡ None
last-accepted before [] k legal = ap (λ h. verdict h k) (append-nil before) ∙ legal.1
last-accepted before (j ∷ history) k legal =
    ap (λ h. verdict h k) (sym (append_assoc before (j ∷ []) history)) ∙ last-accepted (before ++ j ∷ []) history k legal.2

-- where a command is accepted, the history isn't full
pub accepted-room : (history : List Command) (k : Command) → verdict history k ≡ None → length history < LIMITS.commands
accepted-room history k accepted =
    let room = (none-when (nat_le LIMITS.commands (length history)) refusals.Full (refusals_of history k) accepted).0 in
    grind (arith, nat_tests, room)

pub upgrade-legal : UpgradeIsLegalOnce
upgrade-legal history legal = (to, from)
  where
    to : IsLegal (history ++ commands.Upgrade ∷ []) → (is_upgraded history ≡ false) × (length history < LIMITS.commands)
    to longer =
        let accepted = last-accepted [] history commands.Upgrade longer in
        let room = none-when (nat_le LIMITS.commands (length history)) refusals.Full _ accepted in
        ((none-when (is_upgraded history) refusals.Upgraded [] room.1).0, accepted-room history commands.Upgrade accepted)

    from : (is_upgraded history ≡ false) × (length history < LIMITS.commands) → IsLegal (history ++ commands.Upgrade ∷ [])
    from h =
        let few = h.1 in
        let room : nat_le LIMITS.commands (length history) ≡ false = grind (arith, nat_tests, few) in
        legal-one [] history commands.Upgrade legal refl
        (ap (λ full. first_of (when full refusals.Full ∷ when (is_upgraded history) refusals.Upgraded ∷ [])) room
        ∙ ap (λ upgraded. first_of (when upgraded refusals.Upgraded ∷ [])) h.0)
