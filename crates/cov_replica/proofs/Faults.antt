-- The faults that are taken: want of memory is none, and a refusal is a verdict.
use Rattle.std.proofs.Common.{◌≡◌, inl, inr, ◌<◌, ◌+◌, ◌||◌, Bool, true, false, not, nat_eq, nat_le, nat_lt, ℕ, List, [], ◌∷◌, ◌++◌, length, take, drop, Option, Some, None, Result, Ok, Err, refl, sym, ◌∙◌, ap, subst}
use Rattle.std.specs.Prelude.{if◌then◌else◌, option_map}
use Rattle.std.specs.Str.{bytes_eq}
use Rattle.std.specs.List.{AllByRecursion}
use Rattle.std.proofs.lemmas.Bool.{cases_lt}
use Rattle.cov_base.specs.Faults.{Fault, Clash, Orphan, Loop}
use Rattle.cov_edit.specs.declared.command.Command.{Command}
use Rattle.cov_edit.specs.declared.command.Command.TheVariants as commands
use Rattle.cov_edit.specs.History.{options_of, option_count, constraints_of, preferences_of, defaults_of, first_false_in, text_bytes, byte_count}
use Rattle.cov_edit.specs.Limits.{is_upgraded, limits_of}
use Rattle.cov_edit.specs.Numbering.{numbers_of, nodes_made, anchors_of, line_count, node_count}
use Rattle.cov_edit.specs.Replay.{replay}
use Rattle.cov_edit.specs.Sides.{unsided, reach_within}
use Rattle.cov_expr.specs.Formula.{value, reach}
use Rattle.cov_expr.specs.Options.{is_declared}
use Rattle.cov_history.specs.BadChoices.{as_unsound, bad_choice, fault_after, fault_refusal}
use Rattle.cov_history.specs.Overtaking.{overtaken}
use Rattle.cov_history.specs.Verdict.{as_bad_record, as_invalid, as_outside, as_overtaken, first_outside, has_no_edits, leaves_variant, refusals_of, verdict, when_full}
use Rattle.cov_history.specs.declared.refusal.Refusal.{Refusal}
use Rattle.cov_history.specs.declared.refusal.Refusal.TheVariants as refusals
use Rattle.cov_journal.specs.Journal.{header, next_digest, no_digest}
use Rattle.cov_view.specs.Refusals.{first_of, first_refused, when}
use Rattle.cov_view.specs.declared.fault.EditFault.{EditFault}
use Rattle.cov_replica.specs.Laws.{IsDamageOfBytes, IsFaultOfBytes, IsNoWant, NeverWant, RefusalIsOfVerdict}
use Rattle.cov_replica.specs.Taken.{Counted, Taken, at_rest, behind_header, command_in, counted, judged, by_command, by_verdict, no_store, taken, taken_from, taken_on}
use Rattle.cov_replica.specs.declared.fault.ReplicaDamage.{ReplicaDamage}
use Rattle.cov_replica.specs.declared.fault.ReplicaDamage.TheVariants as damages
use Rattle.cov_replica.specs.declared.fault.ReplicaFault.TheVariants as faults
use Rattle.cov_replica.proofs.Judging.{judged_refused}
use Rattle.cov_replica.proofs.Taking.{taken_headed, taken_other, taken_small}

-- a refusal, if there is one, isn't for want of memory
abbrev IsRule : Option Refusal → Type 0
IsRule None = Unit {0}
IsRule (Some refusal) = IsNoWant refusal

rule : (t : Bool) (r : Refusal) → IsNoWant r → IsRule (when t r)
rule true r is = is
rule false r is = tt

invalid : (o : Option ℕ) → IsRule (as_invalid o)
invalid None = tt
invalid (Some k) = tt

outside : (o : Option ℕ) → IsRule (as_outside o)
outside None = tt
outside (Some i) = tt

bad_record : (o : Option (ℕ × EditFault)) → IsRule (as_bad_record o)
bad_record None = tt
bad_record (Some refused) = tt

overtaken_by : (o : Option ℕ) → IsRule (as_overtaken o)
overtaken_by None = tt
overtaken_by (Some p) = tt

unsound : (fault : List Bool → Option Fault) (o : Option (List Bool)) → IsRule (as_unsound fault o)
unsound fault None = tt
unsound fault (Some c) = on (fault c)
  where
    on : (o : Option Fault) → IsRule (option_map (fault_refusal c) o)
    on None = tt
    on (Some (Clash low high)) = tt
    on (Some (Orphan node)) = tt
    on (Some (Loop node)) = tt

-- the first of several
first_rule : (os : List (Option Refusal)) → AllByRecursion IsRule os → IsRule (first_of os)
first_rule [] all = tt
first_rule (Some r ∷ os) all = all.0
first_rule (None ∷ os) all = first_rule os all.1

each_rule : (history : List Command) (command : Command) → AllByRecursion IsRule (refusals_of history command)
each_rule history (commands.Option name) = (rule (nat_le (limits_of history).options (length (options_of history))) refusals.Full tt, (rule (is_declared (options_of history) name) refusals.Exists tt, tt))
each_rule history (commands.Constraint expr) = (rule (nat_lt (option_count history) (reach expr)) refusals.BadOption tt, (rule (nat_le (limits_of history).rules (length (constraints_of history))) refusals.Full tt, (rule (not (leaves_variant history expr)) refusals.NoVariantLeft tt, tt)))
each_rule history (commands.Prefer expr) = (rule (nat_lt (option_count history) (reach expr)) refusals.BadOption tt, (rule (nat_le (limits_of history).rules (length (preferences_of history))) refusals.Full tt, tt))
each_rule history (commands.Default option on) = (rule (nat_lt (option_count history) (option + 1)) refusals.BadOption tt, (rule (nat_le (limits_of history).rules (length (defaults_of history))) refusals.Full tt, tt))
each_rule history (commands.Commit base choice ambition ss) = (rule (nat_lt (length history) base) refusals.BadBase tt, (rule (not (nat_eq (length choice) (option_count (take base history))) || nat_lt (option_count (take base history)) (reach_within ambition ss)) refusals.BadOption tt, (rule (nat_lt (limits_of history).edits (length (unsided ss))) refusals.TooManyEdits tt, (rule (nat_lt (limits_of history).lines (line_count history + length (anchors_of 0 (unsided ss)))) refusals.TooManyLines tt, (rule (nat_lt (limits_of history).nodes (node_count history + nodes_made (unsided ss))) refusals.TooManyNodes tt, (rule (nat_lt (limits_of history).commit_bytes (text_bytes (unsided ss)) || nat_lt (limits_of history).bytes (byte_count history + text_bytes (unsided ss))) refusals.TooManyBytes tt, (invalid (first_false_in (take base history) choice), (rule (not (value ambition choice)) refusals.OutsideAmbition tt, (outside (first_outside choice ss), (rule (has_no_edits ss) refusals.Empty tt, (bad_record (first_refused (numbers_of (take base history)) (replay choice (take base history)) (unsided ss)), (overtaken_by (overtaken history base ambition ss), (unsound (fault_after history (commands.Commit base choice ambition ss)) (bad_choice history ambition (commands.Commit base choice ambition ss)), tt)))))))))))))
each_rule history commands.Upgrade = (rule (is_upgraded history) refusals.Upgraded tt, tt)

verdict_rule : (history : List Command) (command : Command) → IsRule (verdict history command)
verdict_rule history command = first_rule (when_full history ∷ refusals_of history command) (rule (nat_le (limits_of history).commands (length history)) refusals.Full tt, each_rule history command)

-- a record's damage isn't for want of memory
abbrev IsJudged : Result Command ReplicaDamage → Type 0
IsJudged (Ok command) = Unit {0}
IsJudged (Err cause) = IsDamageOfBytes cause

told : (command : Command) (o : Option Refusal) → IsRule o → IsJudged (by_verdict command o)
told command None is = tt
told command (Some refusal) is = is

spelt : (past : List Command) (o : Option Command) → IsJudged (by_command past o)
spelt past None = tt
spelt past (Some command) = told command (verdict past command) (verdict_rule past command)

judged_rule : (past : List Command) (before : List ℕ) (counts : Counted) → IsJudged (judged past before counts)
judged_rule past before counts = by (bytes_eq counts.digest (next_digest before counts.payload))
  where
    by : (t : Bool) → IsJudged (if t then by_command past (command_in counts.payload) else Err damages.Digest)
    by true = spelt past (command_in counts.payload)
    by false = tt

from : (past : List Command) (before : List ℕ) (xs : List Counted) → IsFaultOfBytes (taken_from past before xs).fault
from past before [] = tt
from past before (x ∷ xs) = by (judged past before x) (judged_rule past before x) (λ history. from history x.digest xs)
  where
    by : (j : Result Command ReplicaDamage) → IsJudged j → ((h : List Command) → IsFaultOfBytes (taken_from h x.digest xs).fault)
        → IsFaultOfBytes (taken_on past j (λ h. taken_from h x.digest xs)).fault
    by (Ok c) is later = later (past ++ c ∷ [])
    by (Err cause) is later = is

pub never_want : NeverWant
never_want bytes = elim (cases_lt 13 (length bytes)) [
  | inl large ↦ by large (bytes_eq (take 12 bytes) header) refl
  | inr small ↦ subst (λ t. IsFaultOfBytes t.fault) (sym (taken_small bytes small)) tt
]
  where
    by : 13 < length bytes → (t : Bool) → bytes_eq (take 12 bytes) header ≡ t → IsFaultOfBytes (taken bytes).fault
    by large true e = subst (λ t. IsFaultOfBytes t.fault) (sym (taken_headed bytes large e)) (from [] no_digest (counted (drop 12 bytes)))
    by large false e = subst (λ t. IsFaultOfBytes t.fault) (sym (taken_other bytes large e)) tt

refused_from : (past : List Command) (before : List ℕ) (xs : List Counted) (number : ℕ) (refusal : Refusal)
    → (taken_from past before xs).fault ≡ Some (faults.Damaged number (damages.Refused refusal))
    → (command : Command) × (verdict (taken_from past before xs).history command ≡ Some refusal)
refused_from past before [] number refusal e = absurd (cc)
refused_from past before (x ∷ xs) number refusal e = by (judged past before x) refl (λ history. refused_from history x.digest xs number refusal) e
  where
    by : (j : Result Command ReplicaDamage) → judged past before x ≡ j
        → ((h : List Command) → (taken_from h x.digest xs).fault ≡ Some (faults.Damaged number (damages.Refused refusal))
        → (command : Command) × (verdict (taken_from h x.digest xs).history command ≡ Some refusal))
        → (taken_on past j (λ h. taken_from h x.digest xs)).fault ≡ Some (faults.Damaged number (damages.Refused refusal))
        → (command : Command) × (verdict (taken_on past j (λ h. taken_from h x.digest xs)).history command ≡ Some refusal)
    by (Ok c) is later e = later (past ++ c ∷ []) e
    by (Err cause) is later e = let same : cause ≡ damages.Refused refusal = cc in judged_refused past refusal before x (is ∙ ap Err same)

refused_in : (t : Taken) (bytes : List ℕ) (number : ℕ) (refusal : Refusal) → taken bytes ≡ t
    → (t.fault ≡ Some (faults.Damaged number (damages.Refused refusal)) → (command : Command) × (verdict t.history command ≡ Some refusal))
    → (taken bytes).fault ≡ Some (faults.Damaged number (damages.Refused refusal)) → (command : Command) × (verdict (taken bytes).history command ≡ Some refusal)
refused_in t bytes number refusal is told e =
    subst (λ t. (command : Command) × (verdict t.history command ≡ Some refusal)) (sym is) (told (ap (λ t. t.fault) (sym is) ∙ e))

pub refusal_is_of_verdict : RefusalIsOfVerdict
refusal_is_of_verdict bytes number refusal e = elim (cases_lt 13 (length bytes)) [
  | inl large ↦ by large (bytes_eq (take 12 bytes) header) refl
  | inr small ↦ refused_in (at_rest []) bytes number refusal (taken_small bytes small) (λ e. absurd (cc)) e
]
  where
    by : 13 < length bytes → (t : Bool) → bytes_eq (take 12 bytes) header ≡ t → (command : Command) × (verdict (taken bytes).history command ≡ Some refusal)
    by large true is = refused_in (behind_header bytes) bytes number refusal (taken_headed bytes large is) (refused_from [] no_digest (counted (drop 12 bytes)) number refusal) e
    by large false is = refused_in no_store bytes number refusal (taken_other bytes large is) (λ e. absurd (cc)) e
