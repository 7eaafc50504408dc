-- What comes of records.
use Rattle.std.proofs.Common.{◌≡◌, Bool, true, false, ℕ, List, [], ◌∷◌, ◌++◌, Option, Some, None, Result, Ok, Err, refl, sym, ◌∙◌, ap, subst, append_assoc}
use Rattle.std.specs.Prelude.{if◌then◌else◌}
use Rattle.std.specs.Str.{bytes_eq}
use Rattle.std.specs.List.{AllByRecursion}
use Rattle.std.proofs.lemmas.List.{append-nil}
use Rattle.std.proofs.lemmas.Slice.Eq.{bytes_eq-Decides}
use Rattle.cov_edit.specs.declared.command.Command.{Command}
use Rattle.cov_history.specs.Verdict.{verdict, IsLegalFrom}
use Rattle.cov_history.specs.declared.refusal.Refusal.{Refusal}
use Rattle.cov_journal.specs.Journal.{next_digest, last_digest, body, records}
use Rattle.cov_journal.specs.Laws.{AreShort}
use Rattle.cov_journal.proofs.CallerLemmas.{length-digest}
use Rattle.cov_record.specs.FitsRecord.{FitsRecord}
use Rattle.cov_record.specs.Laws.{IsRecordOf}
use Rattle.cov_record.specs.Payload.{payload}
use Rattle.cov_store.specs.Stands.{payloads}
use Rattle.cov_replica.specs.Taken.{Counted, counted, command_in, judged, by_command, by_verdict, taken_from, taken_on}
use Rattle.cov_replica.specs.declared.fault.ReplicaDamage.{ReplicaDamage}
use Rattle.cov_replica.specs.declared.fault.ReplicaDamage.TheVariants as damages
use Rattle.cov_replica.specs.declared.fault.ReplicaFault.{ReplicaFault}
use Rattle.cov_replica.proofs.Counting.{counted_first}
use Rattle.cov_replica.proofs.Spelling.{one_reading}

-- a record whose command is accepted
pub record IsJudgedOk (past : List Command) (before : List ℕ) (counts : Counted) (command : Command) : Type 0 where
  pub digest : counts.digest ≡ next_digest before counts.payload
  pub is : IsRecordOf counts.payload command
  pub accepted : verdict past command ≡ None

module _ (past : List Command) (before : List ℕ) (counts : Counted) (command : Command) where
  by_told : (c : Command) (o : Option Refusal) → verdict past c ≡ o → by_verdict c o ≡ Ok command → (c ≡ command) × (verdict past c ≡ None)
  by_told c None e h = (cc, e)
  by_told c (Some refusal) e h = absurd (cc)

  by_spelt : (o : Option Command) → command_in counts.payload ≡ o → by_command past o ≡ Ok command → IsRecordOf counts.payload command × (verdict past command ≡ None)
  by_spelt None e h = absurd (cc)
  by_spelt (Some c) e h =
      let told = by_told c (verdict past c) refl h in
      (subst (IsRecordOf counts.payload) told.0 ((one_reading counts.payload c).1 e), subst (λ c. verdict past c ≡ None) told.0 told.1)

  by_digest : (t : Bool) → bytes_eq counts.digest (next_digest before counts.payload) ≡ t
      → (if t then by_command past (command_in counts.payload) else Err damages.Digest) ≡ Ok command → IsJudgedOk past before counts command
  by_digest false e h = absurd (cc)
  by_digest true e h =
      let spelt = by_spelt (command_in counts.payload) refl h in
      record { digest = (bytes_eq-Decides counts.digest (next_digest before counts.payload)).0 e; is = spelt.0; accepted = spelt.1 }

  pub judged_ok : judged past before counts ≡ Ok command → IsJudgedOk past before counts command
  judged_ok h = by_digest (bytes_eq counts.digest (next_digest before counts.payload)) refl h

-- a refusal is the verdict on a command
module _ (past : List Command) (refusal : Refusal) where
  refused_told : (c : Command) (o : Option Refusal) → verdict past c ≡ o → by_verdict c o ≡ Err (damages.Refused refusal) → (k : Command) × (verdict past k ≡ Some refusal)
  refused_told c None e h = absurd (cc)
  refused_told c (Some r) e h = let same : r ≡ refusal = cc in (c, e ∙ ap Some same)

  refused_spelt : (o : Option Command) → by_command past o ≡ Err (damages.Refused refusal) → (k : Command) × (verdict past k ≡ Some refusal)
  refused_spelt None h = absurd (cc)
  refused_spelt (Some c) h = refused_told c (verdict past c) refl h

  pub judged_refused : (before : List ℕ) (counts : Counted) → judged past before counts ≡ Err (damages.Refused refusal) → (k : Command) × (verdict past k ≡ Some refusal)
  judged_refused before counts h = by (bytes_eq counts.digest (next_digest before counts.payload)) h
    where
      by : (t : Bool) → (if t then by_command past (command_in counts.payload) else Err damages.Digest) ≡ Err (damages.Refused refusal) → (k : Command) × (verdict past k ≡ Some refusal)
      by true h = refused_spelt (command_in counts.payload) h
      by false h = absurd (cc)

-- a record with its own digest is judged by its payload
pub judged_by : (past : List Command) (before p : List ℕ) → judged past before (record { payload = p; digest = next_digest before p }) ≡ by_command past (command_in p)
judged_by past before p =
    let own = next_digest before p in
    ap (λ t. if t then by_command past (command_in p) else Err damages.Digest) ((bytes_eq-Decides own own).1 refl)

-- and that of a command by the command's verdict
pub judged_command : (past : List Command) (before : List ℕ) (command : Command) → FitsRecord command
    → judged past before (record { payload = payload command; digest = next_digest before (payload command) }) ≡ by_verdict command (verdict past command)
judged_command past before command fits = judged_by past before (payload command) ∙ ap (by_command past) ((one_reading (payload command) command).0 (fits, refl))

-- a fault stays, whatever records come behind it
pub fault_stays_from : (past : List Command) (before : List ℕ) (xs ys : List Counted) (fault : ReplicaFault)
    → (taken_from past before xs).fault ≡ Some fault → taken_from past before (xs ++ ys) ≡ taken_from past before xs
fault_stays_from past before [] ys fault e = absurd (cc)
fault_stays_from past before (x ∷ xs) ys fault e = by (judged past before x) (λ history. fault_stays_from history x.digest xs ys fault) e
  where
    by : (j : Result Command ReplicaDamage) → ((h : List Command) → (taken_from h x.digest xs).fault ≡ Some fault → taken_from h x.digest (xs ++ ys) ≡ taken_from h x.digest xs)
        → (taken_on past j (λ h. taken_from h x.digest xs)).fault ≡ Some fault → taken_on past j (λ h. taken_from h x.digest (xs ++ ys)) ≡ taken_on past j (λ h. taken_from h x.digest xs)
    by (Ok c) later e = later (past ++ c ∷ []) e
    by (Err cause) later e = refl

-- where there is none, what comes behind goes on the history
pub goes_on_from : (past : List Command) (before : List ℕ) (xs ys : List Counted)
    → (taken_from past before xs).fault ≡ None → (last : List ℕ) × (taken_from past before (xs ++ ys) ≡ taken_from (taken_from past before xs).history last ys)
goes_on_from past before [] ys e = (before, refl)
goes_on_from past before (x ∷ xs) ys e = by (judged past before x) (λ history. goes_on_from history x.digest xs ys) e
  where
    by : (j : Result Command ReplicaDamage)
        → ((h : List Command) → (taken_from h x.digest xs).fault ≡ None → (last : List ℕ) × (taken_from h x.digest (xs ++ ys) ≡ taken_from (taken_from h x.digest xs).history last ys))
        → (taken_on past j (λ h. taken_from h x.digest xs)).fault ≡ None
        → (last : List ℕ) × (taken_on past j (λ h. taken_from h x.digest (xs ++ ys)) ≡ taken_from (taken_on past j (λ h. taken_from h x.digest xs)).history last ys)
    by (Ok c) later e = later (past ++ c ∷ []) e
    by (Err cause) later e = absurd (cc)

-- a history goes on the one before
pub extends_from : (past : List Command) (before : List ℕ) (xs : List Counted) → (later : List Command) × ((taken_from past before xs).history ≡ past ++ later)
extends_from past before [] = ([], sym (append-nil past))
extends_from past before (x ∷ xs) = by (judged past before x) (λ history. extends_from history x.digest xs)
  where
    by : (j : Result Command ReplicaDamage) → ((h : List Command) → (later : List Command) × ((taken_from h x.digest xs).history ≡ h ++ later))
        → (later : List Command) × ((taken_on past j (λ h. taken_from h x.digest xs)).history ≡ past ++ later)
    by (Ok c) more = let on = more (past ++ c ∷ []) in (c ∷ on.0, on.1 ∙ append_assoc past (c ∷ []) on.0)
    by (Err cause) more = ([], sym (append-nil past))

-- the records of payloads, as they count
abbrev pub own_records : List ℕ → List (List ℕ) → List Counted
own_records before [] = []
own_records before (p ∷ ps) = record { payload = p; digest = next_digest before p } ∷ own_records (next_digest before p) ps

pub counted_records : (before : List ℕ) (ps : List (List ℕ)) (rest : List ℕ) → AreShort ps → counted (records before ps ++ rest) ≡ own_records before ps ++ counted rest
counted_records before [] rest short = refl
counted_records before (p ∷ ps) rest short =
    let d = next_digest before p in
    ap (λ l. counted (1 ∷ l)) (append_assoc (body d p) (records d ps) rest)
    ∙ counted_first p d (records d ps ++ rest) short.0 (length-digest (before ++ p))
    ∙ ap (λ l. record { payload = p; digest = d } ∷ l) (counted_records d ps rest short.1)

-- the records of a history that goes on another give it
pub taken_own : (past : List Command) (before : List ℕ) (history : List Command) (others : List Counted) → IsLegalFrom past history → AllByRecursion FitsRecord history
    → taken_from past before (own_records before (payloads history) ++ others) ≡ taken_from (past ++ history) (last_digest before (payloads history)) others
taken_own past before [] others legal fits = ap (λ h. taken_from h before others) (sym (append-nil past))
taken_own past before (c ∷ history) others legal fits =
    let d = next_digest before (payload c) in
    ap (λ j. taken_on past j (λ h. taken_from h d (own_records d (payloads history) ++ others))) (judged_command past before c fits.0 ∙ ap (by_verdict c) legal.1)
    ∙ taken_own (past ++ c ∷ []) d history others legal.2 fits.1
    ∙ ap (λ h. taken_from h (last_digest d (payloads history)) others) (append_assoc past (c ∷ []) history)
