-- What the appending of a command comes to.
use Rattle.std.proofs.Common.{◌≡◌, ◌⊎◌, ◌∙◌, inl, inr, refl, sym, ap, subst, ℕ, ◌+◌, ◌<◌, ◌≤◌, List, [], ◌∷◌, ◌++◌, length, map, Option, None, option_map, Result, Ok, Err, arith}
use Rattle.std.specs.Prelude.{IfErr, IfOk, OnOk}
use Rattle.std.proofs.lemmas.List.{length-append}
use Rattle.cov_base.specs.Causes.{Rose}
use Rattle.cov_codes.proofs.CallerLemmas.{refusal-code}
use Rattle.cov_codes.specs.Codes.{refusal_code}
use Rattle.cov_codes.specs.Stops.{refusal_stop}
use Rattle.cov_disk.specs.Images.{LeavesOnly}
use Rattle.cov_edit.specs.declared.command.Command.{Command}
use Rattle.cov_engine.specs.States.{receipt_number}
use Rattle.cov_engine.specs.declared.prepared.Receipt.{Receipt}
use Rattle.cov_history.specs.Verdict.{RefusedBy, verdict}
use Rattle.cov_history.specs.declared.refusal.Refusal.{Refusal}
use Rattle.cov_history.specs.declared.refusal.Refusal.TheVariants as refusals
use Rattle.cov_loop.specs.Answers.{StopsAnswer}
use Rattle.cov_loop.specs.Keeping.{AreAll, IsEither}
use Rattle.cov_session.specs.Calls.{AreOpen, HasEnded}
use Rattle.cov_session.specs.Faults.{unless}
use Rattle.cov_session.specs.Laws.{OpenSessionsStay}
use Rattle.cov_session.specs.Open.{SessionValue, as_named}
use Rattle.cov_store.specs.Appending.{IsAppendFaultOf, LeavesHistory, LeavesHolders, OnRefusal, OnWriteFault}
use Rattle.cov_store.specs.Stands.{IsStored}
use Rattle.cov_store.specs.declared.appending.AppendFault.{AppendFault}
use Rattle.cov_store.specs.declared.appending.AppendFault.TheVariants as faults
use Rattle.cov_lines.specs.Acting.{Changes, Stops}
use Rattle.cov_lines.specs.Adding.{HasReceipt, StopsCommand, added_as, appended_ending, ended_by}
use Rattle.cov_lines.specs.Finding.{Found, ◌>>=◌}
use Rattle.cov_lines.specs.States.{State, with_command, with_sessions}
use Rattle.cov_lines.specs.Step.{appended}
use Rattle.cov_lines.specs.Storing.{IsNotGrown, grown, stored}
use Rattle.cov_lines.proofs.Acted.{stops-later}
use Rattle.cov_lines.proofs.Additions.{appended-as}
use Rattle.cov_lines.proofs.Growing.{stay-open}
use Rattle.cov_lines.proofs.Leaving.{accepted-grown, leaves-grown, leaves-same}

-- a command that is refused changes nothing
refusal-stops : (st : State) (k : Command) (r : Refusal) → RefusedBy r (verdict st.history k) → Stops (appended st k) st st (refusal_stop r)
refusal-stops st k refusals.Memory h = refl
refusal-stops st k r h = record {
  is = ap (λ o. unless (option_map refusal_code o) (with_command st k)) h;
  same = refl;
  told = refusal-code st.history k r h;
}

-- why a command that is only tried isn't accepted
pub stops_command : (history : List Command) (k : Command) (r : Refusal) → RefusedBy r (verdict history k) → StopsCommand history k (refusal_stop r)
stops_command history k refusals.Memory h = tt
stops_command history k r h = (ap (option_map refusal_code) h, refusal-code history k r h)

-- the state of a history, of the sessions that are open with their views, and of the names of trees
abbrev pub state_of : List Command → List SessionValue → List (List ℕ) → State
state_of history ss trees = record { history = history; sessions = map as_named ss; trees = trees }

module _ (history now : List Command) (k : Command) (ss left : List SessionValue) (ends : Option (List ℕ)) where
  -- the sessions that are left are open still
  pub still-open : OpenSessionsStay → (r : Result Receipt AppendFault) → LeavesHistory history k now r → LeavesHolders (HasEnded ends) ss left r → AreOpen history ss → AreOpen now left
  still-open law (Ok receipt) leaves ended here = ended.stays now (stay-open law history now k ss leaves here)
  still-open law (Err faults.DiskFault) leaves ended here = ended.stays now (stay-open law history now k ss leaves here)
  still-open law (Err (faults.Refused refusal)) leaves same here = subst (AreOpen now) (sym same) (subst (λ h. AreOpen h ss) (sym leaves) here)

  -- the state is the one that is wanted
  pub appends : (trees : List (List ℕ)) (r : Result Receipt AppendFault) → LeavesHistory history k now r → LeavesHolders (HasEnded ends) ss left r
      → OnOk r (verdict history k ≡ None) → IfErr r (IsAppendFaultOf (verdict history k))
      → IfOk (added_as r) (Changes (appended_ending (state_of history ss trees) k ends) (state_of history ss trees) (state_of now left trees))
  appends trees (Ok receipt) leaves ended accepted refused =
      ap (λ (found : Found State). found >>= (λ next. Ok (ended_by next ends))) (appended-as (state_of history ss trees) k (state_of now ss trees) accepted (ap (λ h. state_of h ss trees) leaves))
      ∙ ap (λ l. Ok (with_sessions (state_of now ss trees) l)) (sym ended.left)
  appends trees (Err (faults.Refused refusal)) leaves same accepted refused =
      let st = state_of history ss trees in
      subst (λ (t : State). Stops (appended_ending st k ends) st t (refusal_stop refusal)) (sym (ap (λ h. state_of h left trees) leaves ∙ ap (λ s. state_of history s trees) same))
      (stops-later (appended st k) (λ next. Ok (ended_by next ends)) st st (refusal_stop refusal) (refusal-stops st k refusal refused))
  appends trees (Err faults.DiskFault) leaves ended accepted refused = tt

module _ (history : List Command) (k : Command) (now : List Command) where
  longer : now ≡ history ++ k ∷ [] → length history ≤ length now
  longer leaves = omega (arith, ap length leaves, length-append history (k ∷ []))

  -- no command is lost
  pub no-shorter : (r : Result Receipt AppendFault) → LeavesHistory history k now r → length history ≤ length now
  no-shorter (Ok receipt) leaves = longer leaves
  no-shorter (Err faults.DiskFault) leaves = longer leaves
  no-shorter (Err (faults.Refused refusal)) leaves = omega (arith, ap length leaves)

  -- where the history has the command, it has more than so many commits as there were commands
  pub fewer-commits : (commits : ℕ) (r : Result Receipt AppendFault) → LeavesHistory history k now r → commits ≤ length history → IfOk (added_as r) (λ added. OnOk added (commits < length now))
  fewer-commits commits (Ok receipt) leaves few = omega (arith, ap length leaves, length-append history (k ∷ []), few)
  fewer-commits commits (Err faults.DiskFault) leaves few = tt
  fewer-commits commits (Err (faults.Refused refusal)) leaves few = tt

-- a command that isn't added is refused, and then the disk is as it was
module _ {D : Type 0} (history : List Command) (k : Command) (old new : D) where
  none-added : verdict history k ≡ None → IsNotGrown history k → ⊥
  none-added accepted none = omega (arith, ap length (accepted-grown history k accepted), length-append history (k ∷ []), none)

  pub unwritten : (r : Result Receipt AppendFault) → OnOk r (verdict history k ≡ None) → IfErr r (IsAppendFaultOf (verdict history k)) → IfErr r (λ fault. OnRefusal fault (new ≡ old))
      → IsNotGrown history k → new ≡ old
  unwritten (Ok receipt) accepted refused same none = absurd (none-added accepted none)
  unwritten (Err faults.DiskFault) accepted refused same none = absurd (none-added refused none)
  unwritten (Err (faults.Refused refusal)) accepted refused same none = same

  -- the disk failed, or it is as it was, or the command is stored
  pub settled : (images : D → List ℕ → Type 0) (before count : ℕ) (r : Result Receipt AppendFault) → OnOk r (verdict history k ≡ None) → IfErr r (λ fault. OnRefusal fault (new ≡ old))
      → IfErr r (λ fault. OnWriteFault fault (Rose before count)) → OnOk r (AreAll (λ image. IsStored image (history ++ k ∷ [])) (images new))
      → Rose before count ⊎ (new ≡ old) ⊎ AreAll (λ image. IsStored image (grown history k)) (images new)
  settled images before count (Ok receipt) accepted same failed stored = inr (inr (subst (λ h. AreAll (λ image. IsStored image h) (images new)) (accepted-grown history k accepted) stored))
  settled images before count (Err faults.DiskFault) accepted same failed stored = inl failed
  settled images before count (Err (faults.Refused refusal)) accepted same failed stored = inr (inl same)

module _ (st : State) (k : Command) (now : List Command) where
  pub has-receipt : (r : Result Receipt AppendFault) → IfOk r (λ receipt. receipt.number ≡ receipt_number st.history k) → IfOk r (λ receipt. receipt.position ≡ length st.history + 1)
      → IfOk (added_as r) (λ added. IfOk added (HasReceipt st.history k))
  has-receipt (Ok receipt) number position = record { number = number; position = position }
  has-receipt (Err (faults.Refused refusal)) number position = tt
  has-receipt (Err faults.DiskFault) number position = tt

  -- what a disk has of the history before, it has of the one after
  pub carried : {D : Type 0} (old new : D) (Q : D → List Command → Type 0) (r : Result Receipt AppendFault) → LeavesHistory st.history k now r
      → Q old st.history → OnOk r (Q new (st.history ++ k ∷ [])) → IfErr r (λ fault. OnRefusal fault (new ≡ old)) → OnOk (added_as r) (Q new now)
  carried old new Q (Ok receipt) leaves was is same = subst (Q new) (sym leaves) is
  carried old new Q (Err (faults.Refused refusal)) leaves was is same = subst (Q new) (sym leaves) (subst (λ d. Q d st.history) (sym same) was)
  carried old new Q (Err faults.DiskFault) leaves was is same = tt

  pub moments : {D : Type 0} (moment : D → ℕ) (images_since : D → ℕ → List ℕ → Type 0) (images : D → List ℕ → Type 0) (old new : D) → ((c : List ℕ) → images_since old (moment old) c → images old c)
      → (r : Result Receipt AppendFault) → OnOk r (verdict st.history k ≡ None) → IfErr r (IsAppendFaultOf (verdict st.history k)) → IfErr r (λ fault. OnRefusal fault (new ≡ old))
      → AreAll (stored st) (images old) → LeavesOnly moment images_since old new (IsEither (stored st) (λ image. IsStored image (st.history ++ k ∷ [])))
      → LeavesOnly moment images_since old new (IsEither (stored st) (λ image. IsStored image (grown st.history k)))
  moments moment images_since images old new only (Ok receipt) accepted refused same all leaves = leaves-grown moment images_since old new st st.history k refl accepted leaves
  moments moment images_since images old new only (Err faults.DiskFault) accepted refused same all leaves = leaves-grown moment images_since old new st st.history k refl refused leaves
  moments moment images_since images old new only (Err (faults.Refused refusal)) accepted refused same all leaves =
      leaves-same moment images_since images old new only same st (λ image. IsStored image (grown st.history k)) all

-- the disk has failed
pub write-stops : (disk disk' : ℕ) (r : Result Receipt AppendFault) → IfErr r (λ fault. OnWriteFault fault (Rose disk disk')) → IfErr (added_as r) (λ ending. StopsAnswer ending disk disk')
write-stops disk disk' (Ok receipt) failed = tt
write-stops disk disk' (Err (faults.Refused refusal)) failed = tt
write-stops disk disk' (Err faults.DiskFault) failed = failed
