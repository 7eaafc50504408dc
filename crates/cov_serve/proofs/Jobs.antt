-- What each job comes to.
use Rattle.std.proofs.Common.{◌≡◌, ◌∙◌, ◌⊎◌, inl, inr, refl, sym, ap, subst, ℕ, ◌+◌, ◌<◌, ◌≤◌, arith, Bool, true, false, List, [], ◌++◌, length, Option, Some, None, IfSome}
use Rattle.std.proofs.lemmas.Bool.{false≢true}
use Rattle.cov_base.specs.Causes.{Rose}
use Rattle.cov_base.specs.declared.limits.TheConstants.{TOO_MANY_SCRIPT_BYTES}
use Rattle.cov_edit.specs.History.{options_of}
use Rattle.cov_edit.specs.declared.command.Command.{Command}
use Rattle.cov_io.specs.Progress.{CountsGiven}
use Rattle.cov_io.specs.declared.reading.LineFault.{LineFault}
use Rattle.cov_io.specs.declared.reading.LineFault.TheVariants as line_faults
use Rattle.cov_import.specs.Sources.{StopsReading, source_counts}
use Rattle.cov_import.specs.Taking.{taken_in}
use Rattle.cov_loop.specs.Counts.{Counts, counts}
use Rattle.cov_loop.specs.Turns.{WritesFront, output}
use Rattle.cov_loop.proofs.CallerLemmas.{fault_turn}
use Rattle.cov_out.specs.declared.row.OutRow.{OutRow}
use Rattle.cov_serve.specs.Jobs.{ComesTo, EndsAs, IsCaused, IsSettled, IsShort, IsStore, JobOutcome, NoneRose, OnEnd, RowsPrecede, StandsForFront, StandsForTold, StartsFrom, TellsUnopened, history_after, outcome, replies, rows_of, served_demo, served_import, served_replica, served_script, served_status, told_of_none}
use Rattle.cov_script.specs.Demonstration.{checkout_lines, made_lines}
use Rattle.cov_lines.specs.Laws.{rows_told}
use Rattle.cov_serve.specs.Program.{EndsServed, OnServed, PutsLast, ReadsAs, StopsDemo, StopsServing, TellsFault, check_line, damaged_line, demo_line, not_a_store_line, usage_line}
use Rattle.cov_lines.specs.States.{starting}
use Rattle.cov_lines.specs.Step.{model, step}
use Rattle.cov_serve.specs.Statuses.{fault_status}
use Rattle.cov_serve.specs.TextServing.{rows_after}
use Rattle.cov_serve.specs.declared.job.Job.{Job}
use Rattle.cov_serve.specs.declared.job.Job.TheVariants.{OnStore, Replica, Unknown}
use Rattle.cov_serve.specs.declared.job.StoreJob.{StoreJob}
use Rattle.cov_serve.specs.declared.job.StoreJob.TheVariants.{Run, Check, Demo, Import}
use Rattle.cov_serve.specs.declared.status.Status.{Status}
use Rattle.cov_serve.specs.declared.status.Status.TheVariants as statuses
use Rattle.cov_store.specs.Stands.{StandsFor}
use Rattle.cov_store.specs.declared.damage.StoreFault.{StoreFault}
use Rattle.cov_serve.proofs.Checkouts.{checkout_answered, checkouts_are, first_checkout, other_checkouts}
use Rattle.cov_serve.proofs.Crashing.{front_first, told_none}
use Rattle.cov_serve.proofs.Imports.{import_front, import_precedes, import_reads, import_told, turned_sum}
use Rattle.cov_serve.proofs.Replicas.{reads_text, replica_front, replica_last, replica_precedes, replica_told}
use Rattle.cov_serve.proofs.Turns.{front_stands_told, rows_precede, rows_precede_told, told_stands_told}
use Rattle.cov_serve.proofs.TurnsAfter.{front_start, rows_precede_after, told_unwritten}
use Rattle.cov_serve.proofs.Unopened.{Fails, IsCut, Tells, cut_end, cut_unless, cut_unserved, fails_stops, none_written, put_tells, reads_as, tells_ends, tells_front, tells_rows, tells_rows_first, tells_unless, tells_whole, unopened_tells}

-- what a job over a store asks of the disk is a history
pub reads_of : (job : StoreJob) (contents left : Option (List ℕ)) (history : List Command) (text : List ℕ) → StartsFrom (OnStore job) contents left history text → ReadsAs contents history
reads_of Run contents left history text (reads, is) = reads
reads_of Check contents left history text reads = reads
reads_of (Demo number) contents left history text reads = reads
reads_of (Import path) contents left history text (reads, is) = reads

-- before anything is done
module _ (job : StoreJob) (history : List Command) (text : List ℕ) where
  pub none_precede : (before : List ℕ) (rows : List OutRow) (written : Option (List ℕ)) (grown : Option (List OutRow)) → written ≡ Some before → grown ≡ Some rows
      → RowsPrecede (outcome (OnStore job) history text).turns before rows written grown
  none_precede before rows written grown wrote grew = at job
    where
      at : (job : StoreJob) → RowsPrecede (outcome (OnStore job) history text).turns before rows written grown
      at Run = rows_precede history text before rows written grown ((fault_turn step rows_told (starting history) text (output written grown)).first before rows wrote grew)
      at Check = rows_precede_told statuses.Done (check_line history) history before rows written grown (none_written before (check_line history) written wrote) grew
      at (Demo number) =
          let made = made_lines number in
          rows_precede_after history made checkout_lines (demo_line number) first_checkout other_checkouts checkouts_are (checkout_answered (model history made).state) before rows written grown
          (inl (wrote, none_written rows (rows_after step (starting history) made checkout_lines) grown grew))
      at (Import path) =
          import_precedes history (taken_in history path text) before rows written grown (none_written before (replies (served_import history path text).turns) written wrote) grew

  pub front_at_start : (image : List ℕ) → StandsFor image history → StandsForFront history (outcome (OnStore job) history text).turns image
  front_at_start image h = at job
    where
      at : (job : StoreJob) → StandsForFront history (outcome (OnStore job) history text).turns image
      at Run = front_first history text image h
      at Check = front_stands_told statuses.Done (check_line history) history image h
      at (Demo number) = front_start history (made_lines number) checkout_lines (demo_line number) image h
      at (Import path) = import_front history (taken_in history path text) image h

  pub told_at_start : (image : List ℕ) → StandsFor image history → StandsForTold history (outcome (OnStore job) history text).turns [] image
  told_at_start image h = at job
    where
      at : (job : StoreJob) → StandsForTold history (outcome (OnStore job) history text).turns [] image
      at Run = told_none history text image h
      at Check = told_stands_told statuses.Done (check_line history) history [] image h
      at (Demo number) =
          let made = made_lines number in
          told_unwritten history made checkout_lines (demo_line number) first_checkout other_checkouts checkouts_are (checkout_answered (model history made).state) [] image refl
          (front_start history made checkout_lines (demo_line number) image h)
      at (Import path) = import_told history (taken_in history path text) image h

-- nothing is told of a store, since the run was cut short
pub record Stopped (job : StoreJob) (all : JobOutcome) (sink sink' disk disk' : ℕ) (old new : Option (List ℕ)) (status : Status) : Type 0 where
  pub history : List Command
  pub text : List ℕ
  pub is : all ≡ outcome (OnStore job) history text
  pub cut : IsCut sink sink' disk disk' status
  pub same : new ≡ old

pub stopped_stands : (job : StoreJob) (history : List Command) (text : List ℕ) (contents : Option (List ℕ)) (sink sink' disk disk' : ℕ) (status : Status) → IsCut sink sink' disk disk' status
    → IfSome contents (λ image. StandsFor image history) → IsSettled (OnStore job) status
    → IfSome contents (λ image. StandsFor image (history_after history (outcome (OnStore job) history text).turns))
stopped_stands Run history text contents sink sink' disk disk' status cut h settled = absurd (cut_unserved sink sink' disk disk' status cut settled)
stopped_stands Check history text contents sink sink' disk disk' status cut h settled = h
stopped_stands (Demo number) history text contents sink sink' disk disk' status cut h settled = absurd (cut_unserved sink sink' disk disk' status cut settled)
stopped_stands (Import path) history text contents sink sink' disk disk' status cut h settled = absurd (cut_unserved sink sink' disk disk' status cut settled)

-- a store isn't opened: nothing is told of it, or one line is
abbrev pub Fell : StoreJob → JobOutcome → ℕ → ℕ → ℕ → ℕ → Option (List ℕ) → Option (List ℕ) → Status → Type 0
Fell job all sink sink' disk disk' old new status = Stopped job all sink sink' disk disk' old new status ⊎ Tells all sink sink' disk disk' old new status

pub failed : (job : StoreJob) (contents left : Option (List ℕ)) (all : JobOutcome) (sink sink' disk disk' : ℕ) (old new : Option (List ℕ)) (status : Status) (fault : StoreFault)
    → Fails contents disk disk' fault → TellsFault fault old new sink sink' status → ComesTo (OnStore job) contents left all → Fell job all sink sink' disk disk' old new status
failed job contents left all sink sink' disk disk' old new status fault fails told (inl (history, text, starts, is)) =
    let stop = fails_stops all sink sink' disk disk' old new status fault told contents history fails (reads_of job contents left history text starts) in
    inl (record { history = history; text = text; is = is; cut = stop.0; same = stop.1 })
failed job contents left all sink sink' disk disk' old new status fault fails told (inr (opens, tells)) =
    inr (unopened_tells all sink sink' disk disk' old new status fault told contents fails tells)

module _ {job : StoreJob} {all : JobOutcome} {sink sink' disk disk' : ℕ} {old new : Option (List ℕ)} {status : Status} where
  pub failed_ends : (left : Option (List ℕ)) → Fell job all sink sink' disk disk' old new status → OnEnd status (EndsAs all status left)
  failed_ends left (inl s) = cut_end sink sink' disk disk' status (EndsAs all status left) s.cut
  failed_ends left (inr t) = tells_ends t left

  pub failed_front : (before : List ℕ) → old ≡ Some before → Fell job all sink sink' disk disk' old new status → WritesFront before (replies all.turns) new
  failed_front before wrote (inl s) = none_written before (replies all.turns) new (s.same ∙ wrote)
  failed_front before wrote (inr t) = tells_front t before wrote

  pub failed_whole : (before : List ℕ) → old ≡ Some before → Fell job all sink sink' disk disk' old new status → OnEnd status (new ≡ Some (before ++ replies all.turns))
  failed_whole before wrote (inl s) = cut_end sink sink' disk disk' status (new ≡ Some (before ++ replies all.turns)) s.cut
  failed_whole before wrote (inr t) = tells_whole t before wrote

  pub failed_rows : (before : List OutRow) (grown : Option (List OutRow)) → grown ≡ Some before → Fell job all sink sink' disk disk' old new status
      → OnEnd status (grown ≡ Some (before ++ rows_of all.turns))
  failed_rows before grown grew (inl s) = cut_end sink sink' disk disk' status (grown ≡ Some (before ++ rows_of all.turns)) s.cut
  failed_rows before grown grew (inr t) = tells_rows t before grown grew

  pub failed_rows_first : (before : List ℕ) (rows : List OutRow) (grown : Option (List OutRow)) → old ≡ Some before → grown ≡ Some rows → Fell job all sink sink' disk disk' old new status
      → RowsPrecede all.turns before rows new grown
  failed_rows_first before rows grown wrote grew (inl s) =
      subst (λ o. RowsPrecede o.turns before rows new grown) (sym s.is) (none_precede job s.history s.text before rows new grown (s.same ∙ wrote) grew)
  failed_rows_first before rows grown wrote grew (inr t) = tells_rows_first t before rows grown wrote grew

  pub failed_unless : (Rose sink sink' → ⊥) → (Rose disk disk' → ⊥) → Fell job all sink sink' disk disk' old new status → (status ≡ all.status) ⊎ (status ≡ statuses.NoMemory)
  failed_unless no_sink no_disk (inl s) = inr (cut_unless sink sink' disk disk' status s.cut no_sink no_disk)
  failed_unless no_sink no_disk (inr t) = tells_unless t no_sink no_disk

-- a store that is opened is checked
pub check_tells : (contents left : Option (List ℕ)) {all : JobOutcome} {sink sink' : ℕ} {old new : Option (List ℕ)} {status : Status} (disk disk' : ℕ) → ComesTo (OnStore Check) contents left all
    → (TellsUnopened contents all → ⊥) → ((history : List Command) → ReadsAs contents history → PutsLast statuses.Done (check_line history) old new sink sink' status)
    → Tells all sink sink' disk disk' old new status
check_tells contents left disk disk' (inl (history, text, reads, is)) opened puts = put_tells disk disk' statuses.Done (check_line history) history is (puts history reads)
check_tells contents left disk disk' (inr (opens, tells)) opened puts = absurd (opened tells)

-- words of no form
pub usage_tells : (contents left : Option (List ℕ)) {all : JobOutcome} {sink sink' : ℕ} {old new : Option (List ℕ)} {status : Status} (disk disk' : ℕ) → ComesTo Unknown contents left all
    → PutsLast statuses.Usage usage_line old new sink sink' status → Tells all sink sink' disk disk' old new status
usage_tells contents left disk disk' (inl (history, text, none, is)) puts = put_tells disk disk' statuses.Usage usage_line history is puts
usage_tells contents left disk disk' (inr (opens, tells)) puts = absurd (false≢true opens)

pub usage_is : (contents left : Option (List ℕ)) (all : JobOutcome) → ComesTo Unknown contents left all → all.status ≡ statuses.Usage
usage_is contents left all (inl (history, text, none, is)) = ap (λ (o : JobOutcome). o.status) is
usage_is contents left all (inr (opens, tells)) = absurd (false≢true opens)

-- a store that is opened serves a script
pub record Serves (contents left : Option (List ℕ)) (all : JobOutcome) : Type 0 where
  pub history : List Command
  pub text : List ℕ
  pub reads : ReadsAs contents history
  pub left_is : left ≡ Some text
  pub is : all ≡ served_script history text

pub serves : (contents left : Option (List ℕ)) (all : JobOutcome) → ComesTo (OnStore Run) contents left all → (TellsUnopened contents all → ⊥) → Serves contents left all
serves contents left all (inl (history, text, (reads, left_is), is)) opened = record { history = history; text = text; reads = reads; left_is = left_is; is = is }
serves contents left all (inr (opens, tells)) opened = absurd (opened tells)

-- what holds at the end of a script
module _ (old new : Counts) where
  pub served_end : (status : Status) (Q : Bool → Type 0) (P : Type 0) → StopsServing old new status → OnServed status Q
      → ((refused : Bool) → status ≡ served_status refused → Q refused → P) → OnEnd status P
  served_end statuses.Done Q P s h to = to false refl h
  served_end statuses.SomeRefused Q P s h to = to true refl h
  served_end statuses.Usage Q P s h to = absurd s
  served_end statuses.NotAStore Q P s h to = absurd s
  served_end (statuses.Damaged number cause) Q P s h to = absurd s
  served_end status Q P s h to = tt

  turned : (most was now : ℕ) → most + was ≤ 0 + now → was + most ≤ now
  turned most was now h = omega (arith, h)

  pub served_caused : (contents left : Option (List ℕ)) (status : Status) → IfSome contents IsStore → StopsServing old new status → IsCaused (OnStore Run) contents left old new status
  served_caused contents left statuses.Done store h = store
  served_caused contents left statuses.SomeRefused store h = (refl, store)
  served_caused contents left statuses.NoMemory store h = tt
  served_caused contents left statuses.ReadFault store h = (refl, h)
  served_caused contents left statuses.WriteFault store h = h
  served_caused contents left statuses.DiskFault store h = (refl, h)
  served_caused contents left statuses.TreesFault store h = (refl, h)
  served_caused contents left statuses.TooMuch store (given, ended, ends) = (refl, turned TOO_MANY_SCRIPT_BYTES old.given new.given given, ends)
  served_caused contents left status store h = absurd h

  given_few : (left left' : Option (List ℕ)) (text : List ℕ) → CountsGiven left left' old.given new.given → left ≡ Some text → new.given ≤ length text + old.given
  given_few None left' text h e = absurd (cc)
  given_few (Some now) None text h e = absurd h
  given_few (Some now) (Some later) text h e = let same : now ≡ text = cc in omega (arith, h, ap length same)

  few_enough : (most few was now : ℕ) → most + was ≤ 0 + now → now ≤ few + was → few < most → ⊥
  few_enough most few was now a b c = omega (arith, a, b, c)

  -- a source that isn't too long doesn't give too much
  pub not_too_much : (left left' : Option (List ℕ)) (text : List ℕ) → CountsGiven left left' old.given new.given → left ≡ Some text → length text < TOO_MANY_SCRIPT_BYTES
      → TOO_MANY_SCRIPT_BYTES + old.given ≤ 0 + new.given → ⊥
  not_too_much left left' text counts is few given = few_enough TOO_MANY_SCRIPT_BYTES (length text) old.given new.given given (given_few left left' text counts is) few

  -- a script that isn't too long is served, where nothing fails
  pub served_unless : (left left' : Option (List ℕ)) (history : List Command) (text : List ℕ) (status : Status) → StopsServing old new status
      → OnServed status (λ refused. ((model history text).is_refused ≡ refused) × (left' ≡ Some [])) → CountsGiven left left' old.given new.given → left ≡ Some text → IsShort true left
      → NoneRose (OnStore Run) (served_script history text) old new → (status ≡ (served_script history text).status) ⊎ (status ≡ statuses.NoMemory)
  served_unless left left' history text status stops ended counts is short none = at status stops ended
    where
      few : length text < TOO_MANY_SCRIPT_BYTES
      few = subst (IsShort true) is short

      at : (status : Status) → StopsServing old new status → OnServed status (λ refused. ((model history text).is_refused ≡ refused) × (left' ≡ Some []))
          → (status ≡ served_status (model history text).is_refused) ⊎ (status ≡ statuses.NoMemory)
      at statuses.Done h e = inl (ap served_status (sym e.0))
      at statuses.SomeRefused h e = inl (ap served_status (sym e.0))
      at statuses.NoMemory h e = inr refl
      at statuses.ReadFault h e = absurd (none.source refl h)
      at statuses.WriteFault h e = absurd (none.sink h)
      at statuses.DiskFault h e = absurd (none.disk refl h)
      at statuses.TreesFault h e = absurd (none.trees refl h)
      at statuses.TooMuch (given, ended, ends) e =
          absurd (not_too_much left left' text counts is few given)
      at status h e = absurd h

  pub import_caused : (path : List (List ℕ)) (contents left : Option (List ℕ)) (status : Status) → IfSome contents IsStore → (status ≡ statuses.TreesFault → ⊥) → StopsServing old new status
      → IsCaused (OnStore (Import path)) contents left old new status
  import_caused path contents left statuses.Done store trees h = store
  import_caused path contents left statuses.SomeRefused store trees h = (refl, store)
  import_caused path contents left statuses.NoMemory store trees h = tt
  import_caused path contents left statuses.ReadFault store trees h = (refl, h)
  import_caused path contents left statuses.WriteFault store trees h = h
  import_caused path contents left statuses.DiskFault store trees h = (refl, h)
  import_caused path contents left statuses.TreesFault store trees h = absurd (trees refl)
  import_caused path contents left statuses.TooMuch store trees (given, ended, ends) = (refl, turned TOO_MANY_SCRIPT_BYTES old.given new.given given, ends)
  import_caused path contents left status store trees h = absurd h

  -- a text that isn't too long is read to its end, and then taken in or refused, where nothing fails
  pub import_unless : (path : List (List ℕ)) (left left' : Option (List ℕ)) (history : List Command) (text : List ℕ) (status : Status) → (status ≡ statuses.TreesFault → ⊥) → StopsServing old new status
      → OnServed status (λ refused. ((served_import history path text).status ≡ served_status refused) × (left' ≡ Some [])) → CountsGiven left left' old.given new.given → left ≡ Some text
      → IsShort (served_import history path text).reads left → NoneRose (OnStore (Import path)) (served_import history path text) old new
      → (status ≡ (served_import history path text).status) ⊎ (status ≡ statuses.NoMemory)
  import_unless path left left' history text status trees stops ended counts is short none = at status trees stops ended
    where
      reads : (served_import history path text).reads ≡ true
      reads = import_reads history (taken_in history path text)

      few : length text < TOO_MANY_SCRIPT_BYTES
      few = subst (IsShort true) is (subst (λ r. IsShort r left) reads short)

      at : (status : Status) → (status ≡ statuses.TreesFault → ⊥) → StopsServing old new status → OnServed status (λ refused. ((served_import history path text).status ≡ served_status refused) × (left' ≡ Some []))
          → (status ≡ (served_import history path text).status) ⊎ (status ≡ statuses.NoMemory)
      at statuses.Done trees h e = inl (sym e.0)
      at statuses.SomeRefused trees h e = inl (sym e.0)
      at statuses.NoMemory trees h e = inr refl
      at statuses.ReadFault trees h e = absurd (none.source reads h)
      at statuses.WriteFault trees h e = absurd (none.sink h)
      at statuses.DiskFault trees h e = absurd (none.disk refl h)
      at statuses.TreesFault trees h e = absurd (trees refl)
      at statuses.TooMuch trees (given, ended, ends) e =
          absurd (not_too_much left left' text counts is few given)
      at status trees h e = absurd h

-- the bytes of a journal that aren't too long are read to their end, where nothing fails
pub unread_unless : (line text : List ℕ) (history : List Command) (fault : LineFault) (left left' : Option (List ℕ)) (source source' sink sink' disk trees trees' given given' ends ends' : ℕ)
    → StopsReading fault (source_counts source given ends) (source_counts source' given' ends') → CountsGiven left left' given given' → left ≡ Some text → IsShort true left
    → NoneRose (Replica line) (served_replica line text history) (counts source sink disk trees given ends) (counts source' sink' disk trees' given' ends')
    → (fault_status fault ≡ (served_replica line text history).status) ⊎ (fault_status fault ≡ statuses.NoMemory)
unread_unless line text history line_faults.ReadFault left left' source source' sink sink' disk trees trees' given given' ends ends' h counted is short none =
    absurd (none.source (reads_text line text history) h)
unread_unless line text history line_faults.TooMuch left left' source source' sink sink' disk trees trees' given given' ends ends' h counted is short none =
    absurd (not_too_much (counts source sink disk trees given ends) (counts source' sink' disk trees' given' ends') left left' text counted is (subst (IsShort true) is short) (turned_sum TOO_MANY_SCRIPT_BYTES given given' h.0))
unread_unless line text history line_faults.Memory left left' source source' sink sink' disk trees trees' given given' ends ends' h counted is short none = inr refl

-- a run whose trees aren't called doesn't end by a fault of theirs
pub treeless : (source source' sink sink' disk disk' given given' ends ends' : ℕ) (status : Status) → StopsServing (counts source sink disk 0 given ends) (counts source' sink' disk' 0 given' ends') status
    → status ≡ statuses.TreesFault → ⊥
treeless source source' sink sink' disk disk' given given' ends ends' status stops e =
    let rose : Rose 0 0 = subst (StopsServing (counts source sink disk 0 given ends) (counts source' sink' disk' 0 given' ends')) e stops in
    absurd (omega (arith, rose))

-- a store that is opened takes a conditional text in
pub record TakesIn (contents left : Option (List ℕ)) (path : List (List ℕ)) (all : JobOutcome) : Type 0 where
  pub history : List Command
  pub text : List ℕ
  pub reads : ReadsAs contents history
  pub left_is : left ≡ Some text
  pub is : all ≡ served_import history path text

pub takes_in : (path : List (List ℕ)) (contents left : Option (List ℕ)) (all : JobOutcome) → ComesTo (OnStore (Import path)) contents left all → (TellsUnopened contents all → ⊥) → TakesIn contents left path all
takes_in path contents left all (inl (history, text, (reads, left_is), is)) opened = record { history = history; text = text; reads = reads; left_is = left_is; is = is }
takes_in path contents left all (inr (opens, tells)) opened = absurd (opened tells)

-- nothing is done, since no memory is to be had for the words
pub nothing_stands : (job : Job) (history : List Command) (text : List ℕ) (contents : Option (List ℕ)) → ReadsAs contents history → IsSettled job statuses.NoMemory
    → IfSome contents (λ image. StandsFor image (history_after history (outcome job history text).turns))
nothing_stands (OnStore Run) history text contents reads settled = absurd settled
nothing_stands (OnStore Check) history text contents reads settled = reads_as contents history reads
nothing_stands (OnStore (Demo number)) history text contents reads settled = absurd settled
nothing_stands (OnStore (Import path)) history text contents reads settled = absurd settled
nothing_stands (Replica line) history text contents reads settled = replica_last line history text contents (reads_as contents history reads)
nothing_stands Unknown history text contents reads settled = reads_as contents history reads

pub nothing_fronts : (job : Job) (history : List Command) (text image : List ℕ) → StandsFor image history → StandsForFront history (outcome job history text).turns image
nothing_fronts (OnStore job) history text image h = front_at_start job history text image h
nothing_fronts (Replica line) history text image h = replica_front line history text image h
nothing_fronts Unknown history text image h = front_stands_told statuses.Usage usage_line history image h

pub nothing_told : (job : Job) (history : List Command) (text image : List ℕ) → StandsFor image history → StandsForTold history (outcome job history text).turns [] image
nothing_told (OnStore job) history text image h = told_at_start job history text image h
nothing_told (Replica line) history text image h = replica_told line history text [] image h
nothing_told Unknown history text image h = told_stands_told statuses.Usage usage_line history [] image h

module _ (before : List ℕ) (rows : List OutRow) (written : Option (List ℕ)) (grown : Option (List OutRow)) (wrote : written ≡ Some before) (grew : grown ≡ Some rows) where
  untold_precedes : (status : Status) (line : List ℕ) (all : JobOutcome) → all ≡ told_of_none status line → RowsPrecede all.turns before rows written grown
  untold_precedes status line all is =
      subst (λ o. RowsPrecede o.turns before rows written grown) (sym is) (rows_precede_told status line [] before rows written grown (none_written before line written wrote) grew)

  unopened_precedes : (contents : Option (List ℕ)) (all : JobOutcome) → TellsUnopened contents all → RowsPrecede all.turns before rows written grown
  unopened_precedes None all tells = absurd tells
  unopened_precedes (Some image) all (inl (none, is)) = untold_precedes statuses.NotAStore not_a_store_line all is
  unopened_precedes (Some image) all (inr (number, cause, damage, is)) = untold_precedes (statuses.Damaged number cause) (damaged_line (options_of damage.history) number cause) all is

  made_precedes : (job : Job) (history : List Command) (text : List ℕ) → RowsPrecede (outcome job history text).turns before rows written grown
  made_precedes (OnStore job) history text = none_precede job history text before rows written grown wrote grew
  made_precedes (Replica line) history text = replica_precedes line history text before rows written grown wrote grew
  made_precedes Unknown history text = rows_precede_told statuses.Usage usage_line history before rows written grown (none_written before usage_line written wrote) grew

pub nothing_precedes : (job : Job) (contents left : Option (List ℕ)) (all : JobOutcome) → ComesTo job contents left all
    → (before : List ℕ) (rows : List OutRow) (written : Option (List ℕ)) (grown : Option (List OutRow)) → written ≡ Some before → grown ≡ Some rows → RowsPrecede all.turns before rows written grown
nothing_precedes job contents left all (inl (history, text, starts, is)) before rows written grown wrote grew =
    subst (λ o. RowsPrecede o.turns before rows written grown) (sym is) (made_precedes before rows written grown wrote grew job history text)
nothing_precedes job contents left all (inr (opens, tells)) before rows written grown wrote grew = unopened_precedes before rows written grown wrote grew contents all tells

-- a line is served over what is taken of the source, or the fault of that is told
pub record Replicates (left : Option (List ℕ)) (line : List ℕ) (all : JobOutcome) : Type 0 where
  pub history : List Command
  pub text : List ℕ
  pub left_is : left ≡ Some text
  pub is : all ≡ served_replica line text history

pub replicates : (line : List ℕ) (contents left : Option (List ℕ)) (all : JobOutcome) → ComesTo (Replica line) contents left all → Replicates left line all
replicates line contents left all (inl (history, text, left_is, is)) = record { history = history; text = text; left_is = left_is; is = is }
replicates line contents left all (inr (opens, tells)) = absurd (false≢true opens)

-- what holds at the end of a script, of a run that came to it
pub served_on : (status : Status) (P : Type 0) → OnServed status (λ refused. P) → EndsServed status → P
served_on statuses.Done P h e = h
served_on statuses.SomeRefused P h e = h
served_on status P h e = absurd e

-- a store that is opened serves the script that a number stands for
pub record Demonstrates (contents : Option (List ℕ)) (number : ℕ) (all : JobOutcome) : Type 0 where
  pub history : List Command
  pub reads : ReadsAs contents history
  pub is : all ≡ served_demo history number

pub demonstrates : (number : ℕ) (contents left : Option (List ℕ)) (all : JobOutcome) → ComesTo (OnStore (Demo number)) contents left all → (TellsUnopened contents all → ⊥) → Demonstrates contents number all
demonstrates number contents left all (inl (history, text, reads, is)) opened = record { history = history; reads = reads; is = is }
demonstrates number contents left all (inr (opens, tells)) opened = absurd (opened tells)

-- how such a run ends
pub demo_end : (sink sink' disk disk' trees trees' : ℕ) (status : Status) (P : Type 0) → StopsDemo status sink sink' disk disk' trees trees' → (status ≡ statuses.Done → P) → OnEnd status P
demo_end sink sink' disk disk' trees trees' statuses.Done P s to = to refl
demo_end sink sink' disk disk' trees trees' statuses.SomeRefused P s to = absurd s
demo_end sink sink' disk disk' trees trees' statuses.Usage P s to = absurd s
demo_end sink sink' disk disk' trees trees' statuses.NotAStore P s to = absurd s
demo_end sink sink' disk disk' trees trees' (statuses.Damaged number cause) P s to = absurd s
demo_end sink sink' disk disk' trees trees' status P s to = tt

pub served_done : (status : Status) (P : Type 0) → OnServed status (λ refused. P) → status ≡ statuses.Done → P
served_done status P h e = served_on status P h (subst EndsServed (sym e) tt)

-- the disk may have failed before
pub demo_later : (sink sink' disk disk1 disk' trees trees' : ℕ) (status : Status) → disk ≤ disk1 → StopsDemo status sink sink' disk1 disk' trees trees' → StopsDemo status sink sink' disk disk' trees trees'
demo_later sink sink' disk disk1 disk' trees trees' statuses.DiskFault le h = omega (arith, le, h)
demo_later sink sink' disk disk1 disk' trees trees' status le h = h

pub demo_caused : (number : ℕ) (contents left : Option (List ℕ)) (old new : Counts) (status : Status) → IfSome contents IsStore
    → StopsDemo status old.sink new.sink old.disk new.disk old.trees new.trees → IsCaused (OnStore (Demo number)) contents left old new status
demo_caused number contents left old new statuses.Done store h = store
demo_caused number contents left old new statuses.NoMemory store h = tt
demo_caused number contents left old new statuses.WriteFault store h = h
demo_caused number contents left old new statuses.DiskFault store h = (refl, h)
demo_caused number contents left old new statuses.TreesFault store h = (refl, h)
demo_caused number contents left old new status store h = absurd h

pub demo_unless : (number : ℕ) (history : List Command) (old new : Counts) (status : Status) → StopsDemo status old.sink new.sink old.disk new.disk old.trees new.trees
    → NoneRose (OnStore (Demo number)) (served_demo history number) old new → (status ≡ statuses.Done) ⊎ (status ≡ statuses.NoMemory)
demo_unless number history old new statuses.Done h none = inl refl
demo_unless number history old new statuses.NoMemory h none = inr refl
demo_unless number history old new statuses.WriteFault h none = absurd (none.sink h)
demo_unless number history old new statuses.DiskFault h none = absurd (none.disk refl h)
demo_unless number history old new statuses.TreesFault h none = absurd (none.trees refl h)
demo_unless number history old new status h none = absurd h
