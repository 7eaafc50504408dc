-- How it is told that a store isn't opened, and other lines that end a run.
use Rattle.std.proofs.Common.{◌≡◌, ◌∙◌, ◌⊎◌, inl, inr, refl, sym, ap, subst, ℕ, List, [], ◌++◌, append-nil, length, Option, Some, None, IfSome, Err}
use Rattle.cov_base.specs.Causes.{Rose}
use Rattle.cov_codes.proofs.CallerLemmas.{refusal-code}
use Rattle.cov_codes.specs.Codes.{refusal_code}
use Rattle.cov_edit.specs.History.{options_of}
use Rattle.cov_edit.specs.declared.command.Command.{Command}
use Rattle.cov_io.specs.Devices.{AppendsAll, AppendsSome}
use Rattle.cov_journal.specs.Reading.{IsNoStore}
use Rattle.cov_journal.proofs.CallerLemmas.{some_to}
use Rattle.cov_loop.proofs.CallerLemmas.{same_some}
use Rattle.cov_loop.specs.Counts.{Counts}
use Rattle.cov_loop.specs.Turns.{WritesFront}
use Rattle.cov_out.specs.declared.row.OutRow.{OutRow}
use Rattle.cov_script.specs.Replies.{IsCodeOf}
use Rattle.cov_serve.specs.Jobs.{EndsAs, IsCaused, IsStore, JobOutcome, OnEnd, RowsPrecede, TellsUnopened, replies, rows_of, told_line, told_of_none}
use Rattle.cov_serve.specs.Program.{DamageCanBeTold, EndsServed, EndsWithLine, OnServed, PutsLast, ReadsAs, TellsFault, damaged_line, not_a_store_line}
use Rattle.cov_lines.specs.States.{State}
use Rattle.cov_serve.specs.declared.job.Job.{Job}
use Rattle.cov_serve.specs.declared.job.Job.TheVariants.{OnStore}
use Rattle.cov_serve.specs.declared.job.StoreJob.{StoreJob}
use Rattle.cov_serve.specs.declared.status.Status.{Status}
use Rattle.cov_serve.specs.declared.status.Status.TheVariants as statuses
use Rattle.cov_store.specs.Damages.{HasDamage}
use Rattle.cov_store.specs.Opening.{HasReason, IsImageFaultOf, IsOfVerdict, MayStop, TellsDamage, TellsNoStore}
use Rattle.cov_store.specs.Stands.{StandsFor}
use Rattle.cov_store.specs.declared.damage.StoreDamage.{StoreDamage}
use Rattle.cov_store.specs.declared.damage.StoreDamage.TheVariants as damages
use Rattle.cov_store.specs.declared.damage.StoreFault.{StoreFault}
use Rattle.cov_store.specs.declared.damage.StoreFault.TheVariants as faults
use Rattle.cov_serve.proofs.Turns.{front_told, rows_precede_told}

-- what holds of a disk that stands for a history, if it tells its bytes
pub reads_gives : (o : Option (List ℕ)) (history : List Command) (P : Type 0) → ReadsAs o history → IfSome o (λ image. StandsFor image history → P) → P
reads_gives None history P reads all = absurd reads
reads_gives (Some image) history P reads all = all reads

pub reads_as : (o : Option (List ℕ)) (history : List Command) → ReadsAs o history → IfSome o (λ image. StandsFor image history)
reads_as None history reads = absurd reads
reads_as (Some image) history reads = reads

-- a disk that is opened is a store, if it tells its bytes
pub a_store : (o : Option (List ℕ)) (history : List Command) → IfSome o (λ image. StandsFor image history) → IfSome o IsStore
a_store None history h = tt
a_store (Some image) history h = (history, h)

-- a fault can be told where its refusal is one of the verdict
pub can_be_told : (fault : StoreFault) → IsOfVerdict fault → DamageCanBeTold fault
can_be_told faults.NotAStore of = tt
can_be_told (faults.Damaged number damages.Cut options) of = tt
can_be_told (faults.Damaged number damages.Digest options) of = tt
can_be_told (faults.Damaged number damages.NotARecord options) of = tt
can_be_told (faults.Damaged number (damages.Refused refusal) options) of =
    subst (λ n. IsCodeOf n (refusal_code refusal)) (sym (ap length of.names_are)) (refusal-code of.history of.command refusal of.refused)
can_be_told faults.DiskFault of = tt
can_be_told faults.Memory of = tt

-- the first few of these are written
pub writes_some : {X : Type 0} (before line : List X) (old new : Option (List X)) → AppendsSome line old new → old ≡ Some before → WritesFront before line new
writes_some before line None new h is = absurd (cc)
writes_some before line (Some old) new (first, rest, front, now) is =
    let same : old ≡ before = cc in
    record { first = first; rest = rest; front = front; is = now ∙ ap (λ b. Some (b ++ first)) same }

-- all of these are written
pub writes_all : {X : Type 0} (before line : List X) (old new : Option (List X)) → AppendsAll line old new → old ≡ Some before → new ≡ Some (before ++ line)
writes_all before line None new h is = absurd (cc)
writes_all before line (Some old) new h is = let same : old ≡ before = cc in h ∙ ap (λ b. Some (b ++ line)) same

-- what holds of each status holds of that of a run that came to its end
pub on_any_end : (status : Status) (P : Type 0) → P → OnEnd status P
on_any_end statuses.Done P h = h
on_any_end statuses.SomeRefused P h = h
on_any_end statuses.Usage P h = h
on_any_end statuses.NotAStore P h = h
on_any_end (statuses.Damaged number cause) P h = h
on_any_end status P h = tt

-- what follows from what holds at the end holds there
pub end_to : (status : Status) (P Q : Type 0) → (P → Q) → OnEnd status P → OnEnd status Q
end_to statuses.Done P Q to h = to h
end_to statuses.SomeRefused P Q to h = to h
end_to statuses.Usage P Q to h = to h
end_to statuses.NotAStore P Q to h = to h
end_to (statuses.Damaged number cause) P Q to h = to h
end_to status P Q to h = tt

-- a line that ends a run gives it its status, at the end
pub last_end : (wanted status : Status) (sink sink' : ℕ) → EndsWithLine wanted sink sink' status → OnEnd status (status ≡ wanted)
last_end wanted statuses.Done sink sink' e = e
last_end wanted statuses.SomeRefused sink sink' e = e
last_end wanted statuses.Usage sink sink' e = e
last_end wanted statuses.NotAStore sink sink' e = e
last_end wanted (statuses.Damaged number cause) sink sink' e = e
last_end wanted status sink sink' e = tt

-- a run is cut short: memory is wanting, or the sink or the disk failed
abbrev pub IsCut : ℕ → ℕ → ℕ → ℕ → Status → Type 0
IsCut sink sink' disk disk' statuses.NoMemory = Unit {0}
IsCut sink sink' disk disk' statuses.WriteFault = Rose sink sink'
IsCut sink sink' disk disk' statuses.DiskFault = Rose disk disk'
IsCut sink sink' disk disk' status = ⊥

module _ (sink sink' disk disk' : ℕ) where
  -- such a run doesn't come to its end
  pub cut_end : (status : Status) (P : Type 0) → IsCut sink sink' disk disk' status → OnEnd status P
  cut_end statuses.NoMemory P h = tt
  cut_end statuses.WriteFault P h = tt
  cut_end statuses.DiskFault P h = tt
  cut_end status P h = absurd h

  pub cut_unserved : (status : Status) → IsCut sink sink' disk disk' status → EndsServed status → ⊥
  cut_unserved statuses.Done h e = h
  cut_unserved statuses.SomeRefused h e = h
  cut_unserved status h e = e

  -- where neither sink nor disk fails, memory is wanting
  pub cut_unless : (status : Status) → IsCut sink sink' disk disk' status → (Rose sink sink' → ⊥) → (Rose disk disk' → ⊥) → status ≡ statuses.NoMemory
  cut_unless statuses.NoMemory h no_sink no_disk = refl
  cut_unless statuses.WriteFault h no_sink no_disk = absurd (no_sink h)
  cut_unless statuses.DiskFault h no_sink no_disk = absurd (no_disk h)
  cut_unless status h no_sink no_disk = absurd h

  -- a line ends a run with its status, or the run is cut short
  line_ends : (wanted status : Status) → EndsWithLine wanted sink sink' status → (status ≡ wanted) ⊎ IsCut sink sink' disk disk' status
  line_ends wanted statuses.NoMemory e = inr tt
  line_ends wanted statuses.WriteFault e = inr e
  line_ends wanted status e = inl e

-- one line is told, and ends a run
pub record Tells (all : JobOutcome) (sink sink' disk disk' : ℕ) (old new : Option (List ℕ)) (status : Status) : Type 0 where
  pub wanted : Status
  pub line : List ℕ
  pub history : List Command
  pub is : all ≡ told_line wanted line history
  pub ends : (status ≡ wanted) ⊎ IsCut sink sink' disk disk' status
  pub front : AppendsSome line old new
  pub whole : status ≡ wanted → AppendsAll line old new

-- where the sink doesn't fail, the status is that of the line, unless memory is wanting
pub line_unless : (wanted : Status) (sink sink' : ℕ) (status : Status) → EndsWithLine wanted sink sink' status → (Rose sink sink' → ⊥) → (status ≡ wanted) ⊎ (status ≡ statuses.NoMemory)
line_unless wanted sink sink' statuses.NoMemory e no_sink = inr refl
line_unless wanted sink sink' statuses.WriteFault e no_sink = absurd (no_sink e)
line_unless wanted sink sink' status e no_sink = inl e

-- the cause of a line's status is that of the line
pub line_caused : (job : Job) (contents left : Option (List ℕ)) (old new : Counts) (wanted status : Status) → IsCaused job contents left old new wanted
    → EndsWithLine wanted old.sink new.sink status → IsCaused job contents left old new status
line_caused job contents left old new wanted statuses.NoMemory h e = tt
line_caused job contents left old new wanted statuses.WriteFault h e = e
line_caused job contents left old new wanted status h e = subst (IsCaused job contents left old new) (sym e) h

-- what holds where a line ends a run that served its script, at that end
pub line_served : (sink sink' : ℕ) (status : Status) (P : Type 0) → EndsWithLine statuses.Done sink sink' status → (status ≡ statuses.Done → P) → OnServed status (λ refused. P)
line_served sink sink' statuses.Done P e to = to refl
line_served sink sink' statuses.SomeRefused P e to = let other : statuses.SomeRefused ≡ statuses.Done = e in absurd (cc)
line_served sink sink' status P e to = tt

-- no byte more is written, and no row
pub none_written : {X : Type 0} (before all : List X) (written : Option (List X)) → written ≡ Some before → WritesFront before all written
none_written before all written e = record { first = []; rest = all; front = refl; is = e ∙ ap Some (sym (append-nil before)) }

module _ {all : JobOutcome} {sink sink' disk disk' : ℕ} {old new : Option (List ℕ)} {status : Status} (t : Tells all sink sink' disk disk' old new status) where
  -- at the end, the status is that of the line
  told_end : (P : Type 0) → (status ≡ t.wanted → P) → OnEnd status P
  told_end P to = at t.ends
    where
      at : (status ≡ t.wanted) ⊎ IsCut sink sink' disk disk' status → OnEnd status P
      at (inl e) = on_any_end status P (to e)
      at (inr cut) = cut_end sink sink' disk disk' status P cut

  pub tells_ends : (left : Option (List ℕ)) → OnEnd status (EndsAs all status left)
  tells_ends left = told_end (EndsAs all status left) (λ e. subst (λ o. EndsAs o status left) (sym t.is) (record { status_is = e; read = tt }))

  pub tells_front : (before : List ℕ) → old ≡ Some before → WritesFront before (replies all.turns) new
  tells_front before wrote =
      subst (λ o. WritesFront before (replies o.turns) new) (sym t.is) (front_told t.wanted t.line t.history before new (writes_some before t.line old new t.front wrote))

  pub tells_whole : (before : List ℕ) → old ≡ Some before → OnEnd status (new ≡ Some (before ++ replies all.turns))
  tells_whole before wrote =
      told_end (new ≡ Some (before ++ replies all.turns))
      (λ e. subst (λ o. new ≡ Some (before ++ replies o.turns)) (sym t.is) (writes_all before t.line old new (t.whole e) wrote ∙ ap (λ r. Some (before ++ r)) (sym (append-nil t.line))))

  pub tells_rows : (before : List OutRow) (grown : Option (List OutRow)) → grown ≡ Some before → OnEnd status (grown ≡ Some (before ++ rows_of all.turns))
  tells_rows before grown grew =
      on_any_end status (grown ≡ Some (before ++ rows_of all.turns)) (subst (λ o. grown ≡ Some (before ++ rows_of o.turns)) (sym t.is) (grew ∙ ap Some (sym (append-nil before))))

  pub tells_rows_first : (before : List ℕ) (rows : List OutRow) (grown : Option (List OutRow)) → old ≡ Some before → grown ≡ Some rows → RowsPrecede all.turns before rows new grown
  tells_rows_first before rows grown wrote grew =
      subst (λ o. RowsPrecede o.turns before rows new grown) (sym t.is)
      (rows_precede_told t.wanted t.line t.history before rows new grown (writes_some before t.line old new t.front wrote) grew)

  pub tells_unless : (Rose sink sink' → ⊥) → (Rose disk disk' → ⊥) → (status ≡ all.status) ⊎ (status ≡ statuses.NoMemory)
  tells_unless no_sink no_disk = subst (λ o. (status ≡ o.status) ⊎ (status ≡ statuses.NoMemory)) (sym t.is) (at t.ends)
    where
      at : (status ≡ t.wanted) ⊎ IsCut sink sink' disk disk' status → (status ≡ t.wanted) ⊎ (status ≡ statuses.NoMemory)
      at (inl e) = inl e
      at (inr cut) = inr (cut_unless sink sink' disk disk' status cut no_sink no_disk)

-- what is put last is told
pub put_tells : {all : JobOutcome} {sink sink' : ℕ} {old new : Option (List ℕ)} {status : Status} (disk disk' : ℕ) (wanted : Status) (line : List ℕ) (history : List Command)
    → all ≡ told_line wanted line history → PutsLast wanted line old new sink sink' status → Tells all sink sink' disk disk' old new status
put_tells {all} {sink} {sink'} {old} {new} {status} disk disk' wanted line history is puts = record {
  wanted = wanted;
  line = line;
  history = history;
  is = is;
  ends = line_ends sink sink' disk disk' wanted status puts.ends;
  front = puts.front;
  whole = puts.whole;
}

-- why a store isn't opened, by what a read of the disk gives
pub record Fails (contents : Option (List ℕ)) (disk disk' : ℕ) (fault : StoreFault) : Type 0 where
  pub stands : (history : List Command) → IfSome contents (λ image. StandsFor image history → MayStop disk disk' fault)
  pub damage : (number : ℕ) (cause : StoreDamage) → IfSome contents (λ image. (damage : HasDamage image number cause) → TellsDamage {S = State} damage.history number cause disk disk' (Err fault))
  pub no_store : IfSome contents (λ image. IsNoStore image → TellsNoStore {S = State} disk disk' (Err fault))

-- a store that is opened is none of these
pub not_unopened : (contents : Option (List ℕ)) (all : JobOutcome) → IfSome contents (λ image. IsNoStore image → ⊥)
    → ((number : ℕ) (cause : StoreDamage) → IfSome contents (λ image. HasDamage image number cause → ⊥)) → TellsUnopened contents all → ⊥
not_unopened None all no_store damage tells = tells
not_unopened (Some image) all no_store damage (inl (none, is)) = no_store none
not_unopened (Some image) all no_store damage (inr (number, cause, of, is)) = damage number cause of

module _ (all : JobOutcome) (sink sink' disk disk' : ℕ) (old new : Option (List ℕ)) (status : Status) where
  -- the opening stopped before a line was told
  stopped_tells : (wanted : Status) (line : List ℕ) → all ≡ told_of_none wanted line → IsCut sink sink' disk disk' status → new ≡ old → (status ≡ wanted → ⊥)
      → Tells all sink sink' disk disk' old new status
  stopped_tells wanted line is cut same other = record {
    wanted = wanted;
    line = line;
    history = [];
    is = is;
    ends = inr cut;
    front = same_some line old new same;
    whole = λ e. absurd (other e);
  }

  no_store_tells : (fault : StoreFault) → TellsNoStore {S = State} disk disk' (Err fault) → TellsFault fault old new sink sink' status
      → all ≡ told_of_none statuses.NotAStore not_a_store_line → Tells all sink sink' disk disk' old new status
  no_store_tells faults.NotAStore h t is = put_tells disk disk' statuses.NotAStore not_a_store_line [] is t
  no_store_tells (faults.Damaged number cause options) h t is = absurd h
  no_store_tells faults.DiskFault h t is =
      stopped_tells statuses.NotAStore not_a_store_line is (subst (IsCut sink sink' disk disk') (sym t.is) h) t.same
      (λ e. let other : statuses.DiskFault ≡ statuses.NotAStore = sym t.is ∙ e in absurd (cc))
  no_store_tells faults.Memory h t is =
      stopped_tells statuses.NotAStore not_a_store_line is (subst (IsCut sink sink' disk disk') (sym t.is) tt) t.same
      (λ e. let other : statuses.NoMemory ≡ statuses.NotAStore = sym t.is ∙ e in absurd (cc))

  module _ (history : List Command) (number : ℕ) (cause : StoreDamage) where
    abbrev told : List (List ℕ) → ℕ → StoreDamage → JobOutcome
    told names k what = told_of_none (statuses.Damaged k what) (damaged_line names k what)

    damage_tells : (fault : StoreFault) → TellsDamage {S = State} history number cause disk disk' (Err fault) → TellsFault fault old new sink sink' status
        → all ≡ told (options_of history) number cause → Tells all sink sink' disk disk' old new status
    damage_tells faults.NotAStore h t is = absurd h
    damage_tells (faults.Damaged k what options) (k_is, what_is, names_are) t is =
        let same : told options.names k what ≡ told (options_of history) number cause =
        ap (λ names. told names k what) names_are ∙ ap (λ n. told (options_of history) n what) k_is ∙ ap (told (options_of history) number) what_is in
        put_tells disk disk' (statuses.Damaged k what) (damaged_line options.names k what) [] (is ∙ sym same) t
    damage_tells faults.DiskFault h t is =
        stopped_tells (statuses.Damaged number cause) (damaged_line (options_of history) number cause) is (subst (IsCut sink sink' disk disk') (sym t.is) h) t.same
        (λ e. let other : statuses.DiskFault ≡ statuses.Damaged number cause = sym t.is ∙ e in absurd (cc))
    damage_tells faults.Memory h t is =
        stopped_tells (statuses.Damaged number cause) (damaged_line (options_of history) number cause) is (subst (IsCut sink sink' disk disk') (sym t.is) tt) t.same
        (λ e. let other : statuses.NoMemory ≡ statuses.Damaged number cause = sym t.is ∙ e in absurd (cc))

  module _ (fault : StoreFault) (t : TellsFault fault old new sink sink' status) where
    -- a disk that is no store, or damaged
    pub unopened_tells : (contents : Option (List ℕ)) → Fails contents disk disk' fault → TellsUnopened contents all → Tells all sink sink' disk disk' old new status
    unopened_tells None fails tells = absurd tells
    unopened_tells (Some image) fails (inl (none, is)) = no_store_tells fault (fails.no_store none) t is
    unopened_tells (Some image) fails (inr (number, cause, damage, is)) = damage_tells damage.history number cause fault (fails.damage number cause damage) t is

    -- a disk that stands for a history
    pub fails_stops : (contents : Option (List ℕ)) (history : List Command) → Fails contents disk disk' fault → ReadsAs contents history → IsCut sink sink' disk disk' status × (new ≡ old)
    fails_stops contents history fails reads = at fault (reads_gives contents history (MayStop disk disk' fault) reads (fails.stands history)) t
      where
        at : (fault : StoreFault) → MayStop disk disk' fault → TellsFault fault old new sink sink' status → IsCut sink sink' disk disk' status × (new ≡ old)
        at faults.NotAStore h t = absurd h
        at (faults.Damaged number cause options) h t = absurd h
        at faults.DiskFault h t = (subst (IsCut sink sink' disk disk') (sym t.is) h, t.same)
        at faults.Memory h t = (subst (IsCut sink sink' disk disk') (sym t.is) tt, t.same)

-- the cause of the status
pub fault_caused : (job : StoreJob) (contents left : Option (List ℕ)) (old new : Counts) (before now : Option (List ℕ)) (status : Status) (fault : StoreFault)
    → IfSome contents (λ image. IsImageFaultOf image fault) → HasReason old.disk new.disk fault → TellsFault fault before now old.sink new.sink status
    → IsCaused (OnStore job) contents left old new status
fault_caused job contents left old new before now status faults.NotAStore of reason t = line_caused (OnStore job) contents left old new statuses.NotAStore status of t.ends
fault_caused job contents left old new before now status (faults.Damaged number cause options) of reason t =
    line_caused (OnStore job) contents left old new (statuses.Damaged number cause) status
    (some_to (λ image. (damage : HasDamage image number cause) × (options.names ≡ options_of damage.history)) (λ image. HasDamage image number cause) (λ image d. d.0) contents of) t.ends
fault_caused job contents left old new before now status faults.DiskFault of reason t = subst (IsCaused (OnStore job) contents left old new) (sym t.is) (refl, reason)
fault_caused job contents left old new before now status faults.Memory of reason t = subst (IsCaused (OnStore job) contents left old new) (sym t.is) tt
