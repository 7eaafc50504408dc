-- What an import comes to, and what is told of one that is refused.
use Rattle.std.proofs.Common.{◌≡◌, ◌∙◌, refl, sym, ap, subst, ℕ, ◌+◌, ◌≤◌, arith, Bool, true, List, [], ◌++◌, length, append-nil, Option, Some, IfSome, Ok, Err}
use Rattle.cov_edit.specs.History.{options_of}
use Rattle.cov_edit.specs.declared.command.Command.{Command}
use Rattle.cov_base.specs.declared.limits.TheConstants.{TOO_MANY_SCRIPT_BYTES}
use Rattle.cov_codes.specs.declared.stop.Stop.{Stop}
use Rattle.cov_codes.specs.declared.stop.Stop.TheVariants as stops
use Rattle.cov_base.specs.Lines.{lines_of}
use Rattle.cov_import.specs.Sources.{StopsReading, kept_lines, source_counts}
use Rattle.cov_import.specs.Taking.{StopsTaking, kept_taken, taken_in}
use Rattle.cov_io.specs.declared.reading.LineFault.{LineFault}
use Rattle.cov_io.specs.declared.reading.LineFault.TheVariants as faults
use Rattle.cov_lines.specs.Finding.{Found}
use Rattle.cov_loop.proofs.CallerLemmas.{same_some}
use Rattle.cov_loop.specs.Counts.{counts}
use Rattle.cov_loop.specs.Turns.{AtEnd, WritesFront}
use Rattle.cov_loop.specs.declared.ending.Ending.{Ending}
use Rattle.cov_loop.specs.declared.ending.Ending.TheVariants as endings
use Rattle.cov_out.specs.declared.row.OutRow.{OutRow}
use Rattle.cov_script.specs.Replies.{refused_reply}
use Rattle.cov_script.specs.declared.code.Code.{Code}
use Rattle.cov_serve.specs.Jobs.{RowsPrecede, StandsForFront, StandsForTold, Turn, history_after, imported_by, replies, rows_of, served_status}
use Rattle.cov_serve.specs.Program.{EndsWithLine, OnServed, StopsAdding, StopsServing, TellsStop}
use Rattle.cov_serve.specs.Statuses.{added_status, fault_status}
use Rattle.cov_serve.specs.TextServing.{StopsText}
use Rattle.cov_serve.specs.declared.status.Status.{Status}
use Rattle.cov_serve.specs.declared.status.Status.TheVariants as statuses
use Rattle.cov_store.specs.Stands.{StandsFor}
use Rattle.cov_serve.proofs.Commits.{TurnsOf, front_none, rowless, told_none, turns_of}
use Rattle.cov_serve.proofs.Turns.{front_stands_told, front_told, no_rows, told_stands_told}
use Rattle.cov_serve.proofs.Unopened.{none_written, writes_all, writes_some}

module _ (history : List Command) where
  abbrev refusal : Code → List ℕ
  refusal code = refused_reply (options_of history) code

  -- before anything is done
  pub import_front : (taken : Found (List Command)) (image : List ℕ) → StandsFor image history → StandsForFront history (imported_by history taken).turns image
  import_front (Ok commits) image h = front_none history commits image h
  import_front (Err code) image h = front_stands_told statuses.SomeRefused (refusal code) history image h

  pub import_told : (taken : Found (List Command)) (image : List ℕ) → StandsFor image history → StandsForTold history (imported_by history taken).turns [] image
  import_told (Ok commits) image h = told_none history commits image h
  import_told (Err code) image h = told_stands_told statuses.SomeRefused (refusal code) history [] image h

  -- no row is written
  pub import_rowless : (taken : Found (List Command)) (ts us : List Turn) → (imported_by history taken).turns ≡ ts ++ us → rows_of ts ≡ []
  import_rowless (Ok commits) ts us e =
      let on : TurnsOf history commits ts = turns_of history commits ts us e in
      ap rows_of on.are ∙ rowless history on.first
  import_rowless (Err code) ts us e = no_rows statuses.SomeRefused (refusal code) history ts us e

  pub import_rows : (taken : Found (List Command)) → rows_of (imported_by history taken).turns ≡ []
  import_rows taken = import_rowless taken (imported_by history taken).turns [] (sym (append-nil (imported_by history taken).turns))

  pub import_precedes : (taken : Found (List Command)) (before : List ℕ) (rows : List OutRow) (written : Option (List ℕ)) (grown : Option (List OutRow))
      → WritesFront before (replies (imported_by history taken).turns) written → grown ≡ Some rows → RowsPrecede (imported_by history taken).turns before rows written grown
  import_precedes taken before rows written grown h e = record {
    bytes = h.first;
    rows = [];
    bytes_are = h.is;
    rows_are = e ∙ ap Some (sym (append-nil rows));
    first = λ ts us same short. subst (λ (rs : List OutRow). length rs ≤ 0) (sym (import_rowless taken ts us same)) (omega arith);
  }

-- the source is read to its end
pub import_reads : (history : List Command) (taken : Found (List Command)) → (imported_by history taken).reads ≡ true
import_reads history (Ok commits) = refl
import_reads history (Err code) = refl

-- what holds at the end of a run that a line ends which refuses
on_refusal : (sink sink' : ℕ) (status : Status) (P : Bool → Type 0) → EndsWithLine statuses.SomeRefused sink sink' status → (status ≡ statuses.SomeRefused → P true) → OnServed status P
on_refusal sink sink' statuses.Done P e to = let other : statuses.Done ≡ statuses.SomeRefused = e in absurd (cc)
on_refusal sink sink' statuses.SomeRefused P e to = to refl
on_refusal sink sink' status P e to = tt

-- what a text is taken in as, by the lines that were kept
pub is_taken : (h history : List Command) (path : List (List ℕ)) (lines : Option (List (List ℕ))) (text : List ℕ) (found : Found (List Command)) → h ≡ history → lines ≡ kept_lines (lines_of text)
    → kept_taken h path lines ≡ found → taken_in history path text ≡ found
is_taken h history path lines text found same kept is = sym (ap (λ x. kept_taken x path lines) same ∙ ap (kept_taken history path) kept) ∙ is

pub is_stopped : (h history : List Command) (path : List (List ℕ)) (lines : Option (List (List ℕ))) (text : List ℕ) (stop : Stop) → h ≡ history → lines ≡ kept_lines (lines_of text)
    → StopsTaking h (kept_taken h path lines) stop → StopsTaking history (taken_in history path text) stop
is_stopped h history path lines text stop same kept stops =
    subst (λ ls. StopsTaking history (kept_taken history path ls) stop) kept (subst (λ x. StopsTaking x (kept_taken x path lines) stop) same stops)

-- nothing is told
pub untold : (names : List (List ℕ)) (stop : Stop) (old : Option (List ℕ)) (sink : ℕ) → TellsStop names stop old old sink sink statuses.NoMemory
untold names stops.Memory old sink = record { is = refl; same = refl }
untold names (stops.Refused code) old sink = record {
  front = same_some (refused_reply names code) old old refl;
  whole = λ e. let other : statuses.NoMemory ≡ statuses.SomeRefused = e in absurd (cc);
  ends = tt;
}

-- a text isn't taken in, and it is told why, unless memory is wanting
module _ (history : List Command) (taken : Found (List Command)) (old new : Option (List ℕ)) (sink sink' : ℕ) (status : Status) where
  wanting : (P : Bool → Type 0) → status ≡ statuses.NoMemory → OnServed status P
  wanting P e = subst (λ s. OnServed s P) (sym e) tt

  pub refused_ended : (stop : Stop) → StopsTaking history taken stop → TellsStop (options_of history) stop old new sink sink' status → (left : Option (List ℕ)) → left ≡ Some []
      → OnServed status (λ refused. ((imported_by history taken).status ≡ served_status refused) × (left ≡ Some []))
  refused_ended stops.Memory stops tells left e = wanting (λ refused. ((imported_by history taken).status ≡ served_status refused) × (left ≡ Some [])) tells.is
  refused_ended (stops.Refused code) stops tells left e =
      on_refusal sink sink' status (λ refused. ((imported_by history taken).status ≡ served_status refused) × (left ≡ Some [])) tells.ends (λ same. (ap (λ t. (imported_by history t).status) stops.0, e))

  pub refused_front : (stop : Stop) → StopsTaking history taken stop → TellsStop (options_of history) stop old new sink sink' status → (before : List ℕ) → old ≡ Some before
      → WritesFront before (replies (imported_by history taken).turns) new
  refused_front stops.Memory stops tells before wrote = none_written before (replies (imported_by history taken).turns) new (tells.same ∙ wrote)
  refused_front (stops.Refused code) stops tells before wrote =
      let line = refused_reply (options_of history) code in
      subst (λ t. WritesFront before (replies (imported_by history t).turns) new) (sym stops.0)
      (front_told statuses.SomeRefused line history before new (writes_some before line old new tells.front wrote))

  pub refused_whole : (stop : Stop) → StopsTaking history taken stop → TellsStop (options_of history) stop old new sink sink' status → (before : List ℕ) → old ≡ Some before
      → OnServed status (λ refused. new ≡ Some (before ++ replies (imported_by history taken).turns))
  refused_whole stops.Memory stops tells before wrote = wanting (λ refused. new ≡ Some (before ++ replies (imported_by history taken).turns)) tells.is
  refused_whole (stops.Refused code) stops tells before wrote =
      let line = refused_reply (options_of history) code in
      on_refusal sink sink' status (λ refused. new ≡ Some (before ++ replies (imported_by history taken).turns)) tells.ends
      (λ same. subst (λ t. new ≡ Some (before ++ replies (imported_by history t).turns)) (sym stops.0)
      (writes_all before line old new (tells.whole same) wrote ∙ ap (λ r. Some (before ++ r)) (sym (append-nil line))))

  pub refused_stands : (stop : Stop) → StopsTaking history taken stop → TellsStop (options_of history) stop old new sink sink' status → (contents : Option (List ℕ))
      → IfSome contents (λ image. StandsFor image history) → OnServed status (λ refused. IfSome contents (λ image. StandsFor image (history_after history (imported_by history taken).turns)))
  refused_stands stops.Memory stops tells contents h = wanting (λ refused. IfSome contents (λ image. StandsFor image (history_after history (imported_by history taken).turns))) tells.is
  refused_stands (stops.Refused code) stops tells contents h =
      on_refusal sink sink' status (λ refused. IfSome contents (λ image. StandsFor image (history_after history (imported_by history taken).turns))) tells.ends
      (λ same. subst (λ t. IfSome contents (λ image. StandsFor image (history_after history (imported_by history t).turns))) (sym stops.0) h)

  pub refused_told : (stop : Stop) → StopsTaking history taken stop → TellsStop (options_of history) stop old new sink sink' status → (bytes image : List ℕ) → (new ≡ old → bytes ≡ [])
      → StandsFor image history → StandsForTold history (imported_by history taken).turns bytes image
  refused_told stops.Memory stops tells bytes image none h =
      subst (λ b. StandsForTold history (imported_by history taken).turns b image) (sym (none tells.same)) (import_told history taken image h)
  refused_told (stops.Refused code) stops tells bytes image none h =
      subst (λ t. StandsForTold history (imported_by history t).turns bytes image) (sym stops.0)
      (told_stands_told statuses.SomeRefused (refused_reply (options_of history) code) history bytes image h)

-- why it ends
pub refused_stops : (names : List (List ℕ)) (stop : Stop) (old new : Option (List ℕ)) (source source' sink sink' disk disk' trees trees' given given' ends ends' : ℕ) (status : Status)
    → TellsStop names stop old new sink sink' status → StopsServing (counts source sink disk trees given ends) (counts source' sink' disk' trees' given' ends') status
refused_stops names stops.Memory old new source source' sink sink' disk disk' trees trees' given given' ends ends' status tells =
    subst (StopsServing (counts source sink disk trees given ends) (counts source' sink' disk' trees' given' ends')) (sym tells.is) tt
refused_stops names (stops.Refused code) old new source source' sink sink' disk disk' trees trees' given given' ends ends' status tells = at status tells.ends
  where
    at : (status : Status) → EndsWithLine statuses.SomeRefused sink sink' status → StopsServing (counts source sink disk trees given ends) (counts source' sink' disk' trees' given' ends') status
    at statuses.NoMemory e = tt
    at statuses.WriteFault e = e
    at status e = subst (StopsServing (counts source sink disk trees given ends) (counts source' sink' disk' trees' given' ends')) (sym e) tt

-- a source that can't be read to its end
pub unread_served : (fault : LineFault) (P : Bool → Type 0) → OnServed (fault_status fault) P
unread_served faults.ReadFault P = tt
unread_served faults.TooMuch P = tt
unread_served faults.Memory P = tt

pub turned_sum : (most was now : ℕ) → was + most ≤ now → most + was ≤ 0 + now
turned_sum most was now h = omega (arith, h)

pub unread_stops : (fault : LineFault) (source source' sink sink' disk disk' trees trees' given given' ends ends' : ℕ) → StopsReading fault (source_counts source given ends) (source_counts source' given' ends')
    → StopsServing (counts source sink disk trees given ends) (counts source' sink' disk' trees' given' ends') (fault_status fault)
unread_stops faults.ReadFault source source' sink sink' disk disk' trees trees' given given' ends ends' h = h
unread_stops faults.TooMuch source source' sink sink' disk disk' trees trees' given given' ends ends' h = (turned_sum TOO_MANY_SCRIPT_BYTES given given' h.0, refl, h.1)
unread_stops faults.Memory source source' sink sink' disk disk' trees trees' given given' ends ends' h = tt

-- commits that are added
pub added_ended : (status : Status) (sink sink' disk disk' : ℕ) (left : Option (List ℕ)) → StopsAdding status sink sink' disk disk' → left ≡ Some []
    → OnServed status (λ refused. (statuses.Done ≡ served_status refused) × (left ≡ Some []))
added_ended statuses.Done sink sink' disk disk' left h e = (refl, e)
added_ended statuses.SomeRefused sink sink' disk disk' left h e = absurd h
added_ended status sink sink' disk disk' left h e = tt

pub added_stops : (source source' sink sink' disk disk' trees trees' given given' ends ends' : ℕ) (status : Status) → StopsAdding status sink sink' disk disk'
    → StopsServing (counts source sink disk trees given ends) (counts source' sink' disk' trees' given' ends') status
added_stops source source' sink sink' disk disk' trees trees' given given' ends ends' statuses.Done h = tt
added_stops source source' sink sink' disk disk' trees trees' given given' ends ends' statuses.NoMemory h = tt
added_stops source source' sink sink' disk disk' trees trees' given given' ends ends' statuses.WriteFault h = h
added_stops source source' sink sink' disk disk' trees trees' given given' ends ends' statuses.DiskFault h = h
added_stops source source' sink sink' disk disk' trees trees' given given' ends ends' status h = absurd h

-- how a run ends whose commits were added
pub on_added : (ending : Ending) (P : Type 0) → AtEnd ending P → OnServed (added_status ending) (λ refused. P)
on_added endings.Done P h = h
on_added endings.SomeRefused P h = h
on_added endings.NoMemory P h = tt
on_added endings.ReadFault P h = tt
on_added endings.WriteFault P h = tt
on_added endings.DiskFault P h = tt
on_added endings.TreesFault P h = tt
on_added endings.TooMuch P h = tt

pub adding_stops : (ending : Ending) (sink sink' disk disk' : ℕ) → StopsText ending sink sink' disk disk' 0 0 → StopsAdding (added_status ending) sink sink' disk disk'
adding_stops endings.Done sink sink' disk disk' h = tt
adding_stops endings.SomeRefused sink sink' disk disk' h = tt
adding_stops endings.NoMemory sink sink' disk disk' h = tt
adding_stops endings.ReadFault sink sink' disk disk' h = absurd h
adding_stops endings.WriteFault sink sink' disk disk' h = h
adding_stops endings.DiskFault sink sink' disk disk' h = h
adding_stops endings.TreesFault sink sink' disk disk' h = absurd (omega (arith, h))
adding_stops endings.TooMuch sink sink' disk disk' h = absurd h
