-- What a run does that reads the bytes of a journal.
use Rattle.std.proofs.Common.{◌≡◌, ◌∙◌, ◌⊎◌, inl, inr, refl, sym, ap, subst, ℕ, ◌≤◌, arith, Bool, true, false, List, [], ◌∷◌, ◌++◌, append-nil, append_assoc, length, length-append, Option, Some, None, IfSome}
use Rattle.std.proofs.lemmas.List.{nil_from_length}
use Rattle.cov_base.specs.Causes.{Rose}
use Rattle.cov_codes.proofs.CallerLemmas.{refusal-code}
use Rattle.cov_edit.specs.History.{options_of}
use Rattle.cov_edit.specs.declared.command.Command.{Command}
use Rattle.cov_import.specs.Sources.{StopsReading, source_counts}
use Rattle.cov_io.specs.Devices.{AppendsAll, AppendsSome}
use Rattle.cov_io.specs.declared.reading.LineFault.{LineFault}
use Rattle.cov_io.specs.declared.reading.LineFault.TheVariants as line_faults
use Rattle.cov_journal.proofs.CallerLemmas.{some_to}
use Rattle.cov_lines.specs.Laws.{refusal_told, rows_told}
use Rattle.cov_lines.specs.States.{State, starting}
use Rattle.cov_lines.specs.Step.{step}
use Rattle.cov_loop.proofs.CallerLemmas.{all_some, all_then, all_then_some, same_all, same_some, some_more}
use Rattle.cov_loop.specs.Answers.{Gives, StopsLine, kind_of}
use Rattle.cov_loop.specs.Counts.{Counts, counts}
use Rattle.cov_loop.specs.Outcome.{Outcome}
use Rattle.cov_loop.specs.declared.answer.Answer.{Answer}
use Rattle.cov_loop.specs.declared.answer.Answer.TheVariants as answers
use Rattle.cov_loop.specs.declared.answer.Reply.{Reply}
use Rattle.cov_loop.specs.declared.ending.Ending.{Ending}
use Rattle.cov_loop.specs.declared.ending.Ending.TheVariants as endings
use Rattle.cov_out.specs.declared.row.OutRow.{OutRow}
use Rattle.cov_replica.proofs.CallerLemmas.{refusal_is_of_verdict}
use Rattle.cov_replica.specs.Laws.{as_store_damage}
use Rattle.cov_replica.specs.Taken.{taken}
use Rattle.cov_replica.specs.declared.fault.ReplicaDamage.{ReplicaDamage}
use Rattle.cov_replica.specs.declared.fault.ReplicaDamage.TheVariants as damages
use Rattle.cov_replica.specs.declared.fault.ReplicaFault.{ReplicaFault}
use Rattle.cov_replica.specs.declared.fault.ReplicaFault.TheVariants as faults
use Rattle.cov_serve.specs.Jobs.{IsCaused, IsDamageTaken, IsFaultTaken, NoneRose, OnEnd, RowsPrecede, StandsForFront, StandsForTold, Turn, answered_replica, faulty_replica, history_after, read_line, replica_by, replies, rows_of, served_replica, served_status}
use Rattle.cov_serve.specs.Program.{EndsWithLine, IsCauseOf, PutsLast, damaged_line, not_a_store_line, taken_line}
use Rattle.cov_serve.specs.Replicas.{Puts, PutsAnswer, StopsPutting}
use Rattle.cov_serve.specs.Statuses.{answered_status, fault_status, status_of}
use Rattle.cov_serve.specs.declared.job.Job.TheVariants.{Replica}
use Rattle.cov_serve.specs.declared.status.Status.{Status}
use Rattle.cov_serve.specs.declared.status.Status.TheVariants as statuses
use Rattle.cov_store.specs.Stands.{StandsFor}
use Rattle.cov_store.specs.declared.damage.StoreDamage.{StoreDamage}
use Rattle.cov_serve.proofs.Turns.{Stay, front_stays, last_stays, rows_precede_told, told_stays}
use Rattle.cov_serve.proofs.Unopened.{end_to, last_end, none_written, on_any_end, writes_all, writes_some}

-- a first line, and a reply behind its rows
abbrev two_turns : List ℕ → List ℕ → List OutRow → List Command → List Turn
two_turns line reply rows history = record { reply = line; rows = []; history = history } ∷ record { reply = reply; rows = rows; history = history } ∷ []

-- where no byte of the reply is written, or all of its rows are, rows come first
module _ (line reply : List ℕ) (rws : List OutRow) (history : List Command) (silent : reply ≡ [] → rws ≡ []) where
  rows_few : (size few : ℕ) → (size ≤ length line) ⊎ (length rws ≤ few) → length (line ++ (reply ++ [])) ≤ size → length (rws ++ []) ≤ few
  rows_few size few (inl small) short =
      let long = length-append line (reply ++ []) in
      let none : reply ++ [] ≡ [] = nil_from_length (reply ++ []) (omega (arith, long, short, small)) in
      subst (λ (rs : List OutRow). length (rs ++ []) ≤ few) (sym (silent (sym (append-nil reply) ∙ none))) (omega arith)
  rows_few size few (inr all) short = subst (λ (rs : List OutRow). length rs ≤ few) (sym (append-nil rws)) all

  two_first : (size few : ℕ) → (size ≤ length line) ⊎ (length rws ≤ few) → (ts us : List Turn) → two_turns line reply rws history ≡ ts ++ us
      → length (replies ts) ≤ size → length (rows_of ts) ≤ few
  two_first size few by [] us e short = omega arith
  two_first size few by (t ∷ []) us e short =
      let same : record { reply = line; rows = []; history = history } ≡ t = cc in
      subst (λ (x : Turn). length (x.rows ++ []) ≤ few) same (omega arith)
  two_first size few by (t ∷ n ∷ []) us e short =
      let same : record { reply = line; rows = []; history = history } ≡ t = cc in
      let next : record { reply = reply; rows = rws; history = history } ≡ n = cc in
      subst (λ (x : Turn). length (x.rows ++ (n.rows ++ [])) ≤ few) same
      (subst (λ (x : Turn). length (x.rows ++ []) ≤ few) next
      (rows_few size few by
      (subst (λ (x : Turn). length (line ++ (x.reply ++ [])) ≤ size) (sym next) (subst (λ (x : Turn). length (x.reply ++ (n.reply ++ [])) ≤ size) (sym same) short))))
  two_first size few by (t ∷ n ∷ m ∷ ts) us e short = absurd (cc)

  pub two_precede : (bytes : List ℕ) (grew : List OutRow) → (length bytes ≤ length line) ⊎ (length rws ≤ length grew)
      → (before : List ℕ) (rows : List OutRow) (written : Option (List ℕ)) (grown : Option (List OutRow)) → written ≡ Some (before ++ bytes) → grown ≡ Some (rows ++ grew)
      → RowsPrecede (two_turns line reply rws history) before rows written grown
  two_precede bytes grew by before rows written grown wrote has =
      record { bytes = bytes; rows = grew; bytes_are = wrote; rows_are = has; first = two_first (length bytes) (length grew) by }

-- the rows of the line that is answered come before its reply
module _ (line : List ℕ) (past history : List Command) where
  abbrev answered : Outcome State
  answered = step (starting past) line

  abbrev both : List Turn
  both = (answered_replica line past history).turns

  answered_silent : answered.reply ≡ [] → answered.rows ≡ []
  answered_silent h = rows_told (starting past) line h

  answered_precede : (bytes : List ℕ) (grew : List OutRow) → (length bytes ≤ length (taken_line past)) ⊎ (length answered.rows ≤ length grew)
      → (before : List ℕ) (rows : List OutRow) (written : Option (List ℕ)) (grown : Option (List OutRow)) → written ≡ Some (before ++ bytes) → grown ≡ Some (rows ++ grew)
      → RowsPrecede both before rows written grown
  answered_precede bytes grew by before rows written grown wrote has =
      two_precede (taken_line past) answered.reply answered.rows history answered_silent bytes grew by before rows written grown wrote has

  -- before anything is written
  pub answered_none : (before : List ℕ) (rows : List OutRow) (written : Option (List ℕ)) (grown : Option (List OutRow)) → written ≡ Some before → grown ≡ Some rows
      → RowsPrecede both before rows written grown
  answered_none before rows written grown wrote grew =
      answered_precede [] [] (inl (omega arith)) before rows written grown (wrote ∙ ap Some (sym (append-nil before))) (grew ∙ ap Some (sym (append-nil rows)))

  module _ (old mid new : Option (List ℕ)) (grown grown' : Option (List OutRow)) (sink sink1 sink' trees trees' : ℕ) where
    -- no memory is to be had for the first line
    pub puts_none : Puts (answered_replica line past history) old old grown grown sink sink trees trees statuses.NoMemory
    puts_none = record {
      front = same_some (replies both) old old refl;
      whole = tt;
      rows = same_some (rows_of both) grown grown refl;
      rows_whole = tt;
      rows_first = λ before rows wrote grew. answered_none before rows old grown wrote grew;
      ends = tt;
      stopped = tt;
    }

    first_part : (before : List ℕ) (rows : List OutRow) → AppendsSome (taken_line past) old mid → old ≡ Some before → grown ≡ Some rows → RowsPrecede both before rows mid grown
    first_part before rows some wrote grew =
        let h = writes_some before (taken_line past) old mid some wrote in
        let long = ap length h.front ∙ length-append h.first h.rest in
        answered_precede h.first [] (inl (omega (arith, long))) before rows mid grown h.is (grew ∙ ap Some (sym (append-nil rows)))

    -- the first line isn't put whole
    pub puts_part : AppendsSome (taken_line past) old mid → Rose sink sink1 → Puts (answered_replica line past history) old mid grown grown sink sink1 trees trees statuses.WriteFault
    puts_part some rose = record {
      front = some_more (taken_line past) (answered.reply ++ []) old mid some;
      whole = tt;
      rows = same_some (rows_of both) grown grown refl;
      rows_whole = tt;
      rows_first = λ before rows wrote grew. first_part before rows some wrote grew;
      ends = tt;
      stopped = rose;
    }

    module _ (all : AppendsAll (taken_line past) old mid) (later : sink ≤ sink1) (status : Status) (put : PutsAnswer answered mid new grown grown' sink1 sink' trees trees' status) where
      abbrev reply : List ℕ
      reply = answered.reply ++ []

      reply_some : AppendsSome reply mid new
      reply_some = subst (λ r. AppendsSome r mid new) (sym (append-nil answered.reply)) put.front

      rows_are : rows_of both ≡ answered.rows
      rows_are = append-nil answered.rows

      later_stops : (status : Status) → StopsPutting true status sink1 sink' trees trees' → StopsPutting true status sink sink' trees trees'
      later_stops statuses.WriteFault h = omega (arith, later, h)
      later_stops status h = h

      then_precede : (before : List ℕ) (rows : List OutRow) → old ≡ Some before → grown ≡ Some rows → RowsPrecede both before rows new grown'
      then_precede before rows wrote grew = at put.first
        where
          told : mid ≡ Some (before ++ taken_line past)
          told = writes_all before (taken_line past) old mid all wrote

          at : AppendsAll answered.rows grown grown' ⊎ (new ≡ mid) → RowsPrecede both before rows new grown'
          at (inl first) =
              let h = writes_some (before ++ taken_line past) answered.reply mid new put.front told in
              answered_precede (taken_line past ++ h.first) answered.rows (inr (omega arith)) before rows new grown'
              (h.is ∙ ap Some (append_assoc before (taken_line past) h.first)) (writes_all rows answered.rows grown grown' first grew)
          at (inr same) =
              let h = writes_some rows answered.rows grown grown' put.rows grew in
              answered_precede (taken_line past) h.first (inl (omega arith)) before rows new grown' (same ∙ told) h.is

      -- the first line is put, and then the reply behind its rows, as far as that goes
      pub puts_both : Puts (answered_replica line past history) old new grown grown' sink sink' trees trees' status
      puts_both = record {
        front = all_then_some (taken_line past) reply old mid new all reply_some;
        whole = end_to status (AppendsAll answered.reply mid new) (AppendsAll (replies both) old new)
            (λ h. all_then (taken_line past) reply old mid new all (subst (λ r. AppendsAll r mid new) (sym (append-nil answered.reply)) h)) put.whole;
        rows = subst (λ rs. AppendsSome rs grown grown') (sym rows_are) put.rows;
        rows_whole = end_to status (AppendsAll answered.rows grown grown') (AppendsAll (rows_of both) grown grown') (λ h. subst (λ rs. AppendsAll rs grown grown') (sym rows_are) h) put.rows_whole;
        rows_first = λ before rows wrote grew. then_precede before rows wrote grew;
        ends = put.ends;
        stopped = later_stops status put.stopped;
      }

-- a line that tells what is wrong
line_stops : (wanted status : Status) (sink sink' trees trees' : ℕ) → StopsPutting false wanted sink sink' trees trees' → EndsWithLine wanted sink sink' status → StopsPutting false status sink sink' trees trees'
line_stops wanted statuses.NoMemory sink sink' trees trees' h e = tt
line_stops wanted statuses.WriteFault sink sink' trees trees' h e = e
line_stops wanted status sink sink' trees trees' h e = subst (λ s. StopsPutting false s sink sink' trees trees') (sym e) h

pub puts_fault : (wanted : Status) (line : List ℕ) (history : List Command) (old new : Option (List ℕ)) (grown : Option (List OutRow)) (sink sink' trees : ℕ) (status : Status)
    → StopsPutting false wanted sink sink' trees trees → PutsLast wanted line old new sink sink' status → Puts (read_line wanted line history) old new grown grown sink sink' trees trees status
puts_fault wanted line history old new grown sink sink' trees status stops puts = record {
  front = subst (λ r. AppendsSome r old new) (sym (append-nil line)) puts.front;
  whole = end_to status (status ≡ wanted) (AppendsAll (line ++ []) old new) (λ e. subst (λ r. AppendsAll r old new) (sym (append-nil line)) (puts.whole e)) (last_end wanted status sink sink' puts.ends);
  rows = same_some [] grown grown refl;
  rows_whole = on_any_end status (AppendsAll [] grown grown) (same_all grown grown refl);
  rows_first = λ before rows wrote grew. rows_precede_told wanted line history before rows new grown (writes_some before line old new puts.front wrote) grew;
  ends = last_end wanted status sink sink' puts.ends;
  stopped = line_stops wanted status sink sink' trees trees stops puts.ends;
}

-- want of memory is told by the status alone
pub puts_wanting : (history : List Command) (old : Option (List ℕ)) (grown : Option (List OutRow)) (sink trees : ℕ) → Puts (read_line statuses.NoMemory [] history) old old grown grown sink sink trees trees statuses.NoMemory
puts_wanting history old grown sink trees = record {
  front = same_some [] old old refl;
  whole = tt;
  rows = same_some [] grown grown refl;
  rows_whole = tt;
  rows_first = λ before rows wrote grew. rows_precede_told statuses.NoMemory [] history before rows old grown (none_written before [] old wrote) grew;
  ends = tt;
  stopped = tt;
}

-- the damage of bytes can be told
pub damage_told : (bytes : List ℕ) (number : ℕ) (cause : ReplicaDamage) → (taken bytes).fault ≡ Some (faults.Damaged number cause) → IsCauseOf (length (options_of (taken bytes).history)) (as_store_damage cause)
damage_told bytes number damages.Digest e = tt
damage_told bytes number damages.NotARecord e = tt
damage_told bytes number (damages.Refused refusal) e =
    let of = refusal_is_of_verdict bytes number refusal e in
    refusal-code (taken bytes).history of.0 refusal of.1

-- no turn adds a command
replica_stays : (line : List ℕ) (past : List Command) (fault : Option ReplicaFault) (history : List Command) → Stay history (replica_by line past fault history).turns
replica_stays line past None history = (refl, (refl, tt))
replica_stays line past (Some faults.NotAStore) history = (refl, tt)
replica_stays line past (Some (faults.Damaged number cause)) history = (refl, tt)
replica_stays line past (Some (faults.Memory count)) history = (refl, tt)

module _ (line : List ℕ) (history : List Command) (text : List ℕ) where
  abbrev turns : List Turn
  turns = (served_replica line text history).turns

  stay : Stay history turns
  stay = replica_stays line (taken text).history (taken text).fault history

  pub replica_front : (image : List ℕ) → StandsFor image history → StandsForFront history turns image
  replica_front image h = front_stays history turns stay image h

  pub replica_told : (bytes image : List ℕ) → StandsFor image history → StandsForTold history turns bytes image
  replica_told bytes image h = told_stays history turns stay bytes image h

  pub replica_last_of : (image : List ℕ) → StandsFor image history → StandsFor image (history_after history turns)
  replica_last_of image h = last_stays history turns stay image h

  pub replica_last : (contents : Option (List ℕ)) → IfSome contents (λ image. StandsFor image history) → IfSome contents (λ image. StandsFor image (history_after history turns))
  replica_last contents h = some_to (λ image. StandsFor image history) (λ image. StandsFor image (history_after history turns)) replica_last_of contents h

  pub replica_precedes : (before : List ℕ) (rows : List OutRow) (written : Option (List ℕ)) (grown : Option (List OutRow)) → written ≡ Some before → grown ≡ Some rows → RowsPrecede turns before rows written grown
  replica_precedes before rows written grown wrote grew = at (taken text).fault
    where
      told : (status : Status) (line : List ℕ) → RowsPrecede (read_line status line history).turns before rows written grown
      told status line = rows_precede_told status line history before rows written grown (none_written before line written wrote) grew

      at : (fault : Option ReplicaFault) → RowsPrecede (replica_by line (taken text).history fault history).turns before rows written grown
      at None = answered_none line (taken text).history history before rows written grown wrote grew
      at (Some faults.NotAStore) = told statuses.NotAStore not_a_store_line
      at (Some (faults.Damaged number cause)) =
          told (statuses.Damaged number (as_store_damage cause)) (damaged_line (options_of (taken text).history) number (as_store_damage cause))
      at (Some (faults.Memory count)) = told statuses.NoMemory []

-- what the status tells of the bytes, at the end
abbrev Shows : Option ReplicaFault → Status → Type 0
Shows fault statuses.Done = fault ≡ None
Shows fault statuses.SomeRefused = fault ≡ None
Shows fault statuses.Usage = ⊥
Shows fault statuses.NotAStore = fault ≡ Some faults.NotAStore
Shows fault (statuses.Damaged number cause) = (own : ReplicaDamage) × (cause ≡ as_store_damage own) × (fault ≡ Some (faults.Damaged number own))
Shows fault status = Unit {0}

served_shows : (refused : Bool) → Shows None (served_status refused)
served_shows true = refl
served_shows false = refl

shows : (line : List ℕ) (past : List Command) (fault : Option ReplicaFault) (history : List Command) → Shows fault (replica_by line past fault history).status
shows line past None history = served_shows (step (starting past) line).is_refused
shows line past (Some faults.NotAStore) history = refl
shows line past (Some (faults.Damaged number cause)) history = (cause, refl, refl)
shows line past (Some (faults.Memory count)) history = tt

status_shows : (fault : Option ReplicaFault) (wanted status : Status) → Shows fault wanted → OnEnd status (status ≡ wanted) → Shows fault status
status_shows fault wanted statuses.Done h e = subst (Shows fault) (sym e) h
status_shows fault wanted statuses.SomeRefused h e = subst (Shows fault) (sym e) h
status_shows fault wanted statuses.Usage h e = subst (Shows fault) (sym e) h
status_shows fault wanted statuses.NotAStore h e = subst (Shows fault) (sym e) h
status_shows fault wanted (statuses.Damaged number cause) h e = subst (Shows fault) (sym e) h
status_shows fault wanted status h e = tt

-- the source is read to its end
replica_reads : (line : List ℕ) (past : List Command) (fault : Option ReplicaFault) (history : List Command) → (replica_by line past fault history).reads ≡ true
replica_reads line past None history = refl
replica_reads line past (Some faults.NotAStore) history = refl
replica_reads line past (Some (faults.Damaged number cause)) history = refl
replica_reads line past (Some (faults.Memory count)) history = refl

pub reads_text : (line text : List ℕ) (history : List Command) → (served_replica line text history).reads ≡ true
reads_text line text history = replica_reads line (taken text).history (taken text).fault history

-- why a run ends whose source was read to its end
pub puts_caused : (line : List ℕ) (past : List Command) (fault : Option ReplicaFault) (history : List Command) (contents left : Option (List ℕ)) (old new : Counts) (status : Status)
    → IfSome left (λ text. (taken text).fault ≡ fault) → OnEnd status (status ≡ (replica_by line past fault history).status)
    → StopsPutting (replica_by line past fault history).writes status old.sink new.sink old.trees new.trees → IsCaused (Replica line) contents left old new status
puts_caused line past fault history contents left old new status is ends stopped =
    at status (status_shows fault (replica_by line past fault history).status status (shows line past fault history) ends) stopped
  where
    at : (status : Status) → Shows fault status → StopsPutting (replica_by line past fault history).writes status old.sink new.sink old.trees new.trees → IsCaused (Replica line) contents left old new status
    at statuses.Done h s = some_to (λ text. (taken text).fault ≡ fault) (IsFaultTaken None) (λ text e. e ∙ h) left is
    at statuses.SomeRefused h s = (refl, some_to (λ text. (taken text).fault ≡ fault) (IsFaultTaken None) (λ text e. e ∙ h) left is)
    at statuses.NotAStore h s = some_to (λ text. (taken text).fault ≡ fault) (IsFaultTaken (Some faults.NotAStore)) (λ text e. e ∙ h) left is
    at (statuses.Damaged number cause) h s = some_to (λ text. (taken text).fault ≡ fault) (IsDamageTaken number cause) (λ text e. (h.0, h.1, e ∙ h.2)) left is
    at statuses.NoMemory h s = tt
    at statuses.WriteFault h s = s
    at statuses.TreesFault h s = (refl, s.1)
    at status h s = absurd s

-- where nothing fails, it comes to its end, unless memory is wanting
pub puts_unless : (line text : List ℕ) (history : List Command) (old new : Counts) (status : Status)
    → OnEnd status (status ≡ (served_replica line text history).status) → StopsPutting (served_replica line text history).writes status old.sink new.sink old.trees new.trees
    → NoneRose (Replica line) (served_replica line text history) old new → (status ≡ (served_replica line text history).status) ⊎ (status ≡ statuses.NoMemory)
puts_unless line text history old new statuses.Done e s none = inl e
puts_unless line text history old new statuses.SomeRefused e s none = inl e
puts_unless line text history old new statuses.NotAStore e s none = inl e
puts_unless line text history old new (statuses.Damaged number cause) e s none = inl e
puts_unless line text history old new statuses.NoMemory e s none = inr refl
puts_unless line text history old new statuses.WriteFault e s none = absurd (none.sink s)
puts_unless line text history old new statuses.TreesFault e s none = absurd (none.trees s.0 s.1)
puts_unless line text history old new status e s none = absurd s

-- a source that can't be read to its end
pub unread_ended : (fault : LineFault) (P : Type 0) → OnEnd (fault_status fault) P
unread_ended line_faults.ReadFault P = tt
unread_ended line_faults.TooMuch P = tt
unread_ended line_faults.Memory P = tt

pub unread_caused : (line : List ℕ) (contents left : Option (List ℕ)) (fault : LineFault) (source source' sink sink' disk trees trees' given given' ends ends' : ℕ)
    → StopsReading fault (source_counts source given ends) (source_counts source' given' ends')
    → IsCaused (Replica line) contents left (counts source sink disk trees given ends) (counts source' sink' disk trees' given' ends') (fault_status fault)
unread_caused line contents left line_faults.ReadFault source source' sink sink' disk trees trees' given given' ends ends' h = (refl, h)
unread_caused line contents left line_faults.TooMuch source source' sink sink' disk trees trees' given given' ends ends' h = (refl, h.0, h.1)
unread_caused line contents left line_faults.Memory source source' sink sink' disk trees trees' given given' ends ends' h = tt

-- what is put of a replica is what is put of all bytes, if they are told
pub taken_puts : (line bytes text : List ℕ) (history : List Command) {old new : Option (List ℕ)} {grown grown' : Option (List OutRow)} {sink sink' trees trees' : ℕ} {status : Status}
    → taken bytes ≡ taken text → Puts (replica_by line (taken bytes).history (taken bytes).fault history) old new grown grown' sink sink' trees trees' status
    → Puts (served_replica line text history) old new grown grown' sink sink' trees trees' status
taken_puts line bytes text history {old} {new} {grown} {grown'} {sink} {sink'} {trees} {trees'} {status} same puts =
    subst (λ t. Puts (replica_by line t.history t.fault history) old new grown grown' sink sink' trees trees' status) same puts

pub told_fault : (bytes : List ℕ) (left : Option (List ℕ)) → ((text : List ℕ) → left ≡ Some text → taken bytes ≡ taken text) → IfSome left (λ text. (taken text).fault ≡ (taken bytes).fault)
told_fault bytes None same = tt
told_fault bytes (Some text) same = ap (λ t. t.fault) (sym (same text refl))

module _ {old new : Option (List ℕ)} {grown grown' : Option (List OutRow)} {sink sink' trees trees' : ℕ} {status : Status} where
  -- what is put of bytes without a fault
  pub answered_puts : (line bytes : List ℕ) (past history : List Command) → past ≡ (taken bytes).history → (taken bytes).fault ≡ None
      → Puts (answered_replica line past history) old new grown grown' sink sink' trees trees' status → Puts (replica_by line (taken bytes).history (taken bytes).fault history) old new grown grown' sink sink' trees trees' status
  answered_puts line bytes past history same none puts =
      subst (λ f. Puts (replica_by line (taken bytes).history f history) old new grown grown' sink sink' trees trees' status) (sym none)
      (subst (λ h. Puts (answered_replica line h history) old new grown grown' sink sink' trees trees' status) same puts)

  -- and of others
  pub fault_puts : (line bytes : List ℕ) (fault : ReplicaFault) (history : List Command) → (taken bytes).fault ≡ Some fault
      → Puts (faulty_replica (taken bytes).history fault history) old new grown grown' sink sink' trees trees' status → Puts (replica_by line (taken bytes).history (taken bytes).fault history) old new grown grown' sink sink' trees trees' status
  fault_puts line bytes fault history some puts =
      subst (λ f. Puts (replica_by line (taken bytes).history f history) old new grown grown' sink sink' trees trees' status) (sym some) puts

-- the line that tells a damage
pub damaged_puts : (past : List Command) (number : ℕ) (own : ReplicaDamage) (cause : StoreDamage) (names : List (List ℕ)) (history : List Command) {old new : Option (List ℕ)} {grown : Option (List OutRow)} {sink sink' trees : ℕ} {status : Status}
    → cause ≡ as_store_damage own → names ≡ options_of past → PutsLast (statuses.Damaged number cause) (damaged_line names number cause) old new sink sink' status
    → Puts (faulty_replica past (faults.Damaged number own) history) old new grown grown sink sink' trees trees status
damaged_puts past number own cause names history {old} {new} {grown} {sink} {sink'} {trees} {status} same are puts =
    puts_fault (statuses.Damaged number (as_store_damage own)) (damaged_line (options_of past) number (as_store_damage own)) history old new grown sink sink' trees status tt
    (subst (λ k. PutsLast (statuses.Damaged number k) (damaged_line (options_of past) number k) old new sink sink' status) same
    (subst (λ ns. PutsLast (statuses.Damaged number cause) (damaged_line ns number cause) old new sink sink' status) are puts))

-- the status of a run whose line was answered
status_of_kind : (reply : List ℕ) (refused : Bool) → (refused ≡ true → reply ≡ [] → ⊥) → answered_status (kind_of reply refused) ≡ served_status refused
status_of_kind [] true told = absurd (told refl refl)
status_of_kind [] false told = refl
status_of_kind (b ∷ bs) true told = refl
status_of_kind (b ∷ bs) false told = refl

answered_stops : (answer : Answer) (sink sink' trees trees' : ℕ) → StopsPutting true (answered_status answer) sink sink' trees trees'
answered_stops answers.Accepted sink sink' trees trees' = tt
answered_stops answers.Refused sink sink' trees trees' = tt
answered_stops answers.Nothing sink sink' trees trees' = tt

-- why a reply isn't put whole
module _ (sink sink' trees trees' : ℕ) where
  given_end : (ending : Ending) (P : Type 0) → StopsLine ending sink sink' 0 0 trees trees' → OnEnd (status_of ending) P
  given_end endings.NoMemory P h = tt
  given_end endings.WriteFault P h = tt
  given_end endings.DiskFault P h = tt
  given_end endings.TreesFault P h = tt
  given_end ending P h = absurd h

  given_stops : (ending : Ending) → StopsLine ending sink sink' 0 0 trees trees' → StopsPutting true (status_of ending) sink sink' trees trees'
  given_stops endings.NoMemory h = tt
  given_stops endings.WriteFault h = h
  given_stops endings.DiskFault h = absurd (omega (arith, h))
  given_stops endings.TreesFault h = (refl, h)
  given_stops ending h = absurd h

module _ (st : State) (line : List ℕ) (state : State) (reply : Reply) {old new : Option (List ℕ)} {grown grown' : Option (List OutRow)} {sink sink' trees trees' : ℕ} (gives : Gives (step st line) state reply) where
  -- a reply is put whole
  pub given_all : (answer : Answer) → answer ≡ reply.answer → AppendsAll reply.text old new → AppendsAll reply.rows grown grown'
      → PutsAnswer (step st line) old new grown grown' sink sink' trees trees' (answered_status answer)
  given_all answer same bytes rows =
      let all = subst (λ r. AppendsAll r old new) gives.text bytes in
      let grows = subst (λ rs. AppendsAll rs grown grown') gives.rows rows in
      let status = answered_status answer in
      record {
        front = all_some (step st line).reply old new all;
        whole = on_any_end status (AppendsAll (step st line).reply old new) all;
        rows = all_some (step st line).rows grown grown' grows;
        rows_whole = on_any_end status (AppendsAll (step st line).rows grown grown') grows;
        first = inl grows;
        ends = on_any_end status (status ≡ served_status (step st line).is_refused)
            (ap answered_status (same ∙ gives.answer) ∙ status_of_kind (step st line).reply (step st line).is_refused (refusal_told st line));
        stopped = answered_stops answer sink sink' trees trees';
      }

  -- or not whole
  pub given_some : (ending : Ending) → AppendsSome reply.text old new → AppendsSome reply.rows grown grown' → AppendsAll reply.rows grown grown' ⊎ (new ≡ old)
      → StopsLine ending sink sink' 0 0 trees trees' → PutsAnswer (step st line) old new grown grown' sink sink' trees trees' (status_of ending)
  given_some ending bytes rows first stops = record {
    front = subst (λ r. AppendsSome r old new) gives.text bytes;
    whole = given_end sink sink' trees trees' ending (AppendsAll (step st line).reply old new) stops;
    rows = subst (λ rs. AppendsSome rs grown grown') gives.rows rows;
    rows_whole = given_end sink sink' trees trees' ending (AppendsAll (step st line).rows grown grown') stops;
    first = subst (λ rs. AppendsAll rs grown grown' ⊎ (new ≡ old)) gives.rows first;
    ends = given_end sink sink' trees trees' ending (status_of ending ≡ served_status (step st line).is_refused) stops;
    stopped = given_stops sink sink' trees trees' ending stops;
  }

-- no memory is to be had for the reply
pub given_none : (st : State) (line : List ℕ) (old : Option (List ℕ)) (grown : Option (List OutRow)) (sink trees : ℕ) → PutsAnswer (step st line) old old grown grown sink sink trees trees statuses.NoMemory
given_none st line old grown sink trees = record {
  front = same_some (step st line).reply old old refl;
  whole = tt;
  rows = same_some (step st line).rows grown grown refl;
  rows_whole = tt;
  first = inr refl;
  ends = tt;
  stopped = tt;
}
