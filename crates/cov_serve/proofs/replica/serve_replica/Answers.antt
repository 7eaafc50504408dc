use Rattle.std.proofs.Common.{◌≡◌, ◌⊎◌, sym, subst, ◌++◌, Some, []}
use Rattle.cov_io.specs.Devices.{AppendsAll}
use Rattle.cov_loop.specs.Counts.{counts}
use Rattle.cov_replica.specs.Taken.{taken}
use Rattle.cov_serve.specs.Jobs.{EndsAs, IsCaused, IsReadOut, OnEnd, replies, rows_of, served_replica}
use Rattle.cov_serve.specs.declared.job.Job.TheVariants.{Replica}
use Rattle.cov_serve.specs.declared.status.Status.TheVariants.{NoMemory}
use Rattle.cov_serve.proofs.Jobs.{unread_unless}
use Rattle.cov_serve.proofs.Replicas.{puts_caused, puts_unless, reads_text, replica_precedes, taken_puts, told_fault, unread_caused, unread_ended}
use Rattle.cov_serve.proofs.Unopened.{end_to, none_written, writes_all, writes_some}
use Rattle.cov_serve.proofs.replica.serve_replica.Goals as goal

pub returns-in-Ok-clause-ends : goal.returns-in-Ok-clause-ends
returns-in-Ok-clause-ends g c history text left =
    let line = c.args.line.now in
    let all = served_replica line text history in
    let status = c.tell_taken.result in
    let unread = g.S.Source.left c.read_journal.new.source in
    let puts = taken_puts line c.in-Ok.fed text history (c.in-Ok.ensures.taken text left) (c.tell_taken.ensures.puts history) in
    end_to status (status ≡ all.status) (EndsAs all status unread)
    (λ e. record { status_is = e; read = subst (λ r. IsReadOut r unread) (sym (reads_text line text history)) (c.in-Ok.ensures.read text left) }) puts.ends

pub returns-in-Ok-clause-front : goal.returns-in-Ok-clause-front
returns-in-Ok-clause-front g c history text before left wrote =
    let line = c.args.line.now in
    let puts = taken_puts line c.in-Ok.fed text history (c.in-Ok.ensures.taken text left) (c.tell_taken.ensures.puts history) in
    writes_some before (replies (served_replica line text history).turns) (g.K.Sink.written c.args.out.now) (g.K.Sink.written c.tell_taken.new.out) puts.front wrote

pub returns-in-Ok-clause-whole : goal.returns-in-Ok-clause-whole
returns-in-Ok-clause-whole g c history text before left wrote =
    let line = c.args.line.now in
    let told = replies (served_replica line text history).turns in
    let old = g.K.Sink.written c.args.out.now in
    let new = g.K.Sink.written c.tell_taken.new.out in
    let puts = taken_puts line c.in-Ok.fed text history (c.in-Ok.ensures.taken text left) (c.tell_taken.ensures.puts history) in
    end_to c.tell_taken.result (AppendsAll told old new) (new ≡ Some (before ++ told)) (λ h. writes_all before told old new h wrote) puts.whole

pub returns-in-Ok-clause-rows : goal.returns-in-Ok-clause-rows
returns-in-Ok-clause-rows g c history text before left grew =
    let line = c.args.line.now in
    let puts = taken_puts line c.in-Ok.fed text history (c.in-Ok.ensures.taken text left) (c.tell_taken.ensures.puts history) in
    writes_some before (rows_of (served_replica line text history).turns) (g.T.Trees.rows c.args.trees.now) (g.T.Trees.rows c.tell_taken.new.trees) puts.rows grew

pub returns-in-Ok-clause-rows_whole : goal.returns-in-Ok-clause-rows_whole
returns-in-Ok-clause-rows_whole g c history text before left grew =
    let line = c.args.line.now in
    let all = rows_of (served_replica line text history).turns in
    let old = g.T.Trees.rows c.args.trees.now in
    let new = g.T.Trees.rows c.tell_taken.new.trees in
    let puts = taken_puts line c.in-Ok.fed text history (c.in-Ok.ensures.taken text left) (c.tell_taken.ensures.puts history) in
    end_to c.tell_taken.result (AppendsAll all old new) (new ≡ Some (before ++ all)) (λ h. writes_all before all old new h grew) puts.rows_whole

pub returns-in-Ok-clause-rows_first : goal.returns-in-Ok-clause-rows_first
returns-in-Ok-clause-rows_first g c history text before rows left wrote grew =
    (taken_puts c.args.line.now c.in-Ok.fed text history (c.in-Ok.ensures.taken text left) (c.tell_taken.ensures.puts history)).rows_first before rows wrote grew

pub returns-in-Ok-clause-cause : goal.returns-in-Ok-clause-cause
returns-in-Ok-clause-cause g c contents disk =
    let puts = c.tell_taken.ensures.puts [] in
    let left = g.S.Source.left c.args.script.now in
    puts_caused c.args.line.now (taken c.in-Ok.fed).history (taken c.in-Ok.fed).fault [] contents left
    (counts (g.S.Source.faults c.args.script.now) (g.K.Sink.faults c.args.out.now) disk (g.T.Trees.faults c.args.trees.now) (g.S.Source.given c.args.script.now) (g.S.Source.ends c.args.script.now))
    (counts (g.S.Source.faults c.read_journal.new.source) (g.K.Sink.faults c.tell_taken.new.out) disk (g.T.Trees.faults c.tell_taken.new.trees) (g.S.Source.given c.read_journal.new.source) (g.S.Source.ends c.read_journal.new.source))
    c.tell_taken.result (told_fault c.in-Ok.fed left (λ text is. c.in-Ok.ensures.taken text is)) puts.ends puts.stopped

pub returns-in-Ok-clause-complete : goal.returns-in-Ok-clause-complete
returns-in-Ok-clause-complete g c history text disk left short none =
    let line = c.args.line.now in
    let puts = taken_puts line c.in-Ok.fed text history (c.in-Ok.ensures.taken text left) (c.tell_taken.ensures.puts history) in
    puts_unless line text history
    (counts (g.S.Source.faults c.args.script.now) (g.K.Sink.faults c.args.out.now) disk (g.T.Trees.faults c.args.trees.now) (g.S.Source.given c.args.script.now) (g.S.Source.ends c.args.script.now))
    (counts (g.S.Source.faults c.read_journal.new.source) (g.K.Sink.faults c.tell_taken.new.out) disk (g.T.Trees.faults c.tell_taken.new.trees) (g.S.Source.given c.read_journal.new.source) (g.S.Source.ends c.read_journal.new.source))
    c.tell_taken.result puts.ends puts.stopped none

pub returns-in-Err-clause-ends : goal.returns-in-Err-clause-ends
returns-in-Err-clause-ends g c history text left =
    let all = served_replica c.args.line.now text history in
    let unread = g.S.Source.left c.read_journal.new.source in
    subst (λ s. OnEnd s (EndsAs all s unread)) (sym c.from.ensures) (unread_ended c.in-Err.fault (EndsAs all _ unread))

pub returns-in-Err-clause-front : goal.returns-in-Err-clause-front
returns-in-Err-clause-front g c history text before left wrote =
    none_written before (replies (served_replica c.args.line.now text history).turns) (g.K.Sink.written c.args.out.now) wrote

pub returns-in-Err-clause-whole : goal.returns-in-Err-clause-whole
returns-in-Err-clause-whole g c history text before left wrote =
    let new = g.K.Sink.written c.args.out.now in
    let told = replies (served_replica c.args.line.now text history).turns in
    subst (λ s. OnEnd s (new ≡ Some (before ++ told))) (sym c.from.ensures) (unread_ended c.in-Err.fault (new ≡ Some (before ++ told)))

pub returns-in-Err-clause-rows : goal.returns-in-Err-clause-rows
returns-in-Err-clause-rows g c history text before left grew =
    none_written before (rows_of (served_replica c.args.line.now text history).turns) (g.T.Trees.rows c.args.trees.now) grew

pub returns-in-Err-clause-rows_whole : goal.returns-in-Err-clause-rows_whole
returns-in-Err-clause-rows_whole g c history text before left grew =
    let new = g.T.Trees.rows c.args.trees.now in
    let all = rows_of (served_replica c.args.line.now text history).turns in
    subst (λ s. OnEnd s (new ≡ Some (before ++ all))) (sym c.from.ensures) (unread_ended c.in-Err.fault (new ≡ Some (before ++ all)))

pub returns-in-Err-clause-rows_first : goal.returns-in-Err-clause-rows_first
returns-in-Err-clause-rows_first g c history text before rows left wrote grew =
    replica_precedes c.args.line.now history text before rows (g.K.Sink.written c.args.out.now) (g.T.Trees.rows c.args.trees.now) wrote grew

pub returns-in-Err-clause-cause : goal.returns-in-Err-clause-cause
returns-in-Err-clause-cause g c contents disk =
    let old = c.args.script.now in
    let new = c.read_journal.new.source in
    let left = g.S.Source.left old in
    let sink = g.K.Sink.faults c.args.out.now in
    let trees = g.T.Trees.faults c.args.trees.now in
    subst (λ s. IsCaused (Replica c.args.line.now) contents left (counts (g.S.Source.faults old) sink disk trees (g.S.Source.given old) (g.S.Source.ends old)) (counts (g.S.Source.faults new) sink disk trees (g.S.Source.given new) (g.S.Source.ends new)) s)
    (sym c.from.ensures)
    (unread_caused c.args.line.now contents left c.in-Err.fault (g.S.Source.faults old) (g.S.Source.faults new) sink sink disk trees trees (g.S.Source.given old) (g.S.Source.given new) (g.S.Source.ends old) (g.S.Source.ends new) c.in-Err.ensures.stopped)

pub returns-in-Err-clause-complete : goal.returns-in-Err-clause-complete
returns-in-Err-clause-complete g c history text disk left short none =
    let line = c.args.line.now in
    let old = c.args.script.now in
    let new = c.read_journal.new.source in
    let sink = g.K.Sink.faults c.args.out.now in
    let trees = g.T.Trees.faults c.args.trees.now in
    subst (λ s. (s ≡ (served_replica line text history).status) ⊎ (s ≡ NoMemory)) (sym c.from.ensures)
    (unread_unless line text history c.in-Err.fault (g.S.Source.left old) (g.S.Source.left new) (g.S.Source.faults old) (g.S.Source.faults new) sink sink disk trees trees
    (g.S.Source.given old) (g.S.Source.given new) (g.S.Source.ends old) (g.S.Source.ends new) c.in-Err.ensures.stopped c.read_journal.ensures.left left short none)
