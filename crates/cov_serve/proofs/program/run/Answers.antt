use Rattle.std.proofs.Common.{◌≡◌, ◌∙◌, ◌⊎◌, refl, sym, ap, subst, arith, ℕ, ◌≤◌, Bool, List, [], ◌++◌, append-nil, length, Some, IfSome}
use Rattle.std.proofs.lemmas.Bool.{false≢true}
use Rattle.cov_disk.specs.Images.{LeavesOnly}
use Rattle.cov_base.specs.Lines.{lines_of}
use Rattle.cov_edit.specs.declared.command.Command.{Command}
use Rattle.cov_journal.specs.Moments.{KeepsImages}
use Rattle.cov_journal.proofs.CallerLemmas.{joined, some_to, started}
use Rattle.cov_loop.specs.Counts.{Counts, counts}
use Rattle.cov_loop.specs.Keeping.{AreAll}
use Rattle.cov_loop.specs.Turns.{WritesFront}
use Rattle.cov_serve.specs.Jobs.{ComesTo, EndsAs, IsCaused, IsReadOut, IsSettled, IsShort, JobOutcome, LeavesDisk, NoneRose, OnEnd, RowsPrecede, StandsForFront, StandsForTold, StartsFrom, history_after, job_of, opens_disk, outcome, reads_source, replies, rows_of, served_demo, served_import, served_replica, served_script, served_status, stores_first, writes_trees}
use Rattle.cov_serve.specs.Program.{OnServed, PutsLast, ReadsAs, StopsDemo, StopsServing, check_line, usage_line}
use Rattle.cov_lines.specs.States.{State, starting}
use Rattle.cov_lines.specs.Step.{model}
use Rattle.cov_serve.specs.declared.job.Job.TheVariants.{OnStore, Replica, Unknown}
use Rattle.cov_serve.specs.declared.job.StoreJob.TheVariants.{Run, Check, Demo, Import}
use Rattle.cov_serve.specs.declared.status.Status.TheVariants.{Done, Usage, NoMemory, TreesFault}
use Rattle.cov_store.specs.Stands.{IsStored, StandsFor}
use Rattle.cov_serve.proofs.Crashing.{front_first}
use Rattle.cov_import.specs.Taking.{taken_in}
use Rattle.cov_serve.proofs.Imports.{import_precedes, import_reads, import_rows}
use Rattle.cov_serve.proofs.Jobs.{Demonstrates, Fell, Replicates, Serves, TakesIn, check_tells, demo_caused, demo_end, demo_later, demo_unless, demonstrates, failed, failed_ends, failed_front, failed_rows, failed_rows_first, failed_unless, failed_whole, front_at_start, import_caused, import_unless, nothing_fronts, nothing_precedes, nothing_stands, nothing_told, reads_of, replicates, served_caused, served_done, served_end, served_on, served_unless, serves, stopped_stands, takes_in, told_at_start, treeless, usage_is, usage_tells}
use Rattle.cov_serve.proofs.Kept.{opened_adds, opening_leaves, uncalled}
use Rattle.cov_serve.proofs.Replicas.{reads_text, replica_front, replica_last, replica_last_of, replica_told}
use Rattle.cov_serve.proofs.Runs.{leaves_weaker, none_more, serving_later}
use Rattle.cov_serve.proofs.Turns.{front_served, front_stands_told, last_is, replies_as, rows_as, rows_precede, rows_served, told_stands_told}
use Rattle.cov_serve.proofs.Unopened.{Fails, IsCut, Tells, a_store, can_be_told, fails_stops, fault_caused, line_caused, line_unless, none_written, not_unopened, on_any_end, reads_as, reads_gives, tells_ends, tells_front, tells_rows, tells_rows_first, tells_unless, tells_whole}
use Rattle.cov_serve.proofs.program.run.Given.{Over}
use Rattle.cov_serve.proofs.program.run.Goals as goal
use Rattle.cov_serve.proofs.program.run.Goals.{After-serve_opened, After-serve_demo, After-drop-line, After-drop-path-inside, After-put_checked, After-tell_fault, After-put_last}

pub tell_fault-requires : goal.tell_fault-requires
tell_fault-requires g c = can_be_told c.in-Err-open.fault c.in-Err-open.ensures.verdict

-- a script is served: its job, what that begins with, and why the serving ends
run_is : (g : Over) (c : After-serve_opened g) → job_of c.args.words.now ≡ OnStore Run
run_is g c = sym c.in-Ok-OnStore.ensures.job ∙ c.in-Ok-OnStore.field-0-is ∙ ap OnStore c.in-Run.is

run_starts : (g : Over) (c : After-serve_opened g) (history : List Command) (text : List ℕ)
    → StartsFrom (job_of c.args.words.now) (g.D.Disk.contents c.args.disk.now) (g.S.Source.left c.args.script.now) history text
    → StartsFrom (OnStore Run) (g.D.Disk.contents c.args.disk.now) (g.S.Source.left c.args.script.now) history text
run_starts g c history text starts = subst (λ j. StartsFrom j (g.D.Disk.contents c.args.disk.now) (g.S.Source.left c.args.script.now) history text) (run_is g c) starts

run_serves : (g : Over) (c : After-serve_opened g) (all : JobOutcome) → ComesTo (job_of c.args.words.now) (g.D.Disk.contents c.args.disk.now) (g.S.Source.left c.args.script.now) all
    → Serves (g.D.Disk.contents c.args.disk.now) (g.S.Source.left c.args.script.now) all
run_serves g c all comes =
    let contents = g.D.Disk.contents c.args.disk.now in
    let left = g.S.Source.left c.args.script.now in
    serves contents left all (subst (λ j. ComesTo j contents left all) (run_is g c) comes) (not_unopened contents all c.in-Ok.ensures.no_store c.in-Ok.ensures.damage)

run_begins : (g : Over) (c : After-serve_opened g) (history : List Command) → ReadsAs (g.D.Disk.contents c.args.disk.now) history → c.in-Ok.server.state ≡ starting history
run_begins g c history reads = reads_gives (g.D.Disk.contents c.args.disk.now) history (c.in-Ok.server.state ≡ starting history) reads (c.in-Ok.ensures.stands history)

run_stored : (g : Over) (c : After-serve_opened g) (history : List Command) → c.in-Ok.server.state ≡ starting history → AreAll (λ image. IsStored image history) (g.D.Disk.images c.open.new.disk)
run_stored g c history begins image now = subst (λ (h : List Command). IsStored image h) (ap (λ (s : State). s.history) begins) (c.in-Ok.ensures.stored image now)

abbrev run_old : (g : Over) → After-serve_opened g → Counts
run_old g c = counts (g.S.Source.faults c.args.script.now) (g.K.Sink.faults c.args.out.now) (g.D.Disk.faults c.args.disk.now) (g.T.Trees.faults c.args.trees.now) (g.S.Source.given c.args.script.now) (g.S.Source.ends c.args.script.now)

abbrev run_new : (g : Over) → After-serve_opened g → Counts
run_new g c = counts (g.S.Source.faults c.serve_opened.new.script) (g.K.Sink.faults c.serve_opened.new.out) (g.D.Disk.faults c.serve_opened.new.disk) (g.T.Trees.faults c.serve_opened.new.trees) (g.S.Source.given c.serve_opened.new.script) (g.S.Source.ends c.serve_opened.new.script)

run_stops : (g : Over) (c : After-serve_opened g) → StopsServing (run_old g c) (run_new g c) c.serve_opened.result
run_stops g c =
    serving_later (g.S.Source.faults c.args.script.now) (g.K.Sink.faults c.args.out.now) (g.D.Disk.faults c.args.disk.now) (g.T.Trees.faults c.args.trees.now) (g.S.Source.given c.args.script.now) (g.S.Source.ends c.args.script.now)
    (g.D.Disk.faults c.open.new.disk) (run_new g c) c.serve_opened.result c.open.ensures.later c.serve_opened.ensures.stopped

-- what holds where the serving comes to the end of the script
run_end : (g : Over) (c : After-serve_opened g) (Q : Bool → Type 0) (P : Type 0) → OnServed c.serve_opened.result Q
    → ((refused : Bool) → c.serve_opened.result ≡ served_status refused → Q refused → P) → OnEnd c.serve_opened.result P
run_end g c Q P served to = served_end (run_old g c) (run_new g c) c.serve_opened.result Q P (run_stops g c) served to

pub returns-in-Run-clause-ends : goal.returns-in-Run-clause-ends
returns-in-Run-clause-ends g c all comes =
    let arm = (goal.at.returns-in-Run-clause-ends g c).After-serve_opened in
    let s = run_serves g arm all comes in
    let status = arm.serve_opened.result in
    let unread = g.S.Source.left arm.serve_opened.new.script in
    run_end g arm (λ refused. ((model s.history s.text).is_refused ≡ refused) × (unread ≡ Some [])) (EndsAs all status unread)
    (arm.serve_opened.ensures.ended s.history s.text (run_begins g arm s.history s.reads) s.left_is)
    (λ refused same e. subst (λ o. EndsAs o status unread) (sym s.is) (record { status_is = same ∙ ap served_status (sym e.0); read = e.1 }))

pub returns-in-Run-clause-front : goal.returns-in-Run-clause-front
returns-in-Run-clause-front g c all before comes wrote =
    let arm = (goal.at.returns-in-Run-clause-front g c).After-serve_opened in
    let s = run_serves g arm all comes in
    let written = g.K.Sink.written arm.serve_opened.new.out in
    subst (λ o. WritesFront before (replies o.turns) written) (sym s.is)
    (front_served s.history s.text before written (arm.serve_opened.ensures.prefix s.history s.text before (run_begins g arm s.history s.reads) s.left_is wrote))

pub returns-in-Run-clause-whole : goal.returns-in-Run-clause-whole
returns-in-Run-clause-whole g c all before comes wrote =
    let arm = (goal.at.returns-in-Run-clause-whole g c).After-serve_opened in
    let s = run_serves g arm all comes in
    let written = g.K.Sink.written arm.serve_opened.new.out in
    run_end g arm (λ refused. written ≡ Some (before ++ (model s.history s.text).reply)) (written ≡ Some (before ++ replies all.turns))
    (arm.serve_opened.ensures.whole s.history s.text before (run_begins g arm s.history s.reads) s.left_is wrote)
    (λ refused same e. subst (λ o. written ≡ Some (before ++ replies o.turns)) (sym s.is) (e ∙ ap (λ r. Some (before ++ r)) (sym (replies_as (starting s.history) (lines_of s.text)))))

pub returns-in-Run-clause-rows : goal.returns-in-Run-clause-rows
returns-in-Run-clause-rows g c all before comes grew =
    let arm = (goal.at.returns-in-Run-clause-rows g c).After-serve_opened in
    let s = run_serves g arm all comes in
    let grown = g.T.Trees.rows arm.serve_opened.new.trees in
    subst (λ o. WritesFront before (rows_of o.turns) grown) (sym s.is)
    (rows_served s.history s.text before grown (arm.serve_opened.ensures.rows s.history s.text before (run_begins g arm s.history s.reads) s.left_is grew))

pub returns-in-Run-clause-rows_whole : goal.returns-in-Run-clause-rows_whole
returns-in-Run-clause-rows_whole g c all before comes grew =
    let arm = (goal.at.returns-in-Run-clause-rows_whole g c).After-serve_opened in
    let s = run_serves g arm all comes in
    let grown = g.T.Trees.rows arm.serve_opened.new.trees in
    run_end g arm (λ refused. grown ≡ Some (before ++ (model s.history s.text).rows)) (grown ≡ Some (before ++ rows_of all.turns))
    (arm.serve_opened.ensures.rows_whole s.history s.text before (run_begins g arm s.history s.reads) s.left_is grew)
    (λ refused same e. subst (λ o. grown ≡ Some (before ++ rows_of o.turns)) (sym s.is) (e ∙ ap (λ r. Some (before ++ r)) (sym (rows_as (starting s.history) (lines_of s.text)))))

pub returns-in-Run-clause-rows_first : goal.returns-in-Run-clause-rows_first
returns-in-Run-clause-rows_first g c all before rows comes wrote grew =
    let arm = (goal.at.returns-in-Run-clause-rows_first g c).After-serve_opened in
    let s = run_serves g arm all comes in
    let written = g.K.Sink.written arm.serve_opened.new.out in
    let grown = g.T.Trees.rows arm.serve_opened.new.trees in
    subst (λ o. RowsPrecede o.turns before rows written grown) (sym s.is)
    (rows_precede s.history s.text before rows written grown (arm.serve_opened.ensures.rows_first s.history s.text before rows (run_begins g arm s.history s.reads) s.left_is wrote grew))

pub returns-in-Run-clause-stands : goal.returns-in-Run-clause-stands
returns-in-Run-clause-stands g c history text reads starts settled =
    let arm = (goal.at.returns-in-Run-clause-stands g c).After-serve_opened in
    let of = run_starts g arm history text starts in
    let begins = run_begins g arm history of.0 in
    let after = g.D.Disk.contents arm.serve_opened.new.disk in
    subst (λ j. IfSome after (λ image. StandsFor image (history_after history (outcome j history text).turns))) (sym (run_is g arm))
    (some_to (λ image. StandsFor image (model history text).state.history) (λ image. StandsFor image (history_after history (outcome (OnStore Run) history text).turns))
    (λ image h. subst (StandsFor image) (sym (last_is history text)) h) after
    (served_on arm.serve_opened.result (IfSome after (λ image. StandsFor image (model history text).state.history))
    (arm.serve_opened.ensures.stands history text begins of.1 (subst (λ (h : List Command). IfSome (g.D.Disk.contents arm.open.new.disk) (λ image. IsStored image h)) (ap (λ (s : State). s.history) begins) arm.in-Ok.ensures.written))
    (subst (λ j. IsSettled j arm.serve_opened.result) (run_is g arm) settled)))

pub returns-in-Run-clause-kept : goal.returns-in-Run-clause-kept
returns-in-Run-clause-kept g c leaves =
    let arm = (goal.at.returns-in-Run-clause-kept g c).After-serve_opened in
    let contents = g.D.Disk.contents arm.args.disk.now in
    let left = g.S.Source.left arm.args.script.now in
    let adds = opened_adds (OnStore Run) contents left arm.in-Ok.ensures.no_store arm.in-Ok.ensures.damage (subst (λ j. LeavesDisk j contents left) (run_is g arm) leaves) in
    subst (λ d. (g.D.Disk.contents d ≡ contents) × KeepsImages g.D.Disk.images g.D.Disk.moment g.D.Disk.images_since arm.args.disk.now d)
    (sym (arm.serve_opened.ensures.unwritten adds.history adds.text (run_begins g arm adds.history adds.starts.0) adds.starts.1
    (subst (λ (h : List Command). length h ≤ length adds.history) (last_is adds.history adds.text) adds.few)))
    (opening_leaves (job_of arm.args.words.now) contents (g.D.Disk.contents arm.open.new.disk) left (KeepsImages g.D.Disk.images g.D.Disk.moment g.D.Disk.images_since arm.args.disk.now arm.open.new.disk) arm.open.ensures.kept arm.open.ensures.images leaves)

pub returns-in-Run-clause-any_moment : goal.returns-in-Run-clause-any_moment
returns-in-Run-clause-any_moment g c history text images starts =
    let arm = (goal.at.returns-in-Run-clause-any_moment g c).After-serve_opened in
    let of = run_starts g arm history text starts in
    let begins = run_begins g arm history of.0 in
    let front = StandsForFront history (served_script history text).turns in
    subst (λ j. LeavesOnly g.D.Disk.moment g.D.Disk.images_since arm.args.disk.now arm.serve_opened.new.disk (StandsForFront history (outcome j history text).turns)) (sym (run_is g arm))
    (joined g.D.Disk.moment g.D.Disk.images_since arm.args.disk.now arm.open.new.disk arm.serve_opened.new.disk front
    (leaves_weaker g.D.Disk.moment g.D.Disk.images_since arm.args.disk.now arm.open.new.disk (λ image. StandsFor image history) front (front_first history text) (arm.open.ensures.any_moment history images))
    (arm.serve_opened.ensures.any_moment history text begins of.1 (run_stored g arm history begins)))

pub returns-in-Run-clause-acknowledged : goal.returns-in-Run-clause-acknowledged
returns-in-Run-clause-acknowledged g c history text before bytes images starts wrote writes image now =
    let arm = (goal.at.returns-in-Run-clause-acknowledged g c).After-serve_opened in
    let of = run_starts g arm history text starts in
    let begins = run_begins g arm history of.0 in
    subst (λ j. StandsForTold history (outcome j history text).turns bytes image) (sym (run_is g arm))
    (arm.serve_opened.ensures.acknowledged history text before bytes begins of.1 (run_stored g arm history begins) wrote writes image now)

pub returns-in-Run-clause-stored_first : goal.returns-in-Run-clause-stored_first
returns-in-Run-clause-stored_first g c history text before bytes images starts first wrote writes some image now =
    absurd (false≢true (sym (ap stores_first (run_is g (goal.at.returns-in-Run-clause-stored_first g c).After-serve_opened)) ∙ first))

pub returns-in-Run-clause-unread : goal.returns-in-Run-clause-unread
returns-in-Run-clause-unread g c unless = absurd (false≢true (sym unless ∙ ap reads_source (run_is g (goal.at.returns-in-Run-clause-unread g c).After-serve_opened)))

pub returns-in-Run-clause-unwritten : goal.returns-in-Run-clause-unwritten
returns-in-Run-clause-unwritten g c unless = absurd (false≢true (sym unless ∙ ap writes_trees (run_is g (goal.at.returns-in-Run-clause-unwritten g c).After-serve_opened)))

pub returns-in-Run-clause-untouched : goal.returns-in-Run-clause-untouched
returns-in-Run-clause-untouched g c unless = absurd (false≢true (sym unless ∙ ap opens_disk (run_is g (goal.at.returns-in-Run-clause-untouched g c).After-serve_opened)))

pub returns-in-Run-clause-unopened : goal.returns-in-Run-clause-unopened
returns-in-Run-clause-unopened g c all opens tells = absurd (not_unopened (g.D.Disk.contents c.args.disk.now) all c.in-Ok.ensures.no_store c.in-Ok.ensures.damage tells)

pub returns-in-Run-clause-cause : goal.returns-in-Run-clause-cause
returns-in-Run-clause-cause g c =
    let arm = (goal.at.returns-in-Run-clause-cause g c).After-serve_opened in
    let contents = g.D.Disk.contents arm.args.disk.now in
    subst (λ j. IsCaused j contents (g.S.Source.left arm.args.script.now) (run_old g arm) (run_new g arm) arm.serve_opened.result) (sym (run_is g arm))
    (served_caused (run_old g arm) (run_new g arm) contents (g.S.Source.left arm.args.script.now) arm.serve_opened.result (a_store contents arm.in-Ok.server.state.history arm.in-Ok.ensures.opened) (run_stops g arm))

pub returns-in-Run-clause-complete : goal.returns-in-Run-clause-complete
returns-in-Run-clause-complete g c all comes short none =
    let arm = (goal.at.returns-in-Run-clause-complete g c).After-serve_opened in
    let s = run_serves g arm all comes in
    let left = g.S.Source.left arm.args.script.now in
    let unread = g.S.Source.left arm.serve_opened.new.script in
    subst (λ o. (arm.serve_opened.result ≡ o.status) ⊎ (arm.serve_opened.result ≡ NoMemory)) (sym s.is)
    (served_unless (run_old g arm) (run_new g arm) left unread s.history s.text arm.serve_opened.result (run_stops g arm)
    (arm.serve_opened.ensures.ended s.history s.text (run_begins g arm s.history s.reads) s.left_is) arm.serve_opened.ensures.left s.left_is
    (subst (λ (o : JobOutcome). IsShort o.reads left) s.is short)
    (subst (λ j. NoneRose j (served_script s.history s.text) (run_old g arm) (run_new g arm)) (run_is g arm) (subst (λ o. NoneRose (job_of arm.args.words.now) o (run_old g arm) (run_new g arm)) s.is none)))

-- a store is checked: its job, and the line that is told
check_is : (g : Over) (c : After-put_checked g) → job_of c.args.words.now ≡ OnStore Check
check_is g c = sym c.in-Ok-OnStore.ensures.job ∙ c.in-Ok-OnStore.field-0-is ∙ ap OnStore c.in-Check.is

check_told : (g : Over) (c : After-put_checked g) (all : JobOutcome) → ComesTo (job_of c.args.words.now) (g.D.Disk.contents c.args.disk.now) (g.S.Source.left c.args.script.now) all
    → Tells all (g.K.Sink.faults c.args.out.now) (g.K.Sink.faults c.put_checked.new.out) (g.D.Disk.faults c.args.disk.now) (g.D.Disk.faults c.open.new.disk)
    (g.K.Sink.written c.args.out.now) (g.K.Sink.written c.put_checked.new.out) c.put_checked.result
check_told g c all comes =
    let contents = g.D.Disk.contents c.args.disk.now in
    let left = g.S.Source.left c.args.script.now in
    check_tells contents left (g.D.Disk.faults c.args.disk.now) (g.D.Disk.faults c.open.new.disk) (subst (λ j. ComesTo j contents left all) (check_is g c) comes)
    (not_unopened contents all c.in-Ok.ensures.no_store c.in-Ok.ensures.damage)
    (λ history reads. subst (λ (h : List Command). PutsLast Done (check_line h) (g.K.Sink.written c.args.out.now) (g.K.Sink.written c.put_checked.new.out) (g.K.Sink.faults c.args.out.now) (g.K.Sink.faults c.put_checked.new.out) c.put_checked.result)
    (ap (λ (s : State). s.history) (reads_gives contents history (c.in-Ok.server.state ≡ starting history) reads (c.in-Ok.ensures.stands history))) c.put_checked.ensures.puts)

pub returns-in-Check-clause-ends : goal.returns-in-Check-clause-ends
returns-in-Check-clause-ends g c all comes = tells_ends (check_told g (goal.at.returns-in-Check-clause-ends g c).After-put_checked all comes) (g.S.Source.left c.args.script.now)

pub returns-in-Check-clause-front : goal.returns-in-Check-clause-front
returns-in-Check-clause-front g c all before comes wrote = tells_front (check_told g (goal.at.returns-in-Check-clause-front g c).After-put_checked all comes) before wrote

pub returns-in-Check-clause-whole : goal.returns-in-Check-clause-whole
returns-in-Check-clause-whole g c all before comes wrote = tells_whole (check_told g (goal.at.returns-in-Check-clause-whole g c).After-put_checked all comes) before wrote

pub returns-in-Check-clause-rows : goal.returns-in-Check-clause-rows
returns-in-Check-clause-rows g c all before comes grew = none_written before (rows_of all.turns) (g.T.Trees.rows c.args.trees.now) grew

pub returns-in-Check-clause-rows_whole : goal.returns-in-Check-clause-rows_whole
returns-in-Check-clause-rows_whole g c all before comes grew =
    tells_rows (check_told g (goal.at.returns-in-Check-clause-rows_whole g c).After-put_checked all comes) before (g.T.Trees.rows c.args.trees.now) grew

pub returns-in-Check-clause-rows_first : goal.returns-in-Check-clause-rows_first
returns-in-Check-clause-rows_first g c all before rows comes wrote grew =
    tells_rows_first (check_told g (goal.at.returns-in-Check-clause-rows_first g c).After-put_checked all comes) before rows (g.T.Trees.rows c.args.trees.now) wrote grew

pub returns-in-Check-clause-stands : goal.returns-in-Check-clause-stands
returns-in-Check-clause-stands g c history text reads starts settled =
    let arm = (goal.at.returns-in-Check-clause-stands g c).After-put_checked in
    let after = g.D.Disk.contents arm.open.new.disk in
    subst (λ j. IfSome after (λ image. StandsFor image (history_after history (outcome j history text).turns))) (sym (check_is g arm))
    (reads_gives (g.D.Disk.contents arm.args.disk.now) history (IfSome after (λ image. StandsFor image history)) reads (arm.open.ensures.stays history))

pub returns-in-Check-clause-kept : goal.returns-in-Check-clause-kept
returns-in-Check-clause-kept g c leaves =
    opening_leaves (job_of c.args.words.now) (g.D.Disk.contents c.args.disk.now) (g.D.Disk.contents c.open.new.disk) (g.S.Source.left c.args.script.now)
    (KeepsImages g.D.Disk.images g.D.Disk.moment g.D.Disk.images_since c.args.disk.now c.open.new.disk) c.open.ensures.kept c.open.ensures.images leaves

pub returns-in-Check-clause-any_moment : goal.returns-in-Check-clause-any_moment
returns-in-Check-clause-any_moment g c history text images starts =
    let arm = (goal.at.returns-in-Check-clause-any_moment g c).After-put_checked in
    subst (λ j. LeavesOnly g.D.Disk.moment g.D.Disk.images_since arm.args.disk.now arm.open.new.disk (StandsForFront history (outcome j history text).turns)) (sym (check_is g arm))
    (leaves_weaker g.D.Disk.moment g.D.Disk.images_since arm.args.disk.now arm.open.new.disk (λ image. StandsFor image history) (StandsForFront history (outcome (OnStore Check) history text).turns)
    (front_stands_told Done (check_line history) history) (arm.open.ensures.any_moment history images))

pub returns-in-Check-clause-acknowledged : goal.returns-in-Check-clause-acknowledged
returns-in-Check-clause-acknowledged g c history text before bytes images starts wrote writes image now =
    let arm = (goal.at.returns-in-Check-clause-acknowledged g c).After-put_checked in
    let run = arm.open.ensures.any_moment history images in
    subst (λ j. StandsForTold history (outcome j history text).turns bytes image) (sym (check_is g arm))
    (told_stands_told Done (check_line history) history bytes image
    (run.each image (g.met.D.Disk.counts_now arm.open.new.disk (g.D.Disk.moment arm.args.disk.now) image run.later now)))

pub returns-in-Check-clause-stored_first : goal.returns-in-Check-clause-stored_first
returns-in-Check-clause-stored_first g c history text before bytes images starts first wrote writes some image now =
    let arm = (goal.at.returns-in-Check-clause-stored_first g c).After-put_checked in
    let run = arm.open.ensures.any_moment history images in
    subst (λ j. StandsFor image (history_after history (outcome j history text).turns)) (sym (check_is g arm))
    (run.each image (g.met.D.Disk.counts_now arm.open.new.disk (g.D.Disk.moment arm.args.disk.now) image run.later now))

pub returns-in-Check-clause-untouched : goal.returns-in-Check-clause-untouched
returns-in-Check-clause-untouched g c unless = absurd (false≢true (sym unless ∙ ap opens_disk (check_is g (goal.at.returns-in-Check-clause-untouched g c).After-put_checked)))

pub returns-in-Check-clause-cause : goal.returns-in-Check-clause-cause
returns-in-Check-clause-cause g c =
    let arm = (goal.at.returns-in-Check-clause-cause g c).After-put_checked in
    let contents = g.D.Disk.contents c.args.disk.now in
    let old = (counts (g.S.Source.faults c.args.script.now) (g.K.Sink.faults c.args.out.now) (g.D.Disk.faults c.args.disk.now) (g.T.Trees.faults c.args.trees.now) (g.S.Source.given c.args.script.now) (g.S.Source.ends c.args.script.now)) in
    let new = (counts (g.S.Source.faults c.args.script.now) (g.K.Sink.faults c.put_checked.new.out) (g.D.Disk.faults c.open.new.disk) (g.T.Trees.faults c.args.trees.now) (g.S.Source.given c.args.script.now) (g.S.Source.ends c.args.script.now)) in
    subst (λ j. IsCaused j contents (g.S.Source.left c.args.script.now) old new c.put_checked.result) (sym (check_is g arm))
    (line_caused (OnStore Check) contents (g.S.Source.left c.args.script.now) old new Done c.put_checked.result (a_store contents arm.in-Ok.server.state.history arm.in-Ok.ensures.opened) c.put_checked.ensures.puts.ends)

pub returns-in-Check-clause-complete : goal.returns-in-Check-clause-complete
returns-in-Check-clause-complete g c all comes short none =
    let arm = (goal.at.returns-in-Check-clause-complete g c).After-put_checked in
    tells_unless (check_told g arm all comes) none.sink (λ rose. none.disk (ap opens_disk (check_is g arm)) rose)

-- the script that a number stands for is served: its job, what that begins with, and why the serving ends
demo_is : (g : Over) (c : After-serve_demo g) → job_of c.args.words.now ≡ OnStore (Demo c.in-Demo.number)
demo_is g c = sym c.in-Ok-OnStore.ensures.job ∙ c.in-Ok-OnStore.field-0-is ∙ ap OnStore c.in-Demo.is

demo_reads : (g : Over) (c : After-serve_demo g) (history : List Command) (text : List ℕ)
    → StartsFrom (job_of c.args.words.now) (g.D.Disk.contents c.args.disk.now) (g.S.Source.left c.args.script.now) history text → ReadsAs (g.D.Disk.contents c.args.disk.now) history
demo_reads g c history text starts = subst (λ j. StartsFrom j (g.D.Disk.contents c.args.disk.now) (g.S.Source.left c.args.script.now) history text) (demo_is g c) starts

demo_serves : (g : Over) (c : After-serve_demo g) (all : JobOutcome) → ComesTo (job_of c.args.words.now) (g.D.Disk.contents c.args.disk.now) (g.S.Source.left c.args.script.now) all
    → Demonstrates (g.D.Disk.contents c.args.disk.now) c.in-Demo.number all
demo_serves g c all comes =
    let contents = g.D.Disk.contents c.args.disk.now in
    let left = g.S.Source.left c.args.script.now in
    demonstrates c.in-Demo.number contents left all (subst (λ j. ComesTo j contents left all) (demo_is g c) comes) (not_unopened contents all c.in-Ok.ensures.no_store c.in-Ok.ensures.damage)

demo_begins : (g : Over) (c : After-serve_demo g) (history : List Command) → ReadsAs (g.D.Disk.contents c.args.disk.now) history → c.in-Ok.server.state ≡ starting history
demo_begins g c history reads = reads_gives (g.D.Disk.contents c.args.disk.now) history (c.in-Ok.server.state ≡ starting history) reads (c.in-Ok.ensures.stands history)

demo_stored : (g : Over) (c : After-serve_demo g) (history : List Command) → c.in-Ok.server.state ≡ starting history → AreAll (λ image. IsStored image history) (g.D.Disk.images c.open.new.disk)
demo_stored g c history begins image now = subst (λ (h : List Command). IsStored image h) (ap (λ (s : State). s.history) begins) (c.in-Ok.ensures.stored image now)

demo_stops : (g : Over) (c : After-serve_demo g)
    → StopsDemo c.serve_demo.result (g.K.Sink.faults c.args.out.now) (g.K.Sink.faults c.serve_demo.new.out) (g.D.Disk.faults c.args.disk.now) (g.D.Disk.faults c.serve_demo.new.disk) (g.T.Trees.faults c.args.trees.now) (g.T.Trees.faults c.serve_demo.new.trees)
demo_stops g c =
    demo_later (g.K.Sink.faults c.args.out.now) (g.K.Sink.faults c.serve_demo.new.out) (g.D.Disk.faults c.args.disk.now) (g.D.Disk.faults c.open.new.disk) (g.D.Disk.faults c.serve_demo.new.disk) (g.T.Trees.faults c.args.trees.now) (g.T.Trees.faults c.serve_demo.new.trees)
    c.serve_demo.result c.open.ensures.later c.serve_demo.ensures.stopped

demo_ends : (g : Over) (c : After-serve_demo g) (P : Type 0) → (c.serve_demo.result ≡ Done → P) → OnEnd c.serve_demo.result P
demo_ends g c P to =
    demo_end (g.K.Sink.faults c.args.out.now) (g.K.Sink.faults c.serve_demo.new.out) (g.D.Disk.faults c.args.disk.now) (g.D.Disk.faults c.serve_demo.new.disk) (g.T.Trees.faults c.args.trees.now) (g.T.Trees.faults c.serve_demo.new.trees)
    c.serve_demo.result P (demo_stops g c) to

pub returns-in-Demo-clause-ends : goal.returns-in-Demo-clause-ends
returns-in-Demo-clause-ends g c all comes =
    let arm = (goal.at.returns-in-Demo-clause-ends g c).After-serve_demo in
    let s = demo_serves g arm all comes in
    let status = arm.serve_demo.result in
    let left = g.S.Source.left arm.args.script.now in
    demo_ends g arm (EndsAs all status left) (λ e. subst (λ o. EndsAs o status left) (sym s.is) (record { status_is = e; read = tt }))

pub returns-in-Demo-clause-front : goal.returns-in-Demo-clause-front
returns-in-Demo-clause-front g c all before comes wrote =
    let arm = (goal.at.returns-in-Demo-clause-front g c).After-serve_demo in
    let s = demo_serves g arm all comes in
    subst (λ o. WritesFront before (replies o.turns) (g.K.Sink.written arm.serve_demo.new.out)) (sym s.is)
    (arm.serve_demo.ensures.front s.history before (demo_begins g arm s.history s.reads) wrote)

pub returns-in-Demo-clause-whole : goal.returns-in-Demo-clause-whole
returns-in-Demo-clause-whole g c all before comes wrote =
    let arm = (goal.at.returns-in-Demo-clause-whole g c).After-serve_demo in
    let s = demo_serves g arm all comes in
    let status = arm.serve_demo.result in
    let written = g.K.Sink.written arm.serve_demo.new.out in
    demo_ends g arm (written ≡ Some (before ++ replies all.turns))
    (λ e. subst (λ o. written ≡ Some (before ++ replies o.turns)) (sym s.is)
    (served_done status (written ≡ Some (before ++ replies (served_demo s.history arm.in-Demo.number).turns)) (arm.serve_demo.ensures.whole s.history before (demo_begins g arm s.history s.reads) wrote) e))

pub returns-in-Demo-clause-rows : goal.returns-in-Demo-clause-rows
returns-in-Demo-clause-rows g c all before comes grew =
    let arm = (goal.at.returns-in-Demo-clause-rows g c).After-serve_demo in
    let s = demo_serves g arm all comes in
    subst (λ o. WritesFront before (rows_of o.turns) (g.T.Trees.rows arm.serve_demo.new.trees)) (sym s.is)
    (arm.serve_demo.ensures.rows s.history before (demo_begins g arm s.history s.reads) grew)

pub returns-in-Demo-clause-rows_whole : goal.returns-in-Demo-clause-rows_whole
returns-in-Demo-clause-rows_whole g c all before comes grew =
    let arm = (goal.at.returns-in-Demo-clause-rows_whole g c).After-serve_demo in
    let s = demo_serves g arm all comes in
    let status = arm.serve_demo.result in
    let grown = g.T.Trees.rows arm.serve_demo.new.trees in
    demo_ends g arm (grown ≡ Some (before ++ rows_of all.turns))
    (λ e. subst (λ o. grown ≡ Some (before ++ rows_of o.turns)) (sym s.is)
    (served_done status (grown ≡ Some (before ++ rows_of (served_demo s.history arm.in-Demo.number).turns)) (arm.serve_demo.ensures.rows_whole s.history before (demo_begins g arm s.history s.reads) grew) e))

pub returns-in-Demo-clause-rows_first : goal.returns-in-Demo-clause-rows_first
returns-in-Demo-clause-rows_first g c all before rows comes wrote grew =
    let arm = (goal.at.returns-in-Demo-clause-rows_first g c).After-serve_demo in
    let s = demo_serves g arm all comes in
    subst (λ o. RowsPrecede o.turns before rows (g.K.Sink.written arm.serve_demo.new.out) (g.T.Trees.rows arm.serve_demo.new.trees)) (sym s.is)
    (arm.serve_demo.ensures.rows_first s.history before rows (demo_begins g arm s.history s.reads) wrote grew)

pub returns-in-Demo-clause-stands : goal.returns-in-Demo-clause-stands
returns-in-Demo-clause-stands g c history text reads starts settled =
    let arm = (goal.at.returns-in-Demo-clause-stands g c).After-serve_demo in
    let begins = demo_begins g arm history reads in
    let after = g.D.Disk.contents arm.serve_demo.new.disk in
    subst (λ j. IfSome after (λ image. StandsFor image (history_after history (outcome j history text).turns))) (sym (demo_is g arm))
    (served_on arm.serve_demo.result (IfSome after (λ image. StandsFor image (history_after history (served_demo history arm.in-Demo.number).turns)))
    (arm.serve_demo.ensures.stands history begins (subst (λ (h : List Command). IfSome (g.D.Disk.contents arm.open.new.disk) (λ image. IsStored image h)) (ap (λ (s : State). s.history) begins) arm.in-Ok.ensures.written))
    (subst (λ j. IsSettled j arm.serve_demo.result) (demo_is g arm) settled))

pub returns-in-Demo-clause-kept : goal.returns-in-Demo-clause-kept
returns-in-Demo-clause-kept g c leaves =
    let arm = (goal.at.returns-in-Demo-clause-kept g c).After-serve_demo in
    let contents = g.D.Disk.contents arm.args.disk.now in
    let left = g.S.Source.left arm.args.script.now in
    let adds = opened_adds (OnStore (Demo arm.in-Demo.number)) contents left arm.in-Ok.ensures.no_store arm.in-Ok.ensures.damage (subst (λ j. LeavesDisk j contents left) (demo_is g arm) leaves) in
    subst (λ d. (g.D.Disk.contents d ≡ contents) × KeepsImages g.D.Disk.images g.D.Disk.moment g.D.Disk.images_since arm.args.disk.now d)
    (sym (arm.serve_demo.ensures.unwritten adds.history (demo_begins g arm adds.history adds.starts) adds.few))
    (opening_leaves (job_of arm.args.words.now) contents (g.D.Disk.contents arm.open.new.disk) left (KeepsImages g.D.Disk.images g.D.Disk.moment g.D.Disk.images_since arm.args.disk.now arm.open.new.disk) arm.open.ensures.kept arm.open.ensures.images leaves)

pub returns-in-Demo-clause-any_moment : goal.returns-in-Demo-clause-any_moment
returns-in-Demo-clause-any_moment g c history text images starts =
    let arm = (goal.at.returns-in-Demo-clause-any_moment g c).After-serve_demo in
    let begins = demo_begins g arm history (demo_reads g arm history text starts) in
    let front = StandsForFront history (served_demo history arm.in-Demo.number).turns in
    subst (λ j. LeavesOnly g.D.Disk.moment g.D.Disk.images_since arm.args.disk.now arm.serve_demo.new.disk (StandsForFront history (outcome j history text).turns)) (sym (demo_is g arm))
    (joined g.D.Disk.moment g.D.Disk.images_since arm.args.disk.now arm.open.new.disk arm.serve_demo.new.disk front
    (leaves_weaker g.D.Disk.moment g.D.Disk.images_since arm.args.disk.now arm.open.new.disk (λ image. StandsFor image history) front (front_at_start (Demo arm.in-Demo.number) history text) (arm.open.ensures.any_moment history images))
    (arm.serve_demo.ensures.any_moment history begins (demo_stored g arm history begins)))

pub returns-in-Demo-clause-acknowledged : goal.returns-in-Demo-clause-acknowledged
returns-in-Demo-clause-acknowledged g c history text before bytes images starts wrote writes image now =
    let arm = (goal.at.returns-in-Demo-clause-acknowledged g c).After-serve_demo in
    let begins = demo_begins g arm history (demo_reads g arm history text starts) in
    subst (λ j. StandsForTold history (outcome j history text).turns bytes image) (sym (demo_is g arm))
    (arm.serve_demo.ensures.acknowledged history before bytes begins (demo_stored g arm history begins) wrote writes image now)

pub returns-in-Demo-clause-stored_first : goal.returns-in-Demo-clause-stored_first
returns-in-Demo-clause-stored_first g c history text before bytes images starts first wrote writes some image now =
    let arm = (goal.at.returns-in-Demo-clause-stored_first g c).After-serve_demo in
    let begins = demo_begins g arm history (demo_reads g arm history text starts) in
    subst (λ j. StandsFor image (history_after history (outcome j history text).turns)) (sym (demo_is g arm))
    (arm.serve_demo.ensures.stored_first history before bytes begins (demo_stored g arm history begins) wrote writes some image now)

pub returns-in-Demo-clause-unwritten : goal.returns-in-Demo-clause-unwritten
returns-in-Demo-clause-unwritten g c unless = absurd (false≢true (sym unless ∙ ap writes_trees (demo_is g (goal.at.returns-in-Demo-clause-unwritten g c).After-serve_demo)))

pub returns-in-Demo-clause-untouched : goal.returns-in-Demo-clause-untouched
returns-in-Demo-clause-untouched g c unless = absurd (false≢true (sym unless ∙ ap opens_disk (demo_is g (goal.at.returns-in-Demo-clause-untouched g c).After-serve_demo)))

pub returns-in-Demo-clause-unopened : goal.returns-in-Demo-clause-unopened
returns-in-Demo-clause-unopened g c all opens tells = absurd (not_unopened (g.D.Disk.contents c.args.disk.now) all c.in-Ok.ensures.no_store c.in-Ok.ensures.damage tells)

abbrev demo_old : (g : Over) → After-serve_demo g → Counts
demo_old g c = counts (g.S.Source.faults c.args.script.now) (g.K.Sink.faults c.args.out.now) (g.D.Disk.faults c.args.disk.now) (g.T.Trees.faults c.args.trees.now) (g.S.Source.given c.args.script.now) (g.S.Source.ends c.args.script.now)

abbrev demo_new : (g : Over) → After-serve_demo g → Counts
demo_new g c = counts (g.S.Source.faults c.args.script.now) (g.K.Sink.faults c.serve_demo.new.out) (g.D.Disk.faults c.serve_demo.new.disk) (g.T.Trees.faults c.serve_demo.new.trees) (g.S.Source.given c.args.script.now) (g.S.Source.ends c.args.script.now)

pub returns-in-Demo-clause-cause : goal.returns-in-Demo-clause-cause
returns-in-Demo-clause-cause g c =
    let arm = (goal.at.returns-in-Demo-clause-cause g c).After-serve_demo in
    let contents = g.D.Disk.contents arm.args.disk.now in
    subst (λ j. IsCaused j contents (g.S.Source.left arm.args.script.now) (demo_old g arm) (demo_new g arm) arm.serve_demo.result) (sym (demo_is g arm))
    (demo_caused arm.in-Demo.number contents (g.S.Source.left arm.args.script.now) (demo_old g arm) (demo_new g arm) arm.serve_demo.result (a_store contents arm.in-Ok.server.state.history arm.in-Ok.ensures.opened) (demo_stops g arm))

pub returns-in-Demo-clause-complete : goal.returns-in-Demo-clause-complete
returns-in-Demo-clause-complete g c all comes short none =
    let arm = (goal.at.returns-in-Demo-clause-complete g c).After-serve_demo in
    let s = demo_serves g arm all comes in
    subst (λ o. (arm.serve_demo.result ≡ o.status) ⊎ (arm.serve_demo.result ≡ NoMemory)) (sym s.is)
    (demo_unless arm.in-Demo.number s.history (demo_old g arm) (demo_new g arm) arm.serve_demo.result (demo_stops g arm)
    (subst (λ j. NoneRose j (served_demo s.history arm.in-Demo.number) (demo_old g arm) (demo_new g arm)) (demo_is g arm) (subst (λ o. NoneRose (job_of arm.args.words.now) o (demo_old g arm) (demo_new g arm)) s.is none)))

-- a store isn't opened: its job, why it isn't, and what is told of it
opening_is : (g : Over) (c : After-tell_fault g) → job_of c.args.words.now ≡ OnStore c.in-Ok-OnStore.job
opening_is g c = sym c.in-Ok-OnStore.ensures.job ∙ c.in-Ok-OnStore.field-0-is

opening_fails : (g : Over) (c : After-tell_fault g) → Fails (g.D.Disk.contents c.args.disk.now) (g.D.Disk.faults c.args.disk.now) (g.D.Disk.faults c.open.new.disk) c.in-Err-open.fault
opening_fails g c = record { stands = c.in-Err-open.ensures.stands; damage = c.in-Err-open.ensures.damage; no_store = c.in-Err-open.ensures.no_store }

opening_told : (g : Over) (c : After-tell_fault g) (all : JobOutcome) → ComesTo (job_of c.args.words.now) (g.D.Disk.contents c.args.disk.now) (g.S.Source.left c.args.script.now) all
    → Fell c.in-Ok-OnStore.job all (g.K.Sink.faults c.args.out.now) (g.K.Sink.faults c.tell_fault.new.out) (g.D.Disk.faults c.args.disk.now) (g.D.Disk.faults c.open.new.disk)
    (g.K.Sink.written c.args.out.now) (g.K.Sink.written c.tell_fault.new.out) c.tell_fault.result
opening_told g c all comes =
    let contents = g.D.Disk.contents c.args.disk.now in
    let left = g.S.Source.left c.args.script.now in
    failed c.in-Ok-OnStore.job contents left all (g.K.Sink.faults c.args.out.now) (g.K.Sink.faults c.tell_fault.new.out) (g.D.Disk.faults c.args.disk.now) (g.D.Disk.faults c.open.new.disk)
    (g.K.Sink.written c.args.out.now) (g.K.Sink.written c.tell_fault.new.out) c.tell_fault.result c.in-Err-open.fault (opening_fails g c) c.tell_fault.ensures.told
    (subst (λ j. ComesTo j contents left all) (opening_is g c) comes)

-- over a disk that stands for a history, the run is cut short, and nothing is written
opening_cut : (g : Over) (c : After-tell_fault g) (history : List Command) (text : List ℕ)
    → StartsFrom (job_of c.args.words.now) (g.D.Disk.contents c.args.disk.now) (g.S.Source.left c.args.script.now) history text
    → IsCut (g.K.Sink.faults c.args.out.now) (g.K.Sink.faults c.tell_fault.new.out) (g.D.Disk.faults c.args.disk.now) (g.D.Disk.faults c.open.new.disk) c.tell_fault.result
    × (g.K.Sink.written c.tell_fault.new.out ≡ g.K.Sink.written c.args.out.now)
opening_cut g c history text starts =
    let contents = g.D.Disk.contents c.args.disk.now in
    let left = g.S.Source.left c.args.script.now in
    fails_stops (outcome (OnStore c.in-Ok-OnStore.job) history text) (g.K.Sink.faults c.args.out.now) (g.K.Sink.faults c.tell_fault.new.out) (g.D.Disk.faults c.args.disk.now) (g.D.Disk.faults c.open.new.disk)
    (g.K.Sink.written c.args.out.now) (g.K.Sink.written c.tell_fault.new.out) c.tell_fault.result c.in-Err-open.fault c.tell_fault.ensures.told contents history (opening_fails g c)
    (reads_of c.in-Ok-OnStore.job contents left history text (subst (λ j. StartsFrom j contents left history text) (opening_is g c) starts))

pub returns-in-Err-open-clause-ends : goal.returns-in-Err-open-clause-ends
returns-in-Err-open-clause-ends g c all comes = failed_ends (g.S.Source.left c.args.script.now) (opening_told g (goal.at.returns-in-Err-open-clause-ends g c).After-tell_fault all comes)

pub returns-in-Err-open-clause-front : goal.returns-in-Err-open-clause-front
returns-in-Err-open-clause-front g c all before comes wrote = failed_front before wrote (opening_told g (goal.at.returns-in-Err-open-clause-front g c).After-tell_fault all comes)

pub returns-in-Err-open-clause-whole : goal.returns-in-Err-open-clause-whole
returns-in-Err-open-clause-whole g c all before comes wrote = failed_whole before wrote (opening_told g (goal.at.returns-in-Err-open-clause-whole g c).After-tell_fault all comes)

pub returns-in-Err-open-clause-rows : goal.returns-in-Err-open-clause-rows
returns-in-Err-open-clause-rows g c all before comes grew = none_written before (rows_of all.turns) (g.T.Trees.rows c.args.trees.now) grew

pub returns-in-Err-open-clause-rows_whole : goal.returns-in-Err-open-clause-rows_whole
returns-in-Err-open-clause-rows_whole g c all before comes grew =
    failed_rows before (g.T.Trees.rows c.args.trees.now) grew (opening_told g (goal.at.returns-in-Err-open-clause-rows_whole g c).After-tell_fault all comes)

pub returns-in-Err-open-clause-rows_first : goal.returns-in-Err-open-clause-rows_first
returns-in-Err-open-clause-rows_first g c all before rows comes wrote grew =
    failed_rows_first before rows (g.T.Trees.rows c.args.trees.now) wrote grew (opening_told g (goal.at.returns-in-Err-open-clause-rows_first g c).After-tell_fault all comes)

pub returns-in-Err-open-clause-stands : goal.returns-in-Err-open-clause-stands
returns-in-Err-open-clause-stands g c history text reads starts settled =
    let arm = (goal.at.returns-in-Err-open-clause-stands g c).After-tell_fault in
    let stop = opening_cut g arm history text starts in
    let after = g.D.Disk.contents arm.open.new.disk in
    subst (λ j. IfSome after (λ image. StandsFor image (history_after history (outcome j history text).turns))) (sym (opening_is g arm))
    (stopped_stands arm.in-Ok-OnStore.job history text after (g.K.Sink.faults arm.args.out.now) (g.K.Sink.faults arm.tell_fault.new.out) (g.D.Disk.faults arm.args.disk.now) (g.D.Disk.faults arm.open.new.disk) arm.tell_fault.result stop.0
    (reads_gives (g.D.Disk.contents arm.args.disk.now) history (IfSome after (λ image. StandsFor image history)) reads (arm.open.ensures.stays history))
    (subst (λ j. IsSettled j arm.tell_fault.result) (opening_is g arm) settled))

pub returns-in-Err-open-clause-kept : goal.returns-in-Err-open-clause-kept
returns-in-Err-open-clause-kept g c leaves =
    opening_leaves (job_of c.args.words.now) (g.D.Disk.contents c.args.disk.now) (g.D.Disk.contents c.open.new.disk) (g.S.Source.left c.args.script.now)
    (KeepsImages g.D.Disk.images g.D.Disk.moment g.D.Disk.images_since c.args.disk.now c.open.new.disk) c.open.ensures.kept c.open.ensures.images leaves

pub returns-in-Err-open-clause-any_moment : goal.returns-in-Err-open-clause-any_moment
returns-in-Err-open-clause-any_moment g c history text images starts =
    let arm = (goal.at.returns-in-Err-open-clause-any_moment g c).After-tell_fault in
    subst (λ j. LeavesOnly g.D.Disk.moment g.D.Disk.images_since arm.args.disk.now arm.open.new.disk (StandsForFront history (outcome j history text).turns)) (sym (opening_is g arm))
    (leaves_weaker g.D.Disk.moment g.D.Disk.images_since arm.args.disk.now arm.open.new.disk (λ image. StandsFor image history) (StandsForFront history (outcome (OnStore arm.in-Ok-OnStore.job) history text).turns)
    (front_at_start arm.in-Ok-OnStore.job history text) (arm.open.ensures.any_moment history images))

pub returns-in-Err-open-clause-acknowledged : goal.returns-in-Err-open-clause-acknowledged
returns-in-Err-open-clause-acknowledged g c history text before bytes images starts wrote writes image now =
    let arm = (goal.at.returns-in-Err-open-clause-acknowledged g c).After-tell_fault in
    let stop = opening_cut g arm history text starts in
    let run = arm.open.ensures.any_moment history images in
    let stands = run.each image (g.met.D.Disk.counts_now arm.open.new.disk (g.D.Disk.moment arm.args.disk.now) image run.later now) in
    subst (λ j. StandsForTold history (outcome j history text).turns bytes image) (sym (opening_is g arm))
    (subst (λ b. StandsForTold history (outcome (OnStore arm.in-Ok-OnStore.job) history text).turns b image)
    (sym (none_more before bytes (g.K.Sink.written arm.args.out.now) (g.K.Sink.written arm.tell_fault.new.out) stop.1 wrote writes))
    (told_at_start arm.in-Ok-OnStore.job history text image stands))

pub returns-in-Err-open-clause-stored_first : goal.returns-in-Err-open-clause-stored_first
returns-in-Err-open-clause-stored_first g c history text before bytes images starts first wrote writes some image now =
    let arm = (goal.at.returns-in-Err-open-clause-stored_first g c).After-tell_fault in
    let stop = opening_cut g arm history text starts in
    absurd (omega (arith, some, ap length (none_more before bytes (g.K.Sink.written arm.args.out.now) (g.K.Sink.written arm.tell_fault.new.out) stop.1 wrote writes)))

pub returns-in-Err-open-clause-untouched : goal.returns-in-Err-open-clause-untouched
returns-in-Err-open-clause-untouched g c unless = absurd (false≢true (sym unless ∙ ap opens_disk (opening_is g (goal.at.returns-in-Err-open-clause-untouched g c).After-tell_fault)))

pub returns-in-Err-open-clause-cause : goal.returns-in-Err-open-clause-cause
returns-in-Err-open-clause-cause g c =
    let arm = (goal.at.returns-in-Err-open-clause-cause g c).After-tell_fault in
    let contents = g.D.Disk.contents c.args.disk.now in
    let old = (counts (g.S.Source.faults c.args.script.now) (g.K.Sink.faults c.args.out.now) (g.D.Disk.faults c.args.disk.now) (g.T.Trees.faults c.args.trees.now) (g.S.Source.given c.args.script.now) (g.S.Source.ends c.args.script.now)) in
    let new = (counts (g.S.Source.faults c.args.script.now) (g.K.Sink.faults c.tell_fault.new.out) (g.D.Disk.faults c.open.new.disk) (g.T.Trees.faults c.args.trees.now) (g.S.Source.given c.args.script.now) (g.S.Source.ends c.args.script.now)) in
    subst (λ j. IsCaused j contents (g.S.Source.left c.args.script.now) old new c.tell_fault.result) (sym (opening_is g arm))
    (fault_caused c.in-Ok-OnStore.job contents (g.S.Source.left c.args.script.now) old new (g.K.Sink.written c.args.out.now) (g.K.Sink.written c.tell_fault.new.out) c.tell_fault.result c.in-Err-open.fault c.in-Err-open.ensures.faulty c.in-Err-open.ensures.cause c.tell_fault.ensures.told)

pub returns-in-Err-open-clause-complete : goal.returns-in-Err-open-clause-complete
returns-in-Err-open-clause-complete g c all comes short none =
    let arm = (goal.at.returns-in-Err-open-clause-complete g c).After-tell_fault in
    failed_unless none.sink (λ rose. none.disk (ap opens_disk (opening_is g arm)) rose) (opening_told g arm all comes)

-- words of no form: their job, and the line that is told
unknown_is : (g : Over) (c : After-put_last g) → job_of c.args.words.now ≡ Unknown
unknown_is g c = sym c.in-Ok-Unknown.ensures.job ∙ c.in-Ok-Unknown.field-0-is

unknown_comes : (g : Over) (c : After-put_last g) (all : JobOutcome) → ComesTo (job_of c.args.words.now) (g.D.Disk.contents c.args.disk.now) (g.S.Source.left c.args.script.now) all
    → ComesTo Unknown (g.D.Disk.contents c.args.disk.now) (g.S.Source.left c.args.script.now) all
unknown_comes g c all comes = subst (λ j. ComesTo j (g.D.Disk.contents c.args.disk.now) (g.S.Source.left c.args.script.now) all) (unknown_is g c) comes

unknown_told : (g : Over) (c : After-put_last g) (all : JobOutcome) → ComesTo (job_of c.args.words.now) (g.D.Disk.contents c.args.disk.now) (g.S.Source.left c.args.script.now) all
    → Tells all (g.K.Sink.faults c.args.out.now) (g.K.Sink.faults c.put_last.new.out) (g.D.Disk.faults c.args.disk.now) (g.D.Disk.faults c.args.disk.now)
    (g.K.Sink.written c.args.out.now) (g.K.Sink.written c.put_last.new.out) c.put_last.result
unknown_told g c all comes =
    usage_tells (g.D.Disk.contents c.args.disk.now) (g.S.Source.left c.args.script.now) (g.D.Disk.faults c.args.disk.now) (g.D.Disk.faults c.args.disk.now) (unknown_comes g c all comes) c.put_last.ensures.puts

pub returns-in-Ok-Unknown-clause-ends : goal.returns-in-Ok-Unknown-clause-ends
returns-in-Ok-Unknown-clause-ends g c all comes = tells_ends (unknown_told g (goal.at.returns-in-Ok-Unknown-clause-ends g c).After-put_last all comes) (g.S.Source.left c.args.script.now)

pub returns-in-Ok-Unknown-clause-front : goal.returns-in-Ok-Unknown-clause-front
returns-in-Ok-Unknown-clause-front g c all before comes wrote = tells_front (unknown_told g (goal.at.returns-in-Ok-Unknown-clause-front g c).After-put_last all comes) before wrote

pub returns-in-Ok-Unknown-clause-whole : goal.returns-in-Ok-Unknown-clause-whole
returns-in-Ok-Unknown-clause-whole g c all before comes wrote = tells_whole (unknown_told g (goal.at.returns-in-Ok-Unknown-clause-whole g c).After-put_last all comes) before wrote

pub returns-in-Ok-Unknown-clause-rows : goal.returns-in-Ok-Unknown-clause-rows
returns-in-Ok-Unknown-clause-rows g c all before comes grew = none_written before (rows_of all.turns) (g.T.Trees.rows c.args.trees.now) grew

pub returns-in-Ok-Unknown-clause-rows_whole : goal.returns-in-Ok-Unknown-clause-rows_whole
returns-in-Ok-Unknown-clause-rows_whole g c all before comes grew =
    tells_rows (unknown_told g (goal.at.returns-in-Ok-Unknown-clause-rows_whole g c).After-put_last all comes) before (g.T.Trees.rows c.args.trees.now) grew

pub returns-in-Ok-Unknown-clause-rows_first : goal.returns-in-Ok-Unknown-clause-rows_first
returns-in-Ok-Unknown-clause-rows_first g c all before rows comes wrote grew =
    tells_rows_first (unknown_told g (goal.at.returns-in-Ok-Unknown-clause-rows_first g c).After-put_last all comes) before rows (g.T.Trees.rows c.args.trees.now) wrote grew

pub returns-in-Ok-Unknown-clause-stands : goal.returns-in-Ok-Unknown-clause-stands
returns-in-Ok-Unknown-clause-stands g c history text reads starts settled =
    let contents = g.D.Disk.contents c.args.disk.now in
    subst (λ j. IfSome contents (λ image. StandsFor image (history_after history (outcome j history text).turns))) (sym (unknown_is g (goal.at.returns-in-Ok-Unknown-clause-stands g c).After-put_last))
    (reads_as contents history reads)

pub returns-in-Ok-Unknown-clause-kept : goal.returns-in-Ok-Unknown-clause-kept
returns-in-Ok-Unknown-clause-kept g c leaves =
    (refl, uncalled g.D.Disk.images g.D.Disk.moment g.D.Disk.images_since c.args.disk.now (g.met.D.Disk.only_now c.args.disk.now))

pub returns-in-Ok-Unknown-clause-any_moment : goal.returns-in-Ok-Unknown-clause-any_moment
returns-in-Ok-Unknown-clause-any_moment g c history text images starts =
    subst (λ j. LeavesOnly g.D.Disk.moment g.D.Disk.images_since c.args.disk.now c.args.disk.now (StandsForFront history (outcome j history text).turns)) (sym (unknown_is g (goal.at.returns-in-Ok-Unknown-clause-any_moment g c).After-put_last))
    (started g.D.Disk.moment g.D.Disk.images_since c.args.disk.now (StandsForFront history (outcome Unknown history text).turns)
    (λ image since. front_stands_told Usage usage_line history image (images image (g.met.D.Disk.only_now c.args.disk.now image since))))

pub returns-in-Ok-Unknown-clause-acknowledged : goal.returns-in-Ok-Unknown-clause-acknowledged
returns-in-Ok-Unknown-clause-acknowledged g c history text before bytes images starts wrote writes image now =
    subst (λ j. StandsForTold history (outcome j history text).turns bytes image) (sym (unknown_is g (goal.at.returns-in-Ok-Unknown-clause-acknowledged g c).After-put_last))
    (told_stands_told Usage usage_line history bytes image (images image now))

pub returns-in-Ok-Unknown-clause-stored_first : goal.returns-in-Ok-Unknown-clause-stored_first
returns-in-Ok-Unknown-clause-stored_first g c history text before bytes images starts first wrote writes some image now =
    subst (λ j. StandsFor image (history_after history (outcome j history text).turns)) (sym (unknown_is g (goal.at.returns-in-Ok-Unknown-clause-stored_first g c).After-put_last))
    (images image now)

pub returns-in-Ok-Unknown-clause-cause : goal.returns-in-Ok-Unknown-clause-cause
returns-in-Ok-Unknown-clause-cause g c =
    let arm = (goal.at.returns-in-Ok-Unknown-clause-cause g c).After-put_last in
    let contents = g.D.Disk.contents c.args.disk.now in
    let old = (counts (g.S.Source.faults c.args.script.now) (g.K.Sink.faults c.args.out.now) (g.D.Disk.faults c.args.disk.now) (g.T.Trees.faults c.args.trees.now) (g.S.Source.given c.args.script.now) (g.S.Source.ends c.args.script.now)) in
    let new = (counts (g.S.Source.faults c.args.script.now) (g.K.Sink.faults c.put_last.new.out) (g.D.Disk.faults c.args.disk.now) (g.T.Trees.faults c.args.trees.now) (g.S.Source.given c.args.script.now) (g.S.Source.ends c.args.script.now)) in
    subst (λ j. IsCaused j contents (g.S.Source.left c.args.script.now) old new c.put_last.result) (sym (unknown_is g arm))
    (line_caused Unknown contents (g.S.Source.left c.args.script.now) old new Usage c.put_last.result refl c.put_last.ensures.puts.ends)

pub returns-in-Ok-Unknown-clause-complete : goal.returns-in-Ok-Unknown-clause-complete
returns-in-Ok-Unknown-clause-complete g c all comes short none =
    let arm = (goal.at.returns-in-Ok-Unknown-clause-complete g c).After-put_last in
    subst (λ w. (c.put_last.result ≡ w) ⊎ (c.put_last.result ≡ NoMemory))
    (sym (usage_is (g.D.Disk.contents c.args.disk.now) (g.S.Source.left c.args.script.now) all (unknown_comes g arm all comes)))
    (line_unless Usage (g.K.Sink.faults c.args.out.now) (g.K.Sink.faults c.put_last.new.out) c.put_last.result c.put_last.ensures.puts.ends none.sink)

-- a conditional text is added: its job, what that begins with, and why it ends
import_is : (g : Over) (c : After-drop-path-inside g) → job_of c.args.words.now ≡ OnStore (Import c.in-Import.path)
import_is g c = sym c.in-Ok-OnStore.ensures.job ∙ c.in-Ok-OnStore.field-0-is ∙ ap OnStore c.in-Import.is

import_starts : (g : Over) (c : After-drop-path-inside g) (history : List Command) (text : List ℕ)
    → StartsFrom (job_of c.args.words.now) (g.D.Disk.contents c.args.disk.now) (g.S.Source.left c.args.script.now) history text
    → StartsFrom (OnStore (Import c.in-Import.path)) (g.D.Disk.contents c.args.disk.now) (g.S.Source.left c.args.script.now) history text
import_starts g c history text starts = subst (λ j. StartsFrom j (g.D.Disk.contents c.args.disk.now) (g.S.Source.left c.args.script.now) history text) (import_is g c) starts

import_takes : (g : Over) (c : After-drop-path-inside g) (all : JobOutcome) → ComesTo (job_of c.args.words.now) (g.D.Disk.contents c.args.disk.now) (g.S.Source.left c.args.script.now) all
    → TakesIn (g.D.Disk.contents c.args.disk.now) (g.S.Source.left c.args.script.now) c.in-Import.path all
import_takes g c all comes =
    let contents = g.D.Disk.contents c.args.disk.now in
    let left = g.S.Source.left c.args.script.now in
    takes_in c.in-Import.path contents left all (subst (λ j. ComesTo j contents left all) (import_is g c) comes) (not_unopened contents all c.in-Ok.ensures.no_store c.in-Ok.ensures.damage)

import_begins : (g : Over) (c : After-drop-path-inside g) (history : List Command) → ReadsAs (g.D.Disk.contents c.args.disk.now) history → c.in-Ok.server.state ≡ starting history
import_begins g c history reads = reads_gives (g.D.Disk.contents c.args.disk.now) history (c.in-Ok.server.state ≡ starting history) reads (c.in-Ok.ensures.stands history)

import_stored : (g : Over) (c : After-drop-path-inside g) (history : List Command) → c.in-Ok.server.state ≡ starting history → AreAll (λ image. IsStored image history) (g.D.Disk.images c.open.new.disk)
import_stored g c history begins image now = subst (λ (h : List Command). IsStored image h) (ap (λ (s : State). s.history) begins) (c.in-Ok.ensures.stored image now)

abbrev import_old : (g : Over) → After-drop-path-inside g → Counts
import_old g c = counts (g.S.Source.faults c.args.script.now) (g.K.Sink.faults c.args.out.now) (g.D.Disk.faults c.args.disk.now) (g.T.Trees.faults c.args.trees.now) (g.S.Source.given c.args.script.now) (g.S.Source.ends c.args.script.now)

abbrev import_new : (g : Over) → After-drop-path-inside g → Counts
import_new g c = counts (g.S.Source.faults c.serve_import.new.script) (g.K.Sink.faults c.serve_import.new.out) (g.D.Disk.faults c.serve_import.new.disk) (g.T.Trees.faults c.args.trees.now) (g.S.Source.given c.serve_import.new.script) (g.S.Source.ends c.serve_import.new.script)

import_stops : (g : Over) (c : After-drop-path-inside g) → StopsServing (import_old g c) (import_new g c) c.serve_import.result
import_stops g c =
    serving_later (g.S.Source.faults c.args.script.now) (g.K.Sink.faults c.args.out.now) (g.D.Disk.faults c.args.disk.now) (g.T.Trees.faults c.args.trees.now) (g.S.Source.given c.args.script.now) (g.S.Source.ends c.args.script.now)
    (g.D.Disk.faults c.open.new.disk) (import_new g c) c.serve_import.result c.open.ensures.later (c.serve_import.ensures.stopped (g.T.Trees.faults c.args.trees.now))

import_treeless : (g : Over) (c : After-drop-path-inside g) → c.serve_import.result ≡ TreesFault → ⊥
import_treeless g c =
    treeless (g.S.Source.faults c.args.script.now) (g.S.Source.faults c.serve_import.new.script) (g.K.Sink.faults c.args.out.now) (g.K.Sink.faults c.serve_import.new.out) (g.D.Disk.faults c.open.new.disk) (g.D.Disk.faults c.serve_import.new.disk)
    (g.S.Source.given c.args.script.now) (g.S.Source.given c.serve_import.new.script) (g.S.Source.ends c.args.script.now) (g.S.Source.ends c.serve_import.new.script) c.serve_import.result (c.serve_import.ensures.stopped 0)

-- what holds where all commits were added, or one line told why the text isn't taken in
import_end : (g : Over) (c : After-drop-path-inside g) (Q : Bool → Type 0) (P : Type 0) → OnServed c.serve_import.result Q
    → ((refused : Bool) → c.serve_import.result ≡ served_status refused → Q refused → P) → OnEnd c.serve_import.result P
import_end g c Q P served to = served_end (import_old g c) (import_new g c) c.serve_import.result Q P (import_stops g c) served to

pub returns-in-Import-clause-ends : goal.returns-in-Import-clause-ends
returns-in-Import-clause-ends g c all comes =
    let arm = (goal.at.returns-in-Import-clause-ends g c).After-drop-path-inside in
    let s = import_takes g arm all comes in
    let status = arm.serve_import.result in
    let unread = g.S.Source.left arm.serve_import.new.script in
    let path = arm.in-Import.path in
    import_end g arm (λ refused. ((served_import s.history path s.text).status ≡ served_status refused) × (unread ≡ Some [])) (EndsAs all status unread)
    (arm.serve_import.ensures.ended s.history s.text (import_begins g arm s.history s.reads) s.left_is)
    (λ refused same e. subst (λ o. EndsAs o status unread) (sym s.is)
    (record { status_is = same ∙ sym e.0; read = subst (λ r. IsReadOut r unread) (sym (import_reads s.history (taken_in s.history path s.text))) e.1 }))

pub returns-in-Import-clause-front : goal.returns-in-Import-clause-front
returns-in-Import-clause-front g c all before comes wrote =
    let arm = (goal.at.returns-in-Import-clause-front g c).After-drop-path-inside in
    let s = import_takes g arm all comes in
    subst (λ o. WritesFront before (replies o.turns) (g.K.Sink.written arm.serve_import.new.out)) (sym s.is)
    (arm.serve_import.ensures.front s.history s.text before (import_begins g arm s.history s.reads) s.left_is wrote)

pub returns-in-Import-clause-whole : goal.returns-in-Import-clause-whole
returns-in-Import-clause-whole g c all before comes wrote =
    let arm = (goal.at.returns-in-Import-clause-whole g c).After-drop-path-inside in
    let s = import_takes g arm all comes in
    let written = g.K.Sink.written arm.serve_import.new.out in
    let told = replies (served_import s.history arm.in-Import.path s.text).turns in
    import_end g arm (λ refused. written ≡ Some (before ++ told)) (written ≡ Some (before ++ replies all.turns))
    (arm.serve_import.ensures.whole s.history s.text before (import_begins g arm s.history s.reads) s.left_is wrote)
    (λ refused same e. subst (λ o. written ≡ Some (before ++ replies o.turns)) (sym s.is) e)

pub returns-in-Import-clause-rows : goal.returns-in-Import-clause-rows
returns-in-Import-clause-rows g c all before comes grew = none_written before (rows_of all.turns) (g.T.Trees.rows c.args.trees.now) grew

pub returns-in-Import-clause-rows_whole : goal.returns-in-Import-clause-rows_whole
returns-in-Import-clause-rows_whole g c all before comes grew =
    let arm = (goal.at.returns-in-Import-clause-rows_whole g c).After-drop-path-inside in
    let s = import_takes g arm all comes in
    let grown = g.T.Trees.rows arm.args.trees.now in
    on_any_end arm.serve_import.result (grown ≡ Some (before ++ rows_of all.turns))
    (subst (λ o. grown ≡ Some (before ++ rows_of o.turns)) (sym s.is)
    (grew ∙ ap Some (sym (append-nil before) ∙ ap (λ rs. before ++ rs) (sym (import_rows s.history (taken_in s.history arm.in-Import.path s.text))))))

pub returns-in-Import-clause-rows_first : goal.returns-in-Import-clause-rows_first
returns-in-Import-clause-rows_first g c all before rows comes wrote grew =
    let arm = (goal.at.returns-in-Import-clause-rows_first g c).After-drop-path-inside in
    let s = import_takes g arm all comes in
    let written = g.K.Sink.written arm.serve_import.new.out in
    let grown = g.T.Trees.rows arm.args.trees.now in
    subst (λ o. RowsPrecede o.turns before rows written grown) (sym s.is)
    (import_precedes s.history (taken_in s.history arm.in-Import.path s.text) before rows written grown
    (arm.serve_import.ensures.front s.history s.text before (import_begins g arm s.history s.reads) s.left_is wrote) grew)

pub returns-in-Import-clause-stands : goal.returns-in-Import-clause-stands
returns-in-Import-clause-stands g c history text reads starts settled =
    let arm = (goal.at.returns-in-Import-clause-stands g c).After-drop-path-inside in
    let of = import_starts g arm history text starts in
    let begins = import_begins g arm history of.0 in
    let after = g.D.Disk.contents arm.serve_import.new.disk in
    let last = history_after history (served_import history arm.in-Import.path text).turns in
    subst (λ j. IfSome after (λ image. StandsFor image (history_after history (outcome j history text).turns))) (sym (import_is g arm))
    (served_on arm.serve_import.result (IfSome after (λ image. StandsFor image last))
    (arm.serve_import.ensures.stands history text begins of.1 (subst (λ (h : List Command). IfSome (g.D.Disk.contents arm.open.new.disk) (λ image. IsStored image h)) (ap (λ (s : State). s.history) begins) arm.in-Ok.ensures.written))
    (subst (λ j. IsSettled j arm.serve_import.result) (import_is g arm) settled))

pub returns-in-Import-clause-kept : goal.returns-in-Import-clause-kept
returns-in-Import-clause-kept g c leaves =
    let arm = (goal.at.returns-in-Import-clause-kept g c).After-drop-path-inside in
    let contents = g.D.Disk.contents arm.args.disk.now in
    let left = g.S.Source.left arm.args.script.now in
    let adds = opened_adds (OnStore (Import arm.in-Import.path)) contents left arm.in-Ok.ensures.no_store arm.in-Ok.ensures.damage (subst (λ j. LeavesDisk j contents left) (import_is g arm) leaves) in
    subst (λ d. (g.D.Disk.contents d ≡ contents) × KeepsImages g.D.Disk.images g.D.Disk.moment g.D.Disk.images_since arm.args.disk.now d)
    (sym (arm.serve_import.ensures.unwritten adds.history adds.text (import_begins g arm adds.history adds.starts.0) adds.starts.1 adds.few))
    (opening_leaves (job_of arm.args.words.now) contents (g.D.Disk.contents arm.open.new.disk) left (KeepsImages g.D.Disk.images g.D.Disk.moment g.D.Disk.images_since arm.args.disk.now arm.open.new.disk) arm.open.ensures.kept arm.open.ensures.images leaves)

pub returns-in-Import-clause-any_moment : goal.returns-in-Import-clause-any_moment
returns-in-Import-clause-any_moment g c history text images starts =
    let arm = (goal.at.returns-in-Import-clause-any_moment g c).After-drop-path-inside in
    let of = import_starts g arm history text starts in
    let begins = import_begins g arm history of.0 in
    let front = StandsForFront history (served_import history arm.in-Import.path text).turns in
    subst (λ j. LeavesOnly g.D.Disk.moment g.D.Disk.images_since arm.args.disk.now arm.serve_import.new.disk (StandsForFront history (outcome j history text).turns)) (sym (import_is g arm))
    (joined g.D.Disk.moment g.D.Disk.images_since arm.args.disk.now arm.open.new.disk arm.serve_import.new.disk front
    (leaves_weaker g.D.Disk.moment g.D.Disk.images_since arm.args.disk.now arm.open.new.disk (λ image. StandsFor image history) front (front_at_start (Import arm.in-Import.path) history text) (arm.open.ensures.any_moment history images))
    (arm.serve_import.ensures.any_moment history text begins of.1 (import_stored g arm history begins)))

pub returns-in-Import-clause-acknowledged : goal.returns-in-Import-clause-acknowledged
returns-in-Import-clause-acknowledged g c history text before bytes images starts wrote writes image now =
    let arm = (goal.at.returns-in-Import-clause-acknowledged g c).After-drop-path-inside in
    let of = import_starts g arm history text starts in
    let begins = import_begins g arm history of.0 in
    subst (λ j. StandsForTold history (outcome j history text).turns bytes image) (sym (import_is g arm))
    (arm.serve_import.ensures.acknowledged history text before bytes begins of.1 (import_stored g arm history begins) wrote writes image now)

pub returns-in-Import-clause-stored_first : goal.returns-in-Import-clause-stored_first
returns-in-Import-clause-stored_first g c history text before bytes images starts first wrote writes some image now =
    absurd (false≢true (sym (ap stores_first (import_is g (goal.at.returns-in-Import-clause-stored_first g c).After-drop-path-inside)) ∙ first))

pub returns-in-Import-clause-unread : goal.returns-in-Import-clause-unread
returns-in-Import-clause-unread g c unless = absurd (false≢true (sym unless ∙ ap reads_source (import_is g (goal.at.returns-in-Import-clause-unread g c).After-drop-path-inside)))

pub returns-in-Import-clause-untouched : goal.returns-in-Import-clause-untouched
returns-in-Import-clause-untouched g c unless = absurd (false≢true (sym unless ∙ ap opens_disk (import_is g (goal.at.returns-in-Import-clause-untouched g c).After-drop-path-inside)))

pub returns-in-Import-clause-unopened : goal.returns-in-Import-clause-unopened
returns-in-Import-clause-unopened g c all opens tells = absurd (not_unopened (g.D.Disk.contents c.args.disk.now) all c.in-Ok.ensures.no_store c.in-Ok.ensures.damage tells)

pub returns-in-Import-clause-cause : goal.returns-in-Import-clause-cause
returns-in-Import-clause-cause g c =
    let arm = (goal.at.returns-in-Import-clause-cause g c).After-drop-path-inside in
    let contents = g.D.Disk.contents arm.args.disk.now in
    subst (λ j. IsCaused j contents (g.S.Source.left arm.args.script.now) (import_old g arm) (import_new g arm) arm.serve_import.result) (sym (import_is g arm))
    (import_caused (import_old g arm) (import_new g arm) arm.in-Import.path contents (g.S.Source.left arm.args.script.now) arm.serve_import.result (a_store contents arm.in-Ok.server.state.history arm.in-Ok.ensures.opened) (import_treeless g arm) (import_stops g arm))

pub returns-in-Import-clause-complete : goal.returns-in-Import-clause-complete
returns-in-Import-clause-complete g c all comes short none =
    let arm = (goal.at.returns-in-Import-clause-complete g c).After-drop-path-inside in
    let s = import_takes g arm all comes in
    let path = arm.in-Import.path in
    let left = g.S.Source.left arm.args.script.now in
    let unread = g.S.Source.left arm.serve_import.new.script in
    subst (λ o. (arm.serve_import.result ≡ o.status) ⊎ (arm.serve_import.result ≡ NoMemory)) (sym s.is)
    (import_unless (import_old g arm) (import_new g arm) path left unread s.history s.text arm.serve_import.result (import_treeless g arm) (import_stops g arm)
    (arm.serve_import.ensures.ended s.history s.text (import_begins g arm s.history s.reads) s.left_is) arm.serve_import.ensures.left s.left_is
    (subst (λ (o : JobOutcome). IsShort o.reads left) s.is short)
    (subst (λ j. NoneRose j (served_import s.history path s.text) (import_old g arm) (import_new g arm)) (import_is g arm) (subst (λ o. NoneRose (job_of arm.args.words.now) o (import_old g arm) (import_new g arm)) s.is none)))

-- a line is served over the history of a journal's bytes: its job, and what that begins with
replica_is : (g : Over) (c : After-drop-line g) → job_of c.args.words.now ≡ Replica c.as_slice.result.now
replica_is g c = sym c.in-Ok-Replica.ensures.job ∙ c.in-Ok-Replica.field-0-is ∙ ap Replica (sym c.as_slice.ensures)

replica_serves : (g : Over) (c : After-drop-line g) (all : JobOutcome) → ComesTo (job_of c.args.words.now) (g.D.Disk.contents c.args.disk.now) (g.S.Source.left c.args.script.now) all
    → Replicates (g.S.Source.left c.args.script.now) c.as_slice.result.now all
replica_serves g c all comes =
    let contents = g.D.Disk.contents c.args.disk.now in
    let left = g.S.Source.left c.args.script.now in
    replicates c.as_slice.result.now contents left all (subst (λ j. ComesTo j contents left all) (replica_is g c) comes)

abbrev replica_old : (g : Over) → After-drop-line g → Counts
replica_old g c = counts (g.S.Source.faults c.args.script.now) (g.K.Sink.faults c.args.out.now) (g.D.Disk.faults c.args.disk.now) (g.T.Trees.faults c.args.trees.now) (g.S.Source.given c.args.script.now) (g.S.Source.ends c.args.script.now)

abbrev replica_new : (g : Over) → After-drop-line g → Counts
replica_new g c = counts (g.S.Source.faults c.serve_replica.new.script) (g.K.Sink.faults c.serve_replica.new.out) (g.D.Disk.faults c.args.disk.now) (g.T.Trees.faults c.serve_replica.new.trees) (g.S.Source.given c.serve_replica.new.script) (g.S.Source.ends c.serve_replica.new.script)

pub returns-in-Ok-Replica-clause-ends : goal.returns-in-Ok-Replica-clause-ends
returns-in-Ok-Replica-clause-ends g c all comes =
    let arm = (goal.at.returns-in-Ok-Replica-clause-ends g c).After-drop-line in
    let s = replica_serves g arm all comes in
    let status = arm.serve_replica.result in
    subst (λ o. OnEnd status (EndsAs o status (g.S.Source.left arm.serve_replica.new.script))) (sym s.is) (arm.serve_replica.ensures.ends s.history s.text s.left_is)

pub returns-in-Ok-Replica-clause-front : goal.returns-in-Ok-Replica-clause-front
returns-in-Ok-Replica-clause-front g c all before comes wrote =
    let arm = (goal.at.returns-in-Ok-Replica-clause-front g c).After-drop-line in
    let s = replica_serves g arm all comes in
    subst (λ o. WritesFront before (replies o.turns) (g.K.Sink.written arm.serve_replica.new.out)) (sym s.is) (arm.serve_replica.ensures.front s.history s.text before s.left_is wrote)

pub returns-in-Ok-Replica-clause-whole : goal.returns-in-Ok-Replica-clause-whole
returns-in-Ok-Replica-clause-whole g c all before comes wrote =
    let arm = (goal.at.returns-in-Ok-Replica-clause-whole g c).After-drop-line in
    let s = replica_serves g arm all comes in
    let written = g.K.Sink.written arm.serve_replica.new.out in
    subst (λ o. OnEnd arm.serve_replica.result (written ≡ Some (before ++ replies o.turns))) (sym s.is) (arm.serve_replica.ensures.whole s.history s.text before s.left_is wrote)

pub returns-in-Ok-Replica-clause-rows : goal.returns-in-Ok-Replica-clause-rows
returns-in-Ok-Replica-clause-rows g c all before comes grew =
    let arm = (goal.at.returns-in-Ok-Replica-clause-rows g c).After-drop-line in
    let s = replica_serves g arm all comes in
    subst (λ o. WritesFront before (rows_of o.turns) (g.T.Trees.rows arm.serve_replica.new.trees)) (sym s.is) (arm.serve_replica.ensures.rows s.history s.text before s.left_is grew)

pub returns-in-Ok-Replica-clause-rows_whole : goal.returns-in-Ok-Replica-clause-rows_whole
returns-in-Ok-Replica-clause-rows_whole g c all before comes grew =
    let arm = (goal.at.returns-in-Ok-Replica-clause-rows_whole g c).After-drop-line in
    let s = replica_serves g arm all comes in
    let grown = g.T.Trees.rows arm.serve_replica.new.trees in
    subst (λ o. OnEnd arm.serve_replica.result (grown ≡ Some (before ++ rows_of o.turns))) (sym s.is) (arm.serve_replica.ensures.rows_whole s.history s.text before s.left_is grew)

pub returns-in-Ok-Replica-clause-rows_first : goal.returns-in-Ok-Replica-clause-rows_first
returns-in-Ok-Replica-clause-rows_first g c all before rows comes wrote grew =
    let arm = (goal.at.returns-in-Ok-Replica-clause-rows_first g c).After-drop-line in
    let s = replica_serves g arm all comes in
    subst (λ o. RowsPrecede o.turns before rows (g.K.Sink.written arm.serve_replica.new.out) (g.T.Trees.rows arm.serve_replica.new.trees)) (sym s.is)
    (arm.serve_replica.ensures.rows_first s.history s.text before rows s.left_is wrote grew)

pub returns-in-Ok-Replica-clause-stands : goal.returns-in-Ok-Replica-clause-stands
returns-in-Ok-Replica-clause-stands g c history text reads starts settled =
    let arm = (goal.at.returns-in-Ok-Replica-clause-stands g c).After-drop-line in
    let contents = g.D.Disk.contents c.args.disk.now in
    subst (λ j. IfSome contents (λ image. StandsFor image (history_after history (outcome j history text).turns))) (sym (replica_is g arm))
    (replica_last arm.as_slice.result.now history text contents (reads_as contents history reads))

pub returns-in-Ok-Replica-clause-kept : goal.returns-in-Ok-Replica-clause-kept
returns-in-Ok-Replica-clause-kept g c leaves =
    (refl, uncalled g.D.Disk.images g.D.Disk.moment g.D.Disk.images_since c.args.disk.now (g.met.D.Disk.only_now c.args.disk.now))

pub returns-in-Ok-Replica-clause-any_moment : goal.returns-in-Ok-Replica-clause-any_moment
returns-in-Ok-Replica-clause-any_moment g c history text images starts =
    let arm = (goal.at.returns-in-Ok-Replica-clause-any_moment g c).After-drop-line in
    let line = arm.as_slice.result.now in
    subst (λ j. LeavesOnly g.D.Disk.moment g.D.Disk.images_since c.args.disk.now c.args.disk.now (StandsForFront history (outcome j history text).turns)) (sym (replica_is g arm))
    (started g.D.Disk.moment g.D.Disk.images_since c.args.disk.now (StandsForFront history (outcome (Replica line) history text).turns)
    (λ image since. replica_front line history text image (images image (g.met.D.Disk.only_now c.args.disk.now image since))))

pub returns-in-Ok-Replica-clause-acknowledged : goal.returns-in-Ok-Replica-clause-acknowledged
returns-in-Ok-Replica-clause-acknowledged g c history text before bytes images starts wrote writes image now =
    let arm = (goal.at.returns-in-Ok-Replica-clause-acknowledged g c).After-drop-line in
    subst (λ j. StandsForTold history (outcome j history text).turns bytes image) (sym (replica_is g arm)) (replica_told arm.as_slice.result.now history text bytes image (images image now))

pub returns-in-Ok-Replica-clause-stored_first : goal.returns-in-Ok-Replica-clause-stored_first
returns-in-Ok-Replica-clause-stored_first g c history text before bytes images starts first wrote writes some image now =
    let arm = (goal.at.returns-in-Ok-Replica-clause-stored_first g c).After-drop-line in
    subst (λ j. StandsFor image (history_after history (outcome j history text).turns)) (sym (replica_is g arm)) (replica_last_of arm.as_slice.result.now history text image (images image now))

pub returns-in-Ok-Replica-clause-unread : goal.returns-in-Ok-Replica-clause-unread
returns-in-Ok-Replica-clause-unread g c unless = absurd (false≢true (sym unless ∙ ap reads_source (replica_is g (goal.at.returns-in-Ok-Replica-clause-unread g c).After-drop-line)))

pub returns-in-Ok-Replica-clause-unwritten : goal.returns-in-Ok-Replica-clause-unwritten
returns-in-Ok-Replica-clause-unwritten g c unless = absurd (false≢true (sym unless ∙ ap writes_trees (replica_is g (goal.at.returns-in-Ok-Replica-clause-unwritten g c).After-drop-line)))

pub returns-in-Ok-Replica-clause-unopened : goal.returns-in-Ok-Replica-clause-unopened
returns-in-Ok-Replica-clause-unopened g c all opens tells = absurd (false≢true (sym (ap opens_disk (replica_is g (goal.at.returns-in-Ok-Replica-clause-unopened g c).After-drop-line)) ∙ opens))

pub returns-in-Ok-Replica-clause-cause : goal.returns-in-Ok-Replica-clause-cause
returns-in-Ok-Replica-clause-cause g c =
    let arm = (goal.at.returns-in-Ok-Replica-clause-cause g c).After-drop-line in
    let contents = g.D.Disk.contents arm.args.disk.now in
    subst (λ j. IsCaused j contents (g.S.Source.left arm.args.script.now) (replica_old g arm) (replica_new g arm) arm.serve_replica.result) (sym (replica_is g arm))
    (arm.serve_replica.ensures.cause contents (g.D.Disk.faults arm.args.disk.now))

pub returns-in-Ok-Replica-clause-complete : goal.returns-in-Ok-Replica-clause-complete
returns-in-Ok-Replica-clause-complete g c all comes short none =
    let arm = (goal.at.returns-in-Ok-Replica-clause-complete g c).After-drop-line in
    let s = replica_serves g arm all comes in
    let line = arm.as_slice.result.now in
    let left = g.S.Source.left arm.args.script.now in
    subst (λ o. (arm.serve_replica.result ≡ o.status) ⊎ (arm.serve_replica.result ≡ NoMemory)) (sym s.is)
    (arm.serve_replica.ensures.complete s.history s.text (g.D.Disk.faults arm.args.disk.now) s.left_is
    (subst (λ r. IsShort r left) (reads_text line s.text s.history) (subst (λ (o : JobOutcome). IsShort o.reads left) s.is short))
    (subst (λ j. NoneRose j (served_replica line s.text s.history) (replica_old g arm) (replica_new g arm)) (replica_is g arm) (subst (λ o. NoneRose (job_of arm.args.words.now) o (replica_old g arm) (replica_new g arm)) s.is none)))

-- no memory is to be had for the words
pub returns-in-Err-clause-front : goal.returns-in-Err-clause-front
returns-in-Err-clause-front g c all before comes wrote = none_written before (replies all.turns) (g.K.Sink.written c.args.out.now) wrote

pub returns-in-Err-clause-rows : goal.returns-in-Err-clause-rows
returns-in-Err-clause-rows g c all before comes grew = none_written before (rows_of all.turns) (g.T.Trees.rows c.args.trees.now) grew

pub returns-in-Err-clause-rows_first : goal.returns-in-Err-clause-rows_first
returns-in-Err-clause-rows_first g c all before rows comes wrote grew =
    nothing_precedes (job_of c.args.words.now) (g.D.Disk.contents c.args.disk.now) (g.S.Source.left c.args.script.now) all comes before rows (g.K.Sink.written c.args.out.now) (g.T.Trees.rows c.args.trees.now) wrote grew

pub returns-in-Err-clause-stands : goal.returns-in-Err-clause-stands
returns-in-Err-clause-stands g c history text reads starts settled = nothing_stands (job_of c.args.words.now) history text (g.D.Disk.contents c.args.disk.now) reads settled

pub returns-in-Err-clause-kept : goal.returns-in-Err-clause-kept
returns-in-Err-clause-kept g c leaves =
    (refl, uncalled g.D.Disk.images g.D.Disk.moment g.D.Disk.images_since c.args.disk.now (g.met.D.Disk.only_now c.args.disk.now))

pub returns-in-Err-clause-any_moment : goal.returns-in-Err-clause-any_moment
returns-in-Err-clause-any_moment g c history text images starts =
    started g.D.Disk.moment g.D.Disk.images_since c.args.disk.now (StandsForFront history (outcome (job_of c.args.words.now) history text).turns)
    (λ image since. nothing_fronts (job_of c.args.words.now) history text image (images image (g.met.D.Disk.only_now c.args.disk.now image since)))

pub returns-in-Err-clause-acknowledged : goal.returns-in-Err-clause-acknowledged
returns-in-Err-clause-acknowledged g c history text before bytes images starts wrote writes image now =
    let written = g.K.Sink.written c.args.out.now in
    subst (λ b. StandsForTold history (outcome (job_of c.args.words.now) history text).turns b image) (sym (none_more before bytes written written refl wrote writes))
    (nothing_told (job_of c.args.words.now) history text image (images image now))

pub returns-in-Err-clause-stored_first : goal.returns-in-Err-clause-stored_first
returns-in-Err-clause-stored_first g c history text before bytes images starts first wrote writes some image now =
    let written = g.K.Sink.written c.args.out.now in
    absurd (omega (arith, some, ap length (none_more before bytes written written refl wrote writes)))
