use Rattle.std.proofs.Common.{◌≡◌, ◌∙◌, ◌++◌, ◌≤◌, refl, sym, ap, subst, [], length, Some, Ok, IfSome}
use Rattle.cov_disk.specs.Images.{LeavesOnly}
use Rattle.cov_edit.specs.History.{options_of}
use Rattle.cov_import.specs.Taking.{taken_in}
use Rattle.cov_journal.proofs.CallerLemmas.{some_to, started}
use Rattle.cov_lines.specs.States.{State}
use Rattle.cov_loop.specs.Turns.{WritesFront}
use Rattle.cov_serve.specs.Jobs.{StandsForFront, StandsForTold, history_after, imported_by, replies, served_import, served_status}
use Rattle.cov_serve.specs.Program.{OnServed, TellsStop}
use Rattle.cov_store.specs.Stands.{IsStored, StandsFor}
use Rattle.cov_serve.proofs.Crashing.{stands_for}
use Rattle.cov_serve.proofs.Imports.{added_ended, added_stops, import_front, import_told, is_stopped, is_taken, refused_ended, refused_front, refused_stands, refused_stops, refused_told, refused_whole}
use Rattle.cov_serve.proofs.Runs.{none_more}
use Rattle.cov_serve.proofs.import.serve_import.Goals as goal

pub returns-in-Ok-taken-clause-front : goal.returns-in-Ok-taken-clause-front
returns-in-Ok-taken-clause-front g c history text before begins left wrote =
    subst (λ t. WritesFront before (replies (imported_by history t).turns) (g.K.Sink.written c.add_commits.new.out))
    (sym (is_taken c.args.server.state.history history c.args.path.now c.in-Ok.lines text (Ok c.in-Ok-taken.commits.commands) (ap (λ (s : State). s.history) begins) (c.in-Ok.ensures.lines text left)
    (rw c.in-Ok-taken.is at c.take_in-server.ensures.commits)))
    (c.add_commits.ensures.front history before (c.take_in-server.ensures.state ∙ begins) wrote)

pub returns-in-Ok-taken-clause-whole : goal.returns-in-Ok-taken-clause-whole
returns-in-Ok-taken-clause-whole g c history text before begins left wrote =
    subst (λ t. OnServed c.add_commits.result (λ refused. g.K.Sink.written c.add_commits.new.out ≡ Some (before ++ replies (imported_by history t).turns)))
    (sym (is_taken c.args.server.state.history history c.args.path.now c.in-Ok.lines text (Ok c.in-Ok-taken.commits.commands) (ap (λ (s : State). s.history) begins) (c.in-Ok.ensures.lines text left)
    (rw c.in-Ok-taken.is at c.take_in-server.ensures.commits)))
    (c.add_commits.ensures.whole history before (c.take_in-server.ensures.state ∙ begins) wrote)

pub returns-in-Ok-taken-clause-any_moment : goal.returns-in-Ok-taken-clause-any_moment
returns-in-Ok-taken-clause-any_moment g c history text begins left all =
    subst (λ t. LeavesOnly g.D.Disk.moment g.D.Disk.images_since c.args.disk.now c.add_commits.new.disk (StandsForFront history (imported_by history t).turns))
    (sym (is_taken c.args.server.state.history history c.args.path.now c.in-Ok.lines text (Ok c.in-Ok-taken.commits.commands) (ap (λ (s : State). s.history) begins) (c.in-Ok.ensures.lines text left)
    (rw c.in-Ok-taken.is at c.take_in-server.ensures.commits)))
    (c.add_commits.ensures.any_moment history (c.take_in-server.ensures.state ∙ begins) all)

pub returns-in-Ok-taken-clause-acknowledged : goal.returns-in-Ok-taken-clause-acknowledged
returns-in-Ok-taken-clause-acknowledged g c history text before bytes begins left all wrote writes image now =
    subst (λ t. StandsForTold history (imported_by history t).turns bytes image)
    (sym (is_taken c.args.server.state.history history c.args.path.now c.in-Ok.lines text (Ok c.in-Ok-taken.commits.commands) (ap (λ (s : State). s.history) begins) (c.in-Ok.ensures.lines text left)
    (rw c.in-Ok-taken.is at c.take_in-server.ensures.commits)))
    (c.add_commits.ensures.acknowledged history before bytes (c.take_in-server.ensures.state ∙ begins) all wrote writes image now)

pub returns-in-Err-taken-clause-front : goal.returns-in-Err-taken-clause-front
returns-in-Err-taken-clause-front g c history text before begins left wrote =
    let same = ap (λ (s : State). s.history) begins in
    let old = g.K.Sink.written c.args.out.now in
    let new = g.K.Sink.written c.tell_stop.new.out in
    let sink = g.K.Sink.faults c.args.out.now in
    let sink' = g.K.Sink.faults c.tell_stop.new.out in
    refused_front history (taken_in history c.args.path.now text) old new sink sink' c.tell_stop.result c.in-Err-taken.stop
    (is_stopped c.args.server.state.history history c.args.path.now c.in-Ok.lines text c.in-Err-taken.stop same (c.in-Ok.ensures.lines text left) (rw c.in-Err-taken.is at c.take_in-server.ensures.refused))
    (subst (λ (s : State). TellsStop (options_of s.history) c.in-Err-taken.stop old new sink sink' c.tell_stop.result) (c.take_in-server.ensures.state ∙ begins) c.tell_stop.ensures.tells)
    before wrote

pub returns-in-Err-taken-clause-any_moment : goal.returns-in-Err-taken-clause-any_moment
returns-in-Err-taken-clause-any_moment g c history text begins left all =
    started g.D.Disk.moment g.D.Disk.images_since c.args.disk.now (StandsForFront history (served_import history c.args.path.now text).turns)
    (λ image since. import_front history (taken_in history c.args.path.now text) image (stands_for image history (all image (g.met.D.Disk.only_now c.args.disk.now image since))))

pub returns-in-Err-taken-clause-acknowledged : goal.returns-in-Err-taken-clause-acknowledged
returns-in-Err-taken-clause-acknowledged g c history text before bytes begins left all wrote writes image now =
    let same = ap (λ (s : State). s.history) begins in
    let old = g.K.Sink.written c.args.out.now in
    let new = g.K.Sink.written c.tell_stop.new.out in
    let sink = g.K.Sink.faults c.args.out.now in
    let sink' = g.K.Sink.faults c.tell_stop.new.out in
    refused_told history (taken_in history c.args.path.now text) old new sink sink' c.tell_stop.result c.in-Err-taken.stop
    (is_stopped c.args.server.state.history history c.args.path.now c.in-Ok.lines text c.in-Err-taken.stop same (c.in-Ok.ensures.lines text left) (rw c.in-Err-taken.is at c.take_in-server.ensures.refused))
    (subst (λ (s : State). TellsStop (options_of s.history) c.in-Err-taken.stop old new sink sink' c.tell_stop.result) (c.take_in-server.ensures.state ∙ begins) c.tell_stop.ensures.tells)
    bytes image (λ kept. none_more before bytes old new kept wrote writes) (stands_for image history (all image now))

pub returns-in-Err-clause-any_moment : goal.returns-in-Err-clause-any_moment
returns-in-Err-clause-any_moment g c history text begins left all =
    started g.D.Disk.moment g.D.Disk.images_since c.args.disk.now (StandsForFront history (served_import history c.args.path.now text).turns)
    (λ image since. import_front history (taken_in history c.args.path.now text) image (stands_for image history (all image (g.met.D.Disk.only_now c.args.disk.now image since))))

pub returns-in-Err-clause-acknowledged : goal.returns-in-Err-clause-acknowledged
returns-in-Err-clause-acknowledged g c history text before bytes begins left all wrote writes image now =
    let written = g.K.Sink.written c.args.out.now in
    subst (λ b. StandsForTold history (served_import history c.args.path.now text).turns b image) (sym (none_more before bytes written written refl wrote writes))
    (import_told history (taken_in history c.args.path.now text) image (stands_for image history (all image now)))

pub returns-in-Ok-taken-clause-ended : goal.returns-in-Ok-taken-clause-ended
returns-in-Ok-taken-clause-ended g c history text begins left =
    let unread = g.S.Source.left c.read_source.new.source in
    subst (λ t. OnServed c.add_commits.result (λ refused. ((imported_by history t).status ≡ served_status refused) × (unread ≡ Some [])))
    (sym (is_taken c.args.server.state.history history c.args.path.now c.in-Ok.lines text (Ok c.in-Ok-taken.commits.commands) (ap (λ (s : State). s.history) begins) (c.in-Ok.ensures.lines text left)
    (rw c.in-Ok-taken.is at c.take_in-server.ensures.commits)))
    (added_ended c.add_commits.result (g.K.Sink.faults c.args.out.now) (g.K.Sink.faults c.add_commits.new.out) (g.D.Disk.faults c.args.disk.now) (g.D.Disk.faults c.add_commits.new.disk) unread
    c.add_commits.ensures.stopped (c.in-Ok.ensures.read text left))

pub returns-in-Ok-taken-clause-stands : goal.returns-in-Ok-taken-clause-stands
returns-in-Ok-taken-clause-stands g c history text begins left here =
    let contents = g.D.Disk.contents c.add_commits.new.disk in
    subst (λ t. OnServed c.add_commits.result (λ refused. IfSome contents (λ image. StandsFor image (history_after history (imported_by history t).turns))))
    (sym (is_taken c.args.server.state.history history c.args.path.now c.in-Ok.lines text (Ok c.in-Ok-taken.commits.commands) (ap (λ (s : State). s.history) begins) (c.in-Ok.ensures.lines text left)
    (rw c.in-Ok-taken.is at c.take_in-server.ensures.commits)))
    (c.add_commits.ensures.stands history (c.take_in-server.ensures.state ∙ begins) here)

pub returns-in-Ok-taken-clause-unwritten : goal.returns-in-Ok-taken-clause-unwritten
returns-in-Ok-taken-clause-unwritten g c history text begins left few =
    c.add_commits.ensures.unwritten history (c.take_in-server.ensures.state ∙ begins)
    (subst (λ t. length (history_after history (imported_by history t).turns) ≤ length history)
    (is_taken c.args.server.state.history history c.args.path.now c.in-Ok.lines text (Ok c.in-Ok-taken.commits.commands) (ap (λ (s : State). s.history) begins) (c.in-Ok.ensures.lines text left)
    (rw c.in-Ok-taken.is at c.take_in-server.ensures.commits))
    few)

pub returns-in-Ok-taken-clause-stopped : goal.returns-in-Ok-taken-clause-stopped
returns-in-Ok-taken-clause-stopped g c trees =
    added_stops (g.S.Source.faults c.args.script.now) (g.S.Source.faults c.read_source.new.source) (g.K.Sink.faults c.args.out.now) (g.K.Sink.faults c.add_commits.new.out) (g.D.Disk.faults c.args.disk.now) (g.D.Disk.faults c.add_commits.new.disk) trees trees
    (g.S.Source.given c.args.script.now) (g.S.Source.given c.read_source.new.source) (g.S.Source.ends c.args.script.now) (g.S.Source.ends c.read_source.new.source) c.add_commits.result c.add_commits.ensures.stopped

pub returns-in-Err-taken-clause-ended : goal.returns-in-Err-taken-clause-ended
returns-in-Err-taken-clause-ended g c history text begins left =
    let old = g.K.Sink.written c.args.out.now in
    let new = g.K.Sink.written c.tell_stop.new.out in
    let sink = g.K.Sink.faults c.args.out.now in
    let sink' = g.K.Sink.faults c.tell_stop.new.out in
    refused_ended history (taken_in history c.args.path.now text) old new sink sink' c.tell_stop.result c.in-Err-taken.stop
    (is_stopped c.args.server.state.history history c.args.path.now c.in-Ok.lines text c.in-Err-taken.stop (ap (λ (s : State). s.history) begins) (c.in-Ok.ensures.lines text left) (rw c.in-Err-taken.is at c.take_in-server.ensures.refused))
    (subst (λ (s : State). TellsStop (options_of s.history) c.in-Err-taken.stop old new sink sink' c.tell_stop.result) (c.take_in-server.ensures.state ∙ begins) c.tell_stop.ensures.tells)
    (g.S.Source.left c.read_source.new.source) (c.in-Ok.ensures.read text left)

pub returns-in-Err-taken-clause-whole : goal.returns-in-Err-taken-clause-whole
returns-in-Err-taken-clause-whole g c history text before begins left wrote =
    let old = g.K.Sink.written c.args.out.now in
    let new = g.K.Sink.written c.tell_stop.new.out in
    let sink = g.K.Sink.faults c.args.out.now in
    let sink' = g.K.Sink.faults c.tell_stop.new.out in
    refused_whole history (taken_in history c.args.path.now text) old new sink sink' c.tell_stop.result c.in-Err-taken.stop
    (is_stopped c.args.server.state.history history c.args.path.now c.in-Ok.lines text c.in-Err-taken.stop (ap (λ (s : State). s.history) begins) (c.in-Ok.ensures.lines text left) (rw c.in-Err-taken.is at c.take_in-server.ensures.refused))
    (subst (λ (s : State). TellsStop (options_of s.history) c.in-Err-taken.stop old new sink sink' c.tell_stop.result) (c.take_in-server.ensures.state ∙ begins) c.tell_stop.ensures.tells)
    before wrote

pub returns-in-Err-taken-clause-stands : goal.returns-in-Err-taken-clause-stands
returns-in-Err-taken-clause-stands g c history text begins left here =
    let old = g.K.Sink.written c.args.out.now in
    let new = g.K.Sink.written c.tell_stop.new.out in
    let sink = g.K.Sink.faults c.args.out.now in
    let sink' = g.K.Sink.faults c.tell_stop.new.out in
    let contents = g.D.Disk.contents c.args.disk.now in
    refused_stands history (taken_in history c.args.path.now text) old new sink sink' c.tell_stop.result c.in-Err-taken.stop
    (is_stopped c.args.server.state.history history c.args.path.now c.in-Ok.lines text c.in-Err-taken.stop (ap (λ (s : State). s.history) begins) (c.in-Ok.ensures.lines text left) (rw c.in-Err-taken.is at c.take_in-server.ensures.refused))
    (subst (λ (s : State). TellsStop (options_of s.history) c.in-Err-taken.stop old new sink sink' c.tell_stop.result) (c.take_in-server.ensures.state ∙ begins) c.tell_stop.ensures.tells)
    contents (some_to (λ image. IsStored image history) (λ image. StandsFor image history) (λ image is. stands_for image history is) contents here)

pub returns-in-Err-taken-clause-stopped : goal.returns-in-Err-taken-clause-stopped
returns-in-Err-taken-clause-stopped g c trees =
    refused_stops (options_of c.take_in-server.result.0.state.history) c.in-Err-taken.stop (g.K.Sink.written c.args.out.now) (g.K.Sink.written c.tell_stop.new.out)
    (g.S.Source.faults c.args.script.now) (g.S.Source.faults c.read_source.new.source) (g.K.Sink.faults c.args.out.now) (g.K.Sink.faults c.tell_stop.new.out) (g.D.Disk.faults c.args.disk.now) (g.D.Disk.faults c.args.disk.now) trees trees
    (g.S.Source.given c.args.script.now) (g.S.Source.given c.read_source.new.source) (g.S.Source.ends c.args.script.now) (g.S.Source.ends c.read_source.new.source) c.tell_stop.result c.tell_stop.ensures.tells
