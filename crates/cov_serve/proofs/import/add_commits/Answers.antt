use Rattle.std.proofs.Common.{◌≡◌, ◌++◌, refl, sym, subst, Some, IfSome}
use Rattle.cov_base.specs.Lines.{lines_of}
use Rattle.cov_import.specs.Serving.{import_step, import_stored, importing}
use Rattle.cov_journal.specs.Gates.{HasGate}
use Rattle.cov_lines.specs.States.{ServerValue}
use Rattle.cov_journal.proofs.CallerLemmas.{some_to, started}
use Rattle.cov_loop.specs.Keeping.{Reaches}
use Rattle.cov_loop.specs.Outcome.{answers}
use Rattle.cov_loop.specs.Turns.{AtEnd, WritesFront}
use Rattle.cov_serve.specs.Jobs.{StandsForFront, StandsForTold, commit_turns, history_after, replies}
use Rattle.cov_serve.specs.Program.{OnServed, StopsAdding}
use Rattle.cov_store.specs.Stands.{StandsFor, gate_of}
use Rattle.cov_serve.proofs.Commits.{added_few, added_front, added_reply, added_stands, added_told, added_was, adds, front_none, told_none}
use Rattle.cov_serve.proofs.Crashing.{stands_for}
use Rattle.cov_serve.proofs.Imports.{adding_stops, on_added}
use Rattle.cov_serve.proofs.Runs.{leaves_weaker, none_more}
use Rattle.cov_serve.proofs.TextServing.{end_to, stored_end}
use Rattle.cov_serve.proofs.import.add_commits.Goals as goal

pub returns-in-Ok-clause-front : goal.returns-in-Ok-clause-front
returns-in-Ok-clause-front g c history before begins wrote =
    let a = adds c.new-import.result c.args.server history c.args.commits.commands c.in-Ok.text c.len.result c.new-import.ensures.server c.new-import.ensures.commits c.new-import.ensures.base begins c.in-Ok.ensures.text c.len.ensures c.requires.accepted in
    subst (λ r. WritesFront before r (g.K.Sink.written c.serve_text-ending.new.out)) (added_reply a) (c.serve_text-ending.ensures.prefix before wrote)

pub returns-in-Ok-clause-whole : goal.returns-in-Ok-clause-whole
returns-in-Ok-clause-whole g c history before begins wrote =
    let a = adds c.new-import.result c.args.server history c.args.commits.commands c.in-Ok.text c.len.result c.new-import.ensures.server c.new-import.ensures.commits c.new-import.ensures.base begins c.in-Ok.ensures.text c.len.ensures c.requires.accepted in
    let ending = c.serve_text-ending.result in
    let written = g.K.Sink.written c.serve_text-ending.new.out in
    let told = replies (commit_turns history c.args.commits.commands) in
    subst (λ status. OnServed status (λ refused. written ≡ Some (before ++ told))) (sym c.added_status.ensures)
    (on_added ending (written ≡ Some (before ++ told)) (subst (λ r. AtEnd ending (written ≡ Some (before ++ r))) (added_reply a) (c.serve_text-ending.ensures.whole before wrote)))

pub returns-in-Ok-clause-stands : goal.returns-in-Ok-clause-stands
returns-in-Ok-clause-stands g c history begins here =
    let a = adds c.new-import.result c.args.server history c.args.commits.commands c.in-Ok.text c.len.result c.new-import.ensures.server c.new-import.ensures.commits c.new-import.ensures.base begins c.in-Ok.ensures.text c.len.ensures c.requires.accepted in
    let ending = c.serve_text-ending.result in
    let contents = g.D.Disk.contents c.serve_text-ending.new.disk in
    let last = history_after history (commit_turns history c.args.commits.commands) in
    let gives = answers import_step (importing c.new-import.result) (lines_of c.in-Ok.text) in
    subst (λ status. OnServed status (λ refused. IfSome contents (λ image. StandsFor image last))) (sym c.added_status.ensures)
    (on_added ending (IfSome contents (λ image. StandsFor image last))
    (end_to ending (IfSome contents (import_stored gives.state)) (IfSome contents (λ image. StandsFor image last)) (some_to (import_stored gives.state) (λ image. StandsFor image last) (added_stands a) contents)
    (stored_end ending import_stored gives contents
    (c.serve_text-ending.ensures.stored (subst (λ s. IfSome (g.D.Disk.contents c.args.disk.now) (import_stored s)) (sym a.starts) here)))))

pub returns-in-Ok-clause-any_moment : goal.returns-in-Ok-clause-any_moment
returns-in-Ok-clause-any_moment g c history begins all =
    let a = adds c.new-import.result c.args.server history c.args.commits.commands c.in-Ok.text c.len.result c.new-import.ensures.server c.new-import.ensures.commits c.new-import.ensures.base begins c.in-Ok.ensures.text c.len.ensures c.requires.accepted in
    leaves_weaker g.D.Disk.moment g.D.Disk.images_since c.args.disk.now c.serve_text-ending.new.disk (Reaches import_step import_stored (importing c.new-import.result) (lines_of c.in-Ok.text))
    (StandsForFront history (commit_turns history c.args.commits.commands)) (added_front a)
    (c.serve_text-ending.ensures.any_moment (λ image now. added_was a image (all image now)))

pub returns-in-Ok-clause-acknowledged : goal.returns-in-Ok-clause-acknowledged
returns-in-Ok-clause-acknowledged g c history before bytes begins all wrote writes image now =
    let a = adds c.new-import.result c.args.server history c.args.commits.commands c.in-Ok.text c.len.result c.new-import.ensures.server c.new-import.ensures.commits c.new-import.ensures.base begins c.in-Ok.ensures.text c.len.ensures c.requires.accepted in
    added_told a bytes image (c.serve_text-ending.ensures.acknowledged before bytes (λ i was. added_was a i (all i was)) wrote writes image now)

pub returns-in-Ok-clause-unwritten : goal.returns-in-Ok-clause-unwritten
returns-in-Ok-clause-unwritten g c history begins few =
    let a = adds c.new-import.result c.args.server history c.args.commits.commands c.in-Ok.text c.len.result c.new-import.ensures.server c.new-import.ensures.commits c.new-import.ensures.base begins c.in-Ok.ensures.text c.len.ensures c.requires.accepted in
    c.serve_text-ending.ensures.unwritten (added_few a few)

pub returns-in-Err-clause-any_moment : goal.returns-in-Err-clause-any_moment
returns-in-Err-clause-any_moment g c history begins all =
    started g.D.Disk.moment g.D.Disk.images_since c.args.disk.now (StandsForFront history (commit_turns history c.args.commits.commands))
    (λ image since. front_none history c.args.commits.commands image (stands_for image history (all image (g.met.D.Disk.only_now c.args.disk.now image since))))

pub returns-in-Err-clause-acknowledged : goal.returns-in-Err-clause-acknowledged
returns-in-Err-clause-acknowledged g c history before bytes begins all wrote writes image now =
    let written = g.K.Sink.written c.args.out.now in
    subst (λ b. StandsForTold history (commit_turns history c.args.commits.commands) b image) (sym (none_more before bytes written written refl wrote writes))
    (told_none history c.args.commits.commands image (stands_for image history (all image now)))

pub serve_text-ending-requires-clause-gate : goal.serve_text-ending-requires-clause-gate
serve_text-ending-requires-clause-gate g c =
    subst (λ (s : ServerValue). HasGate (g.D.Disk.contents c.args.disk.now) (gate_of s.state.history)) (sym c.new-import.ensures.server) c.requires.gate

pub returns-in-Ok-clause-stopped : goal.returns-in-Ok-clause-stopped
returns-in-Ok-clause-stopped g c =
    let sink = g.K.Sink.faults c.args.out.now in
    let sink' = g.K.Sink.faults c.serve_text-ending.new.out in
    let disk = g.D.Disk.faults c.args.disk.now in
    let disk' = g.D.Disk.faults c.serve_text-ending.new.disk in
    subst (λ status. StopsAdding status sink sink' disk disk') (sym c.added_status.ensures) (adding_stops c.serve_text-ending.result sink sink' disk disk' c.serve_text-ending.ensures.stopped)
