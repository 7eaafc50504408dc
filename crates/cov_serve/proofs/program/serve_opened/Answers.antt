use Rattle.std.proofs.Common.{◌≡◌, ◌++◌, refl, sym, subst, [], Some, IfSome}
use Rattle.cov_base.specs.Lines.{lines_of}
use Rattle.cov_disk.specs.Images.{LeavesOnly}
use Rattle.cov_journal.proofs.CallerLemmas.{some_to, started}
use Rattle.cov_loop.specs.Keeping.{AddsNoCommand, KeepsAnswered, Reaches}
use Rattle.cov_loop.specs.Outcome.{answers}
use Rattle.cov_loop.specs.Turns.{HasRows, HasStored, IsWhole, ReadsOut, output}
use Rattle.cov_loop.proofs.CallerLemmas.{fault_turn}
use Rattle.cov_serve.specs.Jobs.{StandsForFront, StandsForTold, served_script}
use Rattle.cov_lines.specs.Laws.{rows_told}
use Rattle.cov_serve.specs.Program.{OnServed}
use Rattle.cov_lines.specs.States.{starting}
use Rattle.cov_lines.specs.Step.{model, step}
use Rattle.cov_lines.specs.Storing.{count, stored}
use Rattle.cov_store.specs.Stands.{IsStored, StandsFor}
use Rattle.cov_serve.proofs.Crashing.{front_first, front_reached, stands_for, told_none, told_reached}
use Rattle.cov_serve.proofs.Endings.{ended_status, rows_status, stored_status, whole_status}
use Rattle.cov_serve.proofs.Runs.{ahead_first, leaves_weaker, none_more}
use Rattle.cov_serve.proofs.program.serve_opened.Goals as goal

pub returns-in-Ok-clause-ended : goal.returns-in-Ok-clause-ended
returns-in-Ok-clause-ended g c history text begins left =
    let ending = c.serve_all-ending.result in
    let ahead = ahead_first c.in-Ok.lines (g.S.Source.left c.args.script.now) text c.in-Ok.ensures left in
    let unread = g.S.Source.left c.serve_all-ending.new.script in
    subst (λ status. OnServed status (λ refused. ((model history text).is_refused ≡ refused) × (unread ≡ Some []))) (sym c.from.ensures)
    (ended_status ending (model history text) unread
    (subst (λ s. ReadsOut ending (answers step s (lines_of text)) unread) begins (c.serve_all-ending.ensures.ended text ahead)))

pub returns-in-Ok-clause-whole : goal.returns-in-Ok-clause-whole
returns-in-Ok-clause-whole g c history text before begins left wrote =
    let ending = c.serve_all-ending.result in
    let ahead = ahead_first c.in-Ok.lines (g.S.Source.left c.args.script.now) text c.in-Ok.ensures left in
    let unread = g.S.Source.left c.serve_all-ending.new.script in
    let written = g.K.Sink.written c.serve_all-ending.new.out in
    subst (λ status. OnServed status (λ refused. written ≡ Some (before ++ (model history text).reply))) (sym c.from.ensures)
    (whole_status ending (model history text) before unread written
    (subst (λ s. IsWhole ending (answers step s (lines_of text)) before unread written) begins (c.serve_all-ending.ensures.whole text before ahead wrote)))

pub returns-in-Ok-clause-stands : goal.returns-in-Ok-clause-stands
returns-in-Ok-clause-stands g c history text begins left here =
    let ending = c.serve_all-ending.result in
    let ahead = ahead_first c.in-Ok.lines (g.S.Source.left c.args.script.now) text c.in-Ok.ensures left in
    let contents = g.D.Disk.contents c.serve_all-ending.new.disk in
    let last = (model history text).state.history in
    subst (λ status. OnServed status (λ refused. IfSome contents (λ image. StandsFor image last))) (sym c.from.ensures)
    (stored_status ending stored (λ image. StandsFor image last) (model history text) contents
    (some_to (λ image. IsStored image last) (λ image. StandsFor image last) (λ image is. stands_for image last is))
    (subst (λ s. HasStored ending stored (answers step s (lines_of text)) contents) begins
    (c.serve_all-ending.ensures.stored text ahead (subst (λ s. IfSome (g.D.Disk.contents c.args.disk.now) (stored s)) (sym begins) here))))

pub returns-in-Ok-clause-rows_whole : goal.returns-in-Ok-clause-rows_whole
returns-in-Ok-clause-rows_whole g c history text before begins left grew =
    let ending = c.serve_all-ending.result in
    let ahead = ahead_first c.in-Ok.lines (g.S.Source.left c.args.script.now) text c.in-Ok.ensures left in
    let grown = g.T.Trees.rows c.serve_all-ending.new.trees in
    subst (λ status. OnServed status (λ refused. grown ≡ Some (before ++ (model history text).rows))) (sym c.from.ensures)
    (rows_status ending (model history text) before grown
    (subst (λ s. HasRows ending (answers step s (lines_of text)) before grown) begins (c.serve_all-ending.ensures.rows_whole text before ahead grew)))

pub returns-in-Ok-clause-any_moment : goal.returns-in-Ok-clause-any_moment
returns-in-Ok-clause-any_moment g c history text begins left all =
    let ahead = ahead_first c.in-Ok.lines (g.S.Source.left c.args.script.now) text c.in-Ok.ensures left in
    leaves_weaker g.D.Disk.moment g.D.Disk.images_since c.args.disk.now c.serve_all-ending.new.disk (Reaches step stored (starting history) (lines_of text)) (StandsForFront history (served_script history text).turns)
    (front_reached history text)
    (subst (λ s. LeavesOnly g.D.Disk.moment g.D.Disk.images_since c.args.disk.now c.serve_all-ending.new.disk (Reaches step stored s (lines_of text))) begins
    (c.serve_all-ending.ensures.any_moment text ahead (λ image now. subst (λ s. stored s image) (sym begins) (all image now))))

pub returns-in-Ok-clause-acknowledged : goal.returns-in-Ok-clause-acknowledged
returns-in-Ok-clause-acknowledged g c history text before bytes begins left all wrote writes image now =
    let ahead = ahead_first c.in-Ok.lines (g.S.Source.left c.args.script.now) text c.in-Ok.ensures left in
    told_reached history text bytes image
    (subst (λ s. KeepsAnswered step stored count s (lines_of text) bytes image) begins
    (c.serve_all-ending.ensures.acknowledged text before bytes ahead (λ i was. subst (λ s. stored s i) (sym begins) (all i was)) wrote writes image now))

pub returns-in-Ok-clause-unwritten : goal.returns-in-Ok-clause-unwritten
returns-in-Ok-clause-unwritten g c history text begins left few =
    let ahead = ahead_first c.in-Ok.lines (g.S.Source.left c.args.script.now) text c.in-Ok.ensures left in
    c.serve_all-ending.ensures.unwritten text ahead (subst (λ s. AddsNoCommand count s (answers step s (lines_of text))) (sym begins) few)

pub returns-in-Err-clause-rows_first : goal.returns-in-Err-clause-rows_first
returns-in-Err-clause-rows_first g c history text before rows begins left wrote grew =
    (fault_turn step rows_told (starting history) text (output (g.K.Sink.written c.args.out.now) (g.T.Trees.rows c.args.trees.now))).first before rows wrote grew

pub returns-in-Err-clause-any_moment : goal.returns-in-Err-clause-any_moment
returns-in-Err-clause-any_moment g c history text begins left all =
    started g.D.Disk.moment g.D.Disk.images_since c.args.disk.now (StandsForFront history (served_script history text).turns)
    (λ image since. front_first history text image (stands_for image history (all image (g.met.D.Disk.only_now c.args.disk.now image since))))

pub returns-in-Err-clause-acknowledged : goal.returns-in-Err-clause-acknowledged
returns-in-Err-clause-acknowledged g c history text before bytes begins left all wrote writes image now =
    let written = g.K.Sink.written c.args.out.now in
    subst (λ b. StandsForTold history (served_script history text).turns b image) (sym (none_more before bytes written written refl wrote writes))
    (told_none history text image (stands_for image history (all image now)))
