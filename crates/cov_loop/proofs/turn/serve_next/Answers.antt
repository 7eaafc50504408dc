use Rattle.std.proofs.Common.{◌≡◌, ◌++◌, ap, inl, inr, subst}
use Rattle.std.proofs.lemmas.Result.{on_err_weaker}
use Rattle.cov_base.specs.Lines.{lines_of}
use Rattle.cov_loop.specs.Keeping.{FirstAddsNone, IsEither, Reaches}
use Rattle.cov_loop.specs.Turns.{output}
use Rattle.cov_loop.proofs.Kept.{keeps_none, line_keeps, nothing_added, reaches_first}
use Rattle.cov_disk.proofs.CallerLemmas.{weakened}
use Rattle.cov_loop.proofs.Moments.{left_now}
use Rattle.cov_loop.proofs.Turning.{fault_turn, line_turn, next_line, next_long, turn_stopped}
use Rattle.cov_loop.proofs.turn.serve_next.Goals as goal

pub returns-in-Ok-Line-clause-told : goal.returns-in-Ok-Line-clause-told
returns-in-Ok-Line-clause-told g c text ahead =
    rw c.as_turn.ensures
    (line_turn g.V.LineServer.step g.met.V.LineServer.rows_told (g.V.LineServer.state_of c.args.server.now) text c.as_slice.result.now (g.V.LineServer.state_of c.serve_line.new.server) _
    (output (g.K.Sink.written c.args.out.now) (g.T.Trees.rows c.args.trees.now))
    (output (g.K.Sink.written c.serve_line.new.out) (g.T.Trees.rows c.serve_line.new.trees)) c.serve_line.result
    (next_line text c.as_slice.result.now c.args.lines.now c.next.new.self (g.S.Source.left c.args.script.now) (g.S.Source.left c.next.new.source)
    (rw (c.as_slice.ensures, ← c.in-Ok-Line.field-0-is) c.in-Ok-Line.ensures.items) ahead)
    (record {
      served = c.serve_line.ensures.served;
      all = c.serve_line.ensures.all;
      some = c.serve_line.ensures.some;
      rows_all = c.serve_line.ensures.rows_all;
      rows_some = c.serve_line.ensures.rows_some;
      rows_first = on_err_weaker c.serve_line.result (λ first. elim first [ inl all ↦ inl all | inr same ↦ inr (ap g.K.Sink.written same) ]) c.serve_line.ensures.rows_first;
    }))

pub returns-in-Ok-Long-clause-told : goal.returns-in-Ok-Long-clause-told
returns-in-Ok-Long-clause-told g c text ahead =
    let first = next_long text c.args.lines.now c.next.new.self (g.S.Source.left c.args.script.now) (g.S.Source.left c.next.new.source)
    (rw c.in-Ok-Long.field-0-is at c.in-Ok-Long.ensures.items) ahead in
    rw c.as_turn-in-Ok-Long.ensures
    (line_turn g.V.LineServer.step g.met.V.LineServer.rows_told (g.V.LineServer.state_of c.args.server.now) text first.line (g.V.LineServer.state_of c.serve_long.new.server) _
    (output (g.K.Sink.written c.args.out.now) (g.T.Trees.rows c.args.trees.now))
    (output (g.K.Sink.written c.serve_long.new.out) (g.T.Trees.rows c.serve_long.new.trees)) c.serve_long.result
    first.is
    (record {
      served = c.serve_long.ensures.served first.line first.long;
      all = c.serve_long.ensures.all first.line first.long;
      some = c.serve_long.ensures.some first.line first.long;
      rows_all = c.serve_long.ensures.rows_all first.line first.long;
      rows_some = c.serve_long.ensures.rows_some first.line first.long;
      rows_first = on_err_weaker c.serve_long.result (λ first. elim first [ inl all ↦ inl all | inr same ↦ inr (ap g.K.Sink.written same) ]) (c.serve_long.ensures.rows_first first.line first.long);
    }))

pub returns-in-Err-clause-told : goal.returns-in-Err-clause-told
returns-in-Err-clause-told g c text ahead =
    fault_turn g.V.LineServer.step g.met.V.LineServer.rows_told (g.V.LineServer.state_of c.args.server.now) text (output (g.K.Sink.written c.args.out.now) (g.T.Trees.rows c.args.trees.now))

pub returns-in-Ok-Line-clause-any_moment : goal.returns-in-Ok-Line-clause-any_moment
returns-in-Ok-Line-clause-any_moment g c text ahead all =
    let line = c.as_slice.result.now in
    let step = g.V.LineServer.step in
    let stored = g.V.LineServer.stored in
    let first = next_line text line c.args.lines.now c.next.new.self (g.S.Source.left c.args.script.now) (g.S.Source.left c.next.new.source)
    (rw (c.as_slice.ensures, ← c.in-Ok-Line.field-0-is) c.in-Ok-Line.ensures.items) ahead in
    weakened g.D.Disk.moment g.D.Disk.images_since c.args.disk.now c.serve_line.new.disk
    (IsEither (stored (g.V.LineServer.state_of c.args.server.now)) (stored (step (g.V.LineServer.state_of c.args.server.now) line).state)) (Reaches step stored (g.V.LineServer.state_of c.args.server.now) (lines_of text))
    (reaches_first step stored (g.V.LineServer.state_of c.args.server.now) line (lines_of text) (lines_of first.rest) first.lines) (c.serve_line.ensures.any_moment all)

pub returns-in-Ok-Line-clause-acknowledged : goal.returns-in-Ok-Line-clause-acknowledged
returns-in-Ok-Line-clause-acknowledged g c text before bytes ahead all was is =
    let line = c.as_slice.result.now in
    let step = g.V.LineServer.step in
    let stored = g.V.LineServer.stored in
    let first = next_line text line c.args.lines.now c.next.new.self (g.S.Source.left c.args.script.now) (g.S.Source.left c.next.new.source)
    (rw (c.as_slice.ensures, ← c.in-Ok-Line.field-0-is) c.in-Ok-Line.ensures.items) ahead in
    rw c.as_turn.ensures
    (line_keeps step stored g.V.LineServer.count g.met.V.LineServer.counts_rise g.met.V.LineServer.commands_told (g.V.LineServer.state_of c.args.server.now) line (lines_of text) (lines_of first.rest) first.lines before bytes
    (g.K.Sink.written c.args.out.now) (g.K.Sink.written c.serve_line.new.out) was is (g.D.Disk.images c.serve_line.new.disk)
    (left_now g.D.Disk.moment g.D.Disk.images_since g.D.Disk.images g.met.D.Disk.counts_now c.args.disk.now c.serve_line.new.disk
    (IsEither (stored (g.V.LineServer.state_of c.args.server.now)) (stored (step (g.V.LineServer.state_of c.args.server.now) line).state)) (c.serve_line.ensures.any_moment all))
    (c.serve_line.ensures.acknowledged before all was) c.serve_line.result c.serve_line.ensures.some)

pub returns-in-Ok-Long-clause-acknowledged : goal.returns-in-Ok-Long-clause-acknowledged
returns-in-Ok-Long-clause-acknowledged g c text before bytes ahead all was is =
    let step = g.V.LineServer.step in
    let stored = g.V.LineServer.stored in
    let first = next_long text c.args.lines.now c.next.new.self (g.S.Source.left c.args.script.now) (g.S.Source.left c.next.new.source)
    (rw c.in-Ok-Long.field-0-is at c.in-Ok-Long.ensures.items) ahead in
    let stays : (step (g.V.LineServer.state_of c.args.server.now) first.line).state ≡ (g.V.LineServer.state_of c.args.server.now) = g.met.V.LineServer.long_kept (g.V.LineServer.state_of c.args.server.now) first.line first.long in
    rw c.as_turn-in-Ok-Long.ensures
    (line_keeps step stored g.V.LineServer.count g.met.V.LineServer.counts_rise g.met.V.LineServer.commands_told (g.V.LineServer.state_of c.args.server.now) first.line (lines_of text) (lines_of first.is.rest) first.is.lines before bytes
    (g.K.Sink.written c.args.out.now) (g.K.Sink.written c.serve_long.new.out) was is (g.D.Disk.images c.args.disk.now)
    (λ image here. inl (all image here)) (λ whole image here. rw stays (all image here))
    c.serve_long.result (c.serve_long.ensures.some first.line first.long))

pub returns-in-Ok-Long-clause-stopped : goal.returns-in-Ok-Long-clause-stopped
returns-in-Ok-Long-clause-stopped g c =
    rw c.as_turn-in-Ok-Long.ensures (turn_stopped _ _ _ c.serve_long.result (c.serve_long.ensures.stopped _ _))

pub returns-in-Err-clause-acknowledged : goal.returns-in-Err-clause-acknowledged
returns-in-Err-clause-acknowledged g c text before bytes ahead all was is image here =
    let same : before ≡ before ++ bytes = cc in
    rw (nothing_added before bytes same)
    (keeps_none g.V.LineServer.step g.V.LineServer.stored g.V.LineServer.count g.met.V.LineServer.counts_rise g.met.V.LineServer.commands_told (g.V.LineServer.state_of c.args.server.now) (lines_of text) image (all image here))

pub returns-in-Ok-Line-clause-unwritten : goal.returns-in-Ok-Line-clause-unwritten
returns-in-Ok-Line-clause-unwritten g c text ahead none =
    let line = c.as_slice.result.now in
    let first = next_line text line c.args.lines.now c.next.new.self (g.S.Source.left c.args.script.now) (g.S.Source.left c.next.new.source)
    (rw (c.as_slice.ensures, ← c.in-Ok-Line.field-0-is) c.in-Ok-Line.ensures.items) ahead in
    c.serve_line.ensures.unwritten (subst (FirstAddsNone g.V.LineServer.step g.V.LineServer.count (g.V.LineServer.state_of c.args.server.now)) first.lines none)
