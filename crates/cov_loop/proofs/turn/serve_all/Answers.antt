use Rattle.std.proofs.Common.{refl, rules}
use Rattle.cov_base.specs.Lines.{lines_of}
use Rattle.cov_loop.specs.Keeping.{Reaches}
use Rattle.cov_loop.specs.Outcome.{answers}
use Rattle.cov_loop.specs.Turns.{ahead_of, output}
use Rattle.cov_loop.proofs.Appending.{front_of, told_all}
use Rattle.cov_loop.proofs.Counting.{counted_then, given_then}
use Rattle.cov_loop.proofs.Kept.{keeps_all, reaches_none}
use Rattle.cov_loop.proofs.LoopInvariant.{all_amid, all_sent, at_end, begins, ended, ends_whole, goes_on, has_rows, has_stored, keeps_on, left_is_empty, moments_on, reads_out, stopped, untouched_amid, unwritten_amid, unwritten_on}
use Rattle.cov_loop.proofs.Moments.{uncalled}
use Rattle.cov_loop.proofs.turn.serve_all.Goals as goal

pub turns-init : goal.turns-init
turns-init g c = record {
  told = λ text ahead.
      begins g.V.LineServer.step (g.V.LineServer.state_of c.args.server.now) text (ahead_of c.args.lines.now (g.S.Source.left c.args.script.now)) (output (g.K.Sink.written c.args.out.now) (g.T.Trees.rows c.args.trees.now)) ahead;
  gate = c.requires.gate;
  stored = λ was. was;
  durable = λ was. was;
  any_moment = λ text ahead all.
      uncalled g.D.Disk.moment g.D.Disk.images_since g.D.Disk.images g.met.D.Disk.only_now c.args.disk.now (Reaches g.V.LineServer.step g.V.LineServer.stored (g.V.LineServer.state_of c.args.server.now) (lines_of text))
      (λ image here. reaches_none g.V.LineServer.step g.V.LineServer.stored (g.V.LineServer.state_of c.args.server.now) (lines_of text) image (all image here));
  unwritten = λ text ahead few. refl;
  counted = search rules;
  left = search rules;
}

pub turns-preserved : goal.turns-preserved
turns-preserved g c = record {
  told = λ text ahead.
      goes_on (g.V.LineServer.state_of c.serve_next.new.server) c.either-refused.result c.in-Served.answer
      (ahead_of c.serve_next.new.lines (g.S.Source.left c.serve_next.new.script)) (output (g.K.Sink.written c.serve_next.new.out) (g.T.Trees.rows c.serve_next.new.trees)) g.met.V.LineServer.refusal_told
      (c.turns.invariant.told text ahead) (λ t a. rw c.in-Served.is at (c.in-Ok.ensures.told t a)) c.either-refused.ensures;
  gate = c.in-Ok.ensures.gate;
  stored = λ was. c.in-Ok.ensures.stored (c.turns.invariant.stored was);
  durable = λ was. c.in-Ok.ensures.durable (c.turns.invariant.durable was);
  any_moment = λ text ahead all.
      moments_on g.V.LineServer.step g.V.LineServer.stored g.D.Disk.moment g.D.Disk.images_since c.args.disk.now c.turns.disk c.serve_next.new.disk
      (c.turns.invariant.told text ahead) (c.turns.invariant.any_moment text ahead all)
      (λ t a. c.serve_next.ensures.any_moment t a (c.turns.invariant.durable all));
  unwritten = λ text ahead few.
      unwritten_on g.V.LineServer.step g.V.LineServer.count g.met.V.LineServer.counts_rise c.args.disk.now c.turns.disk c.serve_next.new.disk
      (g.V.LineServer.state_of c.serve_next.new.server) c.in-Served.answer (ahead_of c.serve_next.new.lines (g.S.Source.left c.serve_next.new.script)) (output (g.K.Sink.written c.serve_next.new.out) (g.T.Trees.rows c.serve_next.new.trees))
      (c.turns.invariant.told text ahead) (c.turns.invariant.unwritten text ahead) (λ t a. rw c.in-Served.is at (c.in-Ok.ensures.told t a)) c.serve_next.ensures.unwritten few;
  counted = counted_then c.turns.invariant.counted c.serve_next.ensures.counted;
  left = given_then (g.S.Source.left c.args.script.now) (g.S.Source.left c.turns.script) (g.S.Source.left c.serve_next.new.script)
      (g.S.Source.given c.args.script.now) (g.S.Source.given c.turns.script) (g.S.Source.given c.serve_next.new.script)
      c.turns.invariant.left c.serve_next.ensures.left;
}

pub returns-in-Ended-clause-ended : goal.returns-in-Ended-clause-ended
returns-in-Ended-clause-ended g c text ahead =
    let e = ended (g.V.LineServer.state_of c.serve_next.new.server) (ahead_of c.serve_next.new.lines (g.S.Source.left c.serve_next.new.script)) (output (g.K.Sink.written c.serve_next.new.out) (g.T.Trees.rows c.serve_next.new.trees))
    (c.turns.invariant.told text ahead) (λ t a. rw c.in-Ended.is at (c.in-Ok.ensures.told t a)) in
    rw c.ending_at_end.ensures
    (reads_out c.turns.refused (answers g.V.LineServer.step (g.V.LineServer.state_of c.args.server.now) (lines_of text)) (g.S.Source.left c.serve_next.new.script)
    (e.refused_is, left_is_empty c.serve_next.new.lines (g.S.Source.left c.serve_next.new.script) e.ahead_is))

pub returns-in-Ended-clause-prefix : goal.returns-in-Ended-clause-prefix
returns-in-Ended-clause-prefix g c text before ahead told =
    let e = ended (g.V.LineServer.state_of c.serve_next.new.server) (ahead_of c.serve_next.new.lines (g.S.Source.left c.serve_next.new.script)) (output (g.K.Sink.written c.serve_next.new.out) (g.T.Trees.rows c.serve_next.new.trees))
    (c.turns.invariant.told text ahead) (λ t a. rw c.in-Ended.is at (c.in-Ok.ensures.told t a)) in
    let amid = all_amid g.V.LineServer.step (g.V.LineServer.state_of c.args.server.now) text (output (g.K.Sink.written c.args.out.now) (g.T.Trees.rows c.args.trees.now)) (output (g.K.Sink.written c.serve_next.new.out) (g.T.Trees.rows c.serve_next.new.trees)) e.written in
    front_of (answers g.V.LineServer.step (g.V.LineServer.state_of c.args.server.now) (lines_of text)).reply before (g.K.Sink.written c.args.out.now) (g.K.Sink.written c.serve_next.new.out) amid.bytes told

pub returns-in-Ended-clause-whole : goal.returns-in-Ended-clause-whole
returns-in-Ended-clause-whole g c text before ahead told =
    let e = ended (g.V.LineServer.state_of c.serve_next.new.server) (ahead_of c.serve_next.new.lines (g.S.Source.left c.serve_next.new.script)) (output (g.K.Sink.written c.serve_next.new.out) (g.T.Trees.rows c.serve_next.new.trees))
    (c.turns.invariant.told text ahead) (λ t a. rw c.in-Ended.is at (c.in-Ok.ensures.told t a)) in
    rw c.ending_at_end.ensures
    (ends_whole c.turns.refused (answers g.V.LineServer.step (g.V.LineServer.state_of c.args.server.now) (lines_of text)) before (g.S.Source.left c.serve_next.new.script) (g.K.Sink.written c.serve_next.new.out)
    (e.refused_is, left_is_empty c.serve_next.new.lines (g.S.Source.left c.serve_next.new.script) e.ahead_is, told_all (answers g.V.LineServer.step (g.V.LineServer.state_of c.args.server.now) (lines_of text)).reply before (g.K.Sink.written c.args.out.now) (g.K.Sink.written c.serve_next.new.out) e.written.bytes told))

pub returns-in-Ended-clause-stored : goal.returns-in-Ended-clause-stored
returns-in-Ended-clause-stored g c text ahead was =
    let e = ended (g.V.LineServer.state_of c.serve_next.new.server) (ahead_of c.serve_next.new.lines (g.S.Source.left c.serve_next.new.script)) (output (g.K.Sink.written c.serve_next.new.out) (g.T.Trees.rows c.serve_next.new.trees))
    (c.turns.invariant.told text ahead) (λ t a. rw c.in-Ended.is at (c.in-Ok.ensures.told t a)) in
    rw c.ending_at_end.ensures
    (has_stored c.turns.refused g.V.LineServer.stored (answers g.V.LineServer.step (g.V.LineServer.state_of c.args.server.now) (lines_of text)) (g.D.Disk.contents c.serve_next.new.disk)
    (rw e.state_is at (c.in-Ok.ensures.stored (c.turns.invariant.stored was))))

pub returns-in-Ended-clause-any_moment : goal.returns-in-Ended-clause-any_moment
returns-in-Ended-clause-any_moment g c text ahead all =
    moments_on g.V.LineServer.step g.V.LineServer.stored g.D.Disk.moment g.D.Disk.images_since c.args.disk.now c.turns.disk c.serve_next.new.disk
    (c.turns.invariant.told text ahead) (c.turns.invariant.any_moment text ahead all)
    (λ t a. c.serve_next.ensures.any_moment t a (c.turns.invariant.durable all))

pub returns-in-Ended-clause-acknowledged : goal.returns-in-Ended-clause-acknowledged
returns-in-Ended-clause-acknowledged g c text before bytes ahead all was is image here =
    let e = ended (g.V.LineServer.state_of c.serve_next.new.server) (ahead_of c.serve_next.new.lines (g.S.Source.left c.serve_next.new.script)) (output (g.K.Sink.written c.serve_next.new.out) (g.T.Trees.rows c.serve_next.new.trees))
    (c.turns.invariant.told text ahead) (λ t a. rw c.in-Ended.is at (c.in-Ok.ensures.told t a)) in
    keeps_all g.V.LineServer.step g.V.LineServer.stored g.V.LineServer.count g.met.V.LineServer.counts_rise (g.V.LineServer.state_of c.args.server.now) (lines_of text) bytes image
    (rw e.state_is at (c.in-Ok.ensures.durable (c.turns.invariant.durable all) image here))

pub returns-in-Ended-clause-rows_prefix : goal.returns-in-Ended-clause-rows_prefix
returns-in-Ended-clause-rows_prefix g c text before ahead told =
    let e = ended (g.V.LineServer.state_of c.serve_next.new.server) (ahead_of c.serve_next.new.lines (g.S.Source.left c.serve_next.new.script)) (output (g.K.Sink.written c.serve_next.new.out) (g.T.Trees.rows c.serve_next.new.trees))
    (c.turns.invariant.told text ahead) (λ t a. rw c.in-Ended.is at (c.in-Ok.ensures.told t a)) in
    let amid = all_amid g.V.LineServer.step (g.V.LineServer.state_of c.args.server.now) text (output (g.K.Sink.written c.args.out.now) (g.T.Trees.rows c.args.trees.now)) (output (g.K.Sink.written c.serve_next.new.out) (g.T.Trees.rows c.serve_next.new.trees)) e.written in
    front_of (answers g.V.LineServer.step (g.V.LineServer.state_of c.args.server.now) (lines_of text)).rows before (g.T.Trees.rows c.args.trees.now) (g.T.Trees.rows c.serve_next.new.trees) amid.rows told

pub returns-in-Ended-clause-rows_whole : goal.returns-in-Ended-clause-rows_whole
returns-in-Ended-clause-rows_whole g c text before ahead told =
    let e = ended (g.V.LineServer.state_of c.serve_next.new.server) (ahead_of c.serve_next.new.lines (g.S.Source.left c.serve_next.new.script)) (output (g.K.Sink.written c.serve_next.new.out) (g.T.Trees.rows c.serve_next.new.trees))
    (c.turns.invariant.told text ahead) (λ t a. rw c.in-Ended.is at (c.in-Ok.ensures.told t a)) in
    rw c.ending_at_end.ensures
    (has_rows c.turns.refused (answers g.V.LineServer.step (g.V.LineServer.state_of c.args.server.now) (lines_of text)) before (g.T.Trees.rows c.serve_next.new.trees) (told_all (answers g.V.LineServer.step (g.V.LineServer.state_of c.args.server.now) (lines_of text)).rows before (g.T.Trees.rows c.args.trees.now) (g.T.Trees.rows c.serve_next.new.trees) e.written.rows told))

pub returns-in-Ended-clause-rows_first : goal.returns-in-Ended-clause-rows_first
returns-in-Ended-clause-rows_first g c text before rows ahead told grew =
    let e = ended (g.V.LineServer.state_of c.serve_next.new.server) (ahead_of c.serve_next.new.lines (g.S.Source.left c.serve_next.new.script)) (output (g.K.Sink.written c.serve_next.new.out) (g.T.Trees.rows c.serve_next.new.trees))
    (c.turns.invariant.told text ahead) (λ t a. rw c.in-Ended.is at (c.in-Ok.ensures.told t a)) in
    let amid = all_amid g.V.LineServer.step (g.V.LineServer.state_of c.args.server.now) text (output (g.K.Sink.written c.args.out.now) (g.T.Trees.rows c.args.trees.now)) (output (g.K.Sink.written c.serve_next.new.out) (g.T.Trees.rows c.serve_next.new.trees)) e.written in
    amid.first before rows told grew

pub returns-in-Err-clause-prefix : goal.returns-in-Err-clause-prefix
returns-in-Err-clause-prefix g c text before ahead told =
    let amid = stopped (output (g.K.Sink.written c.serve_next.new.out) (g.T.Trees.rows c.serve_next.new.trees)) (c.turns.invariant.told text ahead) c.in-Err.ensures.told in
    front_of (answers g.V.LineServer.step (g.V.LineServer.state_of c.args.server.now) (lines_of text)).reply before (g.K.Sink.written c.args.out.now) (g.K.Sink.written c.serve_next.new.out) amid.bytes told

pub returns-in-Err-clause-rows_prefix : goal.returns-in-Err-clause-rows_prefix
returns-in-Err-clause-rows_prefix g c text before ahead told =
    let amid = stopped (output (g.K.Sink.written c.serve_next.new.out) (g.T.Trees.rows c.serve_next.new.trees)) (c.turns.invariant.told text ahead) c.in-Err.ensures.told in
    front_of (answers g.V.LineServer.step (g.V.LineServer.state_of c.args.server.now) (lines_of text)).rows before (g.T.Trees.rows c.args.trees.now) (g.T.Trees.rows c.serve_next.new.trees) amid.rows told

pub returns-in-Err-clause-rows_first : goal.returns-in-Err-clause-rows_first
returns-in-Err-clause-rows_first g c text before rows ahead told grew =
    let amid = stopped (output (g.K.Sink.written c.serve_next.new.out) (g.T.Trees.rows c.serve_next.new.trees)) (c.turns.invariant.told text ahead) c.in-Err.ensures.told in
    amid.first before rows told grew

pub returns-in-Err-clause-any_moment : goal.returns-in-Err-clause-any_moment
returns-in-Err-clause-any_moment g c text ahead all =
    moments_on g.V.LineServer.step g.V.LineServer.stored g.D.Disk.moment g.D.Disk.images_since c.args.disk.now c.turns.disk c.serve_next.new.disk
    (c.turns.invariant.told text ahead) (c.turns.invariant.any_moment text ahead all)
    (λ t a. c.serve_next.ensures.any_moment t a (c.turns.invariant.durable all))

pub returns-in-Err-clause-acknowledged : goal.returns-in-Err-clause-acknowledged
returns-in-Err-clause-acknowledged g c text before bytes ahead all was is =
    keeps_on g.V.LineServer.step g.V.LineServer.stored g.V.LineServer.count g.met.V.LineServer.counts_rise before bytes
    (output (g.K.Sink.written c.serve_next.new.out) (g.T.Trees.rows c.serve_next.new.trees)) (g.D.Disk.images c.serve_next.new.disk)
    (c.turns.invariant.told text ahead) was is c.in-Err.ensures.told
    (λ t sent part ahead' was' is'. c.in-Err.ensures.acknowledged t sent part ahead' (c.turns.invariant.durable all) was' is')

pub returns-in-Ended-clause-state : goal.returns-in-Ended-clause-state
returns-in-Ended-clause-state g c text ahead =
    let e = ended (g.V.LineServer.state_of c.serve_next.new.server) (ahead_of c.serve_next.new.lines (g.S.Source.left c.serve_next.new.script)) (output (g.K.Sink.written c.serve_next.new.out) (g.T.Trees.rows c.serve_next.new.trees))
    (c.turns.invariant.told text ahead) (λ t a. rw c.in-Ended.is at (c.in-Ok.ensures.told t a)) in
    rw c.ending_at_end.ensures (at_end c.turns.refused _ e.state_is)

pub returns-in-Ended-clause-gate : goal.returns-in-Ended-clause-gate
returns-in-Ended-clause-gate g c = rw c.ending_at_end.ensures (at_end c.turns.refused _ c.in-Ok.ensures.gate)

pub returns-in-Ended-clause-durable : goal.returns-in-Ended-clause-durable
returns-in-Ended-clause-durable g c all = rw c.ending_at_end.ensures (at_end c.turns.refused _ (c.in-Ok.ensures.durable (c.turns.invariant.durable all)))

pub returns-in-Ended-clause-unwritten : goal.returns-in-Ended-clause-unwritten
returns-in-Ended-clause-unwritten g c text ahead none =
    unwritten_amid g.V.LineServer.step g.V.LineServer.count g.met.V.LineServer.counts_rise c.args.disk.now c.turns.disk c.serve_next.new.disk
    (c.turns.invariant.told text ahead) (c.turns.invariant.unwritten text ahead) c.serve_next.ensures.unwritten none

pub returns-in-Err-clause-unwritten : goal.returns-in-Err-clause-unwritten
returns-in-Err-clause-unwritten g c text ahead none =
    unwritten_amid g.V.LineServer.step g.V.LineServer.count g.met.V.LineServer.counts_rise c.args.disk.now c.turns.disk c.serve_next.new.disk
    (c.turns.invariant.told text ahead) (c.turns.invariant.unwritten text ahead) c.serve_next.ensures.unwritten none

pub returns-in-Ended-clause-untouched : goal.returns-in-Ended-clause-untouched
returns-in-Ended-clause-untouched g c text before bytes first rest ahead lines none was is short =
    let e = ended (g.V.LineServer.state_of c.serve_next.new.server) (ahead_of c.serve_next.new.lines (g.S.Source.left c.serve_next.new.script)) (output (g.K.Sink.written c.serve_next.new.out) (g.T.Trees.rows c.serve_next.new.trees))
    (c.turns.invariant.told text ahead) (λ t a. rw c.in-Ended.is at (c.in-Ok.ensures.told t a)) in
    all_sent g.V.LineServer.step (g.V.LineServer.state_of c.args.server.now) c.args.disk.now c.serve_next.new.disk (lines_of text) before bytes (g.K.Sink.written c.args.out.now) (g.K.Sink.written c.serve_next.new.out) e.written.bytes was is first rest lines short

pub returns-in-Err-clause-untouched : goal.returns-in-Err-clause-untouched
returns-in-Err-clause-untouched g c text before bytes first rest ahead lines none was is short =
    untouched_amid g.V.LineServer.step g.V.LineServer.count g.met.V.LineServer.counts_rise c.args.disk.now c.turns.disk c.serve_next.new.disk before bytes
    (output (g.K.Sink.written c.serve_next.new.out) (g.T.Trees.rows c.serve_next.new.trees))
    (c.turns.invariant.told text ahead) (c.turns.invariant.unwritten text ahead) c.serve_next.ensures.unwritten c.in-Err.ensures.told was is first rest lines none short
