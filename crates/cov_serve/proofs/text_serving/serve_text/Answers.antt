use Rattle.std.proofs.Common.{ap, refl, Some}
use Rattle.cov_base.specs.Lines.{lines_of}
use Rattle.cov_loop.specs.Outcome.{answers}
use Rattle.cov_loop.specs.Turns.{output}
use Rattle.cov_loop.proofs.CallerLemmas.{fault_turn}
use Rattle.cov_serve.proofs.Runs.{ahead_first, none_more}
use Rattle.cov_serve.proofs.TextServing.{keeps_none, whole_end}
use Rattle.cov_serve.proofs.text_serving.serve_text.Goals as goal

pub returns-in-Ok-clause-whole : goal.returns-in-Ok-clause-whole
returns-in-Ok-clause-whole g c before wrote =
    let text = c.args.text in
    whole_end c.serve_all.result (answers g.V.LineServer.step (g.V.LineServer.state_of c.args.server.now) (lines_of text)) before (Some c.serve_all.new.script.left) (g.K.Sink.written c.serve_all.new.out)
    (c.serve_all.ensures.whole text before (ahead_first c.in-Ok.lines (Some c.new-source.result.left) text c.in-Ok.ensures (ap Some c.new-source.ensures)) wrote)

pub returns-in-Ok-clause-unwritten : goal.returns-in-Ok-clause-unwritten
returns-in-Ok-clause-unwritten g c few =
    c.serve_all.ensures.unwritten c.args.text (ahead_first c.in-Ok.lines (Some c.new-source.result.left) c.args.text c.in-Ok.ensures (ap Some c.new-source.ensures)) few

pub returns-in-Err-clause-rows_first : goal.returns-in-Err-clause-rows_first
returns-in-Err-clause-rows_first g c before rows wrote grew =
    (fault_turn g.V.LineServer.step g.met.V.LineServer.rows_told (g.V.LineServer.state_of c.args.server.now) c.args.text (output (g.K.Sink.written c.args.out.now) (g.T.Trees.rows c.args.trees.now))).first before rows wrote grew

pub returns-in-Err-clause-acknowledged : goal.returns-in-Err-clause-acknowledged
returns-in-Err-clause-acknowledged g c before bytes all wrote writes image now =
    let written = g.K.Sink.written c.args.out.now in
    keeps_none g.V.LineServer.step g.V.LineServer.stored g.V.LineServer.count g.met.V.LineServer.commands_told (g.V.LineServer.state_of c.args.server.now) (lines_of c.args.text) bytes image
    (none_more before bytes written written refl wrote writes) (all image now)
