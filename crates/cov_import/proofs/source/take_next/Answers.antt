use Rattle.std.proofs.lemmas.Result.{on_ok_weaker}
use Rattle.cov_import.specs.Sources.{TakesNext}
use Rattle.cov_loop.specs.Turns.{ahead_of}
use Rattle.cov_import.proofs.Keeping.{if_more, takes_line}
use Rattle.cov_import.proofs.source.take_next.Goals as goal

pub returns-in-Ok-Line-clause-takes : goal.returns-in-Ok-Line-clause-takes
returns-in-Ok-Line-clause-takes g c text ahead =
    let left = g.S.Source.left c.args.source.now in
    let later = g.S.Source.left c.next.new.source in
    if_more c.keep.result c.as_more.result (TakesNext text c.args.kept.now c.keep.new.kept (ahead_of c.next.new.self later)) c.as_more.ensures.ok
    (on_ok_weaker c.keep.result
    (takes_line text c.in-Ok-Line.line c.args.lines.now c.next.new.self left later c.args.kept.now c.keep.new.kept (rw c.in-Ok-Line.field-0-is at c.in-Ok-Line.ensures.items) ahead) c.keep.ensures)
