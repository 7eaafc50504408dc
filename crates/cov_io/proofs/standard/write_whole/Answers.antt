use Rattle.std.proofs.Common.{◌++◌, take}
use Rattle.cov_io.proofs.DeviceLemmas.{appends_more, parts_more}
use Rattle.cov_io.proofs.standard.write_whole.Goals as goal

pub loop-rest-preserved : goal.loop-rest-preserved
loop-rest-preserved g c =
    let before = c.loop-rest.invariant in
    let rest = c.loop-rest.rest.now in
    let contents = g.W.Write.contents in (
      before.0 ++ take c.in-Ok.count rest,
      parts_more c.args.bytes.now before.0 rest c.in-Ok.count before.1,
      appends_more before.0 (take c.in-Ok.count rest) (contents c.args.writer.now) (contents c.loop-rest.writer) (contents c.write_retried.new.writer) before.2 c.in-Ok.ensures.bytes,
    )
