use Rattle.std.proofs.Common.{◌+◌, ◌<◌, length, arith}
use Rattle.cov_overtaking.proofs.Renumbering.{here-room}
use Rattle.cov_overtaking.proofs.commits.renumber_marks.Goals as goal

pub renumber-ahead-requires : goal.renumber-ahead-requires
renumber-ahead-requires c =
    let now = c.loop-index.marks.items in
    let within : c.loop-index.index < length now = omega (arith, c.loop-index-test.true, c.len.ensures, c.loop-index.marks.ok.0) in
    here-room now c.loop-index.index (c.loop-index.index + 1) c.loop-index.ahead.now c.loop-index.ahead.now c.index_mut.result.now c.index_mut.result.now c.index_mut.result.now
    c.index_mut.ensures.value within (omega arith) c.loop-index.invariant.room
