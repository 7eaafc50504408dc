use Rattle.cov_io.proofs.WalkLemmas.{line_ended, line_open, line_filled, line_last}
use Rattle.cov_io.proofs.reading.Lines.gather.Goals as goal

pub returns-in-Ok-Ended : goal.returns-in-Ok-Ended
returns-in-Ok-Ended g c =
    let fields = c.self-in-loop-whole.inside in
    let walks = rw (← c.self-in-loop-whole.view_is) at c.loop-whole.invariant in
    let takes = rw c.in-Ok-Ended.field-0-is at c.in-Ok-Ended.ensures in
    rw c.item_of.ensures (line_ended _ _ _ fields.buffer c.take_piece.new.self fields.taken fields.ended _ _ walks takes)

pub loop-whole-preserved : goal.loop-whole-preserved
loop-whole-preserved g c =
    let fields = c.self-in-loop-whole.inside in
    let walks = rw (← c.self-in-loop-whole.view_is) at c.loop-whole.invariant in
    let takes = rw c.in-Ok-Open.field-0-is at c.in-Ok-Open.ensures in
    line_filled _ _ _ _ _ _ _ (line_open _ _ _ fields.buffer c.take_piece.new.self fields.taken fields.ended _ _ walks takes) takes.1 (rw c.in-Ok-true.field-0-test at c.in-Ok-true.ensures).1

pub returns-in-Ok-false : goal.returns-in-Ok-false
returns-in-Ok-false g c =
    let fields = c.self-in-loop-whole.inside in
    let walks = rw (← c.self-in-loop-whole.view_is) at c.loop-whole.invariant in
    let takes = rw c.in-Ok-Open.field-0-is at c.in-Ok-Open.ensures in
    let fills = rw c.in-Ok-false.field-0-test at c.in-Ok-false.ensures in
    rw c.last_item.ensures (line_last _ _ _ _ _ _ _ (line_open _ _ _ fields.buffer c.take_piece.new.self fields.taken fields.ended _ _ walks takes) takes.1 fills.0 fills.1 fills.2)
