use Rattle.std.proofs.Common.{take}
use Rattle.cov_io.proofs.LineLemmas.{within_before, within_all, cut_at_end}
use Rattle.cov_io.proofs.buffer.Buffer.take_piece.Goals as goal

pub returns-in_ok-line-in-Some : goal.returns-in_ok-line-in-Some
returns-in_ok-line-in-Some c =
    let at = c.in-Some.at in
    let found = c.in-Some.ensures in
    rw (c.skip.ensures, ← c.pending-pending.ensures) (
      take at c.pending-pending.result.now,
      within_before c.pending-pending.result.now at found.0.high found.0.before,
      cut_at_end c.pending-pending.result.now at found.0.high found.1,
      c.in_ok-line-in-Some.ensures,
    )

pub returns-in_ok-line-in-None : goal.returns-in_ok-line-in-None
returns-in_ok-line-in-None c =
    rw (← c.pending-pending.ensures) (within_all c.pending-pending.result.now c.in-None.ensures, c.clear.ensures, c.in_ok-line-in-None.ensures)
