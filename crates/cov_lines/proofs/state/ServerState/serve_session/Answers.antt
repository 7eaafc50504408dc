use Rattle.std.proofs.Common.{subst}
use Rattle.cov_lines.specs.Acting.{Handles}
use Rattle.cov_lines.specs.Growth.{dropped_keeps, opened_keeps, refreshed_keeps, side_keeps}
use Rattle.cov_lines.specs.Step.{dropped, opened, plainly, refreshed, side_changed}
use Rattle.cov_lines.proofs.Grouping.{dropped-served, opened-served, refreshed-served, side-served}
use Rattle.cov_lines.proofs.state.ServerState.serve_session.Goals as goal

pub returns-in-Open : goal.returns-in-Open
returns-in-Open c =
    let st = c.args.self.now.state in
    let new = c.open.new.self.state in
    let name = c.in-Open.name in
    let choice = c.in-Open.choice in
    let ambition = c.in-Open.ambition in
    subst (λ act. Handles (plainly act) st new c.as_done.result) (opened-served st c.args.line name choice ambition c.in-Open.is)
    (c.as_done.ensures (opened st name choice ambition) st new (opened_keeps st name choice ambition) c.open.ensures)

pub returns-in-Side : goal.returns-in-Side
returns-in-Side c =
    let st = c.args.self.now.state in
    let new = c.set_side.new.self.state in
    let name = c.in-Side.name in
    let side = c.in-Side.side in
    subst (λ act. Handles (plainly act) st new c.as_done-in-Side.result) (side-served st c.args.line name side c.in-Side.is)
    (c.as_done-in-Side.ensures (side_changed st name side) st new (side_keeps st name side) c.set_side.ensures)

pub returns-in-Refresh : goal.returns-in-Refresh
returns-in-Refresh c =
    let st = c.args.self.now.state in
    let new = c.refresh.new.self.state in
    let name = c.in-Refresh.name in
    subst (λ act. Handles (plainly act) st new c.as_done-in-Refresh.result) (refreshed-served st c.args.line name c.in-Refresh.is)
    (c.as_done-in-Refresh.ensures (refreshed st name) st new (refreshed_keeps st name) c.refresh.ensures)

pub returns-in-Discard : goal.returns-in-Discard
returns-in-Discard c =
    let st = c.args.self.now.state in
    let new = c.discard.new.self.state in
    let name = c.in-Discard.name in
    subst (λ act. Handles (plainly act) st new c.as_done-in-Discard.result) (dropped-served st c.args.line name c.in-Discard.is)
    (c.as_done-in-Discard.ensures (dropped st name) st new (dropped_keeps st name) c.discard.ensures)
