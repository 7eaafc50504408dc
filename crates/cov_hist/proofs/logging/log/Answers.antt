use Rattle.std.proofs.Common.{◌≡◌, ◌-◌, sym, ap, ◌∙◌, arith}
use Rattle.std.specs.Prelude.{slice_get}
use Rattle.cov_hist.proofs.Legal.{command-few, command-low, holding-next}
use Rattle.cov_hist.proofs.logging.log.Goals as goal

pub add_command-requires-clause-reach : goal.add_command-requires-clause-reach
add_command-requires-clause-reach c =
    let history = c.args.engine.now.history in
    let before : c.new-at.result - 1 ≡ c.loop-before.before = omega (arith, c.new-at.ensures) in
    let low = command-low history c.loop-before.before c.command.result.now c.history_is_legal.ensures (ap (slice_get history) (sym before) ∙ c.command.ensures) in
    let count = c.requires in
    omega (arith, low, count)

pub add_command-requires-clause-few : goal.add_command-requires-clause-few
add_command-requires-clause-few c =
    let history = c.args.engine.now.history in
    let before : c.new-at.result - 1 ≡ c.loop-before.before = omega (arith, c.new-at.ensures) in
    command-few history c.loop-before.before c.command.result.now c.history_is_legal.ensures (ap (slice_get history) (sym before) ∙ c.command.ensures)

pub loop-before-preserved : goal.loop-before-preserved
loop-before-preserved c =
    let history = c.args.engine.now.history in
    let before : c.new-at.result - 1 ≡ c.loop-before.before = omega (arith, c.new-at.ensures) in
    let more = c.loop-before-test.true in
    record {
      within = omega (arith, more);
      rows = holding-next history c.loop-before.before c.new-at.result c.command.result.now c.args.choice c.loop-before.rows c.add_command.new.rows (omega (arith, c.new-at.ensures))
          (ap (slice_get history) (sym before) ∙ c.command.ensures) c.loop-before.invariant.rows c.in_ok-add_command.ensures.ok;
    }
