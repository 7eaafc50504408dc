use Rattle.std.proofs.Common.{arith, sym, ap, ◌∙◌}
use Rattle.cov_edit.specs.Limits.{is_upgraded}
use Rattle.cov_engine.specs.States.{options_at}
use Rattle.cov_engine.proofs.Holdings.{held-none}
use Rattle.cov_engine.proofs.Ruling.{no-rules}
use Rattle.cov_engine.proofs.States.{state-none}
use Rattle.cov_engine.proofs.engine.Engine.new.Goals as goal

pub invariant_of-result : goal.invariant_of-result
invariant_of-result c =
    let rules = c.new-3.ensures in (
      (
        state-none c.new.result.commands c.new-2.result.names c.in_ok-new.field-0 c.new-3.result.standing c.new.ensures c.new-2.ensures
            (no-rules c.in_ok-new.field-0 c.new-3.result.standing rules.constraints rules.preferences rules.defaults (rules.holds c.in_ok-new.field-0) (rules.below 0 (omega arith))),
        c.in_ok-new-3.ensures ∙ sym (ap (options_at 0) c.new.ensures),
        sym (ap is_upgraded c.new.ensures),
      ),
      (let entries = c.in_ok-new-2.ensures in
          held-none c.new.result.commands c.in_ok-new.field-0 c.new-4.result.items c.new-5.result.items c.in_ok-new-2.field-0 c.new-8.result c.new.ensures c.new-4.ensures c.new-5.ensures.items c.new-8.ensures
          entries.from entries.rows entries.nodes entries.kinds entries.within entries.kept),
    )
