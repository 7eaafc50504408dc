use Rattle.std.proofs.Common.{◌≡◌, ◌+◌, ◌-◌, ◌++◌, suc, map, arith}
use Rattle.std.specs.List.{concat, range_with_len}
use Rattle.cov_edit.specs.History.{constraints_of, options_of}
use Rattle.cov_lines.specs.Replies.{told_rule}
use Rattle.cov_lines.proofs.Analysed.{told-more}
use Rattle.cov_lines.proofs.analysing.tell_constraints.Goals as goal

pub loop-told-preserved : goal.loop-told-preserved
loop-told-preserved c =
    let line = told_rule (options_of c.args.engine.now.history) (constraints_of c.args.engine.now.history) in
    let next : c.constraints-count.result - c.loop-told.told ≡ suc (c.constraints-count.result - (c.loop-told.told + 1)) = omega (arith, c.loop-told-test.true) in
    record {
      within = omega (arith, c.loop-told-test.true);
      analysis = c.in_ok-tell_constraint.ensures.analysis;
      options = c.in_ok-tell_constraint.ensures.count;
      lines = told-more line (c.loop-told.told + 1) (c.constraints-count.result - c.loop-told.told) (c.constraints-count.result - (c.loop-told.told + 1))
          c.loop-told.reply c.tell_constraint.new.reply (c.args.reply.now ++ concat (map line (range_with_len 1 c.constraints-count.result)))
          next c.in_ok-tell_constraint.ensures.told c.loop-told.invariant.lines;
    }
