use Rattle.std.proofs.Common.{◌≡◌, ◌∙◌, ◌+◌, ◌-◌, ◌++◌, suc, map, ap, arith}
use Rattle.std.specs.List.{concat, range_with_len}
use Rattle.cov_edit.specs.History.{constraints_of, options_of}
use Rattle.cov_lines.specs.Replies.{told_option}
use Rattle.cov_lines.proofs.Analysed.{told-more}
use Rattle.cov_lines.proofs.analysing.tell_options.Goals as goal

pub loop-number-preserved : goal.loop-number-preserved
loop-number-preserved c =
    let line = told_option (options_of c.args.engine.now.history) (constraints_of c.args.engine.now.history) in
    let next : c.count-count.result - c.loop-number.number ≡ suc (c.count-count.result - (c.loop-number.number + 1)) = omega (arith, c.loop-number-test.true) in
    record {
      within = omega (arith, c.loop-number-test.true);
      analysis = c.in_ok-tell_option.ensures.analysis;
      options = c.in_ok-tell_option.ensures.count;
      lines = told-more line c.loop-number.number (c.count-count.result - c.loop-number.number) (c.count-count.result - (c.loop-number.number + 1))
          c.loop-number.reply c.tell_option.new.reply (c.args.reply.now ++ concat (map line (range_with_len 0 c.count-count.result)))
          next (c.in_ok-tell_option.ensures.told ∙ ap (λ n. c.loop-number.reply ++ line n) c.new.ensures) c.loop-number.invariant.lines;
    }
