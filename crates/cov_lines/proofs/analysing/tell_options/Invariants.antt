use Rattle.std.proofs.Common.{◌≡◌, ◌≤◌, ◌-◌, ◌++◌, map}
use Rattle.std.specs.List.{concat, range_with_len}
use Rattle.cov_analyse.specs.Analysing.{IsAnalysisOf}
use Rattle.cov_edit.specs.History.{constraints_of, option_count, options_of}
use Rattle.cov_lines.specs.Replies.{told_option}
use Rattle.cov_lines.proofs.analysing.tell_options.Given as goal

-- what the lines ahead still tell, behind what is told
abbrev pub invariant-loop-number : goal.invariant-loop-number
invariant-loop-number l = record {
  within : l.number ≤ l.count;
  analysis : IsAnalysisOf (constraints_of l.engine.history) l.analysis;
  options : l.analysis.count ≡ option_count l.engine.history;
  lines : l.reply ++ concat (map (told_option (options_of l.engine.history) (constraints_of l.engine.history)) (range_with_len l.number (l.count - l.number)))
      ≡ l.fn.reply ++ concat (map (told_option (options_of l.engine.history) (constraints_of l.engine.history)) (range_with_len 0 l.count));
}

abbrev pub decreases-loop-number : goal.decreases-loop-number
decreases-loop-number l = l.count - l.number
