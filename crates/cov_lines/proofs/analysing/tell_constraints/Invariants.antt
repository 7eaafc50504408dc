use Rattle.std.proofs.Common.{◌≡◌, ◌≤◌, ◌+◌, ◌-◌, ◌++◌, map}
use Rattle.std.specs.List.{concat, range_with_len}
use Rattle.cov_analyse.specs.Analysing.{IsAnalysisOf}
use Rattle.cov_edit.specs.History.{constraints_of, option_count, options_of}
use Rattle.cov_lines.specs.Replies.{told_rule}
use Rattle.cov_lines.proofs.analysing.tell_constraints.Given as goal

-- what the lines ahead still tell, behind what is told
abbrev pub invariant-loop-told : goal.invariant-loop-told
invariant-loop-told l = record {
  within : l.told ≤ l.count;
  analysis : IsAnalysisOf (constraints_of l.engine.history) l.analysis;
  options : l.analysis.count ≡ option_count l.engine.history;
  lines : l.reply ++ concat (map (told_rule (options_of l.engine.history) (constraints_of l.engine.history)) (range_with_len (l.told + 1) (l.count - l.told)))
      ≡ l.fn.reply ++ concat (map (told_rule (options_of l.engine.history) (constraints_of l.engine.history)) (range_with_len 1 l.count));
}

abbrev pub decreases-loop-told : goal.decreases-loop-told
decreases-loop-told l = l.count - l.told
