use Rattle.std.proofs.Common.{◌≡◌, ◌++◌, suc}
use Rattle.cov_script.specs.Commits.{each_below, commit_lines, after_commits}
use Rattle.cov_script.proofs.demonstration.append_commits.Given as goal

-- the commits that were made so far
abbrev pub invariant-loop-index : goal.invariant-loop-index
invariant-loop-index l = record {
  after : l.commits ≡ after_commits l.index l.fn.number;
  lines : l.text ≡ l.fn.text ++ each_below l.index (λ i. commit_lines (suc i) (after_commits i l.fn.number));
}
