use Rattle.std.proofs.Common.{suc, ◌++◌, ap, ◌∙◌}
use Rattle.cov_script.specs.Commits.{commit_lines, after_commits}
use Rattle.cov_script.proofs.Repeating.{none_below, one_more_below, one_more_made}
use Rattle.cov_script.proofs.demonstration.append_commits.Goals as goal

pub loop-index-init : goal.loop-index-init
loop-index-init c = record {
  after = c.new-commits.ensures;
  lines = none_below c.args.text.now (λ i. commit_lines (suc i) (after_commits i c.args.number));
}

pub loop-index-preserved : goal.loop-index-preserved
loop-index-preserved c = record {
  after = one_more_made c.args.number c.loop-index.index c.loop-index.commits c.append_next.new.self c.loop-index.invariant.after c.in_ok-append_next.ensures.after;
  lines =
      c.in_ok-append_next.ensures.lines
      ∙ ap (λ commits. c.loop-index.text ++ commit_lines (suc c.loop-index.index) commits) c.loop-index.invariant.after
      ∙ one_more_below c.args.text.now (λ i. commit_lines (suc i) (after_commits i c.args.number)) c.loop-index.text c.loop-index.index c.loop-index.invariant.lines;
}
