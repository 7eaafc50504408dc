use Rattle.std.proofs.Common.{◌≡◌, ◌++◌, suc}
use Rattle.cov_script.specs.Commits.{each_below, insert_line, drawn_line}
use Rattle.cov_script.specs.Draws.{state_after}
use Rattle.cov_script.specs.declared.line.LineField.TheVariants as fields
use Rattle.cov_script.proofs.commits.append_inserts.Given as goal

-- the first line and those that were drawn so far
abbrev pub invariant-loop-others : goal.invariant-loop-others
invariant-loop-others l = record {
  drawn : l.draws ≡ state_after l.others l.fn.draws;
  lines : l.text ≡ l.fn.text ++ insert_line l.fn.file l.fn.commit (fields.Number 0) 0 ++ each_below l.others (λ i. drawn_line l.fn.file l.fn.commit l.fn.draws (suc i));
}
