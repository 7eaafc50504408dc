use Rattle.std.proofs.Common.{suc, ◌++◌, ◌∙◌}
use Rattle.cov_script.specs.Commits.{insert_line, drawn_line}
use Rattle.cov_script.specs.declared.line.LineField.TheVariants as fields
use Rattle.cov_script.proofs.Repeating.{none_below, none_drawn, one_more_drawn, one_more_inserted}
use Rattle.cov_script.proofs.commits.append_inserts.Goals as goal

pub loop-others-init : goal.loop-others-init
loop-others-init c = record {
  drawn = none_drawn c.args.draws.now;
  lines = c.in_ok-append_insert.ensures ∙ none_below (c.args.text.now ++ insert_line c.args.file c.args.commit (fields.Number 0) 0) (λ i. drawn_line c.args.file c.args.commit c.args.draws.now (suc i));
}

pub loop-others-preserved : goal.loop-others-preserved
loop-others-preserved c =
    let drawn = one_more_drawn c.args.draws.now c.loop-others.others c.loop-others.draws c.below.new.self c.loop-others.invariant.drawn c.below.ensures.next in
    record {
      drawn = drawn;
      lines = one_more_inserted c.args.file c.args.commit c.args.draws.now (c.args.text.now ++ insert_line c.args.file c.args.commit (fields.Number 0) 0) c.loop-others.text c.append_insert-in-loop-others.new.text c.loop-others.others c.below.new.self c.below.result drawn c.below.ensures.drawn c.in_ok-append_insert-2.ensures c.loop-others.invariant.lines;
    }
