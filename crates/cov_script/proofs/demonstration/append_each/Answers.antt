use Rattle.std.proofs.Common.{◌∙◌}
use Rattle.cov_script.specs.Demonstration.{row_line}
use Rattle.cov_script.proofs.Repeating.{none_below, one_more_below}
use Rattle.cov_script.proofs.demonstration.append_each.Goals as goal

pub loop-number-init : goal.loop-number-init
loop-number-init c = none_below c.args.text.now (row_line c.args.row)

pub loop-number-preserved : goal.loop-number-preserved
loop-number-preserved c =
    c.in_ok-append_row.ensures ∙ one_more_below c.args.text.now (row_line c.args.row) c.loop-number.text c.loop-number.number c.loop-number.invariant
