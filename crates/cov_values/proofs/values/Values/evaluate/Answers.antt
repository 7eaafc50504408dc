use Rattle.std.proofs.Common.{sym}
use Rattle.cov_values.specs.Values.{on_choice}
use Rattle.cov_values.proofs.values.Values.evaluate.Goals as goal

pub returns-in_err-add-in-None-clause-on_choice : goal.returns-in_err-add-in-None-clause-on_choice
returns-in_err-add-in-None-clause-on_choice c = c.add.ensures.more (on_choice c.args.table.now c.args.choice) (sym c.value-value.ensures)

pub returns-in_ok-add-in-None-clause-on_choice : goal.returns-in_ok-add-in-None-clause-on_choice
returns-in_ok-add-in-None-clause-on_choice c = c.add.ensures.more (on_choice c.args.table.now c.args.choice) (sym c.value-value.ensures)
