use Rattle.std.proofs.Common.{true, false, sym, ◌∙◌}
use Rattle.cov_edit.specs.Numbering.{line_count}
use Rattle.cov_hist.proofs.Numbered.{inserted-parts, no_line-is, origin-outside}
use Rattle.cov_hist.proofs.halving.origin.Goals as goal

pub first_with-requires-clause-some : goal.first_with-requires-clause-some
first_with-requires-clause-some c = (inserted-parts c.args.line (line_count c.args.engine.now.history) (sym c.is_inserted.ensures ∙ c.in-true.is)).0

pub first_with-requires-clause-has : goal.first_with-requires-clause-has
first_with-requires-clause-has c = (inserted-parts c.args.line (line_count c.args.engine.now.history) (sym c.is_inserted.ensures ∙ c.in-true.is)).1

pub returns-in-true-clause-none : goal.returns-in-true-clause-none
returns-in-true-clause-none c = no_line-is c.args.line (line_count c.args.engine.now.history) true (sym c.is_inserted.ensures ∙ c.in-true.is)

pub returns-in-false-clause-origin : goal.returns-in-false-clause-origin
returns-in-false-clause-origin c = sym (origin-outside c.args.engine.now.history c.args.line (sym c.is_inserted.ensures ∙ c.in-false.is))

pub returns-in-false-clause-none : goal.returns-in-false-clause-none
returns-in-false-clause-none c = no_line-is c.args.line (line_count c.args.engine.now.history) false (sym c.is_inserted.ensures ∙ c.in-false.is)
