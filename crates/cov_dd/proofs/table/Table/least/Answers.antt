use Rattle.std.proofs.Common.{ap, sym, ◌∙◌}
use Rattle.std.specs.List.{find}
use Rattle.cov_base.specs.Choices.{all_choices}
use Rattle.cov_dd.specs.Diagrams.{value_in}
use Rattle.cov_dd.proofs.Walks.{find-false}
use Rattle.cov_dd.proofs.table.Table.least.Goals as goal

pub returns-then-a-eq-FALSE-clause-first : goal.returns-then-a-eq-FALSE-clause-first
returns-then-a-eq-FALSE-clause-first c =
    sym (ap (λ n. find (value_in c.args.self.now n) (all_choices c.args.count)) c.if-a-eq-FALSE.true ∙ find-false c.args.self.now (all_choices c.args.count))
