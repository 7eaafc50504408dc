use Rattle.std.proofs.Common.{subst, sym, ◌∙◌}
use Rattle.cov_tree.specs.Carried.{AreUnread}
use Rattle.cov_tree.specs.Entries.{rows_in}
use Rattle.cov_tree.proofs.entries.Entries.unsound.Goals as goal

pub returns-clause-options : goal.returns-clause-options
returns-clause-options c = λ count narrow rows.
    c.unsound.ensures.options count narrow (subst (λ es. AreUnread (λ d. rows_in c.args.table.now d es) count) (sym (c.as_slice.ensures.value ∙ c.in_ok-entries.ensures.nodes)) rows)
