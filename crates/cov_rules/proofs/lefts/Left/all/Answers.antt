use Rattle.std.proofs.Common.{List, Bool, ap, subst, sym, ◌∙◌}
use Rattle.cov_base.specs.Choices.{all_choices, is_on}
use Rattle.cov_rules.specs.Lefts.{IsLeft}
use Rattle.cov_rules.proofs.Closing.{all_left, none_bound}
use Rattle.cov_rules.proofs.lefts.Left.all.Goals as goal

pub returns-clause-all : goal.returns-clause-all
returns-clause-all c ts =
    subst (λ (none : List Bool). IsLeft ts c.args.count (all_choices c.args.count) (record { node = 1; bound = none; values = none })) (sym c.new-none.ensures) (all_left ts c.args.count c.requires)

pub returns-clause-unbound : goal.returns-clause-unbound
returns-clause-unbound c o = ap (λ (none : List Bool). is_on none o) c.new-none.ensures ∙ none_bound c.args.count o
