use Rattle.std.proofs.Common.{◌∙◌}
use Rattle.std.specs.Str.{bytes_eq}
use Rattle.std.proofs.lemmas.List.Folds.{list_all-map}
use Rattle.cov_base.specs.Spelling.{is_option_name}
use Rattle.cov_expr.proofs.ListLemmas.{IsDistinct-map}
use Rattle.cov_expr.proofs.options.Options.count.Goals as goal

pub returns-clause-spelt : goal.returns-clause-spelt
returns-clause-spelt c =
    rw (← c.self.view_is) (list_all-map is_option_name (λ name. name.items) c.self.inside.names.keys ∙ c.self.invariant.1)

pub returns-clause-distinct : goal.returns-clause-distinct
returns-clause-distinct c =
    rw (← c.self.view_is) (IsDistinct-map bytes_eq (λ name. name.items) c.self.inside.names.keys c.len.ensures.unique)
