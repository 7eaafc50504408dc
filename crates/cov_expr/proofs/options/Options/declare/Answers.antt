use Rattle.std.proofs.Common.{sym, ap, ◌∙◌, map}
use Rattle.std.specs.Str.{bytes_eq}
use Rattle.cov_base.proofs.CallerLemmas.{any-map}
use Rattle.cov_expr.proofs.ListLemmas.{insert_key-new}
use Rattle.cov_expr.proofs.options.Options.declare.Goals as goal

pub returns-clause-names : goal.returns-clause-names
returns-clause-names c =
    let fresh = rw (← c.self.view_is, ← c.into_vec.ensures.bytes) at c.requires.fresh in
    rw (← c.self.view_is, ← c.into_vec.ensures.bytes)
    (ap (map (λ name. name.items)) c.in-Ok.ensures.keys
    ∙ insert_key-new (λ name. name.items) c.self.inside.names.keys c.into_vec.result
    (sym (any-map (bytes_eq c.into_vec.result.items) (λ name. name.items) c.self.inside.names.keys) ∙ fresh))
