use Rattle.std.proofs.Common.{sym, ap, ◌∙◌, map}
use Rattle.std.specs.Str.{bytes_eq}
use Rattle.cov_expr.proofs.CallerLemmas.{insert_key-new, list_any-map}
use Rattle.cov_lines.proofs.tree_names.TreeNames.add.Goals as goal

pub returns : goal.returns
returns c =
    let own = c.in_ok-own.own in
    let fresh = rw (← c.self.view_is, ← c.in_ok-own.ensures.items) at c.requires in
    rw (← c.self.view_is, ← c.in_ok-own.ensures.items)
    (ap (map (λ name. name.items)) c.in_ok-insert.ensures.keys
    ∙ insert_key-new (λ name. name.items) c.self.inside.names.keys own
    (sym (list_any-map (bytes_eq own.items) (λ name. name.items) c.self.inside.names.keys) ∙ fresh))
