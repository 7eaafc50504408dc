use Rattle.std.proofs.Common.{sym, ◌∙◌}
use Rattle.std.specs.Str.{bytes_eq}
use Rattle.cov_expr.proofs.CallerLemmas.{list_any-map}
use Rattle.cov_lines.proofs.tree_names.TreeNames.contains.Goals as goal

pub returns : goal.returns
returns c = rw (← c.self.view_is) (c.contains.ensures ∙ sym (list_any-map (bytes_eq c.args.name.now) (λ name. name.items) c.self.inside.names.keys))
