use Rattle.std.proofs.Common.{sym, ◌∙◌, Some, ap}
use Rattle.std.specs.Str.{bytes_eq}
use Rattle.cov_base.proofs.CallerLemmas.{any-map}
use Rattle.cov_expr.proofs.ListLemmas.{position-map, name_found}
use Rattle.cov_expr.proofs.options.Options.find.Goals as goal

pub returns-in-None-clause-found : goal.returns-in-None-clause-found
returns-in-None-clause-found c =
    rw (← c.self.view_is) (c.in-None.ensures.index ∙ sym (position-map (bytes_eq c.args.name.now) (λ name. name.items) c.self.inside.names.keys))

pub returns-in-None-clause-declared : goal.returns-in-None-clause-declared
returns-in-None-clause-declared c =
    rw (← c.self.view_is) (c.in-None.ensures.found ∙ sym (any-map (bytes_eq c.args.name.now) (λ name. name.items) c.self.inside.names.keys))

pub returns-in-Some-clause-found : goal.returns-in-Some-clause-found
returns-in-Some-clause-found c =
    rw (← c.self.view_is) (ap Some c.new.ensures ∙ c.in-Some.ensures.index ∙ sym (position-map (bytes_eq c.args.name.now) (λ name. name.items) c.self.inside.names.keys))

pub returns-in-Some-clause-declared : goal.returns-in-Some-clause-declared
returns-in-Some-clause-declared c =
    rw (← c.self.view_is) (c.in-Some.ensures.found ∙ sym (any-map (bytes_eq c.args.name.now) (λ name. name.items) c.self.inside.names.keys))

pub returns-in-Some-clause-named : goal.returns-in-Some-clause-named
returns-in-Some-clause-named c =
    name_found c.args.name.now _ _ (sym (returns-in-Some-clause-found c))
