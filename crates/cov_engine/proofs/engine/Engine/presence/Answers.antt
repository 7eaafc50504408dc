use Rattle.std.proofs.Common.{◌≤◌, List, sym, ap, subst, ◌∙◌}
use Rattle.cov_dd.specs.declared.triple.Triple.{Triple}
use Rattle.cov_dd.specs.Diagrams.{span, value_in}
use Rattle.cov_edit.specs.History.{option_count}
use Rattle.cov_edit.specs.Replay.{replay}
use Rattle.cov_vis.proofs.CallerLemmas.{listing_of-same}
use Rattle.cov_engine.specs.Visibility.{has_line_number}
use Rattle.cov_engine.proofs.engine.Engine.presence.Goals as goal

pub returns-in_ok-list-in-Some-clause-listing : goal.returns-in_ok-list-in-Some-clause-listing
returns-in_ok-list-in-Some-clause-listing c =
    let history = c.args.self.now.history in
    let count = option_count history in
    let node = c.in-Some.node in
    let stands = c.in-Some.ensures.stands in
    c.in_ok-list-in-Some.ensures.one count (subst (λ (ts : List Triple). span ts node ≤ count) (sym c.table.ensures) stands.below)
    ∙ listing_of-same count (value_in c.table.result.now node) (λ choice. has_line_number c.args.line (replay choice history))
    (λ choice long. ap (λ (ts : List Triple). value_in ts node choice) c.table.ensures ∙ stands.value choice)
