use Rattle.std.proofs.Common.{◌∙◌, ap, sym, option_map}
use Rattle.cov_edit.specs.Numbering.{node_number}
use Rattle.cov_lines.proofs.Spoken.{node-found}
use Rattle.cov_lines.proofs.state.ServerState.node_at.Goals as goal

pub returns-in-Some-clause-found : goal.returns-in-Some-clause-found
returns-in-Some-clause-found c =
    node-found c.args.self.now.state c.in_ok-view.view.now c.in-Some.node c.args.name.now c.args.path.now c.in_ok-view.ensures.found
    (λ ns table v shows. ap (option_map (node_number ns.nodes)) (sym c.in-Some.is) ∙ c.follow.ensures.shown ns table v shows) c.in-Some.ensures.made
