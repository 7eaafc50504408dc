use Rattle.std.proofs.Common.{ap, ◌∙◌, position}
use Rattle.std.specs.List.{list_any}
use Rattle.cov_view.proofs.Keys.{same_key, agrees, keyed, any-key}
use Rattle.cov_view.proofs.node_index.NodeIndex.place.Goals as goal

pub returns-clause-place : goal.returns-clause-place
returns-clause-place c = λ rows h. c.get_index_of.ensures.index ∙ ap (position (same_key c.args.node.now)) h.0 ∙ keyed same_key agrees c.args.node.now rows

pub returns-clause-found : goal.returns-clause-found
returns-clause-found c = λ rows h. c.get_index_of.ensures.found ∙ ap (list_any (same_key c.args.node.now)) h.0 ∙ any-key same_key agrees c.args.node.now rows
