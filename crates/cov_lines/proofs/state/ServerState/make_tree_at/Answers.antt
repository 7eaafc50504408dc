use Rattle.std.proofs.Common.{ap, sym, subst, length, take, arith}
use Rattle.cov_edit.specs.Numbering.{numbers_of}
use Rattle.cov_edit.specs.Replay.{replay}
use Rattle.cov_history.proofs.CallerLemmas.{base-nodes, replay-few}
use Rattle.cov_view.proofs.CallerLemmas.{length-tree}
use Rattle.cov_view.specs.Seen.{Seen}
use Rattle.cov_view.specs.Views.{Shows}
use Rattle.cov_lines.proofs.state.ServerState.make_tree_at.Goals as goal

pub tell_tree-requires : goal.tell_tree-requires
tell_tree-requires c =
    let history = c.self.inside.engine.history in
    let before = take c.args.at history in
    let v = replay c.args.choice before in
    let shows = subst (λ (s : Seen). Shows (numbers_of before) (numbers_of before).addresses s v) (sym c.in_ok-view.ensures) (c.visible.ensures.shows c.args.at c.args.choice) in
    let is = ap length (c.in_ok-rows.ensures.shown (numbers_of before) (numbers_of before).addresses v shows) in
    let few = length-tree v in
    let made = replay-few c.args.choice before in
    let nodes = base-nodes c.args.at history in
    omega (arith, is, few, made, nodes, c.counts-nodes.ensures.nodes, c.counts-nodes.type_inv)
