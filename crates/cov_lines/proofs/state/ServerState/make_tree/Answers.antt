use Rattle.std.proofs.Common.{◌≡◌, ◌∙◌, ap, subst, length, take}
use Rattle.std.specs.Prelude.{IfOk}
use Rattle.std.proofs.Math.Seq.{take-length}
use Rattle.cov_edit.specs.Replay.{replay}
use Rattle.cov_view.specs.Tree.{tree_of}
use Rattle.cov_lines.specs.States.{Serving}
use Rattle.cov_lines.specs.Written.{TellsTree}
use Rattle.cov_lines.proofs.state.ServerState.make_tree.Goals as goal

pub returns : goal.returns
returns c =
    let st = c.args.self.now.state in
    let whole : take c.position.result st.history ≡ st.history =
    ap (λ n. take n st.history) (c.position.ensures ∙ ap (λ (v : Serving). length v.state.history) c.self.view_is) ∙ take-length st.history in
    subst (λ history. IfOk c.make_tree_at.result (TellsTree c.args.tree.now (tree_of (replay c.args.choice history)))) whole c.make_tree_at.ensures
