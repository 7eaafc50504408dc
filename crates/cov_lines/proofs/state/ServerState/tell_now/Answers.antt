use Rattle.std.proofs.Common.{◌≡◌, ◌∙◌, ap, subst, length, take}
use Rattle.std.proofs.Math.Seq.{take-length}
use Rattle.cov_edit.specs.Replay.{replay}
use Rattle.cov_lines.specs.Acting.{Acts}
use Rattle.cov_lines.specs.States.{Serving}
use Rattle.cov_lines.specs.Step.{file_told}
use Rattle.cov_lines.proofs.state.ServerState.tell_now.Goals as goal

pub returns : goal.returns
returns c =
    let st = c.args.self.now.state in
    let whole : take c.position.result st.history ≡ st.history =
    ap (λ n. take n st.history) (c.position.ensures ∙ ap (λ (v : Serving). length v.state.history) c.self.view_is) ∙ take-length st.history in
    subst (λ history. Acts (file_told st (replay c.args.choice history) c.args.path.now) st st c.tell_at.result) whole c.tell_at.ensures
