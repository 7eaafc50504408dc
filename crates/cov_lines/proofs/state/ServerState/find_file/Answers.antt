use Rattle.std.proofs.Common.{◌≡◌, ◌∙◌, ap, subst, take, Ok}
use Rattle.std.proofs.Math.Seq.{take-length}
use Rattle.cov_edit.specs.Replay.{replay}
use Rattle.cov_visible.specs.Reading.{IsFileAt}
use Rattle.cov_lines.specs.States.{Serving}
use Rattle.cov_lines.proofs.Exported.{file-found}
use Rattle.cov_lines.proofs.state.ServerState.find_file.Goals as goal

pub returns : goal.returns
returns c =
    let history = c.self.inside.engine.history in
    let before = take c.position-at.result history in
    let file = c.in_ok-file_at.field-0 in
    let whole : replay c.args.choice before ≡ replay c.args.choice c.args.self.now.state.history =
    ap (replay c.args.choice) (ap (λ n. take n history) c.position-at.ensures ∙ take-length history ∙ ap (λ (v : Serving). v.state.history) c.self.view_is) in
    file-found (replay c.args.choice c.args.self.now.state.history) c.args.path.now file
    (subst (λ v. IsFileAt v c.args.path.now (Ok file)) whole (subst (λ path. IsFileAt (replay c.args.choice before) path (Ok file)) c.as_slice.ensures c.in_ok-file_at.ensures))
