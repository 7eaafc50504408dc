use Rattle.std.proofs.Common.{◌≡◌, ◌∙◌, ap, subst, take, map, Ok}
use Rattle.cov_edit.specs.Replay.{replay}
use Rattle.cov_edit.specs.Variant.{lines_of}
use Rattle.cov_visible.specs.Reading.{IsFileAt, line_row}
use Rattle.cov_lines.specs.Replies.{file_line, lines_reply}
use Rattle.cov_lines.specs.States.{Serving}
use Rattle.cov_lines.proofs.ToldFiles.{told-lines}
use Rattle.cov_lines.proofs.state.ServerState.tell_at.Goals as goal

pub returns : goal.returns
returns c =
    let st = c.args.self.now.state in
    let history = c.self.inside.engine.history in
    let file = c.in_ok-file.file in
    let now : replay c.args.choice (take c.args.at history) ≡ replay c.args.choice (take c.args.at st.history) =
    ap (λ (v : Serving). replay c.args.choice (take c.args.at v.state.history)) c.self.view_is in
    told-lines st (replay c.args.choice (take c.args.at st.history)) c.args.path.now file c.in_ok-lines.lines c.in_ok-lines_reply.field-0
    (subst (λ v. IsFileAt v c.args.path.now (Ok file)) now (subst (λ path. IsFileAt (replay c.args.choice (take c.args.at history)) path (Ok file)) c.as_slice.ensures c.in_ok-file.ensures))
    (c.in_ok-lines.ensures ∙ ap (λ v. map line_row (lines_of v file)) now)
    (c.in_ok-lines_reply.ensures ∙ ap (lines_reply file_line) c.as_slice-2.ensures)
