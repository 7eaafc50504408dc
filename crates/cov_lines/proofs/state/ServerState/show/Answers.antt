use Rattle.std.proofs.Common.{◌∙◌, ap}
use Rattle.cov_lines.specs.Acting.{Acts}
use Rattle.cov_lines.specs.Replies.{lines_reply, view_line}
use Rattle.cov_lines.proofs.Acted.{stopped}
use Rattle.cov_lines.proofs.Spoken.{at-path}
use Rattle.cov_lines.proofs.ToldFiles.{read-stops, shown-lines}
use Rattle.cov_lines.proofs.state.ServerState.show.Goals as goal

pub returns-in_err-lines : goal.returns-in_err-lines
returns-in_err-lines c =
    let st = c.args.self.now.state in
    stopped (Acts _ st st) c.from_residual-in_err-lines.result _ c.from_residual-in_err-lines.ensures.1
    (read-stops (at-path c.as_slice.ensures c.in_ok-view.ensures.found) _ c.in_err-lines.ensures.absent_shown c.in_err-lines.ensures.not_file_shown)

pub returns : goal.returns
returns c =
    shown-lines (at-path c.as_slice.ensures c.in_ok-view.ensures.found) c.in_ok-lines.lines c.in_ok-lines_reply.field-0 c.in_ok-lines.ensures.shown
    (c.in_ok-lines_reply.ensures ∙ ap (lines_reply view_line) c.as_slice-2.ensures)
