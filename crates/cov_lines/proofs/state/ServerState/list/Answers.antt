use Rattle.std.proofs.Common.{◌∙◌, ap}
use Rattle.cov_lines.specs.Acting.{Acts}
use Rattle.cov_lines.specs.Replies.{lines_reply, node_line}
use Rattle.cov_lines.proofs.Acted.{stopped}
use Rattle.cov_lines.proofs.Spoken.{at-path}
use Rattle.cov_lines.proofs.ToldFiles.{list-stops, listed-nodes}
use Rattle.cov_lines.proofs.state.ServerState.list.Goals as goal

pub returns-in_err-nodes : goal.returns-in_err-nodes
returns-in_err-nodes c =
    let st = c.args.self.now.state in
    stopped (Acts _ st st) c.from_residual-in_err-nodes.result _ c.from_residual-in_err-nodes.ensures.1
    (list-stops (at-path c.as_slice.ensures c.in_ok-view.ensures.found) _ c.in_err-nodes.ensures.absent_shown c.in_err-nodes.ensures.not_directory_shown)

pub returns : goal.returns
returns c =
    listed-nodes (at-path c.as_slice.ensures c.in_ok-view.ensures.found) c.in_ok-nodes.nodes c.in_ok-lines_reply.field-0 c.in_ok-nodes.ensures.shown
    (c.in_ok-lines_reply.ensures ∙ ap (lines_reply node_line) c.as_slice-2.ensures)
