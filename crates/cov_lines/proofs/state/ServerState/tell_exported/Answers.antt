use Rattle.std.proofs.Common.{◌≡◌, ◌∙◌, ap, subst, Ok}
use Rattle.cov_cond.specs.Exporting.{IsExportFaultOf, exported}
use Rattle.cov_script.specs.Replies.{text_line}
use Rattle.cov_lines.specs.Acting.{Acts}
use Rattle.cov_lines.specs.Replies.{lines_reply}
use Rattle.cov_lines.specs.States.{Serving}
use Rattle.cov_lines.specs.Step.{file_exported}
use Rattle.cov_lines.proofs.Acted.{stopped}
use Rattle.cov_lines.proofs.Exported.{export-stops, exported-told}
use Rattle.cov_lines.proofs.state.ServerState.tell_exported.Goals as goal

pub returns : goal.returns
returns c =
    let now = ap (λ (v : Serving). v.state.history) c.self.view_is in
    exported-told c.args.self.now.state c.args.file c.in_ok-lines.lines c.in_ok-lines_reply.field-0
    (subst (λ history. exported history c.args.file ≡ Ok c.in_ok-lines.lines) now c.in_ok-lines.ensures.lines)
    (c.in_ok-lines_reply.ensures ∙ ap (lines_reply text_line) c.as_slice.ensures)

pub returns-in_err-lines : goal.returns-in_err-lines
returns-in_err-lines c =
    let st = c.args.self.now.state in
    let now = ap (λ (v : Serving). v.state.history) c.self.view_is in
    let fault = c.in_err-lines.field-0.0 in
    stopped (Acts (file_exported st c.args.file) st st) c.from_residual.result _ c.from_residual.ensures.1
    (export-stops st c.args.file fault (subst (λ history. IsExportFaultOf (exported history c.args.file) fault) now c.in_err-lines.ensures.fault))
