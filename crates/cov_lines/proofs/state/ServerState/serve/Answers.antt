use Rattle.std.proofs.Common.{subst}
use Rattle.cov_lines.specs.Acting.{Handles}
use Rattle.cov_lines.specs.Growth.{analysis_keeps, edit_keeps, past_keeps, question_keeps}
use Rattle.cov_lines.specs.Step.{served_analysis, served_edit, served_past, served_question}
use Rattle.cov_lines.proofs.Grouping.{analysis-served, edit-served, past-served, question-served}
use Rattle.cov_lines.proofs.state.ServerState.serve.Goals as goal

pub returns-in-Edit : goal.returns-in-Edit
returns-in-Edit c =
    let st = c.args.self.now.state in
    let new = c.serve_edit.new.self.state in
    let name = c.in-Edit.name in
    let edit = c.in-Edit.edit in
    subst (λ wanted. Handles wanted st new c.as_done.result) (edit-served st c.args.line name edit c.in-Edit.is)
    (c.as_done.ensures (served_edit st name edit) st new (edit_keeps st name edit) c.serve_edit.ensures)

pub returns-in-Question : goal.returns-in-Question
returns-in-Question c =
    let st = c.args.self.now.state in
    let new = c.serve_question.new.self.state in
    let question = c.in-Question.question in
    subst (λ wanted. Handles wanted st new c.as_done-in-Question.result) (question-served st c.args.line question c.in-Question.is)
    (c.as_done-in-Question.ensures (served_question st question) st new (question_keeps st question) c.serve_question.ensures)

pub returns-in-Analysis : goal.returns-in-Analysis
returns-in-Analysis c =
    let st = c.args.self.now.state in
    let new = c.serve_analysis.new.self.state in
    let line = c.in-Analysis.line in
    subst (λ wanted. Handles wanted st new c.as_done-in-Analysis.result) (analysis-served st c.args.line line c.in-Analysis.is)
    (c.as_done-in-Analysis.ensures (served_analysis st line) st new (analysis_keeps st line) c.serve_analysis.ensures)

pub returns-in-Past : goal.returns-in-Past
returns-in-Past c =
    let st = c.args.self.now.state in
    let new = c.serve_past.new.self.state in
    let line = c.in-Past.line in
    subst (λ wanted. Handles wanted st new c.as_done-in-Past.result) (past-served st c.args.line line c.in-Past.is)
    (c.as_done-in-Past.ensures (served_past st line) st new (past_keeps st line) c.serve_past.ensures)
