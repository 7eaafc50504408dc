-- What a line of a form does is what its group does.
use Rattle.std.proofs.Common.{◌≡◌, ap, sym, ℕ, Bool, List}
use Rattle.cov_expr.specs.Formula.{Formula}
use Rattle.cov_script.specs.declared.grouped.AnalysisLine.{AnalysisLine}
use Rattle.cov_script.specs.declared.grouped.EditLine.{EditLine}
use Rattle.cov_script.specs.declared.grouped.GroupedLine.{GroupedLine}
use Rattle.cov_script.specs.declared.grouped.GroupedLine.TheVariants as groups
use Rattle.cov_script.specs.declared.grouped.PastLine.{PastLine}
use Rattle.cov_script.specs.declared.grouped.Question.{Question}
use Rattle.cov_script.specs.declared.grouped.SessionLine.{SessionLine}
use Rattle.cov_script.specs.declared.grouped.SessionLine.TheVariants as session_lines
use Rattle.cov_lines.specs.States.{State}
use Rattle.cov_lines.specs.Step.{dropped, opened, plainly, refreshed, served, served_analysis, served_edit, served_past, served_question, served_session, side_changed}

module _ (st : State) where
  pub edit-served : (line : GroupedLine) (name : List ℕ) (edit : EditLine) → line ≡ groups.Edit name edit → plainly (served_edit st name edit) ≡ served st line
  unfolding served
  edit-served line name edit e = ap (served st) (sym e)

  pub question-served : (line : GroupedLine) (question : Question) → line ≡ groups.Question question → plainly (served_question st question) ≡ served st line
  unfolding served
  question-served line question e = ap (served st) (sym e)

  pub analysis-served : (line : GroupedLine) (asked : AnalysisLine) → line ≡ groups.Analysis asked → plainly (served_analysis st asked) ≡ served st line
  unfolding served
  analysis-served line asked e = ap (served st) (sym e)

  pub past-served : (line : GroupedLine) (asked : PastLine) → line ≡ groups.Past asked → plainly (served_past st asked) ≡ served st line
  unfolding served
  past-served line asked e = ap (served st) (sym e)

  pub opened-served : (line : SessionLine) (name : List ℕ) (bindings : List (List ℕ × Bool)) (ambition : Formula (List ℕ)) → line ≡ session_lines.Open name bindings ambition
      → opened st name bindings ambition ≡ served_session st line
  unfolding served_session
  opened-served line name bindings ambition e = ap (served_session st) (sym e)

  pub side-served : (line : SessionLine) (name : List ℕ) (side : Formula (List ℕ)) → line ≡ session_lines.Side name side → side_changed st name side ≡ served_session st line
  unfolding served_session
  side-served line name side e = ap (served_session st) (sym e)

  pub refreshed-served : (line : SessionLine) (name : List ℕ) → line ≡ session_lines.Refresh name → refreshed st name ≡ served_session st line
  unfolding served_session
  refreshed-served line name e = ap (served_session st) (sym e)

  pub dropped-served : (line : SessionLine) (name : List ℕ) → line ≡ session_lines.Discard name → dropped st name ≡ served_session st line
  unfolding served_session
  dropped-served line name e = ap (served_session st) (sym e)
