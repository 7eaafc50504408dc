-- What is counted of a session's edits.
use Rattle.std.specs.Prelude.{◌≡◌, ◌≤◌, ℕ, List, length, Option, Some, None}
use Rattle.cov_base.specs.declared.limits.TheConstants.{LIMITS}
use Rattle.cov_edit.specs.declared.edit.Edit.{Edit}
use Rattle.cov_edit.specs.declared.edit.Edit.TheVariants as edits
use Rattle.cov_edit.specs.History.{text_bytes}
use Rattle.cov_edit.specs.Numbering.{nodes_made, anchors_of}
use Rattle.cov_view.specs.Seen.{Seen}
use Rattle.cov_history.specs.Sessions.{Session, edits_of}

-- how many lines a session has inserted
abbrev pub own_lines : Session → ℕ
own_lines s = length (anchors_of 0 (edits_of s))

-- the number of the line that an edit inserts, among those of its session
abbrev pub line_made : Session → Edit → Option ℕ
line_made s (edits.Insert file after text) = Some (own_lines s)
line_made s _ = None

-- a view has made as many nodes and lines as edits make, these insert so many bytes of text, and they are within the limits
pub record IsCounted (view : Seen) (es : List Edit) (bytes : ℕ) : Type 0 where
  pub nodes : view.nodes_made ≡ nodes_made es
  pub lines : view.lines_made ≡ length (anchors_of 0 es)
  pub bytes_of_text : bytes ≡ text_bytes es
  pub few : length es ≤ LIMITS.edits
  pub light : text_bytes es ≤ LIMITS.commit_bytes
