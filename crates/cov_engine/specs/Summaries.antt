-- What is counted of a commit's edits.
use Rattle.std.specs.Prelude.{◌≡◌, ◌≤◌, List, length}
use Rattle.std.specs.List.{list_any}
use Rattle.cov_base.specs.declared.limits.TheConstants.{LIMITS}
use Rattle.cov_edit.specs.declared.edit.Edit.{Edit}
use Rattle.cov_edit.specs.Touched.{touched}
use Rattle.cov_history.specs.RowChanges.{changes_rows}
use Rattle.cov_engine.specs.Sizes.{sizes_of}
use Rattle.cov_engine.specs.declared.summary.EditSummary.{EditSummary}

-- how much edits make, what they touch, and whether they change rows
abbrev pub summary_of : List Edit → EditSummary
summary_of es = record { sizes = sizes_of es; touched = touched es; changes_rows = list_any changes_rows es }

-- a summary is that of edits, unless these are more than a commit may have
abbrev pub IsSummaryOf : List Edit → EditSummary → Type 0
IsSummaryOf es summary = length es ≤ LIMITS.edits → summary ≡ summary_of es
