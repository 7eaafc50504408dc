-- How much edits make.
use Rattle.std.specs.Prelude.{List, length, Option}
use Rattle.cov_base.specs.declared.limits.Limits.{Limits}
use Rattle.cov_edit.specs.declared.edit.Edit.{Edit}
use Rattle.cov_edit.specs.History.{text_bytes}
use Rattle.cov_edit.specs.Numbering.{nodes_made, anchors_of}
use Rattle.cov_view.specs.Refusals.{first_of}
use Rattle.cov_history.specs.Verdict.{refusals_by_size}
use Rattle.cov_history.specs.declared.refusal.Refusal.{Refusal}
use Rattle.cov_engine.specs.declared.counts.Counts.{Counts}
use Rattle.cov_engine.specs.declared.sizes.Sizes.{Sizes}

-- how many lines and nodes edits make, and how many bytes of text they insert
abbrev pub sizes_of : List Edit → Sizes
sizes_of es = record { lines = length (anchors_of 0 es); nodes = nodes_made es; bytes = text_bytes es }

-- the refusal of edits that are too many or make too much for limits, so much being there already
abbrev pub sizes_refusal : Limits → Counts → List Edit → Option Refusal
sizes_refusal limits counts es = first_of (refusals_by_size limits counts.lines counts.nodes counts.bytes es)
