-- The commands that have a record: each is what its types keep, and so are its numbers.
use Rattle.std.specs.Prelude.{◌≡◌, ◌<◌, ◌≤◌, ◌^◌, Bool, true, false, List, length}
use Rattle.std.specs.List.{AllByRecursion}
use Rattle.cov_base.specs.declared.limits.TheConstants.{CHOICE_WIDTH}
use Rattle.cov_base.specs.declared.number.NodeRef.{NodeRef}
use Rattle.cov_base.specs.declared.number.NodeRef.TheVariants as nodes
use Rattle.cov_base.specs.declared.number.LineRef.{LineRef}
use Rattle.cov_base.specs.declared.number.LineRef.TheVariants as lines
use Rattle.cov_expr.specs.Formula.{reach}
use Rattle.cov_edit.specs.EditFits.{fits_edit}
use Rattle.cov_edit.specs.Fits.{fits_command}
use Rattle.cov_edit.specs.Sides.{unsided}
use Rattle.cov_edit.specs.declared.edit.Edit.{Edit}
use Rattle.cov_edit.specs.declared.edit.Edit.TheVariants as edits
use Rattle.cov_edit.specs.declared.sided.Sided.{Sided}
use Rattle.cov_edit.specs.declared.command.Command.{Command}
use Rattle.cov_edit.specs.declared.command.Command.TheVariants as commands
use Rattle.cov_record.specs.SideRuns.{SideRun, side_runs, has_sides}

-- the number of a node has 32 bits
abbrev pub FitsNode : NodeRef → Type 0
FitsNode (nodes.Old x) = x < 2 ^ 32
FitsNode (nodes.New i) = i < 2 ^ 32

-- the number of a line has 32 bits
abbrev pub FitsLine : LineRef → Type 0
FitsLine (lines.Old x) = x < 2 ^ 32
FitsLine (lines.New i) = i < 2 ^ 32

-- the numbers of the nodes and lines that an edit names have 32 bits
abbrev pub FitsReferences : Edit → Type 0
FitsReferences (edits.New kind parent name) = FitsNode parent
FitsReferences (edits.Insert file after text) = FitsNode file × FitsLine after
FitsReferences (edits.Delete file line) = FitsNode file × FitsLine line
FitsReferences (edits.Rename node name) = FitsNode node
FitsReferences (edits.Move node parent) = FitsNode node × FitsNode parent
FitsReferences (edits.Remove node) = FitsNode node

-- an edit that has a spelling
abbrev pub FitsEdit : Edit → Type 0
FitsEdit edit = (fits_edit edit ≡ true) × FitsReferences edit

-- the number of a run's edits has 32 bits
abbrev pub FitsCount : SideRun → Type 0
FitsCount run = length run.edits < 2 ^ 32

-- the options of a run's side and the numbers that its edits name are those that can be written
abbrev pub FitsWritten : SideRun → Type 0
FitsWritten run = (reach run.side ≤ CHOICE_WIDTH) × AllByRecursion FitsReferences run.edits

-- the numbers that stand before the edits of a commit have 32 bits: that of all, or those of the runs and of the edits in each
abbrev pub FitsCounts : Bool → List Sided → Type 0
FitsCounts true ss = (length (side_runs ss) < 2 ^ 32) × AllByRecursion FitsCount (side_runs ss)
FitsCounts false ss = length ss < 2 ^ 32

-- the numbers of a command have 32 bits, those before its edits too, and its choice has no more options than a choice can have
abbrev pub FitsNumbers : Command → Type 0
FitsNumbers (commands.Option name) = Unit {0}
FitsNumbers (commands.Constraint expr) = Unit {0}
FitsNumbers (commands.Prefer expr) = Unit {0}
FitsNumbers (commands.Default option on) = Unit {0}
FitsNumbers (commands.Commit base choice ambition ss) =
    (base < 2 ^ 32) × (length choice ≤ CHOICE_WIDTH) × FitsCounts (has_sides ss) ss × AllByRecursion FitsReferences (unsided ss)
FitsNumbers commands.Upgrade = Unit {0}

-- a command that has a record
abbrev pub FitsRecord : Command → Type 0
FitsRecord command = (fits_command command ≡ true) × FitsNumbers command
