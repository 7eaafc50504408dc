-- What is wrong with a view of nodes that a history has.
use Rattle.std.specs.Prelude.{◌≡◌, Bool, true, false, ◌&&◌, List, Option, option_map}
use Rattle.std.specs.List.{AllByRecursion}
use Rattle.cov_base.specs.declared.number.NodeRef.{NodeRef}
use Rattle.cov_base.specs.declared.number.NodeRef.TheVariants as nodes
use Rattle.cov_base.specs.Faults as base
use Rattle.cov_base.specs.Rows.{Row}
use Rattle.cov_edit.specs.Numbering.{no_numbers}
use Rattle.cov_view.specs.Views.{row_by_number}
use Rattle.cov_view.specs.declared.fault.Fault.{Fault}
use Rattle.cov_view.specs.declared.fault.Fault.TheVariants as faults
use Rattle.cov_view.specs.declared.row.ViewRow.{ViewRow}

-- whether a reference names a node that a history has
abbrev pub is_old : NodeRef → Bool
is_old (nodes.Old x) = true
is_old (nodes.New i) = false

-- whether a row names nothing but nodes that a history has
abbrev pub is_old_row : ViewRow → Bool
is_old_row r = is_old r.node && is_old r.parent

-- rows name nothing but nodes that a history has
abbrev pub AreOld : List ViewRow → Type 0
AreOld rows = AllByRecursion (λ r. is_old_row r ≡ true) rows

-- a row of a history's nodes by their numbers
abbrev pub old_row : ViewRow → Row
old_row r = row_by_number no_numbers r

-- a fault of a variant as a view tells it
abbrev pub as_fault : base.Fault → Fault
as_fault (base.Clash low high) = faults.Clash low high
as_fault (base.Orphan node) = faults.Orphan node
as_fault (base.Loop node) = faults.Loop node

-- the first fault of rows
abbrev pub fault_in : List Row → Option Fault
fault_in rows = option_map as_fault (base.fault_of rows)
