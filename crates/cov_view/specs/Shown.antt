-- Rows of nodes of a history, as views of them have them.
use Rattle.std.specs.Prelude.{List, [], map}
use Rattle.cov_base.specs.declared.number.NodeRef.TheVariants as nodes
use Rattle.cov_base.specs.Rows.{Row}
use Rattle.cov_view.specs.Seen.{with_lines_by}
use Rattle.cov_view.specs.declared.row.ViewRow.{ViewRow}

-- a node's row as it is shown, without lines
abbrev pub bare_row : Row → ViewRow
bare_row r = record { node = nodes.Old r.node; kind = r.kind; parent = nodes.Old r.parent; name = r.name; lines = [] }

-- rows as they are shown, without lines
abbrev pub bare_rows : List Row → List ViewRow
bare_rows rows = map bare_row rows

-- a row without its lines
abbrev pub bare : ViewRow → ViewRow
bare r = with_lines_by (λ ls. []) r
