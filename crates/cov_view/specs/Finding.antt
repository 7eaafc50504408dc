-- What the rows of a view are found by.
use Rattle.std.specs.Prelude.{◌≡◌, List, map}
use Rattle.cov_view.specs.Keys.{IsIndexOf}
use Rattle.cov_view.specs.Shown.{bare, bare_rows}
use Rattle.cov_view.specs.declared.row.ViewRow.{ViewRow}
use Rattle.cov_view.specs.declared.row_index.FoundBy.{FoundBy}
use Rattle.cov_view.specs.declared.row_index.FoundBy.TheVariants as by
use Rattle.cov_view.specs.declared.row_index.RowIndex.{RowIndex}

-- rows are found by an index of them, or by that of a tree with the same rows but for their lines, or by nothing but themselves
abbrev pub FindsBy : FoundBy → List ViewRow → Type 0
FindsBy (by.Own index) rows = IsIndexOf index rows
FindsBy (by.Shared tree) rows = map bare rows ≡ bare_rows tree
FindsBy by.GivenUp rows = Unit {0}

-- rows are found so
abbrev pub Finds : RowIndex → List ViewRow → Type 0
Finds index rows = FindsBy index.found_by rows
