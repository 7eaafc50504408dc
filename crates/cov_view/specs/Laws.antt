-- Laws of trees.
use Rattle.std.specs.Prelude.{◌≡◌, None}
use Rattle.cov_base.specs.Faults.{fault_of}
use Rattle.cov_base.specs.Rows.{AreOnce}
use Rattle.cov_edit.specs.Variant.{Variant}
use Rattle.cov_view.specs.Tree.{tree_of, AreSpelt, IsTreeOf}

-- the tree of a sound variant, whose names are spelt as names, has one row of each node but the root and no others, and their paths rise
abbrev pub TreeIsWhole : Type 0
TreeIsWhole = (v : Variant) → AreOnce v.rows → AreSpelt v.rows → fault_of v.rows ≡ None → IsTreeOf v (tree_of v)
