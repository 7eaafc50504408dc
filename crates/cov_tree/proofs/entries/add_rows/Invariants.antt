use Rattle.std.proofs.Common.{◌≡◌, ◌++◌, take}
use Rattle.cov_tree.specs.Entries.{rows_of}
use Rattle.cov_tree.proofs.entries.add_rows.Given as goal

abbrev pub invariant-places : goal.invariant-places
invariant-places l = l.rows ≡ l.fn.rows ++ rows_of l.table l.choice l.node l.kind (take l.place-index l.places)
