use Rattle.std.proofs.Common.{◌≤◌, take}
use Rattle.cov_io.specs.Devices.{AppendsAll}
use Rattle.cov_loop.proofs.rows.put_rows.Given as goal

abbrev pub invariant-rows : goal.invariant-rows
invariant-rows g l = record {
  written : AppendsAll (take l.row-index l.row-items) (g.T.Trees.rows l.fn.trees) (g.T.Trees.rows l.trees);
  later : g.T.Trees.faults l.fn.trees ≤ g.T.Trees.faults l.trees;
}
