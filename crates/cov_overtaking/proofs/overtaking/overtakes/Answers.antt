use Rattle.std.proofs.Common.{sym, subst}
use Rattle.cov_overtaking.specs.Touches.{RiseByNode, AreOfTable}
use Rattle.cov_overtaking.proofs.First.{mark-rises, mark-known}
use Rattle.cov_overtaking.proofs.overtaking.overtakes.Goals as goal

pub meet-requires-clause-left_rises : goal.meet-requires-clause-left_rises
meet-requires-clause-left_rises c = subst RiseByNode (sym c.touches.ensures) (mark-rises c.args.table.now c.args.mark.now c.requires.kept)

pub meet-requires-clause-left_in : goal.meet-requires-clause-left_in
meet-requires-clause-left_in c = subst (AreOfTable c.args.table.now) (sym c.touches.ensures) (mark-known c.args.table.now c.args.mark.now c.requires.kept)
