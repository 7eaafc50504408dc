use Rattle.std.proofs.Common.{◌≡◌, List, [], ◌++◌, length}
use Rattle.std.specs.List.{AllByRecursion}
use Rattle.cov_dd.specs.declared.triple.Triple.{Triple}
use Rattle.cov_dd.specs.Diagrams.{Extends}
use Rattle.cov_visible.specs.Staging.{AreNear, AreLow}
use Rattle.cov_visible.specs.Nodes.{HasNodesIn, IsTaken}
use Rattle.cov_visible.specs.Resolved.{AreOfTable, HaveNumbers, AreResolvedBy, AreResolvedWith}
use Rattle.cov_visible.specs.declared.resolved_edit.ResolvedEdit.{ResolvedEdit}
use Rattle.cov_visible.proofs.resolving.resolve_onto.Given as goal

abbrev pub invariant-loop-ahead : goal.invariant-loop-ahead
invariant-loop-ahead l = record {
  extends : Extends l.fn.table l.table;
  nodes : AllByRecursion (HasNodesIn l.table l.context.at) l.files;
  inserted : AreOfTable l.table l.inserted;
  each : length l.behind ≡ length l.ahead;
  conditions : AreOfTable l.table l.behind;
  near : AreNear l.context.nodes l.ahead;
  low : AreLow l.context.lines l.ahead;
  few : HaveNumbers l.made l.ahead;
  resolved : (us : List Triple) → Extends l.table us → l.fn.resolved.items ≡ [] → (ss : List ResolvedEdit)
      → AreResolvedBy (IsTaken us l.context.at l.files l.context.lines l.inserted) l.context.nodes l.context.lines l.behind l.made.nodes l.made.lines l.ahead ss
      → AreResolvedWith l.inserted l.context l.files us l.conditions l.edits (l.resolved.items ++ ss);
}

abbrev pub decreases-loop-ahead : goal.decreases-loop-ahead
decreases-loop-ahead l = length l.ahead
