use Rattle.std.proofs.Common.{◌≡◌, length, map}
use Rattle.std.specs.List.{AllByRecursion}
use Rattle.cov_visible.specs.Staging.{contents}
use Rattle.cov_edit.specs.Touched.{AreRising}
use Rattle.cov_visible.specs.Parts.{part_node}
use Rattle.cov_visible.proofs.Rooms.{IsReadyBut}
use Rattle.cov_visible.proofs.file_parts.FileParts.add_rooms.Given as goal

abbrev pub invariant-loop-ahead : goal.invariant-loop-ahead
invariant-loop-ahead l = record {
  same : map contents l.files ≡ map contents l.initial.files;
  rising : AreRising (map part_node l.files);
  ready : AllByRecursion (IsReadyBut l.edits l.ahead) l.files;
}

abbrev pub decreases-loop-ahead : goal.decreases-loop-ahead
decreases-loop-ahead l = length l.ahead
