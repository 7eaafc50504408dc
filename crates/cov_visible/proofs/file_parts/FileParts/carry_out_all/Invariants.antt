use Rattle.std.proofs.Common.{List, length, map}
use Rattle.cov_visible.specs.declared.file_part.FilePart.{FilePart}
use Rattle.cov_edit.specs.Touched.{AreRising}
use Rattle.cov_visible.specs.Parts.{part_node}
use Rattle.cov_visible.specs.Carrying.{CanCarryOutAll, AreAllCarriedOut}
use Rattle.cov_visible.proofs.file_parts.FileParts.carry_out_all.Given as goal

abbrev pub invariant-loop-edit : goal.invariant-loop-edit
invariant-loop-edit l = record {
  rising : AreRising (map part_node l.files);
  can : CanCarryOutAll l.at l.edits.items l.files;
  goes_on : (after : List FilePart) → AreAllCarriedOut l.at l.edits.items l.files after → AreAllCarriedOut l.at l.initial.edits.items l.initial.files after;
}

abbrev pub decreases-loop-edit : goal.decreases-loop-edit
decreases-loop-edit l = length l.edits.items
