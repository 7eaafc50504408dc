use Rattle.cov_visible.proofs.StoredFiles.{carried-rising, can-rest, carried-rest}
use Rattle.cov_visible.proofs.file_parts.FileParts.carry_out_all.Goals as goal

pub loop-edit-preserved : goal.loop-edit-preserved
loop-edit-preserved c = record {
  rising = carried-rising c.args.at c.in-Some.edit c.loop-edit.files c.carry_out.new.files c.carry_out.ensures c.loop-edit.invariant.rising;
  can =
      can-rest c.args.at c.in-Some.edit c.loop-edit.edits.items c.pop_front.new.self.items c.loop-edit.files c.carry_out.new.files c.in-Some.ensures.items c.carry_out.ensures
      c.loop-edit.invariant.can;
  goes_on = λ after h.
      c.loop-edit.invariant.goes_on after
      (carried-rest c.args.at c.in-Some.edit c.loop-edit.edits.items c.pop_front.new.self.items c.loop-edit.files c.carry_out.new.files c.in-Some.ensures.items c.carry_out.ensures after h);
}
