use Rattle.std.proofs.Common.{◌≡◌, take}
use Rattle.cov_edit.proofs.edits.copied_items.Given as goal

abbrev pub invariant-edits : goal.invariant-edits
invariant-edits l = l.items.items ≡ take l.edit-index l.edits
