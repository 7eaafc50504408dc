use Rattle.std.proofs.Common.{sym, ◌∙◌}
use Rattle.cov_visible.proofs.Rising.{found-place, no-place, part-there, part-absent}
use Rattle.cov_visible.proofs.places.part_of.Goals as goal

pub returns-in-Some : goal.returns-in-Some
returns-in-Some c = c.file_at.ensures ∙ sym (part-there c.args.files.now c.in-Some.index c.args.node c.requires.rising (found-place _ c.args.node _ _ c.index_of.ensures.place c.in-Some.is))

pub returns-in-None : goal.returns-in-None
returns-in-None c = sym (part-absent c.args.files.now c.args.node (no-place _ c.args.node _ c.index_of.ensures.place c.in-None.is))
