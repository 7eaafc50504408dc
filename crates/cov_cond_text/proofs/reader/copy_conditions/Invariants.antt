use Rattle.std.proofs.Common.{◌≡◌, map, take}
use Rattle.cov_cond_text.specs.Readers.{condition_in}
use Rattle.cov_cond_text.proofs.reader.copy_conditions.Given as goal

abbrev pub invariant-loop-block : goal.invariant-loop-block
invariant-loop-block l = l.conditions ≡ map condition_in (take l.block-index l.blocks)
