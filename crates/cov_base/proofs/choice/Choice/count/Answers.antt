use Rattle.std.proofs.Common.{◌∙◌, sym, ap, length}
use Rattle.cov_base.specs.Bits.{length-bits_of}
use Rattle.cov_base.proofs.choice.Choice.count.Goals as goal

pub returns-clause-count : goal.returns-clause-count
returns-clause-count c = sym (length-bits_of c.self.inside.count c.self.inside.bits) ∙ ap length c.self.view_is
