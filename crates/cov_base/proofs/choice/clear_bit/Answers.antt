use Rattle.std.proofs.lemmas.Nat.Bits.{bit_at_clear_same, bit_at_clear_other}
use Rattle.std.specs.Int.{w128}
use Rattle.cov_base.proofs.choice.clear_bit.Goals as goal

pub returns-clause-set : goal.returns-clause-set
returns-clause-set c = bit_at_clear_same w128 c.args.bits c.args.at c.requires

pub returns-clause-others : goal.returns-clause-others
returns-clause-others c = λ i lt ne. bit_at_clear_other w128 c.args.bits c.args.at c.requires i lt ne
