use Rattle.std.proofs.Common.{length, ap, ◌∙◌, arith}
use Rattle.cov_base.proofs.CallerLemmas.{length-with_option}
use Rattle.cov_alt.proofs.sides.side.Goals as goal

pub valid-requires : goal.valid-requires
valid-requires c =
    let same = ap length c.with-side.ensures ∙ length-with_option c.args.choice c.args.option c.args.on in
    omega (arith, same, c.requires.count)
