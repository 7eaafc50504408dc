use Rattle.std.proofs.Common.{◌∙◌, ap, length, arith}
use Rattle.cov_lines.specs.Analysing.{KeptValue}
use Rattle.cov_lines.proofs.Analysed.{nearest-length}
use Rattle.cov_lines.proofs.nearest_choices.tell_nearest.Goals as goal

pub reply_nearest-requires : goal.reply_nearest-requires
reply_nearest-requires c =
    let found = c.in_ok-found.ensures.nearest c.kept.inside.constraints c.kept.invariant.0 in
    let long = nearest-length c.kept.inside.analysis.count c.kept.inside.constraints c.args.choice c.in_ok-found.found.choice found in
    let kept = c.kept.invariant.1 in
    let count = ap (λ (k : KeptValue). k.count) c.kept.view_is ∙ c.requires.kept.1 in
    let names = ap length c.options.ensures in
    omega (arith, long, kept, count, names)
