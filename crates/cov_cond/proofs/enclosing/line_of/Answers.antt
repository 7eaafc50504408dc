use Rattle.std.proofs.Common.{length, ap, ◌∙◌, arith}
use Rattle.cov_cond.proofs.Tokens.{text-bytes}
use Rattle.cov_cond.proofs.enclosing.line_of.Goals as goal

pub has_few_tokens-requires-clause-short : goal.has_few_tokens-requires-clause-short
has_few_tokens-requires-clause-short c =
    let same = ap length (c.as_slice.ensures ∙ c.in_ok-text.ensures) in
    omega (arith, text-bytes c.args.options.now.names c.args.expr.now c.count-count.ensures.spelt, c.part-part.ensures.fits, same)
