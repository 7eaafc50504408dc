use Rattle.std.proofs.Common.{Err, ap, subst, ◌∙◌}
use Rattle.cov_expr.specs.Tokens.{tokens_of}
use Rattle.cov_cond.proofs.Tokens.{TellsFew, tells-few}
use Rattle.cov_cond.proofs.enclosing.has_few_tokens.Goals as goal

pub unreachable-requires : goal.unreachable-requires
unreachable-requires c =
    subst (TellsFew (tokens_of c.args.text.now)) (c.in-Err-Syntax.is ∙ ap Err c.in-Err-Syntax.field-0-is)
    (tells-few c.args.text.now c.parse.result c.requires.spells c.parse.ensures.grammar)
