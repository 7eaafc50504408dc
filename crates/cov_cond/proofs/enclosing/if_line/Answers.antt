use Rattle.std.proofs.Common.{◌≡◌, ◌<◌, ◌≤◌, length, sym, subst}
use Rattle.std.specs.Prelude.{MatchOption}
use Rattle.cov_base.specs.declared.limits.TheConstants.{MOST_PARTS}
use Rattle.cov_expr.specs.Formula.{part_count, reach}
use Rattle.cov_cond.specs.Exporting.{expression_of}
use Rattle.cov_cond.proofs.Expressions.{expression-reach}
use Rattle.cov_cond.proofs.Tokens.{many-listed}
use Rattle.cov_cond.proofs.enclosing.if_line.Goals as goal

pub line_of-requires : goal.line_of-requires
line_of-requires c =
    let l = c.args.listing.now in
    let n = length c.args.options.now.names in
    let is = subst (λ found. MatchOption found (MOST_PARTS < part_count (expression_of l)) (λ expr. expr ≡ expression_of l)) c.in-Some.is c.in_ok-expr.ensures in
    subst (λ e. reach e ≤ n) (sym is) (expression-reach n l c.requires)

pub returns-in-None : goal.returns-in-None
returns-in-None c =
    let l = c.args.listing.now in
    many-listed c.texts_give_their_expressions.ensures.spells c.args.options.now.names l c.count-count.ensures.spelt c.requires
    (subst (λ found. MatchOption found (MOST_PARTS < part_count (expression_of l)) (λ expr. expr ≡ expression_of l)) c.in-None.is c.in_ok-expr.ensures)
