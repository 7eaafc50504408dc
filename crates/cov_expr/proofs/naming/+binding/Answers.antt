use Rattle.std.proofs.lemmas.Result.{err_from_is_err_and}
use Rattle.cov_expr.specs.Parts.{raw_formula}
use Rattle.cov_expr.proofs.NameLemmas.{unknown_left, unknown_right, both_known}
use Rattle.cov_expr.proofs.naming.+binding.Goals as goal

pub bind_both-returns-in_err-left-clause-unknown : goal.bind_both-returns-in_err-left-clause-unknown
bind_both-returns-in_err-left-clause-unknown t c =
    let p = err_from_is_err_and c.from_residual.result c.from_residual.ensures.1 in
    rw (p.1, p.2) (unknown_left c.args.options.now.names (raw_formula c.args.left.now) (raw_formula c.args.right.now) c.in_err-left.field-0.0 c.in_err-left.ensures.unknown)

pub bind_both-returns-in_err-right-clause-unknown : goal.bind_both-returns-in_err-right-clause-unknown
bind_both-returns-in_err-right-clause-unknown t c =
    let p = err_from_is_err_and c.from_residual-in_err-right.result c.from_residual-in_err-right.ensures.1 in
    rw (p.1, p.2) (unknown_right c.args.options.now.names (raw_formula c.args.left.now) (raw_formula c.args.right.now) c.in_err-right.field-0.0 c.in_ok-left.ensures.known c.in_err-right.ensures.unknown)

pub bind_both-returns-clause-known : goal.bind_both-returns-clause-known
bind_both-returns-clause-known t c = both_known c.args.options.now.names (raw_formula c.args.left.now) (raw_formula c.args.right.now) c.in_ok-left.ensures.known c.in_ok-right.ensures.known
