use Rattle.std.proofs.Common.{◌≡◌, false, nat_eq, Some, option_map, ap, ◌∙◌, arith}
use Rattle.std.proofs.lemmas.Bool.Decides.{nat_tests}
use Rattle.cov_base.specs.Rows.{Row}
use Rattle.cov_visible.proofs.TriedRows.{kind-found}
use Rattle.cov_visible.proofs.tried_rows.kind_of.Goals as goal

pub returns-in-Some : goal.returns-in-Some
returns-in-Some c =
    let inner : nat_eq c.args.node 0 ≡ false = grind (arith, nat_tests, c.number.ensures, c.if-number-eq0.false) in
    ap (λ (r : Row). Some r.kind) c.row.view_is ∙ ap (option_map (λ (r : Row). r.kind)) c.in-Some.ensures ∙ kind-found c.args.rows.now c.args.node inner

pub returns-in-None : goal.returns-in-None
returns-in-None c =
    let inner : nat_eq c.args.node 0 ≡ false = grind (arith, nat_tests, c.number.ensures, c.if-number-eq0.false) in
    ap (option_map (λ (r : Row). r.kind)) c.in-None.ensures ∙ kind-found c.args.rows.now c.args.node inner
