use Rattle.std.proofs.Common.{◌≡◌, Some, sym, subst, ◌∙◌}
use Rattle.std.specs.List.{AllByRecursion}
use Rattle.std.proofs.lemmas.Result.{IfOk-weaker}
use Rattle.cov_hist.specs.Origins.{origin}
use Rattle.cov_hist.proofs.Numbered.{blamed-have, rows-have}
use Rattle.cov_hist.proofs.blaming.blame.Goals as goal

pub with_origins-requires : goal.with_origins-requires
with_origins-requires c =
    blamed-have c.args.engine.now.history c.args.choice c.args.file c.position.result c.as_slice.result.now c.position.ensures (c.as_slice.ensures ∙ c.in_ok-lines.ensures)

pub returns-clause-origins : goal.returns-clause-origins
returns-clause-origins c =
    let history = c.args.engine.now.history in
    let known = blamed-have history c.args.choice c.args.file c.position.result c.as_slice.result.now c.position.ensures (c.as_slice.ensures ∙ c.in_ok-lines.ensures) in
    IfOk-weaker c.with_origins.result _ _
    (λ rows is. subst (AllByRecursion (λ row. origin history row.line ≡ Some row.position)) (sym is) (rows-have history c.as_slice.result.now known))
    c.with_origins.ensures
