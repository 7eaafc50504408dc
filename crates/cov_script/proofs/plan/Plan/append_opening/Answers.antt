use Rattle.std.proofs.Common.{◌++◌, ap, sym, ◌∙◌, append_assoc}
use Rattle.std.specs.Prelude.{codes, decimal}
use Rattle.std.proofs.lemmas.Result.{on_ok_weaker}
use Rattle.cov_script.specs.Commits.{opening_line}
use Rattle.cov_script.proofs.plan.Plan.append_opening.Goals as goal

pub returns-in-Always : goal.returns-in-Always
returns-in-Always c =
    let text = c.args.text.now in
    let on = decimal c.args.self.now.on in
    let joined = ap (λ t. t ++ codes "=on for true\n") (c.in_ok-append_numbered.ensures ∙ append_assoc text (codes "open s o") on)
    ∙ append_assoc text (codes "open s o" ++ on) (codes "=on for true\n")
    ∙ ap (λ a. text ++ opening_line c.args.self.now.on c.args.self.now.other a) (sym c.in-Always.is) in
    on_ok_weaker c.append.result (λ is. is ∙ joined) c.append.ensures.ok
