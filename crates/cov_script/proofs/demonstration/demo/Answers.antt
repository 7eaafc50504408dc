use Rattle.std.proofs.Common.{◌<◌, ◌++◌, length, ap, sym, ◌∙◌, subst}
use Rattle.cov_script.specs.Demonstration.{demo_text}
use Rattle.cov_script.proofs.Lengths.{demo_short}
use Rattle.cov_script.proofs.demonstration.demo.Goals as goal

pub returns-clause-short : goal.returns-clause-short
returns-clause-short c =
    let script = c.in_ok-append_demo.ensures ∙ ap (λ t. t ++ demo_text c.args.number) c.new-text.ensures in
    subst (λ t. length t < 2000000) (sym script) (demo_short c.args.number)
