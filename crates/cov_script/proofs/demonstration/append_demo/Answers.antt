use Rattle.std.proofs.lemmas.Result.{on_ok_weaker}
use Rattle.cov_script.specs.Demonstration.{made_lines, checkout_lines, demo_text}
use Rattle.cov_script.proofs.Repeating.{joined}
use Rattle.cov_script.proofs.demonstration.append_demo.Goals as goal

pub returns : goal.returns
unfolding demo_text
returns c =
    on_ok_weaker c.append_each.result (λ is. joined c.args.text.now (made_lines c.args.number) checkout_lines c.append_made.new.text c.append_each.new.text c.in_ok-append_made.ensures is) c.append_each.ensures
