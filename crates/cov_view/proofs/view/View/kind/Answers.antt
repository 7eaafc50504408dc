use Rattle.std.proofs.Common.{ap, ◌∙◌}
use Rattle.cov_view.specs.Seen.{Seen, kind_in}
use Rattle.cov_view.proofs.Finding.{kind-shown}
use Rattle.cov_view.proofs.view.View.kind.Goals as goal

pub returns-clause-shown : goal.returns-clause-shown
returns-clause-shown c = λ ns table v shows. c.kind_of.ensures ∙ ap (λ (s : Seen). kind_in s.rows c.args.node) c.self.view_is ∙ kind-shown ns table c.args.self.now v shows c.args.node
