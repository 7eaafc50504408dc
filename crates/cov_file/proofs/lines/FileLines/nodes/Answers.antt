use Rattle.cov_file.proofs.Redating.{lines_pass}
use Rattle.cov_file.proofs.lines.FileLines.nodes.Goals as goal

pub returns-clause-all : goal.returns-clause-all
returns-clause-all c =
    rw (← c.self.view_is) (λ test pass. lines_pass test c.self.inside.texts.entries c.self.inside.changes.lists c.self.inside.order.lines (c.nodes.ensures.all test pass))
