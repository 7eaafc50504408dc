use Rattle.cov_file.specs.Kept.{dated_lines}
use Rattle.cov_file.specs.Sights.{shown_by}
use Rattle.cov_file.proofs.lines.FileLines.note.Goals as goal

pub invariant_of-self : goal.invariant_of-self
invariant_of-self c = (
  c.self.invariant.0,
  c.note.ensures (shown_by (dated_lines c.self.inside.texts.entries c.self.inside.changes.lists c.self.inside.order.lines)) c.self.invariant.1,
)
