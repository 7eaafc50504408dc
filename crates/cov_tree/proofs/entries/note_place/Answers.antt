use Rattle.cov_tree.proofs.entries.note_place.Goals as goal

pub returns-clause-noted : goal.returns-clause-noted
returns-clause-noted c = c.in-Ok.ensures.updates.0
