use Rattle.cov_tree.proofs.Indexing.{place_indexed}
use Rattle.cov_tree.proofs.entries.place_of.Goals as goal

pub returns-in_default-clause-place : goal.returns-in_default-clause-place
returns-in_default-clause-place c = place_indexed c.args.node c.args.index.now.entries c.args.entries.now c.indexed_place.result c.requires.indexed c.indexed_place.ensures
