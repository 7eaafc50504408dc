use Rattle.cov_edit.specs.Sides.{unsided}
use Rattle.cov_overtaking.proofs.Marking.{touched-own}
use Rattle.cov_overtaking.proofs.mark.mark_of.Goals as goal

pub places_of-requires-clause-rising : goal.places_of-requires-clause-rising
places_of-requires-clause-rising c = touched-own (unsided c.args.edits.now) c.args.nodes c.as_slice-2.result.now c.as_slice-2.ensures c.requires.touched
