use Rattle.std.proofs.Common.{sym, subst}
use Rattle.cov_overtaking.specs.Touches.{IsPlaceIn}
use Rattle.cov_overtaking.proofs.Halving.{found-place}
use Rattle.cov_overtaking.proofs.places.place_of.Goals as goal

pub returns : goal.returns
returns c =
    subst (IsPlaceIn c.args.nodes.now c.args.node) (sym c.ok.ensures.value)
    (found-place c.args.nodes.now c.args.node c.binary_search.result c.requires.rising c.binary_search.ensures.position)
