use Rattle.cov_replica.proofs.Pieces.{any_pieces}
use Rattle.cov_replica.proofs.laws.any_pieces.Goals as goal

pub returns : goal.returns
returns c = any_pieces
