use Rattle.cov_order.proofs.Newest.{newest, newest_in_order}
use Rattle.cov_order.proofs.laws.newest_after_anchor.Goals as goal

pub returns : goal.returns
returns c = λ t anchor line lines table o new. (newest t table anchor line lines o new, newest_in_order t table anchor line lines o new)
