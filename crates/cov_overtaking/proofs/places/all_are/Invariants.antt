use Rattle.std.proofs.Common.{◌≡◌, nat_eq, length}
use Rattle.std.specs.List.{list_all}
use Rattle.cov_overtaking.proofs.places.all_are.Given as goal

abbrev pub invariant-loop-ahead : goal.invariant-loop-ahead
invariant-loop-ahead l = list_all (λ n. nat_eq n l.node) l.ahead ≡ list_all (λ n. nat_eq n l.node) l.nodes

abbrev pub decreases-loop-ahead : goal.decreases-loop-ahead
decreases-loop-ahead l = length l.ahead
