use Rattle.std.proofs.Common.{◌≡◌, ◌+◌, nat_lt, true, sym, subst, refl, arith}
use Rattle.std.proofs.lemmas.Bool.Decides.{nat_tests}
use Rattle.cov_view.specs.Seen.{AreRows}
use Rattle.cov_view.proofs.Changes.{rows-append, rows-more, next_fresh}
use Rattle.cov_view.proofs.view.View.make.Goals as goal

pub push-requires : goal.push-requires
push-requires c = next_fresh c.self.inside.nodes_made c.self.inside.rows c.self.invariant

pub invariant_of-self-2 : goal.invariant_of-self-2
invariant_of-self-2 c =
    let made = c.self.inside.nodes_made in
    let rows = c.self.inside.rows in
    let below : nat_lt made (made + 1) ≡ true = grind (arith, nat_tests) in
    subst (AreRows (made + 1)) (sym c.in_ok-push.ensures.ok)
    (rows-append (made + 1) rows _ (rows-more made rows c.self.invariant) refl below (next_fresh made rows c.self.invariant))
