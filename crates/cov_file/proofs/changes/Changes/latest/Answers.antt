use Rattle.std.proofs.Common.{◌≡◌, ◌≤◌, reverse, sym, subst}
use Rattle.std.specs.List.{AllByRecursion}
use Rattle.cov_file.specs.Dated.{vis_at, newest_vis}
use Rattle.cov_file.specs.Kept.{LineChanges}
use Rattle.cov_file.proofs.Showing.{all_latest}
use Rattle.cov_file.proofs.changes.Changes.latest.Goals as goal

pub returns-clause-nodes : goal.returns-clause-nodes
returns-clause-nodes c = λ p later.
    subst (λ (l : LineChanges). AllByRecursion (λ cs. vis_at cs p ≡ newest_vis cs) l.lists) c.self.view_is
    (all_latest (reverse c.self.inside.earlier.items) c.self.inside.newest.items c.self.inside.from p (subst (λ (l : LineChanges). l.newest ≤ p) (sym c.self.view_is) later) c.self.invariant.latest)
