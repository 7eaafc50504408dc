use Rattle.std.proofs.Common.{◌≡◌, List, Some, None, sym, subst}
use Rattle.cov_values.specs.Replaced.{found_by, IsReplacedStill}
use Rattle.cov_values.specs.declared.replacing.Replaced.{Replaced}
use Rattle.cov_values.proofs.Taking.{added_still, added_there}
use Rattle.cov_values.proofs.replacing.Replacements.add.Goals as goal

pub returns-clause-there : goal.returns-clause-there
returns-clause-there c =
    subst (λ rs. found_by rs c.args.node ≡ Some c.args.by) (sym c.in_ok-push.ensures.items)
    (added_there c.args.node c.args.by c.self.inside.each.items (subst (λ rs. found_by rs c.args.node ≡ None) (sym c.self.view_is) c.requires))

pub returns-clause-still : goal.returns-clause-still
returns-clause-still c =
    subst (λ (q : List Replaced × List Replaced). IsReplacedStill q.0 q.1) (λ j. (c.self.view_is j, sym c.in_ok-push.ensures.items j))
    (added_still c.args.node c.args.by c.self.inside.each.items)
