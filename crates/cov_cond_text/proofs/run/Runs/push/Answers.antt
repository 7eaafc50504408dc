use Rattle.std.proofs.Common.{◌≤◌, ◌<◌, ◌+◌, ◌∷◌, [], ◌++◌, sym, subst}
use Rattle.std.specs.List.{AllByRecursion}
use Rattle.cov_cond_text.specs.Conditional.{AreRuns}
use Rattle.cov_cond_text.specs.RunLists.{RunList}
use Rattle.cov_cond_text.proofs.RunLists.{all_behind, run_behind}
use Rattle.cov_cond_text.proofs.run.Runs.push.Goals as goal

pub invariant_of-self-2 : goal.invariant_of-self-2
invariant_of-self-2 c =
    let behind = subst (λ (l : RunList). l.next ≤ c.args.run.group) (sym c.self.view_is) c.requires.behind in
    let items = sym c.in_ok-push.ensures.items in (
      subst AreRuns items (run_behind c.self.inside.next c.self.inside.runs.items c.args.run c.self.invariant.0 c.self.invariant.1 c.requires.some behind),
      subst (AllByRecursion (λ run. run.group < c.from-next.result + 1)) items
          (subst (λ n. AllByRecursion (λ run. run.group < n + 1) (c.self.inside.runs.items ++ c.args.run ∷ [])) (sym c.from-next.ensures)
          (all_behind c.self.inside.next c.self.inside.runs.items c.args.run c.self.invariant.1 behind)),
    )
