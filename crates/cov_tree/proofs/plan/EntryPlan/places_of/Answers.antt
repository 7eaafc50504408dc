use Rattle.std.proofs.Common.{nat_eq, position, sym, ap, ◌∙◌}
use Rattle.cov_tree.specs.Standing.{places_with}
use Rattle.cov_tree.proofs.Planned.{none_found}
use Rattle.cov_tree.proofs.PlannedNodes.{own_places, found_places}
use Rattle.cov_tree.proofs.plan.EntryPlan.places_of.Goals as goal

pub returns-in-Some : goal.returns-in-Some
returns-in-Some c =
    let plan = c.self.inside.entries.items in
    c.as_slice.ensures
    ∙ sym (found_places plan c.args.node c.args.own.now c.in-Some.at c.index.result.now (ap (position (λ e. nat_eq e.node c.args.node)) c.self.view_is ∙ sym c.place_of.ensures.place ∙ c.in-Some.is) c.index.ensures)
    ∙ ap (λ es. places_with es c.args.node c.args.own.now) c.self.view_is

pub returns-in-None : goal.returns-in-None
returns-in-None c = sym (own_places c.args.self.now c.args.node c.args.own.now (none_found c.args.node c.args.self.now (sym c.place_of.ensures.place ∙ c.in-None.is)))
