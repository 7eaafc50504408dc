use Rattle.std.proofs.Common.{◌∙◌, sym}
use Rattle.cov_vis.specs.Visiting.{constant}
use Rattle.cov_vis.proofs.Visited.{known_visit, further_visit}
use Rattle.cov_vis.proofs.visiting.+visit.Goals as goal

pub returns-in-None : goal.returns-in-None
returns-in-None t c = record { visits = constant (sym c.entry.ensures.entry ∙ c.in-None.is) }

pub returns-then-not-branch : goal.returns-then-not-branch
returns-then-not-branch t c = record {
  visits = known_visit c.args.table.now c.args.met.now c.put.new.self c.args.node c.in_ok-put.field-0 c.in_ok-put.ensures.new c.in_ok-put.ensures.nodes c.if-not-branch.true;
}

pub returns-in-Ok-visit : goal.returns-in-Ok-visit
returns-in-Ok-visit t c = record {
  visits = further_visit c.args.table.now c.args.met.now c.put.new.self c.visit.new.met c.visit-2.new.met c.args.node c.in_ok-put.field-0 c.in-Some.triple (sym c.entry.ensures.entry ∙ c.in-Some.is)
      c.in_ok-put.ensures.new c.in_ok-put.ensures.nodes c.if-not-branch.false c.in-Ok.ensures.visits c.in-Ok-visit.ensures.visits;
}
