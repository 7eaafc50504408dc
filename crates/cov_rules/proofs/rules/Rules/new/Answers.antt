use Rattle.std.proofs.Common.{List, ap, sym, subst, arith}
use Rattle.cov_rules.specs.Completion.{fallbacks}
use Rattle.cov_rules.specs.Installing.{expressions, reach_of, AllStand, StandsForAll}
use Rattle.cov_rules.specs.declared.rules.Fallback.{Fallback}
use Rattle.cov_rules.specs.declared.rules.Installed.{Installed}
use Rattle.cov_rules.proofs.Holding.{none_hold}
use Rattle.cov_rules.proofs.rules.Rules.new.Goals as goal

pub returns-clause-holds : goal.returns-clause-holds
returns-clause-holds c ts = record {
  constraints = subst (AllStand ts) (sym c.new.ensures.items) tt;
  preferences = subst (AllStand ts) (sym c.new-2.ensures.items) tt;
  conjunction = subst (λ rs. StandsForAll ts 1 (expressions rs)) (sym c.new.ensures.items) (none_hold ts);
}

pub returns-clause-below : goal.returns-clause-below
returns-clause-below c count few = record {
  few = few;
  constraints = omega (arith, ap (λ (rs : List Installed). reach_of (expressions rs)) c.new.ensures.items);
  preferences = omega (arith, ap (λ (rs : List Installed). reach_of (expressions rs)) c.new-2.ensures.items);
  defaults = omega (arith, ap (λ (ds : List Fallback). reach_of (fallbacks ds)) c.new-3.ensures.items);
}
