use Rattle.std.proofs.Common.{◌+◌, ◌∷◌, Bool, List, subst, sym, ◌∙◌, drop, true≢false, arith}
use Rattle.cov_base.specs.Choices.{all_choices}
use Rattle.cov_dd.proofs.CallerLemmas.{extends_none, extends_trans}
use Rattle.cov_rules.specs.Lefts.{IsLeft}
use Rattle.cov_rules.proofs.Binding.{AreAhead, next_below, next_unbound, rest_ahead, next_first, agree_more}
use Rattle.cov_rules.proofs.Closing.{filter_all}
use Rattle.cov_rules.proofs.lefts.Left.agreeing.Goals as goal
use Rattle.cov_rules.proofs.lefts.Left.agreeing.Goals.{After-binding-item}

pub loop-binding-init : goal.loop-binding-init
loop-binding-init c = record {
  extends = extends_none c.args.table.now;
  agree = subst (λ (cs : List (List Bool)). IsLeft c.args.table.now c.args.count cs c.all-left.result) (sym (filter_all (all_choices c.args.count))) (c.all-left.ensures.all c.args.table.now);
  ahead = record { below = c.requires.below; in_order = c.requires.in_order; after = λ o at. absurd (true≢false (sym at ∙ c.all-left.ensures.unbound o)) };
}

-- the next binding and those behind it
ahead : (c : After-binding-item) → AreAhead c.args.count c.loop-binding.left.bound (c.binding-item.result ∷ drop (c.loop-binding.binding-index + 1) c.args.bindings.now)
ahead c =
    subst (AreAhead c.args.count c.loop-binding.left.bound) (next_first c.args.bindings.now c.loop-binding.binding-index c.binding-item.result c.loop-binding-test.true c.binding-item.is)
    c.loop-binding.invariant.ahead

pub bind-requires-clause-option : goal.bind-requires-clause-option
bind-requires-clause-option c =
    let at = (goal.at.bind-requires-clause-option c).After-binding-item in
    omega (arith, next_below _ _ _ _ (ahead at), c.loop-binding.invariant.agree.count)

pub bind-requires-clause-unbound : goal.bind-requires-clause-unbound
bind-requires-clause-unbound c = next_unbound _ _ _ _ (ahead (goal.at.bind-requires-clause-unbound c).After-binding-item)

pub returns-in_err-left-clause-extends : goal.returns-in_err-left-clause-extends
returns-in_err-left-clause-extends c = extends_trans c.args.table.now c.loop-binding.table c.bind.new.table c.loop-binding.invariant.extends c.in_err-left.ensures.extends

pub loop-binding-preserved : goal.loop-binding-preserved
loop-binding-preserved c =
    let at = (goal.at.loop-binding-preserved c).After-binding-item in
    record {
      extends = extends_trans c.args.table.now c.loop-binding.table c.bind.new.table c.loop-binding.invariant.extends c.in_ok-left.ensures.extends;
      agree = agree_more c.loop-binding.table c.bind.new.table c.loop-binding.left c.in_ok-left.left c.args.count c.loop-binding.binding-index c.args.bindings.now c.binding-item.result
          c.loop-binding-test.true c.binding-item.is c.loop-binding.invariant.agree c.in_ok-left.ensures.binds;
      ahead = subst (λ (b : List Bool). AreAhead c.args.count b (drop (c.loop-binding.binding-index + 1) c.args.bindings.now)) (sym c.in_ok-left.ensures.bound) (rest_ahead _ _ _ _ (ahead at));
    }
