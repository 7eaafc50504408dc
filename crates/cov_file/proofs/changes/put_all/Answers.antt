use Rattle.std.proofs.Common.{◌≡◌, get_or, Some, refl, subst}
use Rattle.cov_values.specs.Replaced.{found_by}
use Rattle.cov_file.specs.declared.changes.Change.{Change}
use Rattle.cov_file.proofs.Replaced.{next_replaced, none_replaced}
use Rattle.cov_file.proofs.changes.put_all.Goals as goal

pub loop-ahead-init : goal.loop-ahead-init
loop-ahead-init c = record { replaced = λ rs still is. is; last = refl }

pub loop-ahead-preserved : goal.loop-ahead-preserved
loop-ahead-preserved c = record {
  replaced = λ rs still is.
      c.loop-ahead.invariant.replaced rs (λ n m there. still n m (c.put_next.ensures.still n m there))
      (next_replaced rs c.loop-ahead.ahead.now c.loop-ahead.to.now _ 0 c.in-len1-up.len_at_least c.in-len1-up-to.len_at_least
      (subst (λ (x : Change). found_by rs x.node ≡ Some (get_or c.loop-ahead.to.now 0 0)) c.change-item.is (still _ _ (c.put_next.ensures.there c.if-not-put_next.false))) is);
  last = c.put_next.ensures.last c.if-not-put_next.false;
}

pub returns : goal.returns
returns c = λ so.
    c.loop-ahead.invariant.replaced c.loop-ahead.replacements (λ n m there. there) (none_replaced c.loop-ahead.replacements c.loop-ahead.ahead.now c.loop-ahead.to.now c.in_default.len_below)
