use Rattle.std.proofs.Common.{ℕ, ◌+◌, sym, subst}
use Rattle.cov_dd.proofs.CallerLemmas.{extends_none, extends_trans}
use Rattle.cov_rules.specs.Lefts.{IsFixed}
use Rattle.cov_rules.proofs.Fixing.{none_fixed}
use Rattle.cov_rules.proofs.lefts.Left.fix.Goals as goal

pub loop-number-init : goal.loop-number-init
loop-number-init c = record { extends = extends_none c.args.table.now; fixed = none_fixed c.args.table.now c.args.self.now c.args.node c.requires.node }

pub returns-in_err-fixed-clause-extends : goal.returns-in_err-fixed-clause-extends
returns-in_err-fixed-clause-extends c = extends_trans c.args.table.now c.loop-number.table c.fix_one.new.table c.loop-number.invariant.extends c.in_err-fixed.ensures.extends

pub loop-number-preserved : goal.loop-number-preserved
loop-number-preserved c = record {
  extends = extends_trans c.args.table.now c.loop-number.table c.fix_one.new.table c.loop-number.invariant.extends c.in_ok-fixed.ensures.extends;
  fixed = subst (λ (k : ℕ). IsFixed c.args.table.now c.fix_one.new.table c.args.self.now (k + 1) c.args.node c.in_ok-fixed.fixed) c.new.ensures
      (c.in_ok-fixed.ensures.fixed c.args.table.now c.args.node (subst (λ (k : ℕ). IsFixed c.args.table.now c.loop-number.table c.args.self.now k c.args.node c.loop-number.fixed) (sym c.new.ensures) c.loop-number.invariant.fixed));
}
