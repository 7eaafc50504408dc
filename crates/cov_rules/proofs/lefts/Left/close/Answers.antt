use Rattle.std.proofs.Common.{refl, sym, ◌∙◌}
use Rattle.cov_dd.proofs.CallerLemmas.{extends_trans}
use Rattle.cov_rules.proofs.Closing.{bound_shut, off_closed, on_closed, both_open}
use Rattle.cov_rules.proofs.lefts.Left.close.Goals as goal

pub returns-then-get-clause-closes : goal.returns-then-get-clause-closes
returns-then-get-clause-closes c = record {
  same = record { sound = c.requires.sound; count = refl; choices = refl };
  bound = sym c.get.ensures ∙ c.if-get.true;
  others = λ p h. h;
  shut = bound_shut c.args.table.now c.args.self.now c.requires.sound c.args.option (sym c.get.ensures ∙ c.if-get.true);
}

pub returns-in_err-off-clause-extends : goal.returns-in_err-off-clause-extends
returns-in_err-off-clause-extends c = extends_trans c.args.table.now c.bind.new.table c.bind-2.new.table c.in_ok-on.ensures.extends c.in_err-off.ensures.extends

pub returns-then-not-is_any-clause-extends : goal.returns-then-not-is_any-clause-extends
returns-then-not-is_any-clause-extends c = extends_trans c.args.table.now c.bind.new.table c.bind-2.new.table c.in_ok-on.ensures.extends c.in_ok-off.ensures.extends

pub returns-then-not-is_any-clause-closes : goal.returns-then-not-is_any-clause-closes
returns-then-not-is_any-clause-closes c =
    off_closed c.args.table.now c.bind.new.table c.bind-2.new.table c.args.self.now c.requires.sound c.in_ok-on.ensures.extends c.in_ok-off.ensures.extends c.args.option c.requires.option c.in_ok-on.on c.in_ok-off.off
    c.in_ok-on.ensures.bound c.in_ok-off.ensures.bound c.in_ok-on.ensures.binds c.in_ok-off.ensures.binds c.is_any.result c.is_any.ensures c.if-not-is_any.true

pub returns-then-is_any-clause-extends : goal.returns-then-is_any-clause-extends
returns-then-is_any-clause-extends c = extends_trans c.args.table.now c.bind.new.table c.bind-2.new.table c.in_ok-on.ensures.extends c.in_ok-off.ensures.extends

pub returns-then-is_any-clause-closes : goal.returns-then-is_any-clause-closes
returns-then-is_any-clause-closes c =
    both_open c.args.table.now c.bind.new.table c.bind-2.new.table c.args.self.now c.requires.sound c.in_ok-on.ensures.extends c.in_ok-off.ensures.extends c.args.option c.requires.option c.in_ok-on.on c.in_ok-off.off
    c.in_ok-on.ensures.bound c.in_ok-off.ensures.bound c.in_ok-on.ensures.binds c.in_ok-off.ensures.binds c.is_any.result c.is_any.ensures c.is_any-2.result c.is_any-2.ensures c.if-not-is_any.false c.if-is_any.true

pub returns-clause-extends : goal.returns-clause-extends
returns-clause-extends c = extends_trans c.args.table.now c.bind.new.table c.bind-2.new.table c.in_ok-on.ensures.extends c.in_ok-off.ensures.extends

pub returns-clause-closes : goal.returns-clause-closes
returns-clause-closes c =
    on_closed c.args.table.now c.bind.new.table c.bind-2.new.table c.args.self.now c.requires.sound c.in_ok-on.ensures.extends c.in_ok-off.ensures.extends c.args.option c.requires.option c.in_ok-on.on c.in_ok-off.off
    c.in_ok-on.ensures.bound c.in_ok-off.ensures.bound c.in_ok-on.ensures.binds c.in_ok-off.ensures.binds c.is_any.result c.is_any.ensures c.is_any-2.result c.is_any-2.ensures c.if-is_any.false
