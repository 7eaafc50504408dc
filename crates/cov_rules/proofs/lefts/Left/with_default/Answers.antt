use Rattle.std.proofs.Common.{Bool, List, IfOk, length, not, refl, sym, ap, subst, ◌∙◌}
use Rattle.std.specs.List.{filter}
use Rattle.cov_dd.proofs.CallerLemmas.{extends_trans}
use Rattle.cov_expr.specs.Formula.{value}
use Rattle.cov_rules.specs.Completion.{has_any}
use Rattle.cov_rules.specs.Installing.{literal}
use Rattle.cov_rules.specs.Lefts.{choices_left, IsLeft}
use Rattle.cov_rules.proofs.Leaving.{bound_default, refused_default, left_later}
use Rattle.cov_rules.proofs.lefts.Left.with_default.Goals as goal

pub returns-then-get-clause-kept : goal.returns-then-get-clause-kept
returns-then-get-clause-kept c = record {
  sound = c.requires.sound;
  count = refl;
  choices = bound_default c.args.table.now c.args.self.now c.requires.sound c.args.option c.args.on (sym c.get.ensures ∙ c.if-get.true);
}

pub returns-clause-extends : goal.returns-clause-extends
returns-clause-extends c = extends_trans c.args.table.now c.bind.new.table c.bind-2.new.table c.in_ok-kept.ensures.extends c.bind-2.ensures.extends

pub returns-clause-kept : goal.returns-clause-kept
returns-clause-kept c =
    let left = c.args.self.now in
    let n = length left.bound in
    let old = choices_left c.args.table.now left in
    let none = sym (ap has_any c.in_ok-kept.ensures.binds.choices) ∙ sym c.is_any.ensures ∙ c.if-is_any.false in
    let same = ap (filter (value (literal c.args.option (not c.args.on)))) (left_later c.args.table.now left c.requires.sound c.bind.new.table c.in_ok-kept.ensures.extends) ∙ refused_default old c.args.option c.args.on none in
    subst (λ (cs : List (List Bool)). IfOk c.bind-2.result (IsLeft c.bind-2.new.table n cs)) same c.bind-2.ensures.binds
