use Rattle.std.proofs.Common.{◌≡◌, ◌-◌, true, length, Some, false, sym, ap, ◌∙◌, arith}
use Rattle.std.specs.Prelude.{is_none}
use Rattle.std.specs.Option.{option_map_or}
use Rattle.std.specs.List.{find, range_with_len}
use Rattle.cov_base.specs.Choices.{with_option}
use Rattle.cov_expr.specs.Partials.{bound_value}
use Rattle.cov_hist.specs.Past.{is_bound_on}
use Rattle.cov_lines.proofs.Filling.{filled-all, filled-length, filled-more, filled-none, find-here, find-later, find-none}
use Rattle.cov_lines.proofs.whole.whole_choice.Goals as goal

pub loop-number-init : goal.loop-number-init
loop-number-init c =
    let partial = c.args.partial.now in
    record {
      within = omega arith;
      is = c.new-choice.ensures ∙ filled-none (is_bound_on partial) c.args.count;
      unbound = (let all : c.args.count - 0 ≡ c.args.count = omega arith in ap (λ k. find (λ option. is_none (bound_value partial option)) (range_with_len 0 k)) all);
    }

pub with-choice-requires : goal.with-choice-requires
with-choice-requires c =
    let long = ap length c.loop-number.invariant.is ∙ filled-length (is_bound_on c.args.partial.now) c.args.count c.loop-number.number c.loop-number.invariant.within in
    let option = c.new-option.ensures in
    let less = c.loop-number-test.true in
    omega (arith, long, option, less)

pub loop-number-preserved : goal.loop-number-preserved
loop-number-preserved c =
    let partial = c.args.partial.now in
    let f = is_bound_on partial in
    let n = c.loop-number.number in
    let less = c.loop-number-test.true in
    let on = c.in-Some.on in
    let bound : bound_value partial n ≡ Some on = ap (bound_value partial) (sym c.new-option.ensures) ∙ sym c.get.ensures ∙ c.in-Some.is in
    record {
      within = omega (arith, less);
      is = c.with-choice.ensures ∙ ap (λ o. with_option c.loop-number.choice o on) c.new-option.ensures
          ∙ filled-more f c.args.count n c.loop-number.choice on (omega (arith, less)) c.loop-number.invariant.is (sym (ap (λ o. option_map_or (λ b. b) o false) bound));
      unbound = find-later (λ option. is_none (bound_value partial option)) n c.args.count (omega (arith, less)) (ap is_none bound) ∙ c.loop-number.invariant.unbound;
    }

pub returns-in-None-clause-open : goal.returns-in-None-clause-open
returns-in-None-clause-open c =
    let partial = c.args.partial.now in
    let n = c.loop-number.number in
    let less = c.loop-number-test.true in
    let unset : is_none (bound_value partial n) ≡ true = ap (λ o. is_none (bound_value partial o)) (sym c.new-option.ensures) ∙ ap is_none (sym c.get.ensures ∙ c.in-None.is) in
    sym c.loop-number.invariant.unbound ∙ find-here (λ option. is_none (bound_value partial option)) n c.args.count (omega (arith, less)) unset ∙ ap Some (sym c.new-option.ensures)

pub returns-clause-choice : goal.returns-clause-choice
returns-clause-choice c =
    let done = c.loop-number-test.false in
    filled-all (is_bound_on c.args.partial.now) c.args.count c.loop-number.number c.loop-number.choice (omega (arith, done)) c.loop-number.invariant.within c.loop-number.invariant.is

pub returns-clause-whole : goal.returns-clause-whole
returns-clause-whole c =
    let done = c.loop-number-test.false in
    sym c.loop-number.invariant.unbound ∙ find-none (λ option. is_none (bound_value c.args.partial.now option)) c.loop-number.number c.args.count (omega (arith, done))

pub returns-clause-count : goal.returns-clause-count
returns-clause-count c =
    ap length c.loop-number.invariant.is ∙ filled-length (is_bound_on c.args.partial.now) c.args.count c.loop-number.number c.loop-number.invariant.within
