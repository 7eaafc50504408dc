use Rattle.std.proofs.Common.{◌≡◌, ◌∙◌, ◌<◌, length, set, get_or, Some, ap, sym, subst, arith}
use Rattle.std.specs.Prelude.{slice_get}
use Rattle.std.proofs.lemmas.Option.{slice_get_within, slice_get-get_or}
use Rattle.cov_vis.specs.declared.listing.Child.TheVariants.{At}
use Rattle.cov_analyse.specs.LeastNumbers.{least_number, AreMeasured, HasSteps, IsMeasured, Keeps}
use Rattle.cov_analyse.proofs.LeastNumbers.{kept_twice, measured_kept, put_is, put_keeps, put_measured, some_steps, steps_off, steps_on}
use Rattle.cov_analyse.proofs.measuring.+measure.Goals as goal

pub overflow_sub-steps : goal.overflow_sub-steps
overflow_sub-steps t c =
    some_steps c.args.entries.now c.args.steps c.in-At.index c.entry_at-entry.result c.requires.small c.requires.ordered
    (subst (HasSteps c.args.entries.now c.args.steps) c.in-At.is c.requires.steps) c.entry_at-entry.ensures

pub measure-requires : goal.measure-requires
measure-requires t c =
    let steps = subst (HasSteps c.args.entries.now c.args.steps) c.in-At.is c.requires.steps in
    let some = some_steps c.args.entries.now c.args.steps c.in-At.index c.entry_at-entry.result c.requires.small c.requires.ordered steps c.entry_at-entry.ensures in (
      omega (arith, some, c.decreases),
      (
        c.requires.ordered,
        (
          c.requires.small,
          (
            c.requires.count,
            (
              steps_off c.args.entries.now c.args.steps c.in-At.index c.entry_at-entry.result c.requires.small c.requires.ordered steps c.entry_at-entry.ensures,
              c.requires.measured,
            ),
          ),
        ),
      ),
    )

pub overflow_sub-steps-2 : goal.overflow_sub-steps-2
overflow_sub-steps-2 t c =
    some_steps c.args.entries.now c.args.steps c.in-At.index c.entry_at-entry.result c.requires.small c.requires.ordered
    (subst (HasSteps c.args.entries.now c.args.steps) c.in-At.is c.requires.steps) c.entry_at-entry.ensures

pub measure-requires-2 : goal.measure-requires-2
measure-requires-2 t c =
    let steps = subst (HasSteps c.args.entries.now c.args.steps) c.in-At.is c.requires.steps in
    let some = some_steps c.args.entries.now c.args.steps c.in-At.index c.entry_at-entry.result c.requires.small c.requires.ordered steps c.entry_at-entry.ensures in (
      omega (arith, some, c.decreases),
      (
        c.requires.ordered,
        (
          c.requires.small,
          (
            c.measure.ensures.count,
            (
              steps_on c.args.entries.now c.args.steps c.in-At.index c.entry_at-entry.result c.requires.small c.requires.ordered steps c.entry_at-entry.ensures,
              c.measure.ensures.measured,
            ),
          ),
        ),
      ),
    )

pub returns-clause-measured : goal.returns-clause-measured
returns-clause-measured t c =
    let es = c.args.entries.now in
    let choice = c.args.choice in
    let ns = c.measure-2.new.numbers in
    let e = c.entry_at-entry.result in
    let i = c.in-At.index in
    let within : i < length ns = omega (arith, slice_get_within es i e c.entry_at-entry.ensures, c.measure-2.ensures.count) in
    let here : slice_get ns i ≡ Some (get_or ns i 0) = slice_get-get_or ns i 0 within in
    let n = get_or ns i 0 in
    let off = measured_kept c.measure.new.numbers ns e.off c.measure-2.ensures.kept c.measure.ensures.child in
    let on = c.measure-2.ensures.child in
    let all = c.measure-2.ensures.measured in
    let is : set ns i (least_number ns choice e) ≡ c.set.new.self = (λ j. set ns i (sym (c.least-number.ensures ∙ ap (λ ms. least_number ms choice e) c.as_slice.ensures) j)) ∙ sym c.set.ensures in
    let before = kept_twice c.args.numbers.now c.measure.new.numbers ns c.measure.ensures.kept c.measure-2.ensures.kept in
    subst (AreMeasured es choice) is (put_measured es choice ns i n e c.entry_at-entry.ensures here all off on)

pub returns-clause-kept : goal.returns-clause-kept
returns-clause-kept t c =
    let es = c.args.entries.now in
    let choice = c.args.choice in
    let ns = c.measure-2.new.numbers in
    let e = c.entry_at-entry.result in
    let i = c.in-At.index in
    let within : i < length ns = omega (arith, slice_get_within es i e c.entry_at-entry.ensures, c.measure-2.ensures.count) in
    let here : slice_get ns i ≡ Some (get_or ns i 0) = slice_get-get_or ns i 0 within in
    let n = get_or ns i 0 in
    let off = measured_kept c.measure.new.numbers ns e.off c.measure-2.ensures.kept c.measure.ensures.child in
    let on = c.measure-2.ensures.child in
    let all = c.measure-2.ensures.measured in
    let is : set ns i (least_number ns choice e) ≡ c.set.new.self = (λ j. set ns i (sym (c.least-number.ensures ∙ ap (λ ms. least_number ms choice e) c.as_slice.ensures) j)) ∙ sym c.set.ensures in
    let before = kept_twice c.args.numbers.now c.measure.new.numbers ns c.measure.ensures.kept c.measure-2.ensures.kept in
    subst (Keeps c.args.numbers.now) is (kept_twice c.args.numbers.now ns (set ns i (least_number ns choice e)) before (put_keeps es choice ns i n e c.entry_at-entry.ensures here all off on))

pub returns-clause-child : goal.returns-clause-child
returns-clause-child t c =
    let es = c.args.entries.now in
    let choice = c.args.choice in
    let ns = c.measure-2.new.numbers in
    let e = c.entry_at-entry.result in
    let i = c.in-At.index in
    let within : i < length ns = omega (arith, slice_get_within es i e c.entry_at-entry.ensures, c.measure-2.ensures.count) in
    let here : slice_get ns i ≡ Some (get_or ns i 0) = slice_get-get_or ns i 0 within in
    let n = get_or ns i 0 in
    let off = measured_kept c.measure.new.numbers ns e.off c.measure-2.ensures.kept c.measure.ensures.child in
    let on = c.measure-2.ensures.child in
    let all = c.measure-2.ensures.measured in
    let is : set ns i (least_number ns choice e) ≡ c.set.new.self = (λ j. set ns i (sym (c.least-number.ensures ∙ ap (λ ms. least_number ms choice e) c.as_slice.ensures) j)) ∙ sym c.set.ensures in
    let before = kept_twice c.args.numbers.now c.measure.new.numbers ns c.measure.ensures.kept c.measure-2.ensures.kept in
    subst (IsMeasured c.set.new.self) (sym c.in-At.is) (subst (λ ms. IsMeasured ms (At i)) is (put_is es choice ns i n e c.entry_at-entry.ensures here all off on))
