use Rattle.std.proofs.Common.{length, take, sym, ap, ◌∙◌, arith}
use Rattle.std.proofs.lemmas.List.FromFn.{length-map-range_with_len}
use Rattle.cov_edit.specs.History.{option_count}
use Rattle.cov_hist.specs.Past.{first_open, is_bound_on, unless_open, valid_choice, values_of}
use Rattle.cov_hist.proofs.choosing.whole_choice.Goals as goal

pub valid_choice-requires : goal.valid_choice-requires
valid_choice-requires c =
    let long = ap length c.values_of.ensures ∙ length-map-range_with_len (is_bound_on c.args.partial.now) 0 c.options_at-count.result in
    let count = c.options_at-count.ensures.count in
    omega (arith, long, count)

pub returns-in-Some : goal.returns-in-Some
returns-in-Some c =
    let before = take c.args.at c.args.engine.now.history in
    let found = ap (λ n. first_open n c.args.partial.now) (sym c.options_at-count.ensures.count) ∙ sym c.first_open.ensures ∙ c.in-Some.is in
    sym (ap (λ o. unless_open o (valid_choice before (values_of (option_count before) c.args.partial.now))) found)

pub returns-in-None : goal.returns-in-None
returns-in-None c =
    let before = take c.args.at c.args.engine.now.history in
    let found = ap (λ n. first_open n c.args.partial.now) (sym c.options_at-count.ensures.count) ∙ sym c.first_open.ensures ∙ c.in-None.is in
    c.valid_choice.ensures
    ∙ ap (valid_choice before) (c.values_of.ensures ∙ ap (λ n. values_of n c.args.partial.now) c.options_at-count.ensures.count)
    ∙ sym (ap (λ o. unless_open o (valid_choice before (values_of (option_count before) c.args.partial.now))) found)
