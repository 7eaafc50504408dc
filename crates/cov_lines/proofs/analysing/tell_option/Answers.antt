use Rattle.std.proofs.Common.{◌≡◌, ◌∙◌, ap, sym, subst, length}
use Rattle.cov_analyse.specs.States.{option_state}
use Rattle.cov_edit.specs.History.{constraints_of}
use Rattle.cov_lines.specs.Analysing.{AreWithin}
use Rattle.cov_lines.proofs.Analysed.{state-within}
use Rattle.cov_lines.proofs.analysing.tell_option.Goals as goal

pub option_line-requires-clause-state : goal.option_line-requires-clause-state
option_line-requires-clause-state c =
    let es = constraints_of c.args.engine.now.history in
    let n = length c.options.result.now.names in
    let count : c.args.analysis.now.count ≡ n = c.requires.count ∙ sym (ap length c.options.ensures) in
    subst (AreWithin n) (sym (c.in_ok-state.ensures.state es c.requires.analysis ∙ ap (λ k. option_state k es c.args.option) count)) (state-within n es c.args.option)
