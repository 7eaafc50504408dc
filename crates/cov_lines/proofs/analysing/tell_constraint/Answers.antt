use Rattle.std.proofs.Common.{◌≡◌, ◌∙◌, ap, sym, subst, length}
use Rattle.cov_analyse.specs.States.{rule_state}
use Rattle.cov_edit.specs.History.{constraints_of}
use Rattle.cov_lines.specs.Analysing.{IsNeedWithin}
use Rattle.cov_lines.proofs.Analysed.{need-within}
use Rattle.cov_lines.proofs.analysing.tell_constraint.Goals as goal

pub constraint-requires : goal.constraint-requires
constraint-requires c = (constraints_of c.args.engine.now.history, c.requires.analysis, c.requires.first, c.requires.last)

pub rule_line-requires : goal.rule_line-requires
rule_line-requires c =
    let es = constraints_of c.args.engine.now.history in
    let n = length c.options.result.now.names in
    let count : c.args.analysis.now.count ≡ n = c.requires.count ∙ sym (ap length c.options.ensures) in
    subst (IsNeedWithin n) (sym (c.in_ok-state.ensures.state es c.requires.analysis ∙ ap (λ k. rule_state k es c.args.rule) count)) (need-within n es c.args.rule)
