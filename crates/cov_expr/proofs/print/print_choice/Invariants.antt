use Rattle.std.proofs.Common.{◌≡◌, ◌++◌, drop}
use Rattle.cov_expr.specs.ChoiceText.{binding_texts, choice_text}
use Rattle.cov_expr.proofs.Printing.{after_commas}
use Rattle.cov_expr.proofs.print.print_choice.Given as goal

abbrev pub invariant-loop-number : goal.invariant-loop-number
invariant-loop-number l = l.text ++ after_commas (drop l.number (binding_texts l.options.names l.choice)) ≡ choice_text l.options.names l.choice
