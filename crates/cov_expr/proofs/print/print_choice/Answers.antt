use Rattle.std.proofs.Common.{◌++◌, ◌+◌, drop, ap, ◌∙◌, arith}
use Rattle.cov_base.specs.Choices.{is_on}
use Rattle.cov_expr.specs.Options.{option_name}
use Rattle.cov_expr.specs.ChoiceText.{binding_text, binding_texts}
use Rattle.cov_expr.proofs.Printing.{after_commas, printed_first, printed_more, printed_all}
use Rattle.cov_expr.proofs.print.print_choice.Goals as goal

pub loop-number-init : goal.loop-number-init
loop-number-init c =
    ap (λ t. t ++ after_commas (drop 1 (binding_texts c.args.options.now.names c.args.choice)))
    (c.in_ok-append_binding.ensures ∙ ap (λ t. t ++ binding_text (option_name c.args.options.now.names 0) (is_on c.args.choice 0)) c.new-text.ensures)
    ∙ printed_first c.args.options.now.names c.args.choice c.requires (omega arith)

pub loop-number-preserved : goal.loop-number-preserved
loop-number-preserved c =
    ap (λ t. t ++ after_commas (drop (c.loop-number.number + 1) (binding_texts c.args.options.now.names c.args.choice)))
    (c.in_ok-append_binding-2.ensures ∙ ap (λ t. t ++ binding_text (option_name c.args.options.now.names c.loop-number.number) (is_on c.args.choice c.loop-number.number)) c.in_ok-push.ensures.ok)
    ∙ printed_more c.args.options.now.names c.args.choice c.requires c.loop-number.text c.loop-number.number (omega arith) c.loop-number.invariant

pub returns : goal.returns
returns c = printed_all c.args.options.now.names c.args.choice c.loop-number.text c.loop-number.number (omega arith) c.loop-number.invariant
