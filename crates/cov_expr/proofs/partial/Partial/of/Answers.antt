use Rattle.std.proofs.Common.{◌≡◌, ◌++◌, ◌+◌, ◌∷◌, [], drop, ap, ◌∙◌, arith}
use Rattle.std.specs.List.{enumerate_from}
use Rattle.cov_base.specs.Choices.{is_on}
use Rattle.cov_expr.proofs.PartialLemmas.{enumerate_more, enumerate_all, enumerated_in_order, enumerated_within}
use Rattle.cov_expr.proofs.partial.Partial.of.Goals as goal

pub loop-number-preserved : goal.loop-number-preserved
loop-number-preserved c =
    rw c.in_ok-push.ensures.items
    (ap (λ b. (c.loop-number.bindings.items ++ b ∷ []) ++ enumerate_from (c.loop-number.number + 1) (drop (c.loop-number.number + 1) c.args.choice)) (λ i. (c.new-option.ensures i, (c.get.ensures ∙ ap (is_on c.args.choice) c.new-option.ensures) i))
    ∙ enumerate_more c.loop-number.bindings.items (enumerate_from 0 c.args.choice) c.args.choice c.loop-number.number (omega arith) c.loop-number.invariant)

all_bound : (c : goal.After-loop-number) → c.loop-number.bindings.items ≡ enumerate_from 0 c.args.choice
all_bound c = enumerate_all c.loop-number.bindings.items (enumerate_from 0 c.args.choice) c.args.choice c.loop-number.number (omega arith) c.loop-number.invariant

pub invariant_of-result : goal.invariant_of-result
invariant_of-result c = enumerated_in_order c.loop-number.bindings.items c.args.choice (all_bound c)

pub returns-clause-within : goal.returns-clause-within
returns-clause-within c = enumerated_within c.loop-number.bindings.items c.args.choice (all_bound c)
