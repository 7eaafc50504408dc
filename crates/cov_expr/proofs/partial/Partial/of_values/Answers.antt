use Rattle.std.proofs.Common.{◌≡◌, arith}
use Rattle.cov_expr.specs.Partials.{places_from}
use Rattle.cov_expr.proofs.PartialLemmas.{places_all, places_in_order, places_within}
use Rattle.cov_expr.proofs.partial.Partial.of_values.Goals as goal

all_placed : (c : goal.After-loop-number) → c.loop-number.bindings.items ≡ places_from 0 c.args.values.now
all_placed c = places_all c.loop-number.bindings.items (places_from 0 c.args.values.now) c.args.values.now c.loop-number.number (omega arith) c.loop-number.invariant

pub invariant_of-result : goal.invariant_of-result
invariant_of-result c = places_in_order c.loop-number.bindings.items c.args.values.now (all_placed c)

pub returns-clause-within : goal.returns-clause-within
returns-clause-within c = places_within c.loop-number.bindings.items c.args.values.now (all_placed c)
