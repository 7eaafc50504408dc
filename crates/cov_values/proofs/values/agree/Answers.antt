use Rattle.std.proofs.Common.{◌≡◌, arith}
use Rattle.cov_dd.proofs.CallerLemmas.{value-constant}
use Rattle.cov_values.specs.Values.{on_choice}
use Rattle.cov_values.specs.declared.values.Evaluated.{Evaluated}
use Rattle.cov_values.proofs.Valued.{all-none}
use Rattle.cov_values.proofs.values.agree.Goals as goal

pub returns : goal.returns
returns c = λ so.
    c.loop-ahead.invariant.before
    (value-constant c.args.table.now 0 c.args.choice (omega arith), all-none (λ (e : Evaluated). on_choice c.args.table.now c.args.choice e.node ≡ e.value) c.loop-ahead.ahead.now c.in_default.len_below)
