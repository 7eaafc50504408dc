use Rattle.std.proofs.Common.{sym}
use Rattle.cov_script.proofs.Numbers.{too_many_digits, all_digits_read}
use Rattle.cov_script.proofs.number.digits_value.Goals as goal

pub returns-in-None : goal.returns-in-None
returns-in-None c = sym (too_many_digits c.loop-rest.value _ c.loop-rest.rest.now c.in-len1-up.len_at_least c.loop-rest.invariant.1 (sym c.in-None.ensures))

pub returns : goal.returns
returns c = sym (all_digits_read c.loop-rest.value _ c.loop-rest.rest.now c.in_default.len_below c.loop-rest.invariant.0 c.loop-rest.invariant.1)
