use Rattle.std.proofs.Common.{◌≤◌, ◌+◌, ◌-◌, vec_len}
use Rattle.cov_order.proofs.pages.add_empty.Given as goal

abbrev pub invariant-making : goal.invariant-making
invariant-making l = record {
  more : vec_len l.initial.empty ≤ vec_len l.empty;
  most : vec_len l.empty ≤ vec_len l.initial.empty + (l.wanted - vec_len l.initial.empty);
}

abbrev pub decreases-making : goal.decreases-making
decreases-making l = l.wanted - vec_len l.empty
