-- Expressions joined one after another.
use Rattle.std.proofs.Common.{◌≡◌, ℕ, ◌≤◌, List, length, get_or, sym, ap, ◌∙◌, arith}
use Rattle.cov_base.specs.declared.limits.TheConstants.{MOST_PARTS}
use Rattle.cov_base.proofs.CallerLemmas.{opened, rest_of}
use Rattle.cov_expr.specs.Formula.{Formula, And, part_count}
use Rattle.cov_cond_text.specs.Conjunction.{joined}
use Rattle.cov_cond_text.proofs.ReadSteps.{joined-parts}

module _ (all next d whole : Formula ℕ) (ahead : List (Formula ℕ)) (is : next ≡ get_or ahead 0 d) (some : 1 ≤ length ahead) (goes_on : joined all ahead ≡ whole) where
  -- with the next expression joined, the others are still to be
  pub next-joined : joined (And all next) (rest_of ahead) ≡ whole
  next-joined = sym (ap (joined all) (opened next d ahead is some)) ∙ goes_on

  -- it is within the bounds of the whole
  pub next-fits : part_count whole ≤ MOST_PARTS → part_count (And all next) ≤ MOST_PARTS
  next-fits low =
      let same = ap part_count next-joined in
      let parts = joined-parts (And all next) (rest_of ahead) in
      omega (arith, low, same, parts)
