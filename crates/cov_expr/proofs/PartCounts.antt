-- How many parts a formula has.
use Rattle.std.proofs.Common.{◌≡◌, ◌+◌, ◌<◌, refl, ap, arith}
use Rattle.cov_expr.specs.Formula.{Formula, False, True, On, Not, And, Or, part_count, renamed}

-- every formula has a part
pub part_count_positive : {X : Type 0} (e : Formula X) → 0 < part_count e
part_count_positive False = omega arith
part_count_positive True = omega arith
part_count_positive (On o) = omega arith
part_count_positive (Not e) = omega arith
part_count_positive (And a b) = omega arith
part_count_positive (Or a b) = omega arith

-- other names leave the parts as many
pub part_count-renamed : {X Y : Type 0} (f : X → Y) (e : Formula X) → part_count (renamed f e) ≡ part_count e
part_count-renamed f False = refl
part_count-renamed f True = refl
part_count-renamed f (On o) = refl
part_count-renamed f (Not e) = ap (λ n. 1 + n) (part_count-renamed f e)
part_count-renamed f (And a b) = omega (arith, part_count-renamed f a, part_count-renamed f b)
part_count-renamed f (Or a b) = omega (arith, part_count-renamed f a, part_count-renamed f b)
