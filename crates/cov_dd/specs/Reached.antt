-- The nodes that are reached from a node.
use Rattle.std.specs.Prelude.{ℕ, zero, suc, ◌==◌, Bool, ◌||◌, cond, List, [], ◌∷◌}
use Rattle.cov_dd.specs.declared.triple.Triple.{Triple}
use Rattle.cov_dd.specs.Diagrams.{diagram_size}

-- how many numbers below n pass a test
abbrev pub count_below : (ℕ → Bool) → ℕ → ℕ
count_below p zero = 0
count_below p (suc n) = cond (p n) (suc (count_below p n)) (count_below p n)

-- whether n is a, or is reached from one of a's children
abbrev pub reaches : List Triple → ℕ → ℕ → Bool
reaches [] a n = a == n
reaches (t ∷ ts) a n = cond (a == diagram_size ts) (a == n || (reaches ts t.off n || reaches ts t.on n)) (reaches ts a n)

-- the number of distinct nodes reached from a node, itself included
abbrev pub size : List Triple → ℕ → ℕ
size ts a = count_below (reaches ts a) (diagram_size ts)
