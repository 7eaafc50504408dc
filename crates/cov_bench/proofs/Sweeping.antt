-- The nodes that are kept, as the table grows and is swept.
use Rattle.std.proofs.Common.{ℕ, ◌<◌, ◌≤◌, List, [], ◌∷◌, ◌++◌, map, sym, subst, arith}
use Rattle.std.specs.List.{AllByRecursion}
use Rattle.cov_base.proofs.CallerLemmas.{all-append, all-map}
use Rattle.cov_dd.specs.declared.triple.Triple.{Triple}
use Rattle.cov_dd.specs.Diagrams.{diagram_size}
use Rattle.cov_dd.specs.Sweeps.{AreRenumbered, IsRenumbered}

-- each is a node of a table of so many nodes
abbrev pub AreBelow : ℕ → List ℕ → Type 0
AreBelow size nodes = AllByRecursion (λ a. a < size) nodes

-- so they are of a table with more nodes, and so is one node more
pub one_more : (small great a : ℕ) (nodes : List ℕ) → small ≤ great → AreBelow small nodes → a < great → AreBelow great (nodes ++ a ∷ [])
one_more small great a nodes more h last =
    all-append (λ n. n < great) nodes (a ∷ []) (all-map (λ n. n < small) (λ n. n < great) (λ n k. omega (arith, k, more)) nodes h) (last, tt)

-- those that a sweep gives are nodes of what it leaves
module _ (old new : List Triple) where
  within : (by : ℕ → ℕ) (nodes : List ℕ) → AllByRecursion (λ a. IsRenumbered old new a (by a)) nodes → AreBelow (diagram_size new) (map by nodes)
  within by [] h = tt
  within by (n ∷ nodes) h = (h.0.within, within by nodes h.1)

  pub swept_within : (nodes renumbered : List ℕ) → AreRenumbered old new nodes renumbered → AreBelow (diagram_size new) renumbered
  swept_within nodes renumbered r = subst (AreBelow (diagram_size new)) (sym r.is) (within r.by nodes r.each)
