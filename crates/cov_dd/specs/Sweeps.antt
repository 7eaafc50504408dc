-- What a sweep leaves of a diagram.
use Rattle.std.specs.Prelude.{ℕ, ◌<◌, ◌≡◌, Bool, true, List, map}
use Rattle.std.specs.List.{list_any, AllByRecursion}
use Rattle.cov_dd.specs.declared.triple.Triple.{Triple}
use Rattle.cov_dd.specs.Diagrams.{diagram_size, top, span, value_in}
use Rattle.cov_dd.specs.Reached.{reaches}

-- the node b of the new diagram has the options and the values of the node a of the old one
pub record IsRenumbered (old new : List Triple) (a b : ℕ) : Type 0 where
  pub within : b < diagram_size new
  pub least : top new b ≡ top old a
  pub most : span new b ≡ span old a
  pub value : (c : List Bool) → value_in new b c ≡ value_in old a c

-- each node of a list has in its place the node of the new diagram that it is now, which depends on the node alone
pub record AreRenumbered (old new : List Triple) (nodes renumbered : List ℕ) : Type 0 where
  pub by : ℕ → ℕ
  pub is : renumbered ≡ map by nodes
  pub each : AllByRecursion (λ a. IsRenumbered old new a (by a)) nodes

-- each entry is reached from one of these nodes
abbrev pub AreReached : List Triple → List ℕ → Type 0
AreReached ts roots = (n : ℕ) → 1 < n → n < diagram_size ts → list_any (λ r. reaches ts r n) roots ≡ true
