-- Values of nodes.
use Rattle.std.specs.Prelude.{◌≡◌, ℕ, Bool, false, nat_eq, List}
use Rattle.std.specs.List.{AllByRecursion}
use Rattle.cov_dd.specs.declared.triple.Triple.{Triple}
use Rattle.cov_dd.specs.Diagrams.{value_in}
use Rattle.cov_values.specs.declared.values.Evaluated.{Evaluated}

-- the values of nodes on a choice
abbrev pub on_choice : List Triple → List Bool → ℕ → Bool
on_choice table c n = value_in table n c

-- values of nodes in which these nodes have these values, and FALSE is false
abbrev pub Agrees : (ℕ → Bool) → List Evaluated → Type 0
Agrees f values = (f 0 ≡ false) × AllByRecursion (λ e. f e.node ≡ e.value) values

-- in any values of nodes in which these have theirs, a node has this value
abbrev pub IsKnown : List Evaluated → ℕ → Bool → Type 0
IsKnown values node value = (f : ℕ → Bool) → Agrees f values → f node ≡ value

-- there are values of nodes in which these have theirs
abbrev pub HaveValues : List Evaluated → Type 0
HaveValues es = (f : ℕ → Bool) × Agrees f es

-- the value is another node's
abbrev pub IsOther : ℕ → Evaluated → Type 0
IsOther node e = nat_eq e.node node ≡ false

-- a node that isn't FALSE and isn't among these
abbrev pub IsNotValued : List Evaluated → ℕ → Type 0
IsNotValued es node = (nat_eq node 0 ≡ false) × AllByRecursion (IsOther node) es
