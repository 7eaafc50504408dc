-- Nodes that take the places of others.
use Rattle.std.specs.Prelude.{◌≡◌, ℕ, Bool, nat_eq, List, [], ◌∷◌, Option, None, Some, if◌then◌else◌}
use Rattle.cov_values.specs.Values.{Agrees}
use Rattle.cov_values.specs.declared.replacing.Replaced.{Replaced}
use Rattle.cov_values.specs.declared.values.Evaluated.{Evaluated}

-- what takes the place of a node that is among these
abbrev pub found_in : List Replaced → ℕ → Option ℕ
found_in [] n = None
found_in (r ∷ rs) n = if nat_eq r.node n then Some r.by else found_in rs n

-- what takes the place of a node; FALSE stays as it is
abbrev pub found_by : List Replaced → ℕ → Option ℕ
found_by rs n = if nat_eq n 0 then Some 0 else found_in rs n

-- what takes the place of a node still does
abbrev pub IsReplacedStill : List Replaced → List Replaced → Type 0
IsReplacedStill old new = (n m : ℕ) → found_by old n ≡ Some m → found_by new n ≡ Some m

-- of each of these nodes, the one that takes its place
abbrev pub AreReplaced : List Replaced → List ℕ → List ℕ → Type 0
AreReplaced rs [] ms = Unit {0}
AreReplaced rs (n ∷ ns) [] = ⊥
AreReplaced rs (n ∷ ns) (m ∷ ms) = (found_by rs n ≡ Some m) × AreReplaced rs ns ms

-- what takes the place of a node, if something does, has the value of the node
abbrev pub IsReplacedTo : List Replaced → (ℕ → Bool) → Evaluated → Type 0
IsReplacedTo rs f e = (m : ℕ) → found_by rs e.node ≡ Some m → f m ≡ e.value

-- there are values of the nodes before, with these among them, by which what takes the place of a node has the value of the node
abbrev pub IsValuedBefore : List Replaced → (ℕ → Bool) → List Evaluated → Type 0
IsValuedBefore rs f es = (g : ℕ → Bool) × (Agrees g es × ((n m : ℕ) → found_by rs n ≡ Some m → g n ≡ f m))
