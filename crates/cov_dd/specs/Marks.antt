-- Marked nodes of a diagram, and the diagram without the others.
use Rattle.std.specs.Prelude.{ℕ, zero, suc, ◌<◌, ◌≤◌, ◌≡◌, ◌==◌, ◌&&◌, ◌||◌, Bool, true, false, cond, List, [], ◌∷◌, ◌++◌, length, Option, Some, None, slice_index, slice_index_or}
use Rattle.std.specs.List.{list_any, AllByRecursion}
use Rattle.cov_dd.specs.declared.triple.Triple.{Triple}
use Rattle.cov_dd.specs.Diagrams.{diagram_size, entry_in, Placed}
use Rattle.cov_dd.specs.Reached.{count_below, reaches}

abbrev pub is_marked : List Bool → ℕ → Bool
is_marked marks n = slice_index_or marks n false

-- whether n is one of some nodes
abbrev pub is_one_of : List ℕ → ℕ → Bool
is_one_of nodes n = list_any (λ a. a == n) nodes

abbrev pub children_of : Option Triple → List ℕ
children_of None = []
children_of (Some t) = t.off ∷ t.on ∷ []

-- whether n is a child of a
abbrev pub is_child : List Triple → ℕ → ℕ → Bool
is_child ts a n = is_one_of (children_of (entry_in ts a)) n

-- the children of a node were marked, if the node was
abbrev pub AreChildrenMarked : List Triple → ℕ → List Bool → List Bool → Type 0
AreChildrenMarked ts a old new =
    (n : ℕ) → is_marked new n ≡ ((is_marked old a && is_child ts a n) || is_marked old n)

-- some nodes were marked
abbrev pub AreNodesMarked : List ℕ → List Bool → List Bool → Type 0
AreNodesMarked nodes old new = (n : ℕ) → is_marked new n ≡ (is_one_of nodes n || is_marked old n)

-- the children of an entry that passes pass too
abbrev pub IsClosed : (ℕ → Bool) → List Triple → Type 0
IsClosed p [] = Unit {0}
IsClosed p (t ∷ ts) = IsClosed p ts × (p (diagram_size ts) ≡ true → (p t.off ≡ true) × (p t.on ≡ true))

-- from a node on, the children of marked entries were marked; nothing else was than what marked nodes reach
pub record AreSpread (ts : List Triple) (from : ℕ) (old new : List Bool) : Type 0 where
  pub long : length new ≡ length old
  pub kept : (n : ℕ) → is_marked old n ≡ true → is_marked new n ≡ true
  pub closed : (a n : ℕ) → from ≤ a → is_marked new a ≡ true → is_child ts a n ≡ true → is_marked new n ≡ true
  pub sound : (n : ℕ) → is_marked new n ≡ true → (r : ℕ) × (is_marked old r ≡ true) × (reaches ts r n ≡ true)

-- FALSE, TRUE and what the roots reach is marked, and nothing else
pub record AreMarked (ts : List Triple) (nodes : List ℕ) (marks : List Bool) : Type 0 where
  pub long : length marks ≡ diagram_size ts
  pub constants : (n : ℕ) → n < 2 → is_marked marks n ≡ true
  pub roots : AllByRecursion (λ r. is_marked marks r ≡ true) nodes
  pub closed : IsClosed (is_marked marks) ts
  pub reached : (n : ℕ) → 1 < n → is_marked marks n ≡ true → list_any (λ r. reaches ts r n) nodes ≡ true

-- entries, and the number of each node that was met
pub record KeptValue : Type 0 where
  pub entries : List Triple
  pub numbers : List ℕ

-- the entry with its children's numbers
abbrev pub renumbered : List ℕ → Triple → Triple
renumbered numbers t = record { option = t.option; off = slice_index numbers t.off; on = slice_index numbers t.on }

-- an entry was kept with its children's numbers
abbrev pub HasKept : KeptValue → KeptValue → Triple → Type 0
HasKept old new t = (r : ℕ) × Placed old.entries new.entries (renumbered old.numbers t) r

-- the entries that pass, in their order; a node's number is the count of those before it that pass
abbrev pub passing : (ℕ → Bool) → List Triple → List Triple
passing p [] = []
passing p (t ∷ ts) = cond (p (diagram_size ts)) (record { option = t.option; off = count_below p t.off; on = count_below p t.on } ∷ passing p ts) (passing p ts)

-- the numbers of the nodes below n
abbrev pub numbers_below : (ℕ → Bool) → ℕ → List ℕ
numbers_below p zero = []
numbers_below p (suc n) = numbers_below p n ++ count_below p n ∷ []

abbrev pub kept_of : (ℕ → Bool) → List Triple → KeptValue
kept_of p ts = record { entries = passing p ts; numbers = numbers_below p (diagram_size ts) }

-- the entries that were met before a node, and what was kept of them
pub record AreKept (p : ℕ → Bool) (ts : List Triple) (node : ℕ) (so_far : KeptValue) : Type 0 where
  pub more : List Triple
  pub met : List Triple
  pub is : ts ≡ more ++ met
  pub at : diagram_size met ≡ node
  pub kept : so_far ≡ kept_of p met
