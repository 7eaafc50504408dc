-- Boolean operations on two nodes.
use Rattle.std.specs.Prelude.{ℕ, ◌+◌, ◌<◌, ◌≤◌, ◌≡◌, ◌⊎◌, min, max, Bool, true, false, not, ◌&&◌, ◌||◌, cond, List, [], ◌∷◌, ◌++◌, length}
use Rattle.cov_base.specs.Choices.{is_on}
use Rattle.cov_dd.specs.declared.operation.Operation.{Operation}
use Rattle.cov_dd.specs.declared.operation.Operation.TheVariants.{And, Or, Without}
use Rattle.cov_dd.specs.declared.triple.Triple.{Triple}
use Rattle.cov_dd.specs.declared.memo.Pair.{Pair}
use Rattle.cov_dd.specs.Diagrams.{diagram_size, top, span, value_in, IsDiagram, Extends, Stands}
use Rattle.cov_dd.specs.Memos.{IsKey}
use Rattle.cov_dd.specs.Reached.{reaches}

-- the value of an operation
abbrev pub applied : Operation → Bool → Bool → Bool
applied And x y = x && y
applied Or x y = x || y
applied Without x y = x && not y

-- the operation on two nodes
abbrev pub both_in : Operation → List Triple → ℕ → ℕ → List Bool → Bool
both_in w ts a b c = applied w (value_in ts a c) (value_in ts b c)

-- r is one of the two nodes, FALSE or TRUE, and it is the operation's result whatever the values of other nodes
pub record IsShortcut (w : Operation) (a b r : ℕ) : Type 0 where
  pub place : (r ≡ a) ⊎ ((r ≡ b) ⊎ (r < 2))
  pub value : (v : ℕ → Bool) → v 0 ≡ false → v 1 ≡ true → v r ≡ applied w (v a) (v b)

-- the first option of two nodes
abbrev pub first_option : List Triple → ℕ → ℕ → ℕ
first_option ts a b = min (top ts a) (top ts b)

-- the least count of options that has every option of two nodes
abbrev pub joint_span : List Triple → ℕ → ℕ → ℕ
joint_span ts a b = max (span ts a) (span ts b)

-- the node r is that of an operation on a pair
abbrev pub IsResult : Operation → List Triple → Pair → ℕ → Type 0
IsResult w ts p r = Stands ts r (first_option ts p.left p.right) (joint_span ts p.left p.right) (both_in w ts p.left p.right)

-- a node that was made for a pair is right
pub record IsRight (w : Operation) (ts : List Triple) (e : Pair × ℕ) : Type 0 where
  pub left : e.0.left < diagram_size ts
  pub right : e.0.right < diagram_size ts
  pub stands : IsResult w ts e.0 e.1

-- each node that was made for a pair is right
abbrev pub AreRight : Operation → List Triple → List (Pair × ℕ) → Type 0
AreRight w ts [] = Unit {0}
AreRight w ts (e ∷ es) = IsRight w ts e × AreRight w ts es

-- the entries are those of a diagram, and each node that is remembered is that of its pair's conjunction
pub record IsTable (ts : List Triple) (results : List (Pair × ℕ)) : Type 0 where
  pub diagram : IsDiagram ts
  pub right : AreRight And ts results

-- the node a, taken apart at an option that is not after its own
pub record IsSides (ts : List Triple) (a o off on : ℕ) : Type 0 where
  pub off_within : off < diagram_size ts
  pub on_within : on < diagram_size ts
  pub off_above : o < top ts off
  pub on_above : o < top ts on
  pub off_below : span ts off ≤ span ts a
  pub on_below : span ts on ≤ span ts a
  pub off_most : off ≤ a
  pub on_most : on ≤ a
  pub falls : top ts a ≡ o → (off < a) × (on < a)
  pub spanned : top ts a ≡ o → o < span ts a
  pub value : (c : List Bool) → value_in ts a c ≡ cond (is_on c o) (value_in ts on c) (value_in ts off c)
  pub off_reached : (n : ℕ) → reaches ts off n ≡ true → reaches ts a n ≡ true
  pub on_reached : (n : ℕ) → reaches ts on n ≡ true → reaches ts a n ≡ true

-- the diagram grew from ts to us and the memo from m to n while the steps went from k to l; each step stands for one new pair
-- of a node reached from a and one reached from b, and at most one entry
pub record Runs (w : Operation) (ts us : List Triple) (a b : ℕ) (m n : List (Pair × ℕ)) (k l : ℕ) : Type 0 where
  pub extends : Extends ts us
  pub right : AreRight w us n
  pub more : List (Pair × ℕ)
  pub is : n ≡ more ++ m
  pub steps : l ≡ k + length more
  pub entries : diagram_size us ≤ diagram_size ts + length more
  pub reached : (p : Pair) → IsKey more p → (reaches ts a p.left ≡ true) × (reaches ts b p.right ≡ true)
  pub before : (p : Pair) → IsKey more p → (p.left ≤ a) × (p.right ≤ b)

-- the node r of the new diagram is that of a triple over the old one
abbrev pub IsNodeOf : List Triple → List Triple → Triple → ℕ → Type 0
IsNodeOf ts us t r =
    Stands us r t.option (max (t.option + 1) (max (span ts t.off) (span ts t.on)))
    (λ c. cond (is_on c t.option) (value_in ts t.on c) (value_in ts t.off c))

-- the node of a triple was made for a pair
pub record Joins (ts us : List Triple) (pair : Pair) (t : Triple) (m n : List (Pair × ℕ)) (k l r : ℕ) : Type 0 where
  pub extends : Extends ts us
  pub one : diagram_size us ≤ diagram_size ts + 1
  pub stands : IsNodeOf ts us t r
  pub memo : n ≡ (pair, r) ∷ m
  pub steps : l ≡ k + 1

-- nothing has changed
pub record Rests (ts us : List Triple) (m n : List (Pair × ℕ)) (k l : ℕ) : Type 0 where
  pub table : us ≡ ts
  pub memo : n ≡ m
  pub steps : l ≡ k
