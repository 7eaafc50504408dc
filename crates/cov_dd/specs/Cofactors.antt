-- A node with one of its options set.
use Rattle.std.specs.Prelude.{ℕ, zero, suc, ◌<◌, ◌≤◌, ◌≡◌, Bool, true, false, List, [], ◌∷◌, ◌++◌, length, ◌+◌}
use Rattle.cov_dd.specs.declared.triple.Triple.{Triple}
use Rattle.cov_dd.specs.declared.memo.Pair.{Pair}
use Rattle.cov_dd.specs.Diagrams.{diagram_size, top, span, value_in, Extends, Stands}
use Rattle.cov_dd.specs.Memos.{IsKey}
use Rattle.cov_dd.specs.Reached.{reaches}

-- the choice with one option set, whose options it doesn't bind are off
abbrev pub set_option : List Bool → ℕ → Bool → List Bool
set_option [] zero on = on ∷ []
set_option [] (suc o) on = false ∷ set_option [] o on
set_option (b ∷ c) zero on = on ∷ c
set_option (b ∷ c) (suc o) on = b ∷ set_option c o on

-- the truth value of a node on a choice with one option set
abbrev pub cofactor : List Triple → ℕ → ℕ → Bool → List Bool → Bool
cofactor ts a o on c = value_in ts a (set_option c o on)

-- a node that was made for another, which stands as the first of a pair, is its cofactor
pub record IsCofactor (o : ℕ) (on : Bool) (ts : List Triple) (e : Pair × ℕ) : Type 0 where
  pub within : e.0.left < diagram_size ts
  pub stands : Stands ts e.1 (top ts e.0.left) (span ts e.0.left) (cofactor ts e.0.left o on)

-- each node that was made for another is its cofactor
abbrev pub AreCofactors : ℕ → Bool → List Triple → List (Pair × ℕ) → Type 0
AreCofactors o on ts [] = Unit {0}
AreCofactors o on ts (e ∷ es) = IsCofactor o on ts e × AreCofactors o on ts es

-- the diagram grew from ts to us and the memo from m to n; each new pair stands for a node reached from a, and at most one entry
pub record Restricts (o : ℕ) (on : Bool) (ts us : List Triple) (a : ℕ) (m n : List (Pair × ℕ)) : Type 0 where
  pub extends : Extends ts us
  pub right : AreCofactors o on us n
  pub more : List (Pair × ℕ)
  pub is : n ≡ more ++ m
  pub entries : diagram_size us ≤ diagram_size ts + length more
  pub reached : (p : Pair) → IsKey more p → (reaches ts a p.left ≡ true) × (p.right ≡ 0)
  pub before : (p : Pair) → IsKey more p → p.left ≤ a
