-- What a call has met so far: pairs of nodes, each with the node that was made for it.
use Rattle.std.specs.Prelude.{ℕ, ◌≡◌, ◌⊎◌, List, [], ◌∷◌}
use Rattle.cov_dd.specs.declared.memo.Pair.{Pair}

pub record MemoValue : Type 0 where
  pub made : List (Pair × ℕ)
  pub room : ℕ

-- the pair has a node in the memo
abbrev pub IsKey : List (Pair × ℕ) → Pair → Type 0
IsKey [] p = ⊥
IsKey (e ∷ es) p = (e.0 ≡ p) ⊎ IsKey es p

-- the pair has this node in the memo
abbrev pub IsMade : List (Pair × ℕ) → Pair → ℕ → Type 0
IsMade [] p r = ⊥
IsMade (e ∷ es) p r = (e ≡ (p, r)) ⊎ IsMade es p r

-- no pair stands twice
abbrev pub IsDistinct : List (Pair × ℕ) → Type 0
IsDistinct [] = Unit {0}
IsDistinct (e ∷ es) = IsDistinct es × (IsKey es e.0 → ⊥)

-- each of the first pairs has its node in the second memo too
abbrev pub AreAmong : List (Pair × ℕ) → List (Pair × ℕ) → Type 0
AreAmong es fs = (p : Pair) (r : ℕ) → IsMade es p r → IsMade fs p r
