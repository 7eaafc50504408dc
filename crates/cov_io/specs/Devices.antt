-- What the calls of a source and a sink do, where these tell what they hold, and what they count.
use Rattle.std.specs.Prelude.{◌≡◌, ◌≢◌, ℕ, ◌+◌, ◌≤◌, List, [], ◌++◌, take, Option, Some, None, Result, Ok, Err, IfOk, OnErr}
use Rattle.cov_base.specs.Causes.{Rose}

-- n bytes came, which are the first of those left; none come only where none are left
abbrev pub Reads : ℕ → List ℕ → Option (List ℕ) → Option (List ℕ) → Type 0
Reads n into None new = Unit {0}
Reads n into (Some old) None = ⊥
Reads n into (Some old) (Some new) = (old ≡ take n into ++ new) × (n ≡ 0 → old ≡ [])

-- the bytes that were told as left are still left
abbrev pub Unread : Option (List ℕ) → Option (List ℕ) → Type 0
Unread None new = Unit {0}
Unread (Some old) new = new ≡ Some old

-- the count of bytes given rises by those that came
abbrev pub Gives : {E : Type 0} → Result ℕ E → ℕ → ℕ → Type 0
Gives (Ok n) old new = new ≡ old + n
Gives (Err e) old new = new ≡ old

-- the count of ends never falls, rises where no bytes came, and changes nowhere else
pub record CountsEnd {E : Type 0} (result : Result ℕ E) (old new : ℕ) : Type 0 where
  pub later : old ≤ new
  pub at_end : IfOk result (λ n. n ≡ 0 → Rose old new)
  pub before_end : IfOk result (λ n. n ≢ 0 → new ≡ old)
  pub failed : OnErr result (new ≡ old)

-- new is old with all these at its end
abbrev pub AppendsAll : {X : Type 0} → List X → Option (List X) → Option (List X) → Type 0
AppendsAll xs None new = Unit {0}
AppendsAll xs (Some old) new = new ≡ Some (old ++ xs)

-- new is old with the first few of these at its end
abbrev pub AppendsSome : {X : Type 0} → List X → Option (List X) → Option (List X) → Type 0
AppendsSome xs None new = Unit {0}
AppendsSome {X} xs (Some old) new = (first rest : List X) × (xs ≡ first ++ rest) × (new ≡ Some (old ++ first))
