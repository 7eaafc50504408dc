-- Values by position, each from its own position on.
use Rattle.std.specs.Prelude.{◌≡◌, ℕ, nat_le, List, [], ◌∷◌, reverse, set, slice_get, Some, refl, if◌then◌else◌}
use Rattle.std.specs.Coded.{Coded, code_by, coded×, coded_ℕ, coded_list}

-- the newest value not beyond a position, of those with their positions, the newest first; before the first a given one
abbrev pub value_at : {X : Type 0} → X → List (ℕ × X) → ℕ → X
value_at before [] p = before
value_at before (x ∷ xs) p = if nat_le x.0 p then x.1 else value_at before xs p

-- lists with their positions, the newest first, and for how many more there is room
pub record Older (X : Type 0) : Type 0 where
  pub lists : List (ℕ × List X)
  pub room : ℕ

-- the list at an index, from 0 for the oldest, has the items given in the place of those that were taken
pub record IsReplaced {X : Type 0} (old new : List (ℕ × List X)) (index : ℕ) (given taken : List X) : Type 0 where
  pub oldest : List (ℕ × List X)
  pub was : old ≡ reverse oldest
  pub from : ℕ
  pub item : slice_get oldest index ≡ Some (from, taken)
  pub is : new ≡ reverse (set oldest index (from, given))

-- they are stored as the pair of their fields
abbrev pub older_code : {X : Type 0} → Coded X → Coded (Older X)
older_code {X} code =
    code_by
    (List (ℕ × List X) × ℕ)
    (coded× (coded_list (coded× coded_ℕ (coded_list code))) coded_ℕ)
    (λ o. (o.lists, o.room))
    (λ p. record { lists = p.0; room = p.1 })
    (λ _. refl)
