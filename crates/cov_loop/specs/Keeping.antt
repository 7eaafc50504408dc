-- What a disk keeps while lines are served.
use Rattle.std.specs.Prelude.{◌≡◌, ◌⊎◌, ◌≤◌, ℕ, List, [], ◌∷◌, ◌++◌, length}
use Rattle.cov_loop.specs.Outcome.{Outcome, answers}

-- each image has this
abbrev pub AreAll : (List ℕ → Type 0) → (List ℕ → Type 0) → Type 0
AreAll P images = (image : List ℕ) → images image → P image

-- an outcome has no more commands than the state before
abbrev pub AddsNoCommand : {S : Type 0} → (S → ℕ) → S → Outcome S → Type 0
AddsNoCommand count before outcome = count outcome.state ≤ count before

-- the first of some lines adds no command, if there is one
abbrev pub FirstAddsNone : {S : Type 0} → (S → List ℕ → Outcome S) → (S → ℕ) → S → List (List ℕ) → Type 0
FirstAddsNone step count state [] = Unit {0}
FirstAddsNone step count state (line ∷ lines) = AddsNoCommand count state (step state line)

-- bytes have one of these two
abbrev pub IsEither : (List ℕ → Type 0) → (List ℕ → Type 0) → List ℕ → Type 0
IsEither P Q bytes = P bytes ⊎ Q bytes

-- an image is stored for the state after the first few of some lines
pub record Reaches {S : Type 0} (step : S → List ℕ → Outcome S) (stored : S → List ℕ → Type 0) (start : S) (lines : List (List ℕ)) (image : List ℕ) : Type 0 where
  pub first : List (List ℕ)
  pub rest : List (List ℕ)
  pub front : lines ≡ first ++ rest
  pub stands : stored (answers step start first).state image

-- and that state has each command of the lines whose whole replies are among so many bytes
pub record KeepsAnswered {S : Type 0} (step : S → List ℕ → Outcome S) (stored : S → List ℕ → Type 0) (count : S → ℕ) (start : S) (lines : List (List ℕ)) (bytes image : List ℕ) : Type 0 where
  pub first : List (List ℕ)
  pub rest : List (List ℕ)
  pub front : lines ≡ first ++ rest
  pub stands : stored (answers step start first).state image
  pub answered : (ls ms : List (List ℕ)) → lines ≡ ls ++ ms
      → length (answers step start ls).reply ≤ length bytes → count (answers step start ls).state ≤ count (answers step start first).state
