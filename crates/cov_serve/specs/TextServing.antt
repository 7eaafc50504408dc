-- What is served of texts that are at hand.
use Rattle.std.specs.Prelude.{◌≡◌, ◌⊎◌, ℕ, Bool, true, false, List, [], ◌++◌, Option, Some}
use Rattle.cov_base.specs.Causes.{Rose}
use Rattle.cov_base.specs.Lines.{lines_of}
use Rattle.cov_loop.specs.Keeping.{KeepsAnswered, Reaches}
use Rattle.cov_loop.specs.Outcome.{Outcome, answers}
use Rattle.cov_loop.specs.Turns.{RowsComeFirst, WritesFront}
use Rattle.cov_loop.specs.declared.ending.Ending.{Ending}
use Rattle.cov_loop.specs.declared.ending.Ending.TheVariants as endings
use Rattle.cov_out.specs.declared.row.OutRow.{OutRow}

-- why the serving of a text that is at hand ends as it does: no read of it fails, and it isn't too long
abbrev pub StopsText : Ending → ℕ → ℕ → ℕ → ℕ → ℕ → ℕ → Type 0
StopsText endings.WriteFault sink sink' disk disk' trees trees' = Rose sink sink'
StopsText endings.DiskFault sink sink' disk disk' trees trees' = Rose disk disk'
StopsText endings.TreesFault sink sink' disk disk' trees trees' = Rose trees trees'
StopsText endings.ReadFault sink sink' disk disk' trees trees' = ⊥
StopsText endings.TooMuch sink sink' disk disk' trees trees' = ⊥
StopsText _ sink sink' disk disk' trees trees' = Unit {0}

-- whether a script was served to its end
abbrev pub is_end : Ending → Bool
is_end endings.Done = true
is_end endings.SomeRefused = true
is_end _ = false

module _ {S : Type 0} (step : S → List ℕ → Outcome S) (start : S) (made told : List ℕ) where
  -- what the lines of a text give that are served behind those of another
  abbrev pub answers_after : Outcome S
  answers_after = answers step (answers step start (lines_of made)).state (lines_of told)

  -- the rows of both
  abbrev pub rows_after : List OutRow
  rows_after = (answers step start (lines_of made)).rows ++ answers_after.rows

  -- no byte was written yet; or all rows of the first text are, and then those of the lines whose replies are come first
  abbrev pub RowsComeAfter : List ℕ → List OutRow → Option (List ℕ) → Option (List OutRow) → Type 0
  RowsComeAfter before rows written grown =
      ((written ≡ Some before) × WritesFront rows rows_after grown)
      ⊎ RowsComeFirst step (answers step start (lines_of made)).state (lines_of told) before (rows ++ (answers step start (lines_of made)).rows) written grown

  module _ (stored : S → List ℕ → Type 0) where
    -- an image is stored for a state on the way
    abbrev pub ReachesAfter : List ℕ → Type 0
    ReachesAfter image =
        Reaches step stored start (lines_of made) image
        ⊎ Reaches step stored (answers step start (lines_of made)).state (lines_of told) image

    -- no byte was written yet; or the image has all that the first text adds, and each command that is answered of the other
    abbrev pub KeepsAfter : (S → ℕ) → List ℕ → List ℕ → Type 0
    KeepsAfter count bytes image =
        ((bytes ≡ []) × ReachesAfter image)
        ⊎ KeepsAnswered step stored count (answers step start (lines_of made)).state (lines_of told) bytes image
