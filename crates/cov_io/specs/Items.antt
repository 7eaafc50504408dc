-- The items that lines are given as.
use Rattle.std.specs.Prelude.{◌≡◌, ◌≢◌, ℕ, ◌<◌, ◌≤◌, List, [], ◌∷◌, ◌++◌, length, Option, Some, None, All}
use Rattle.cov_base.specs.Lines.{lines_of}
use Rattle.cov_base.specs.declared.limits.TheConstants.{MOST_SCRIPT_LINE_BYTES}
use Rattle.cov_io.specs.Progress.{Progress, potential}
use Rattle.cov_io.specs.declared.reading.Item.{Item}
use Rattle.cov_io.specs.declared.reading.Item.TheVariants.{Line, Long, End}

-- the item is the first line of the text, given whole where it has no more bytes than the limit, and the rest is what follows the line
abbrev pub Gives : List ℕ → List ℕ → Item → Type 0
Gives text rest (Line l) = (lines_of text ≡ l ∷ lines_of rest) × (length l ≤ MOST_SCRIPT_LINE_BYTES)
Gives text rest Long = (l : List ℕ) × (lines_of text ≡ l ∷ lines_of rest) × (MOST_SCRIPT_LINE_BYTES < length l)
Gives text rest End = (text ≡ []) × (rest ≡ [])

-- the item is the first line of the bytes ahead and left, where those left are told
abbrev pub GivesTold : Progress → Progress → Option (List ℕ) → Option (List ℕ) → Item → Type 0
GivesTold old new None later item = Unit {0}
GivesTold old new (Some left) None item = ⊥
GivesTold old new (Some left) (Some later) item = Gives (old.ahead ++ left) (new.ahead ++ later) item

-- a line that is given has no more bytes than the limit
abbrev pub IsShort : Item → Type 0
IsShort (Line l) = length l ≤ MOST_SCRIPT_LINE_BYTES
IsShort Long = Unit {0}
IsShort End = Unit {0}

-- a line that is given holds no byte 10
abbrev pub IsUnterminated : Item → Type 0
IsUnterminated (Line l) = All (λ b. b ≢ 10) l
IsUnterminated Long = Unit {0}
IsUnterminated End = Unit {0}

-- fewer items than before can follow, but at the end
abbrev pub Shrinks : Progress → Progress → Item → Type 0
Shrinks old new (Line l) = potential new < potential old
Shrinks old new Long = potential new < potential old
Shrinks old new End = Unit {0}
