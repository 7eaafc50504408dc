-- What one call for an item does, step by step.
use Rattle.std.specs.Prelude.{◌≡◌, ◌≢◌, ℕ, ◌+◌, ◌<◌, ◌≤◌, Bool, true, false, List, [], ◌∷◌, ◌++◌, length, Option, Some, None, Result, Ok, Err, All}
use Rattle.std.specs.Io.KnownBytes.{Consumes, IsAtEnd}
use Rattle.cov_base.specs.Causes.{Rose}
use Rattle.cov_base.specs.declared.limits.TheConstants.{MOST_SCRIPT_LINE_BYTES}
use Rattle.cov_io.specs.Progress.{Progress, TracksEnd, IsBounded, IsTooMuch}
use Rattle.cov_io.specs.Items.{GivesTold, IsShort, IsUnterminated, Shrinks}
use Rattle.cov_io.specs.declared.buffer.Piece.{Piece}
use Rattle.cov_io.specs.declared.buffer.Piece.TheVariants.{Ended, Open}
use Rattle.cov_io.specs.declared.reading.Item.{Item}
use Rattle.cov_io.specs.declared.reading.Item.TheVariants as items
use Rattle.cov_io.specs.declared.reading.LineFault.{LineFault}
use Rattle.cov_io.specs.declared.reading.LineFault.TheVariants as line_faults

-- no byte of the list ends a line
abbrev pub IsWithin : List ℕ → Type 0
IsWithin bytes = All (λ b. b ≢ 10) bytes

-- the bytes of a line so far are held, or are too many for a line that is given
abbrev pub Holds : Option (List ℕ) → List ℕ → Type 0
Holds (Some l) piece = (l ≡ piece) × (length piece ≤ MOST_SCRIPT_LINE_BYTES)
Holds None piece = MOST_SCRIPT_LINE_BYTES < length piece

-- what was ahead up to the line's end, or all of it, joined what was held
abbrev pub TakesPiece : Option (List ℕ) → List ℕ → List ℕ → Piece → Type 0
TakesPiece held old new (Ended line) =
    (more : List ℕ) × IsWithin more × (old ≡ more ++ 10 ∷ new) × ((piece : List ℕ) → Holds held piece → Holds line (piece ++ more))
TakesPiece held old new (Open line) =
    IsWithin old × (new ≡ []) × ((piece : List ℕ) → Holds held piece → Holds line (piece ++ old))

-- the item of a line that byte 10 ended
abbrev pub item_of : Option (List ℕ) → Item
item_of (Some l) = items.Line l
item_of None = items.Long

-- the item of what stands before the end of input
abbrev pub last_item : Option (List ℕ) → Item
last_item (Some []) = items.End
last_item (Some (b ∷ bs)) = items.Line (b ∷ bs)
last_item None = items.Long

-- what a source has left, if it tells, and its counts
pub record Account : Type 0 where
  pub left : Option (List ℕ)
  pub given : ℕ
  pub faults : ℕ
  pub ends : ℕ

-- a source's account of these parts
abbrev pub account : Option (List ℕ) → ℕ → ℕ → ℕ → Account
account left given faults ends = record { left = left; given = given; faults = faults; ends = ends }

-- these bytes came from the source, and all is counted
pub record Took (came : List ℕ) (old new : Progress) (before after : Account) : Type 0 where
  pub told : Consumes before.left after.left came
  pub taken : new.taken ≡ old.taken + length came
  pub given : after.given ≡ before.given + length came
  pub later : before.faults ≤ after.faults
  pub ended : TracksEnd old.ended new.ended before.ends after.ends
  pub bounded : IsBounded new.ended new.taken

-- where the bytes left are told, none are left
abbrev pub ReachesEnd : Option (List ℕ) → Option (List ℕ) → Type 0
ReachesEnd None later = Unit {0}
ReachesEnd (Some left) later = IsAtEnd later

-- why a call for an item fails
abbrev pub HasFaultCause : LineFault → Progress → Account → Account → Type 0
HasFaultCause line_faults.ReadFault p before after = Rose before.faults after.faults
HasFaultCause line_faults.TooMuch p before after = IsTooMuch p
HasFaultCause line_faults.Memory p before after = Unit {0}

-- one read put what came ahead, or met the end, or failed
abbrev pub Fills : Result Bool LineFault → Progress → Progress → Account → Account → Type 0
Fills (Ok true) old new before after = (0 < length new.ahead) × Took new.ahead old new before after
Fills (Ok false) old new before after = (new.ahead ≡ []) × Took [] old new before after × ReachesEnd before.left after.left
Fills (Err fault) old new before after = Took [] old new before after × HasFaultCause fault new before after

-- the bytes of a line so far, of which the source gave some in this call
pub record Walks (line : Option (List ℕ)) (old new : Progress) (before after : Account) : Type 0 where
  pub piece : List ℕ
  pub came : List ℕ
  pub within : IsWithin piece
  pub held : Holds line piece
  pub joined : old.ahead ++ came ≡ piece ++ new.ahead
  pub took : Took came old new before after

-- an item was given
pub record Arrives (item : Item) (old new : Progress) (before after : Account) : Type 0 where
  pub items : GivesTold old new before.left after.left item
  pub short : IsShort item
  pub unterminated : IsUnterminated item
  pub shrinks : Shrinks old new item
  pub came : List ℕ
  pub took : Took came old new before after

-- the call failed
pub record Stops (fault : LineFault) (old new : Progress) (before after : Account) : Type 0 where
  pub cause : HasFaultCause fault new before after
  pub came : List ℕ
  pub took : Took came old new before after
