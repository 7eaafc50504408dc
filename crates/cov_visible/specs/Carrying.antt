-- What a commit's edits do to the lines of files, one after another.
use Rattle.std.specs.Prelude.{◌≡◌, ℕ, ◌+◌, ◌-◌, ◌^◌, ◌<◌, ◌≤◌, true, false, nat_eq, List, [], ◌∷◌, ◌++◌, map}
use Rattle.std.specs.List.{AllByRecursion, AllZip}
use Rattle.cov_file.specs.Dated.{DatedLine as FileLine, line_numbers_of, new_line, with_line, with_change, AreAlike}
use Rattle.cov_file.specs.Renumbered.{AddsNode}
use Rattle.cov_file.specs.Rooms.{is_room_at, IsMade, IsLeft}
use Rattle.cov_order.specs.Orders.{has_line, is_anchor}
use Rattle.cov_visible.specs.Staging.{Contents, contents}
use Rattle.cov_visible.specs.declared.file_part.FilePart.{FilePart}
use Rattle.cov_visible.specs.declared.resolved_edit.ResolvedEdit.{ResolvedEdit}
use Rattle.cov_visible.specs.declared.resolved_edit.ResolvedEdit.TheVariants as resolved

-- the node that an edit makes, or that it is done to
abbrev pub edited_node : ResolvedEdit → ℕ
edited_node (resolved.New node kind parent name on) = node
edited_node (resolved.Insert file anchor line text vis) = file
edited_node (resolved.Delete file line vis) = file
edited_node (resolved.Rename node name on) = node
edited_node (resolved.Move node parent on) = node
edited_node (resolved.Remove node on) = node

-- a file can take a line after an anchor at a position
pub record CanInsert (at anchor line : ℕ) (e : FilePart) : Type 0 where
  pub anchored : is_anchor anchor (line_numbers_of e.lines.lines) ≡ true
  pub above_head : 0 < line
  pub fresh : has_line line (line_numbers_of e.lines.lines) ≡ false
  pub later : e.lines.newest ≤ at
  pub room : 0 < e.lines.room.inserts
  pub position : is_room_at at e.lines.room ≡ true

-- a line of a file can get another visibility at a position
pub record CanDelete (at line : ℕ) (e : FilePart) : Type 0 where
  pub there : has_line line (line_numbers_of e.lines.lines) ≡ true
  pub later : e.lines.newest ≤ at
  pub room : has_line line e.lines.room.changes ≡ true
  pub position : is_room_at at e.lines.room ≡ true

-- an edit can be carried out in a file; one of rows does nothing there
abbrev pub CanCarryOut : ℕ → ResolvedEdit → FilePart → Type 0
CanCarryOut at (resolved.New node kind parent name on) e = Unit {0}
CanCarryOut at (resolved.Insert file anchor line text vis) e = CanInsert at anchor line e
CanCarryOut at (resolved.Delete file line vis) e = CanDelete at line e
CanCarryOut at (resolved.Rename node name on) e = Unit {0}
CanCarryOut at (resolved.Move node parent on) e = Unit {0}
CanCarryOut at (resolved.Remove node on) e = Unit {0}

-- a stored file with other lines, the newest change of which is at a position, and other nodes of these
abbrev pub with_other_lines : FilePart → List FileLine → ℕ → List ℕ → Contents
with_other_lines e ls newest ns = record { node = e.node; lines = ls; newest = newest; nodes = ns }

-- a file has taken a line after an anchor
pub record IsInserted (at anchor line : ℕ) (text : List ℕ) (vis : ℕ) (old new : FilePart) : Type 0 where
  pub row : contents new ≡ with_other_lines old new.lines.lines at new.lines.nodes
  pub nodes : AddsNode vis old.lines.nodes new.lines.nodes
  pub lines : AreAlike new.lines.lines (with_line anchor (new_line line text vis at) old.lines.lines)
  pub room : IsLeft old.lines.room new.lines.room at 1
  pub own : has_line line new.lines.room.changes ≡ true

-- a line of a file has got another visibility
pub record IsChanged (at line vis : ℕ) (old new : FilePart) : Type 0 where
  pub row : contents new ≡ with_other_lines old new.lines.lines at new.lines.nodes
  pub nodes : AddsNode vis old.lines.nodes new.lines.nodes
  pub lines : AreAlike new.lines.lines (with_change line vis at old.lines.lines)
  pub room : IsLeft old.lines.room new.lines.room at 0

-- an edit is carried out in a file
abbrev pub IsCarriedOut : ℕ → ResolvedEdit → FilePart → FilePart → Type 0
IsCarriedOut at (resolved.New node kind parent name on) old new = new ≡ old
IsCarriedOut at (resolved.Insert file anchor line text vis) old new = IsInserted at anchor line text vis old new
IsCarriedOut at (resolved.Delete file line vis) old new = IsChanged at line vis old new
IsCarriedOut at (resolved.Rename node name on) old new = new ≡ old
IsCarriedOut at (resolved.Move node parent on) old new = new ≡ old
IsCarriedOut at (resolved.Remove node on) old new = new ≡ old

-- a stored file is as before, or, if it is a file's, in a relation to what it was
pub record IsChangedIn (file : ℕ) (P : FilePart → FilePart → Type 0) (old new : FilePart) : Type 0 where
  pub here : nat_eq old.node file ≡ true → P old new
  pub elsewhere : nat_eq old.node file ≡ false → new ≡ old

-- an edit is carried out in its file alone
abbrev pub AreCarriedOut : ℕ → ResolvedEdit → List FilePart → List FilePart → Type 0
AreCarriedOut at s old new = AllZip (IsChangedIn (edited_node s) (IsCarriedOut at s)) old new

-- an edit can be carried out in a stored file, if it is done to this one
abbrev pub CanCarryOutIn : ℕ → ResolvedEdit → FilePart → Type 0
CanCarryOutIn at s e = nat_eq e.node (edited_node s) ≡ true → CanCarryOut at s e

-- edits can be carried out in stored files, one after another
abbrev pub CanCarryOutAll : ℕ → List ResolvedEdit → List FilePart → Type 0
CanCarryOutAll at [] stored = Unit {0}
CanCarryOutAll at (s ∷ ss) stored = AllByRecursion (CanCarryOutIn at s) stored × ((after : List FilePart) → AreCarriedOut at s stored after → CanCarryOutAll at ss after)

-- edits are carried out in stored files
abbrev pub AreAllCarriedOut : ℕ → List ResolvedEdit → List FilePart → List FilePart → Type 0
AreAllCarriedOut at [] stored after = after ≡ stored
AreAllCarriedOut at (s ∷ ss) stored after = (mid : List FilePart) × AreCarriedOut at s stored mid × AreAllCarriedOut at ss mid after

-- so but for what is expected of the files
abbrev pub AreInstalled : ℕ → List ResolvedEdit → List FilePart → List FilePart → Type 0
AreInstalled at ss stored after = (carried : List FilePart) × AreAllCarriedOut at ss stored carried × (map contents after ≡ map contents carried)

-- a file has room for one line more than was expected
pub record IsExpectingInsert (old new : FilePart) : Type 0 where
  pub row : contents new ≡ contents old
  pub inserts : (count : ℕ) → count ≤ old.lines.coming.inserts + 1 → count < 2 ^ 32 - 1 → count ≤ new.lines.coming.inserts
  pub deletes : new.lines.coming.deletes ≡ old.lines.coming.deletes
  pub room : IsMade new.lines.room (line_numbers_of new.lines.lines) new.lines.coming.inserts new.lines.coming.deletes

-- a file has room for one more of its lines to get another visibility
pub record IsExpectingDelete (line : ℕ) (old new : FilePart) : Type 0 where
  pub row : contents new ≡ contents old
  pub inserts : new.lines.coming.inserts ≡ old.lines.coming.inserts
  pub deletes : new.lines.coming.deletes ≡ old.lines.coming.deletes ++ line ∷ []
  pub room : IsMade new.lines.room (line_numbers_of new.lines.lines) new.lines.coming.inserts new.lines.coming.deletes

-- one line more of a file is expected
abbrev pub ExpectsInsert : ℕ → List FilePart → List FilePart → Type 0
ExpectsInsert file old new = AllZip (IsChangedIn file IsExpectingInsert) old new

-- another visibility of a line of a file is expected
abbrev pub ExpectsDelete : ℕ → ℕ → List FilePart → List FilePart → Type 0
ExpectsDelete file line old new = AllZip (IsChangedIn file (IsExpectingDelete line)) old new

-- what an edit does to a file is expected
abbrev pub Expects : ResolvedEdit → List FilePart → List FilePart → Type 0
Expects (resolved.New node kind parent name on) old new = new ≡ old
Expects (resolved.Insert file anchor line text vis) old new = ExpectsInsert file old new
Expects (resolved.Delete file line vis) old new = ExpectsDelete file line old new
Expects (resolved.Rename node name on) old new = new ≡ old
Expects (resolved.Move node parent on) old new = new ≡ old
Expects (resolved.Remove node on) old new = new ≡ old
