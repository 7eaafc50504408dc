-- Room for changes that take no memory.
use Rattle.std.specs.Prelude.{◌≡◌, ℕ, ◌+◌, ◌≤◌, Bool, true, nat_eq, List, Option, None}
use Rattle.std.specs.Option.{option_map_or}
use Rattle.cov_order.specs.Orders.{has_line}
use Rattle.cov_file.specs.Dated.{DatedLine}

-- room at one position, the one named or any, for so many lines more and for changes of some lines
pub record Room : Type 0 where
  pub inserts : ℕ
  pub changes : List ℕ
  pub position : Option ℕ

-- how many lines are expected at one position, and which lines' other visibilities
pub record Coming : Type 0 where
  pub inserts : ℕ
  pub deletes : List ℕ

-- the lines in order, the position of the newest change, the room that there is, the changes that are expected, and every node
-- that is kept, in one order
pub record DatedFile : Type 0 where
  pub lines : List DatedLine
  pub newest : ℕ
  pub room : Room
  pub coming : Coming
  pub nodes : List ℕ

-- whether there is room at a position
abbrev pub is_room_at : ℕ → Room → Bool
is_room_at at room = option_map_or (λ p. nat_eq at p) room.position true

-- room at any position for so many lines and for a change of each of some lines, those of them that there are
pub record IsMade (room : Room) (lines : List ℕ) (more : ℕ) (deletes : List ℕ) : Type 0 where
  pub inserts : more ≤ room.inserts
  pub changes : (line : ℕ) → has_line line deletes ≡ true → has_line line lines ≡ true → has_line line room.changes ≡ true
  pub position : room.position ≡ None

-- the room left at a position once so many more lines were inserted
pub record IsLeft (old new : Room) (at more : ℕ) : Type 0 where
  pub inserts : old.inserts ≤ new.inserts + more
  pub changes : (line : ℕ) → has_line line old.changes ≡ true → has_line line new.changes ≡ true
  pub position : is_room_at at new ≡ true
