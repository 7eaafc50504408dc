-- The lines of a file by their numbers, as a store keeps them.
use Rattle.std.specs.Prelude.{◌≡◌, ℕ, ◌<◌, Bool, true, false, List, map}
use Rattle.std.specs.List.{filter}
use Rattle.cov_base.specs.Addresses.{line_of}
use Rattle.cov_order.specs.Orders.{has_line, is_anchor}
use Rattle.cov_expr.specs.Formula.{Formula, value}
use Rattle.cov_edit.specs.Variant.{Line}
use Rattle.cov_history.specs.Kept.{Kept, seen_at, kept_number, file_kept}

-- a kept line by its number
pub record DatedLine : Type 0 where
  pub line : ℕ
  pub text : List ℕ
  pub changes : List (ℕ × Formula ℕ)

-- the number of a dated line
abbrev pub dated_number : DatedLine → ℕ
dated_number d = d.line

-- a kept line without its address
abbrev pub dated : Kept Line → DatedLine
dated k = record { line = kept_number k; text = k.item.text; changes = k.changes }

-- the lines of a file in order
abbrev pub file_dated : ℕ → List (Kept Line) → List DatedLine
file_dated file ks = map dated (file_kept file ks)

-- the numbers of the lines of a file in order
abbrev pub file_order : ℕ → List (Kept Line) → List ℕ
file_order file ks = map kept_number (file_kept file ks)

-- a line that is shown
pub record ShownLine : Type 0 where
  pub line : ℕ
  pub text : List ℕ

-- a line of a variant as it is shown
abbrev pub as_shown : Line → ShownLine
as_shown l = record { line = line_of l.address; text = l.text }

-- a dated line as it is shown
abbrev pub dated_as_shown : DatedLine → ShownLine
dated_as_shown d = record { line = d.line; text = d.text }

-- whether a dated line is seen on a choice at a position
abbrev pub is_dated_seen : List Bool → ℕ → DatedLine → Bool
is_dated_seen c p d = value (seen_at d.changes p) c

-- the lines shown on a choice at a position
abbrev pub dated_shown : List Bool → ℕ → List DatedLine → List ShownLine
dated_shown c p ds = map dated_as_shown (filter (is_dated_seen c p) ds)

-- an order takes a line after an anchor: it has the anchor and not yet the line
pub record Takes (lines : List ℕ) (anchor line : ℕ) : Type 0 where
  pub anchored : is_anchor anchor lines ≡ true
  pub above_head : 0 < line
  pub fresh : has_line line lines ≡ false
