-- On which choices a line of a history stands, as a node and as a listing.
use Rattle.std.specs.Prelude.{ℕ, ◌-◌, Bool, true, false, ◌||◌, nat_eq, nat_lt, List, Option, Some, None, Result, Ok, Err, slice_get, if◌then◌else◌}
use Rattle.std.specs.List.{list_any}
use Rattle.cov_base.specs.Addresses.{line_of}
use Rattle.cov_base.specs.declared.error.MemoryOr.{MemoryOr}
use Rattle.cov_base.specs.declared.error.MemoryOr.TheVariants as failing
use Rattle.cov_dd.specs.declared.triple.Triple.{Triple}
use Rattle.cov_dd.specs.Diagrams.{Stands}
use Rattle.cov_edit.specs.declared.command.Command.{Command}
use Rattle.cov_edit.specs.History.{option_count}
use Rattle.cov_edit.specs.Numbering.{line_count}
use Rattle.cov_edit.specs.Variant.{Variant}
use Rattle.cov_edit.specs.Replay.{replay}
use Rattle.cov_base.specs.declared.file_row.FileRow.{FileRow}
use Rattle.cov_history.specs.Files.{DatedLine}
use Rattle.cov_vis.specs.Decisions.{listing_of}
use Rattle.cov_vis.specs.Listings.{ListingValue}
use Rattle.cov_visible.specs.Parts.{part_of}
use Rattle.cov_visible.specs.declared.file_part.FilePart.{FilePart}

-- whether a variant has the line with a number, its file present or not
abbrev pub has_line_number : ℕ → Variant → Bool
has_line_number line v = list_any (λ l. nat_eq (line_of l.address) line) v.lines

-- a node of a table is the visibility of a line: it names only declared options and is true on exactly the choices in whose
-- replay of the history the line is
abbrev pub IsVisibilityOf : List Command → List Triple → ℕ → ℕ → Type 0
IsVisibilityOf history ts line node = Stands ts node 0 (option_count history) (λ c. has_line_number line (replay c history))

-- the one reduced listing that reads so
abbrev pub presence_of : List Command → ℕ → ListingValue
presence_of history line = listing_of (option_count history) (λ c. has_line_number line (replay c history))

-- whether a history has no line with a number
abbrev pub is_no_line : List Command → ℕ → Bool
is_no_line history line = nat_eq line 0 || nat_lt (line_count history) line

-- whether an answer refuses, which want of memory doesn't
abbrev pub is_refusal : {X E : Type 0} → Result X (MemoryOr E) → Bool
is_refusal (Ok x) = false
is_refusal (Err failing.Memory) = false
is_refusal (Err (failing.Refused e)) = true

-- a kept line as a line of its file
abbrev pub as_row : DatedLine → FileRow
as_row d = record { line = d.line; text = d.text }

-- the item with a number, from 1
abbrev pub item_of : {X : Type 0} → List X → ℕ → Option X
item_of xs number = if nat_eq number 0 then None else slice_get xs (number - 1)

-- the stored file of a node, if there is one
abbrev pub stored_file_of : List FilePart → Option ℕ → Option FilePart
stored_file_of stored None = None
stored_file_of stored (Some file) = part_of stored file
