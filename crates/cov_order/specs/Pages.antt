-- The lines of a file on pages, and the room that there is for more.
use Rattle.std.specs.Prelude.{◌≡◌, ℕ, zero, suc, ◌+◌, ◌*◌, ◌-◌, ◌<◌, ◌≤◌, Bool, true, false, ◌&&◌, min, nat_eq, List, [], ◌∷◌, ◌++◌, length, take, drop, set, slice_index_or, Option, None, Some, vec_len, vec_capacity, if◌then◌else◌}
use Rattle.std.specs.List.{flat_map, list_any, sum_by}
use Rattle.std.specs.Map.{lookup}
use Rattle.std.specs.Option.{option_map}
use Rattle.indexmap.specs.IndexMap.{spare}
use Rattle.cov_order.specs.Orders.{has_line, AreLines}
use Rattle.cov_order.specs.declared.pages.Pages.{Pages}

-- the lines on the page with a number, none where there is no such page
abbrev pub lines_on : List (List ℕ) → ℕ → List ℕ
lines_on pages number = slice_index_or pages number []

-- the lines of pages in the order of a sequence of their numbers
abbrev pub lines_in : List (List ℕ) → List ℕ → List ℕ
lines_in pages sequence = flat_map (lines_on pages) sequence

-- the lines in order
abbrev pub lines_of : Pages → List ℕ
lines_of p = lines_in p.pages.items p.sequence.items

-- whether a page is in a sequence
abbrev pub has_page : ℕ → List ℕ → Bool
has_page number sequence = list_any (λ n. nat_eq n number) sequence

-- numbers of pages below a count, each of them once
abbrev pub ArePages : ℕ → List ℕ → Type 0
ArePages count [] = Unit {0}
ArePages count (n ∷ ns) = (n < count) × (has_page n ns ≡ false) × ArePages count ns

-- whether a line is on the page that was found for it, one of the sequence
abbrev pub is_on : List (List ℕ) → List ℕ → ℕ → Option ℕ → Bool
is_on pages sequence line None = false
is_on pages sequence line (Some number) = has_page number sequence && has_line line (lines_on pages number)

-- each line is on one page once, each page is in the sequence once at most, and the index has the page of each line
pub record ArePaged (pages : List (List ℕ)) (sequence : List ℕ) (entries : List (ℕ × ℕ)) : Type 0 where
  pub lines : AreLines (lines_in pages sequence)
  pub numbers : ArePages (length pages) sequence
  pub page : (line : ℕ) → has_line line (lines_in pages sequence) ≡ true → is_on pages sequence line (lookup (nat_eq line) entries) ≡ true

-- the same, with each page in the sequence and with room to put each empty page in use
pub record IsPaged (p : Pages) : Type 0 where
  pub paged : ArePaged p.pages.items p.sequence.items p.index.entries
  pub count : vec_len p.sequence ≡ vec_len p.pages
  pub room : vec_len p.pages + vec_len p.empty ≤ vec_capacity p.pages
  pub places : vec_len p.sequence + vec_len p.empty ≤ vec_capacity p.sequence

-- the page on which a line directly after an anchor is put: that of the anchor, or the first where that is the head, 0
abbrev pub IsPageOf : List (List ℕ) → List ℕ → ℕ → ℕ → Type 0
IsPageOf pages sequence zero number = (others : List ℕ) × (sequence ≡ number ∷ others)
IsPageOf pages sequence (suc anchor) number = (has_page number sequence ≡ true) × (has_line (suc anchor) (lines_on pages number) ≡ true)

-- the pages once one was split in two, the second of which is the last
abbrev pub halved : List (List ℕ) → ℕ → List (List ℕ)
halved pages number = set pages number (take 128 (lines_on pages number)) ++ drop 128 (lines_on pages number) ∷ []

-- the page found for a line once some lines were moved to another
abbrev pub moved : ℕ → Bool → Option ℕ → Option ℕ
moved number is_moved found = if is_moved then option_map (λ _. number) found else found

-- by how many lines a page is more than half full
abbrev pub beyond_half : List ℕ → ℕ
beyond_half page = min 128 (length page - 128)

-- by how many lines pages are more than half full together: a split takes 128 of them away, and a line adds one at most
abbrev pub crowding : List (List ℕ) → ℕ
crowding pages = sum_by beyond_half pages

-- room for so many lines more: in the index, on a first page, and in empty pages for all the splits that they can make
pub record HasRoom (p : Pages) (more : ℕ) : Type 0 where
  pub index : more ≤ spare p.index
  pub begun : 0 < more → 0 < vec_len p.pages
  pub splits : vec_len p.empty < more → crowding p.pages.items + more < 128 * (vec_len p.empty + 1)

-- the same lines, with as much room or more
pub record Grows (old new : Pages) : Type 0 where
  pub paged : IsPaged new
  pub lines : lines_of new ≡ lines_of old
  pub crowding : crowding new.pages.items ≡ crowding old.pages.items
  pub begun : vec_len old.pages ≤ vec_len new.pages
  pub empty : vec_len old.empty ≤ vec_len new.empty
  pub index : spare old.index ≤ spare new.index
