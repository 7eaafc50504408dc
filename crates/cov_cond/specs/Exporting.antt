-- The conditional text of a file.
use Rattle.std.specs.Prelude.{◌≡◌, ℕ, zero, suc, ◌+◌, ◌≤◌, ◌&&◌, not, nat_eq, nat_le, Bool, false, List, [], ◌∷◌, ◌++◌, map, length, Option, Some, None, slice_get, Result, Ok, Err, if◌then◌else◌, codes}
use Rattle.std.specs.List.{filter, find, flat_map, AllByRecursion}
use Rattle.std.specs.Cmp.Lexicographic.{pointwise}
use Rattle.cov_base.specs.declared.limits.TheConstants.{CHOICE_WIDTH, MOST_TOKENS}
use Rattle.cov_expr.specs.ExpressionText.{text_of}
use Rattle.cov_expr.specs.Formula.{Formula, False, True, On, Not, And, Or}
use Rattle.cov_expr.specs.Options.{option_name}
use Rattle.cov_expr.specs.Tokens.{tokens_of, token_count}
use Rattle.cov_edit.specs.declared.command.Command.{Command}
use Rattle.cov_edit.specs.History.{options_of}
use Rattle.cov_vis.specs.declared.listing.Child.{Child}
use Rattle.cov_vis.specs.declared.listing.Child.TheVariants.{F, T, At}
use Rattle.cov_vis.specs.declared.listing.ListingEntry.{ListingEntry}
use Rattle.cov_vis.specs.Listings.{ListingValue, same_child, same_entry}
use Rattle.cov_history.specs.Files.{DatedLine, file_dated}
use Rattle.cov_history.specs.Kept.{kept_of}
use Rattle.cov_engine.specs.Visibility.{presence_of}
use Rattle.cov_cond.specs.declared.fault.ExportFault.{ExportFault}
use Rattle.cov_cond.specs.declared.fault.ExportFault.TheVariants as faults

-- the expression of an entry by its option and its children, and by what expression each child is
abbrev pub entry_expression : (Child → Formula ℕ) → ℕ → Child → Child → Formula ℕ
entry_expression ex o F T = On o
entry_expression ex o T F = Not (On o)
entry_expression ex o F on = And (On o) (ex on)
entry_expression ex o T on = Or (Not (On o)) (ex on)
entry_expression ex o off F = And (Not (On o)) (ex off)
entry_expression ex o off T = Or (On o) (ex off)
entry_expression ex o off on = Or (And (On o) (ex on)) (And (Not (On o)) (ex off))

-- the expression of an entry, if there is one
abbrev pub expression_at : (Child → Formula ℕ) → Option ListingEntry → Formula ℕ
expression_at ex None = False
expression_at ex (Some e) = entry_expression ex e.option e.off e.on

-- the expression of a child, by at most so many entries below one another
abbrev pub child_expression : List ListingEntry → ℕ → Child → Formula ℕ
child_expression entries steps F = False
child_expression entries steps T = True
child_expression entries zero (At i) = False
child_expression entries (suc steps) (At i) = expression_at (child_expression entries steps) (slice_get entries i)

-- the expression that a listing spells; no way from the root is longer than there are entries, so the steps bound none
abbrev pub expression_of : ListingValue → Formula ℕ
expression_of l = child_expression l.entries (CHOICE_WIDTH + length l.entries) l.root

-- a line of a file as it is exported: its number, its text, and the listing of its presence
pub record PresentLine : Type 0 where
  pub line : ℕ
  pub text : List ℕ
  pub listing : ListingValue

-- a line of a file with its presence
abbrev pub present_line : List Command → DatedLine → PresentLine
present_line history d = record { line = d.line; text = d.text; listing = presence_of history d.line }

-- whether a listing is nowhere true
abbrev pub is_nowhere : ListingValue → Bool
is_nowhere l = same_child l.root F

-- whether two listings are one
abbrev pub same_listing : ListingValue → ListingValue → Bool
same_listing l m = same_child l.root m.root && pointwise same_entry l.entries m.entries

-- the lines of a file in address order, without those that no choice has
abbrev pub present_lines : List Command → ℕ → List PresentLine
present_lines history file = filter (λ l. not (is_nowhere l.listing)) (map (present_line history) (file_dated file (kept_of history)))

-- neighbouring lines with one listing: the first of them, and the texts of the others
pub record Listed : Type 0 where
  pub first : PresentLine
  pub others : List (List ℕ)

-- runs of lines with a line more before them
abbrev pub onto_listed : PresentLine → List Listed → List Listed
onto_listed l [] = record { first = l; others = [] } ∷ []
onto_listed l (r ∷ rs) =
    if same_listing l.listing r.first.listing
    then record { first = l; others = r.first.text ∷ r.others } ∷ rs
    else record { first = l; others = [] } ∷ r ∷ rs

-- the maximal runs of neighbours with one listing
abbrev pub listed : List PresentLine → List Listed
listed [] = []
listed (l ∷ ls) = onto_listed l (listed ls)

-- a text as a line: with one more # before it, if it begins with one
abbrev pub text_line : List ℕ → List ℕ
text_line [] = []
text_line (b ∷ bs) = if nat_eq b 35 then 35 ∷ b ∷ bs else b ∷ bs

-- lines as they are where all choices have them, and else between those that say on which choices they are
abbrev pub enclosed : List (List ℕ) → ListingValue → List (List ℕ) → List (List ℕ)
enclosed names l lines =
    if same_child l.root T
    then lines
    else (codes "#if " ++ text_of (option_name names) (expression_of l)) ∷ (lines ++ codes "#endif" ∷ [])

-- the lines of a run
abbrev pub listed_lines : List (List ℕ) → Listed → List (List ℕ)
listed_lines names r = enclosed names r.first.listing (map text_line (r.first.text ∷ r.others))

-- the conditional text of a file, as lines
abbrev pub conditional_text : List Command → ℕ → List (List ℕ)
conditional_text history file = flat_map (listed_lines (options_of history)) (listed (present_lines history file))

-- whether a count of tokens, if there is one, is within the limit
abbrev pub is_few : Result ℕ ℕ → Bool
is_few (Ok count) = nat_le count MOST_TOKENS
is_few (Err at) = false

-- whether the text of a listing's expression has no more tokens than the limit
abbrev pub is_short : List (List ℕ) → ListingValue → Bool
is_short names l = is_few (token_count (tokens_of (text_of (option_name names) (expression_of l))))

-- lines that are exported, unless a run's expression is too long
abbrev pub unless_long : Option Listed → List (List ℕ) → Result (List (List ℕ)) ExportFault
unless_long None lines = Ok lines
unless_long (Some r) lines = Err (faults.TooLong r.first.line)

-- the conditional text of a file, as lines; or its first line whose expression has too many tokens
unfoldable pub exported : List Command → ℕ → Result (List (List ℕ)) ExportFault
exported history file =
    unless_long (find (λ r. not (is_short (options_of history) r.first.listing)) (listed (present_lines history file))) (conditional_text history file)

-- a fault is want of memory, or the one that an answer has
abbrev pub IsExportFaultOf : {X : Type 0} → Result X ExportFault → ExportFault → Type 0
IsExportFaultOf answer faults.Memory = Unit {0}
IsExportFaultOf answer (faults.TooLong line) = answer ≡ Err (faults.TooLong line)

-- the text of a listing's expression has no more tokens than the limit
abbrev pub IsShort : List (List ℕ) → ListingValue → Type 0
IsShort names l = (count : ℕ) × (token_count (tokens_of (text_of (option_name names) (expression_of l))) ≡ Ok count) × (count ≤ MOST_TOKENS)

-- no expression that is printed for a file has more tokens than the limit
abbrev pub AreShort : List Command → ℕ → Type 0
AreShort history file = AllByRecursion (λ r. IsShort (options_of history) r.first.listing) (listed (present_lines history file))
