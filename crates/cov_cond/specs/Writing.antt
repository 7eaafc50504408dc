-- The conditional text of a file, written one line after another.
use Rattle.std.specs.Prelude.{◌≡◌, ℕ, ◌<◌, Bool, true, false, List, [], ◌∷◌, ◌++◌, Option, Some, None, Result, Ok, Err, if◌then◌else◌, codes}
use Rattle.cov_base.specs.declared.file_row.FileRow.{FileRow}
use Rattle.cov_dd.specs.declared.triple.Triple.{Triple}
use Rattle.cov_dd.specs.Diagrams.{diagram_size, AgreeIn}
use Rattle.cov_expr.specs.ExpressionText.{text_of}
use Rattle.cov_expr.specs.Options.{option_name}
use Rattle.cov_edit.specs.declared.command.Command.{Command}
use Rattle.cov_edit.specs.Replay.{replay}
use Rattle.cov_vis.specs.declared.listing.Child.TheVariants.{T}
use Rattle.cov_vis.specs.Listings.{ListingValue, reads, same_child}
use Rattle.cov_engine.specs.Visibility.{IsVisibilityOf, has_line_number, presence_of}
use Rattle.cov_cond.specs.Exporting.{PresentLine, expression_of, is_nowhere, is_short, same_listing, text_line}
use Rattle.cov_cond.specs.declared.fault.ExportFault.{ExportFault}
use Rattle.cov_cond.specs.declared.fault.ExportFault.TheVariants as faults
use Rattle.cov_cond.specs.declared.open_run.OpenRun.{OpenRun}

-- the lines that were written, and the listing of the run that still goes on, if there is one
pub record Written : Type 0 where
  pub lines : List (List ℕ)
  pub run : Option ListingValue

-- the line before an expression's lines
abbrev pub if_line : List (List ℕ) → ListingValue → List ℕ
if_line names l = codes "#if " ++ text_of (option_name names) (expression_of l)

-- what stands before a run's lines: nothing where all choices have them
abbrev pub beginning : List (List ℕ) → ListingValue → List (List ℕ)
beginning names l = if same_child l.root T then [] else if_line names l ∷ []

-- what stands behind a run's lines, by whether all choices have them
abbrev pub end_line : Bool → List (List ℕ)
end_line true = []
end_line false = codes "#endif" ∷ []

-- what stands behind the lines of the run that goes on
abbrev pub ending : Option ListingValue → List (List ℕ)
ending None = []
ending (Some l) = end_line (same_child l.root T)

-- whether the run that goes on has a listing
abbrev pub goes_on : Option ListingValue → ListingValue → Bool
goes_on None l = false
goes_on (Some m) l = same_listing m l

-- what was written with a line more, with which a run begins, unless that one's expression is too long
abbrev pub with_run : List (List ℕ) → Written → PresentLine → Result Written ExportFault
with_run names w l =
    if is_short names l.listing
    then Ok (record { lines = w.lines ++ (ending w.run ++ (beginning names l.listing ++ text_line l.text ∷ [])); run = Some l.listing })
    else Err (faults.TooLong l.line)

-- what was written with a line more, which some choice has
abbrev pub with_present : List (List ℕ) → Written → PresentLine → Result Written ExportFault
with_present names w l =
    if goes_on w.run l.listing
    then Ok (record { lines = w.lines ++ text_line l.text ∷ []; run = w.run })
    else with_run names w l

-- what was written with a line more, which is left out where no choice has it
abbrev pub with_line : List (List ℕ) → Written → PresentLine → Result Written ExportFault
with_line names w l = if is_nowhere l.listing then Ok w else with_present names w l

-- a step, unless there is a fault
abbrev pub then_written : Result Written ExportFault → (Written → Result (List (List ℕ)) ExportFault) → Result (List (List ℕ)) ExportFault
then_written (Ok w) go = go w
then_written (Err fault) go = Err fault

-- all that is written with more lines, unless a run's expression is too long
abbrev pub written : List (List ℕ) → Written → List PresentLine → Result (List (List ℕ)) ExportFault
written names w [] = Ok (w.lines ++ ending w.run)
written names w (l ∷ ls) = then_written (with_line names w l) (λ x. written names x ls)

-- a line of a file with its presence
abbrev pub present_row : List Command → FileRow → PresentLine
present_row history r = record { line = r.line; text = r.text; listing = presence_of history r.line }

-- the presence of a line reads as the line is in replays
abbrev pub IsPresence : List Command → ℕ → Type 0
IsPresence history line = (c : List Bool) → reads (presence_of history line) c ≡ has_line_number line (replay c history)

-- a run is that of a line which some choice has: it has that line's node, and is bare where all choices have it
pub record IsRun (history : List Command) (ts : List Triple) (r : OpenRun) : Type 0 where
  pub node : IsVisibilityOf history ts r.line r.node
  pub presence : IsPresence history r.line
  pub somewhere : is_nowhere (presence_of history r.line) ≡ false
  pub bare : r.is_bare ≡ same_child (presence_of history r.line).root T

-- the run that goes on, if there is one, is that of a line
abbrev pub IsGoing : List Command → List Triple → Option OpenRun → Type 0
IsGoing history ts None = Unit {0}
IsGoing history ts (Some r) = IsRun history ts r

-- the listing of the run that goes on
abbrev pub listing_of_run : List Command → Option OpenRun → Option ListingValue
listing_of_run history None = None
listing_of_run history (Some r) = Some (presence_of history r.line)

-- lines that were written, and the run that goes on
abbrev pub writing : List Command → List (List ℕ) → Option OpenRun → Written
writing history lines run = record { lines = lines; run = listing_of_run history run }

-- what stands behind the lines of a run
abbrev pub end_of : Option OpenRun → List (List ℕ)
end_of None = []
end_of (Some r) = end_line r.is_bare

-- the run that goes on, if there is one, has a node of the table
abbrev pub HasNode : List Triple → Option OpenRun → Type 0
HasNode ts None = Unit {0}
HasNode ts (Some r) = r.node < diagram_size ts

-- a run goes on and has a node
abbrev pub IsOfNode : Option OpenRun → ℕ → Type 0
IsOfNode None node = ⊥
IsOfNode (Some r) node = r.node ≡ node

-- a run goes on whose node has the values of another
abbrev pub Agrees : List Triple → Option OpenRun → ℕ → Type 0
Agrees ts None node = ⊥
Agrees ts (Some r) node = AgreeIn ts r.node node

-- the line before a listing's lines, or none where its expression is too long
abbrev pub IsIfLine : List (List ℕ) → ListingValue → Option (List ℕ) → Type 0
IsIfLine names l None = is_short names l ≡ false
IsIfLine names l (Some line) = (is_short names l ≡ true) × (line ≡ if_line names l)
