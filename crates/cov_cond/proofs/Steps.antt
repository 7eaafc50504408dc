-- What is written with one line more.
use Rattle.std.proofs.Common.{◌≡◌, ℕ, ◌≤◌, Bool, true, false, List, [], ◌∷◌, ◌++◌, map, length, get_or, Option, Some, None, Result, Ok, if◌then◌else◌, refl, sym, ap, subst, ◌∙◌}
use Rattle.std.specs.List.{AllByRecursion}
use Rattle.cov_base.specs.declared.file_row.FileRow.{FileRow}
use Rattle.cov_base.proofs.CallerLemmas.{all-rest, opened, rest_of}
use Rattle.cov_dd.specs.declared.triple.Triple.{Triple}
use Rattle.cov_edit.specs.declared.command.Command.{Command}
use Rattle.cov_edit.specs.History.{option_count, options_of}
use Rattle.cov_vis.specs.Decisions.{listing_of}
use Rattle.cov_vis.specs.Listings.{ListingValue, reads}
use Rattle.cov_engine.specs.Visibility.{IsVisibilityOf, is_no_line, presence_of}
use Rattle.cov_cond.specs.Exporting.{is_nowhere, same_listing, text_line, IsExportFaultOf}
use Rattle.cov_cond.specs.Writing.{Written, goes_on, with_run, with_present, with_line, then_written, written, present_row, writing, listing_of_run, HasNode, IsOfNode, Agrees, IsGoing, IsPresence}
use Rattle.cov_cond.specs.declared.fault.ExportFault.{ExportFault}
use Rattle.cov_cond.specs.declared.fault.ExportFault.TheVariants as faults
use Rattle.cov_cond.specs.declared.open_run.OpenRun.{OpenRun}
use Rattle.cov_cond.proofs.Exported.{same_listing-is}
use Rattle.cov_cond.proofs.Written.{listing-itself}

-- lines of one node have one presence
one-presence : (history : List Command) (ts : List Triple) (line other node : ℕ) → IsVisibilityOf history ts line node → IsVisibilityOf history ts other node → presence_of history line ≡ presence_of history other
one-presence history ts line other node a b = ap (listing_of (option_count history)) (λ i c. (sym (a.value c) ∙ b.value c) i)

pub going-node : (history : List Command) (ts : List Triple) (run : Option OpenRun) → IsGoing history ts run → HasNode ts run
going-node history ts None going = tt
going-node history ts (Some r) going = going.node.within

-- a line of the node of the run that goes on belongs to it
pub belongs : (history : List Command) (ts : List Triple) (run : Option OpenRun) (line node : ℕ) → IsGoing history ts run → IsVisibilityOf history ts line node → IsOfNode run node
    → (goes_on (listing_of_run history run) (presence_of history line) ≡ true) × (is_nowhere (presence_of history line) ≡ false)
belongs history ts None line node going here is = absurd is
belongs history ts (Some r) line node going here is =
    let same : presence_of history r.line ≡ presence_of history line = one-presence history ts r.line line node (subst (IsVisibilityOf history ts r.line) is going.node) here in (
      ap (same_listing (presence_of history r.line)) (sym same) ∙ listing-itself (presence_of history r.line),
      subst (λ l. is_nowhere l ≡ false) same going.somewhere,
    )

-- a line of another node doesn't
pub apart : (history : List Command) (ts : List Triple) (run : Option OpenRun) (line node : ℕ) → IsGoing history ts run → IsVisibilityOf history ts line node → (Agrees ts run node → ⊥)
    → IsPresence history line → goes_on (listing_of_run history run) (presence_of history line) ≡ false
apart history ts None line node going here other presence = refl
apart history ts (Some r) line node going here other presence = at (same_listing (presence_of history r.line) (presence_of history line)) refl
  where
    at : (b : Bool) → same_listing (presence_of history r.line) (presence_of history line) ≡ b → b ≡ false
    at false e = refl
    at true e =
        let same : presence_of history r.line ≡ presence_of history line = same_listing-is (presence_of history r.line) (presence_of history line) e in
        absurd (other (λ c long. going.node.value c ∙ sym (going.presence c) ∙ ap (λ l. reads l c) same ∙ presence c ∙ sym (here.value c)))

module _ (history : List Command) (lines : List (List ℕ)) (run : Option OpenRun) (row : FileRow) where
  abbrev names : List (List ℕ)
  names = options_of history

  abbrev before : Written
  before = writing history lines run

  abbrev listing : ListingValue
  listing = presence_of history row.line

  -- a line of the run that goes on
  pub more-written : (after : List (List ℕ)) → (goes_on (listing_of_run history run) listing ≡ true) × (is_nowhere listing ≡ false) → after ≡ lines ++ text_line row.text ∷ []
      → with_line names before (present_row history row) ≡ Ok (writing history after run)
  more-written after h is =
      ap (λ b. if b then Ok before else with_present names before (present_row history row)) h.1
      ∙ ap (λ b. if b then Ok (writing history (lines ++ text_line row.text ∷ []) run) else with_run names before (present_row history row)) h.0
      ∙ ap (λ ls. Ok (writing history ls run)) (sym is)

-- a line more of a file's lines
module _ (history : List Command) (ts : List Triple) (whole : Result (List (List ℕ)) ExportFault) (lines : List (List ℕ)) (run : Option OpenRun) (r d : FileRow) (rs : List FileRow)
    (is : r ≡ get_or rs 0 d) (some : 1 ≤ length rs) where
  -- the lines ahead, with what was written, give the whole
  abbrev pub Gives : List (List ℕ) → Option OpenRun → List FileRow → Type 0
  Gives written_lines going ahead = written (options_of history) (writing history written_lines going) (map (present_row history) ahead) ≡ whole

  abbrev IsKnown : FileRow → Type 0
  IsKnown x = is_no_line history x.line ≡ false

  -- the first of them is written
  first-written : Gives lines run rs
      → then_written (with_line (options_of history) (writing history lines run) (present_row history r)) (λ x. written (options_of history) x (map (present_row history) (rest_of rs))) ≡ whole
  first-written h = ap (λ xs. written (options_of history) (writing history lines run) (map (present_row history) xs)) (sym (opened r d rs is some)) ∙ h

  pub goes-further : (after : List (List ℕ)) (next : Option OpenRun) → Gives lines run rs × IsGoing history ts run × AllByRecursion IsKnown rs
      → with_line (options_of history) (writing history lines run) (present_row history r) ≡ Ok (writing history after next) → IsGoing history ts next
      → Gives after next (rest_of rs) × IsGoing history ts next × AllByRecursion IsKnown (rest_of rs)
  goes-further after next h step going = (
    ap (λ w. then_written w (λ x. written (options_of history) x (map (present_row history) (rest_of rs)))) (sym step) ∙ first-written h.0,
    going,
    all-rest IsKnown rs h.2,
  )

  pub stops : (fault : ExportFault) → Gives lines run rs → IsExportFaultOf (with_line (options_of history) (writing history lines run) (present_row history r)) fault → IsExportFaultOf whole fault
  stops faults.Memory h step = tt
  stops (faults.TooLong line) h step = sym (first-written h) ∙ ap (λ w. then_written w (λ x. written (options_of history) x (map (present_row history) (rest_of rs)))) step
