-- Laws of what a history keeps for all choices and positions at once.
use Rattle.std.specs.Prelude.{◌≡◌, ℕ, ◌+◌, ◌<◌, ◌≤◌, Bool, true, false, not, nat_eq, List, [], ◌∷◌, ◌++◌, take, length, map, None}
use Rattle.std.specs.List.{fold, list_any, AllByRecursion}
use Rattle.cov_base.specs.Rows.{has_node}
use Rattle.cov_base.specs.Addresses.{IsTable, number_by, after_anchor, after_anchor_by}
use Rattle.cov_order.specs.Orders.{has_line, AreLines}
use Rattle.cov_expr.specs.Formula.{Formula}
use Rattle.cov_edit.specs.declared.edit.Edit.{Edit}
use Rattle.cov_edit.specs.declared.sided.Sided.{Sided}
use Rattle.cov_edit.specs.declared.command.Command.{Command}
use Rattle.cov_edit.specs.declared.command.Command.TheVariants as commands
use Rattle.cov_edit.specs.Numbering.{numbers_of}
use Rattle.cov_edit.specs.Sides.{unsided}
use Rattle.cov_edit.specs.Variant.{line_address, lines_of}
use Rattle.cov_edit.specs.Touched.{AreRising}
use Rattle.cov_view.specs.References.{is_dir_kind}
use Rattle.cov_history.specs.FileNodes.{files_made, files_from, files_of, NamesFile}
use Rattle.cov_edit.specs.Replay.{first_within, within_behind, commit_changes, replay}
use Rattle.cov_history.specs.Kept.{Holding, kept_number, kept_with, entries_with, held_from, held_by, kept_of, entries_of, lines_seen, rows_seen, variant_seen, file_kept, is_kept_anchor, IsHolding}
use Rattle.cov_history.specs.Reach.{IsHeldInReach}
use Rattle.cov_history.specs.Verdict.{IsLegal, verdict}
use Rattle.cov_history.specs.Sessions.{Session, edits_of, within_of, IsGood, has_commit}
use Rattle.cov_history.specs.Files.{dated_number, file_dated, file_order, as_shown, dated_shown, Takes}
use Rattle.cov_history.specs.Deletions.{Deletion, all_with, delete_file, delete_line, before_delete, behind_delete, hidden_by}
use Rattle.cov_history.specs.Insertions.{Insertion, all_edits, lines_begun, file_of, anchor_of, line_with, held_before, held_behind}
use Rattle.cov_history.specs.Insertions.{held_amid, held_next, IsHeldAmid}
use Rattle.cov_history.specs.FileOfLine.{IsWhole}
use Rattle.cov_history.specs.InsertedTexts.{texts_in, HasText}

-- at each position, the lines seen on a choice are those of the replay of the history up to there
abbrev pub LinesFollowReplay : Type 0
LinesFollowReplay = (c : List Bool) (p : ℕ) (history : List Command) → lines_seen c p (kept_of history) ≡ (replay c (take p history)).lines

-- at each position, the rows seen on a choice are those of the replay of the history up to there
abbrev pub RowsFollowReplay : Type 0
RowsFollowReplay = (c : List Bool) (p : ℕ) (history : List Command) → rows_seen c p (entries_of history) ≡ (replay c (take p history)).rows

-- at each position, the variant seen on a choice is that of the replay of the history up to there
abbrev pub HoldingFollowsReplay : Type 0
HoldingFollowsReplay = (c : List Bool) (p : ℕ) (history : List Command) → variant_seen c p (held_by history) ≡ replay c (take p history)

-- what a history holds is in order, has no line but the history's, and no change that is later than the history
abbrev pub HoldingStands : Type 0
HoldingStands = (history : List Command)
    → IsTable (numbers_of history).addresses × IsHolding (numbers_of history).addresses (length (numbers_of history).addresses) (length history) (held_by history)

-- what a history holds has each line that the history inserts, once, and in its file, and a row of each node that it makes
abbrev pub HoldingIsWhole : Type 0
HoldingIsWhole = (history : List Command) → IsWhole history

-- each kept line has the text with which the history inserts it, also where no choice shows it
abbrev pub LinesKeepTheirTexts : Type 0
LinesKeepTheirTexts = (history : List Command) → AllByRecursion (HasText (texts_in history)) (kept_of history)

-- what a longer history holds comes after what the shorter holds
abbrev pub HoldingGoesOn : Type 0
HoldingGoesOn = (history later : List Command) → held_by (history ++ later) ≡ held_from (length history) (held_by history) (numbers_of history) later

-- a commit changes the lines edit by edit, from its own position on
abbrev pub CommitKeepsLines : Type 0
CommitKeepsLines = (history : List Command) (base : ℕ) (choice : List Bool) (ambition : Formula ℕ) (ss : List Sided)
    → kept_of (history ++ commands.Commit base choice ambition ss ∷ []) ≡ fold (kept_with (length history + 1)) (kept_of history) (commit_changes (numbers_of history) ambition ss)

-- a commit changes the rows edit by edit, from its own position on
abbrev pub CommitKeepsRows : Type 0
CommitKeepsRows = (history : List Command) (base : ℕ) (choice : List Bool) (ambition : Formula ℕ) (ss : List Sided)
    → entries_of (history ++ commands.Commit base choice ambition ss ∷ []) ≡ fold (entries_with (length history + 1)) (entries_of history) (commit_changes (numbers_of history) ambition ss)

-- at each position, the lines of a file in the replay are those seen of the file's kept lines
abbrev pub FileFollowsReplay : Type 0
FileFollowsReplay = (c : List Bool) (p file : ℕ) (history : List Command) → lines_of (replay c (take p history)) file ≡ lines_seen c p (file_kept file (kept_of history))

-- a line that some choice has at some position is kept in its file
abbrev pub ShownIsKept : Type 0
ShownIsKept = (c : List Bool) (p file line : ℕ) (history : List Command)
    → list_any (λ l. nat_eq (number_by line_address l) line) (lines_of (replay c (take p history)) file) ≡ true → is_kept_anchor file line (kept_of history) ≡ true

-- what is held stands when the edits of a commit begin, and after each of them, whatever they apply within
abbrev pub EditsStand : Type 0
EditsStand = (history : List Command)
    → ((es : List Edit) → IsHeldAmid history es [] (held_by history))
    × ((begun later : List Edit) (e : Edit) (held : Holding) (on : Formula ℕ)
    → IsHeldAmid history (begun ++ e ∷ later) begun held
    → IsHeldAmid history (begun ++ e ∷ later) (begun ++ e ∷ []) (held_next history (begun ++ e ∷ later) begun held on e))

-- what is held when the first of a commit's edits are done, each within the expression at its place, stands, and goes on by
-- one edit more, within the next expression
abbrev pub AmidGoesOn : Type 0
AmidGoesOn = (history : List Command) (within : List (Formula ℕ)) (begun later : List Edit)
    → IsHeldAmid history (begun ++ later) begun (held_amid history within (begun ++ later) begun)
    × ((e : Edit) → held_amid history within (begun ++ later) (begun ++ e ∷ [])
    ≡ held_next history (begun ++ later) begun (held_amid history within (begun ++ later) begun) (first_within (within_behind begun within)) e)

-- an insert puts its line directly after the anchor, or first where that is the head, whatever it and the edits before it
-- apply within
abbrev pub InsertAfterAnchor : Type 0
InsertAfterAnchor = (history : List Command) (held : Holding) (on : Formula ℕ) (i : Insertion)
    → IsHeldAmid history (all_edits i) i.begun held
    → is_kept_anchor (file_of history i) (anchor_of history i) held.lines ≡ true
    → file_kept (file_of history i) (held_behind history held on i).lines
    ≡ after_anchor_by kept_number (anchor_of history i) (line_with history on i) (file_kept (file_of history i) held.lines)

-- an insert leaves the other files as they are
abbrev pub InsertInOneFile : Type 0
InsertInOneFile = (history : List Command) (held : Holding) (on : Formula ℕ) (i : Insertion) (file : ℕ)
    → IsHeldAmid history (all_edits i) i.begun held
    → nat_eq (file_of history i) file ≡ false
    → file_kept file (held_behind history held on i).lines ≡ file_kept file held.lines

-- a new line has the next number
abbrev pub InsertIsNumbered : Type 0
InsertIsNumbered = (history : List Command) (on : Formula ℕ) (i : Insertion) → kept_number (line_with history on i) ≡ lines_begun history i + 1

-- after an insert, each anchor still is one, and the new line is one of its file
abbrev pub AnchorsStay : Type 0
AnchorsStay = (history : List Command) (held : Holding) (on : Formula ℕ) (i : Insertion)
    → ((file line : ℕ) → is_kept_anchor file line held.lines ≡ true → is_kept_anchor file line (held_behind history held on i).lines ≡ true)
    × (is_kept_anchor (file_of history i) (lines_begun history i + 1) (held_behind history held on i).lines ≡ true)

-- each insert of a good session has its anchor kept when it is its turn, whatever stands after the base
abbrev pub AcceptedIsAnchored : Type 0
AcceptedIsAnchored = (history : List Command) (s : Session) (i : Insertion) → IsLegal history → IsGood history s → all_edits i ≡ edits_of s
    → is_kept_anchor (file_of history i) (anchor_of history i) (held_before history (within_of s) i).lines ≡ true

-- commands without a commit change nothing of what is held
abbrev pub DeclarationsHoldNothing : Type 0
DeclarationsHoldNothing = (history later : List Command) → has_commit later ≡ false → held_by (history ++ later) ≡ held_by history

-- at each position, the lines shown of a file are those of the replay of the history up to there
abbrev pub FileShowsReplay : Type 0
FileShowsReplay = (c : List Bool) (p file : ℕ) (history : List Command)
    → dated_shown c p (file_dated file (kept_of history)) ≡ map as_shown (lines_of (replay c (take p history)) file)

-- by number too, an insert puts its line directly after the anchor, or first where that is the head
abbrev pub InsertIsDated : Type 0
InsertIsDated = (history : List Command) (held : Holding) (on : Formula ℕ) (i : Insertion)
    → IsHeldAmid history (all_edits i) i.begun held
    → is_kept_anchor (file_of history i) (anchor_of history i) held.lines ≡ true
    → file_dated (file_of history i) (held_behind history held on i).lines
    ≡ after_anchor_by dated_number (anchor_of history i) (record { line = lines_begun history i + 1; text = i.text; changes = (length history + 1, on) ∷ [] })
    (file_dated (file_of history i) held.lines)

-- the order of a file takes the line of an insert, and then is that of the file
abbrev pub OrderTakesInsert : Type 0
OrderTakesInsert = (history : List Command) (held : Holding) (on : Formula ℕ) (i : Insertion)
    → IsHeldAmid history (all_edits i) i.begun held
    → is_kept_anchor (file_of history i) (anchor_of history i) held.lines ≡ true
    → Takes (file_order (file_of history i) held.lines) (anchor_of history i) (lines_begun history i + 1)
    × (file_order (file_of history i) (held_behind history held on i).lines
    ≡ after_anchor (anchor_of history i) (lines_begun history i + 1) (file_order (file_of history i) held.lines))

-- what a legal history holds names, at each change, only options that are declared there
abbrev pub LegalIsInReach : Type 0
LegalIsInReach = (history : List Command) → IsLegal history → IsHeldInReach history (held_by history)

-- by number, a delete that applies within an expression hides its line there from its commit on, and leaves the other lines
-- of its file
abbrev pub DeleteIsDated : Type 0
DeleteIsDated = (history : List Command) (held : Holding) (on : Formula ℕ) (d : Deletion)
    → IsHeldAmid history (all_with d) d.begun held
    → file_dated (delete_file history d) (behind_delete history held on d).lines
    ≡ map (hidden_by (delete_line history d) (length history + 1) on) (file_dated (delete_file history d) held.lines)

-- a delete leaves the other files as they are
abbrev pub DeleteInOneFile : Type 0
DeleteInOneFile = (history : List Command) (held : Holding) (on : Formula ℕ) (d : Deletion) (file : ℕ)
    → nat_eq (delete_file history d) file ≡ false
    → file_kept file (behind_delete history held on d).lines ≡ file_kept file held.lines

-- each delete of a good session has its line in its file when it is its turn, whatever stands after the base
abbrev pub AcceptedIsThere : Type 0
AcceptedIsThere = (history : List Command) (s : Session) (d : Deletion) → IsLegal history → IsGood history s → all_with d ≡ edits_of s
    → has_line (delete_line history d) (file_order (delete_file history d) (before_delete history (within_of s) d).lines) ≡ true

-- a delete leaves the order of each file, and what is an anchor in it
abbrev pub DeleteKeepsOrder : Type 0
DeleteKeepsOrder = (history : List Command) (held : Holding) (on : Formula ℕ) (d : Deletion) (file : ℕ)
    → (file_order file (behind_delete history held on d).lines ≡ file_order file held.lines)
    × ((line : ℕ) → is_kept_anchor file line (behind_delete history held on d).lines ≡ is_kept_anchor file line held.lines)

-- when the first of a commit's edits are done, each file has different lines, none of them the head
abbrev pub LinesAreDistinct : Type 0
LinesAreDistinct = (history : List Command) (within : List (Formula ℕ)) (begun later : List Edit) (file : ℕ)
    → AreLines (file_order file (held_amid history within (begun ++ later) begun).lines)

-- the files of a history rise, and are nodes that it made, not the root
abbrev pub FilesRise : Type 0
FilesRise = (history : List Command) → AreRising (files_of history) × AllByRecursion (λ file. (0 < file) × (file ≤ (numbers_of history).nodes)) (files_of history)

-- those of a longer history begin with those of the shorter, and a commit more adds those that its edits make
abbrev pub FilesGoOn : Type 0
FilesGoOn = (history : List Command)
    → ((later : List Command) → files_of (history ++ later) ≡ files_of history ++ files_from (numbers_of history).nodes later)
    × ((base : ℕ) (choice : List Bool) (ambition : Formula ℕ) (ss : List Sided)
    → files_of (history ++ commands.Commit base choice ambition ss ∷ []) ≡ files_of history ++ files_made (numbers_of history).nodes (unsided ss))

-- in each replay, the rows of files are just those whose nodes are files of the history
abbrev pub RowsTellFiles : Type 0
RowsTellFiles = (c : List Bool) (history : List Command) → AllByRecursion (λ r. has_node r.node (files_of history) ≡ not (is_dir_kind r.kind)) (replay c history).rows

-- in a legal history, the file of each kept line is one
abbrev pub LinesAreInFiles : Type 0
LinesAreInFiles = (history : List Command) → IsLegal history → AllByRecursion (λ k. has_node k.item.file (files_of history) ≡ true) (kept_of history)

-- the inserts and deletes of a commit that is accepted name files of the history with the commit, whatever stands after its base
abbrev pub AcceptedNamesFiles : Type 0
AcceptedNamesFiles = (history : List Command) (base : ℕ) (choice : List Bool) (ambition : Formula ℕ) (ss : List Sided)
    → verdict history (commands.Commit base choice ambition ss) ≡ None
    → AllByRecursion (NamesFile (files_of (history ++ commands.Commit base choice ambition ss ∷ [])) (numbers_of history).nodes) (unsided ss)

-- each insert or delete of a good session names a file of the history or one that the edits before it make, whatever stands after the base
abbrev pub TurnNamesFile : Type 0
TurnNamesFile = (history : List Command) (s : Session) (begun later : List Edit) (e : Edit) → IsGood history s → begun ++ e ∷ later ≡ edits_of s
    → NamesFile (files_of history ++ files_made (numbers_of history).nodes begun) (numbers_of history).nodes e

-- when the first of a good session's edits are done, the file of each held line is one of the history, or one that these edits make
abbrev pub AmidIsInFiles : Type 0
AmidIsInFiles = (history : List Command) (s : Session) (begun later : List Edit) → IsLegal history → IsGood history s → begun ++ later ≡ edits_of s
    → AllByRecursion (λ k. has_node k.item.file (files_of history ++ files_made (numbers_of history).nodes begun) ≡ true) (held_amid history (within_of s) (edits_of s) begun).lines
