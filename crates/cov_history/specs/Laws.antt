-- Laws of histories: replay, sessions, verdicts and soundness.
use Rattle.std.specs.Prelude.{◌≡◌, ◌↔◌, ℕ, ◌<◌, ◌≤◌, Bool, true, false, List, [], ◌∷◌, ◌++◌, take, drop, length, map, Some, None, is_some}
use Rattle.std.specs.List.{fold, filter, list_any, AllByRecursion}
use Rattle.cov_base.specs.Choices.{with_option}
use Rattle.cov_base.specs.Faults.{in_node_order, fault_of}
use Rattle.cov_base.specs.Rows.{changed, AreOnce}
use Rattle.cov_base.specs.Addresses.{IsLineOf, AreInOrder}
use Rattle.cov_base.specs.declared.limits.TheConstants.{LIMITS}
use Rattle.cov_expr.specs.Formula.{Formula, value}
use Rattle.cov_edit.specs.declared.sided.Sided.{Sided}
use Rattle.cov_edit.specs.Sides.{unsided, reach_within}
use Rattle.cov_edit.specs.declared.command.Command.{Command}
use Rattle.cov_edit.specs.declared.command.Command.TheVariants as commands
use Rattle.cov_edit.specs.Limits.{is_upgraded}
use Rattle.cov_edit.specs.Numbering.{numbers_of}
use Rattle.cov_edit.specs.History.{option_count, is_valid_in}
use Rattle.cov_edit.specs.Variant.{Line, line_address, lines_of}
use Rattle.cov_view.specs.Paths.{kind_of}
use Rattle.cov_edit.specs.Touched.{touch}
use Rattle.cov_view.specs.Tree.{IsTreeOf, tree_of}
use Rattle.cov_rules.specs.Completion.{Incomplete}
use Rattle.cov_history.specs.BadChoices.{fault_after, bad_choice, unsound_refusal}
use Rattle.cov_history.specs.Completing.{completed_in}
use Rattle.cov_history.specs.RowChanges.{changes_rows, row_changes}
use Rattle.cov_history.specs.Overtaking.{overtaken}
use Rattle.cov_edit.specs.Replay.{the_change, applies, commit_changes, replay}
use Rattle.cov_view.specs.Refusals.{when, first_of}
use Rattle.cov_history.specs.declared.refusal.Refusal.TheVariants as refusals
use Rattle.cov_history.specs.Naming.{NamesOnlyMade}
use Rattle.cov_history.specs.Verdict.{IsLegal, verdict, when_full, size_refusals, has_no_edits, as_overtaken}
use Rattle.cov_history.specs.Sessions.{Session, edits_of, IsGood, seen, commit_of, has_commit}

-- behind a legal history an upgrade is legal exactly where none stands and there is room for a command
abbrev pub UpgradeIsLegalOnce : Type 0
UpgradeIsLegalOnce = (history : List Command) → IsLegal history
    → IsLegal (history ++ commands.Upgrade ∷ []) ↔ ((is_upgraded history ≡ false) × (length history < LIMITS.commands))

-- a good session stays good when its history grows
abbrev pub GoodSessionsStay : Type 0
GoodSessionsStay = (history later : List Command) (s : Session) → IsGood history s → IsGood (history ++ later) s

-- the commit of a good session is refused only where it is too large, empty, overtaken or would leave a fault, or the history is full
abbrev pub GoodCommitsPass : Type 0
GoodCommitsPass = (history : List Command) (s : Session) → IsGood history s
    → verdict history (commit_of s)
    ≡ first_of (when_full history
    ∷ (size_refusals history (edits_of s)
    ++ when (has_no_edits s.edits) refusals.Empty
    ∷ as_overtaken (overtaken history s.base s.ambition s.edits)
    ∷ unsound_refusal history s.ambition (commit_of s)
    ∷ []))

-- where no commit stands after the base, the commit of a good session shows what the session saw
abbrev pub CommitShowsSeen : Type 0
CommitShowsSeen = (history : List Command) (s : Session) → IsGood history s → has_commit (drop s.base history) ≡ false
    → replay s.choice (history ++ commit_of s ∷ []) ≡ seen s history

-- the lines of a replay stand in order, and each is one of the history's
abbrev pub ReplayStands : Type 0
ReplayStands = (c : List Bool) (history : List Command)
    → AreInOrder line_address (replay c history).lines
    × AllByRecursion (λ l. IsLineOf (numbers_of history).addresses (length (numbers_of history).addresses) l.address) (replay c history).lines

-- on each choice, the replay of a legal history names only the root and the nodes that the history made
abbrev pub LegalIsMade : Type 0
LegalIsMade = (c : List Bool) (history : List Command) → IsLegal history → NamesOnlyMade (numbers_of history).nodes (replay c history)

-- the text of a line
abbrev pub text_of : Line → List ℕ
text_of l = l.text

-- where the commit of a good session is accepted, each file that it touches is on each valid choice that begins with the
-- session's as the session saw it: present or not, and with the same texts in the same order
abbrev pub CommitShowsFiles : Type 0
CommitShowsFiles = (history : List Command) (s : Session) (c : List Bool) (file : ℕ) → IsLegal history → IsGood history s
    → verdict history (commit_of s) ≡ None
    → length c ≡ option_count history → is_valid_in history c ≡ true → take (length s.choice) c ≡ s.choice
    → touch file (edits_of s) ≡ true
    → (kind_of (replay c (history ++ commit_of s ∷ [])).rows file ≡ kind_of (seen s history).rows file)
    × (map text_of (lines_of (replay c (history ++ commit_of s ∷ [])) file) ≡ map text_of (lines_of (seen s history) file))

-- what a session sees stays as it is when the history grows, whatever comes
abbrev pub SeenStays : Type 0
SeenStays = (history later : List Command) (s : Session) → s.base ≤ length history → seen s (history ++ later) ≡ seen s history

-- an option that the rules of a history leave open is declared
abbrev pub OpenOptionsAreDeclared : Type 0
OpenOptionsAreDeclared = (history : List Command) (partial : List (ℕ × Bool)) (option : ℕ) → completed_in history partial ≡ Incomplete (Some option) → option < option_count history

-- the rows of a replay stand in order of their nodes
abbrev pub RowsAreInOrder : Type 0
RowsAreInOrder = (c : List Bool) (history : List Command) → in_node_order (replay c history).rows ≡ (replay c history).rows

-- no node has two rows in a replay, and the root has none
abbrev pub RowsAreOnce : Type 0
RowsAreOnce = (c : List Bool) (history : List Command) → AreOnce (replay c history).rows

-- of a commit's changes of the rows, those are made, in order, whose ambition and side are true
abbrev pub CommitChangesRows : Type 0
CommitChangesRows = (c : List Bool) (history : List Command) (base : ℕ) (choice : List Bool) (ambition : Formula ℕ) (ss : List Sided)
    → (replay c (history ++ commands.Commit base choice ambition ss ∷ [])).rows
    ≡ fold changed (replay c history).rows (row_changes (map the_change (filter (applies c) (commit_changes (numbers_of history) ambition ss))))

-- edits of lines alone leave the rows
abbrev pub LinesKeepRows : Type 0
LinesKeepRows = (c : List Bool) (history : List Command) (base : ℕ) (choice : List Bool) (ambition : Formula ℕ) (ss : List Sided)
    → list_any changes_rows (unsided ss) ≡ false → (replay c (history ++ commands.Commit base choice ambition ss ∷ [])).rows ≡ (replay c history).rows

-- the replay of a legal history reads no option that the history doesn't declare
abbrev pub LegalIsUnread : Type 0
LegalIsUnread = (history : List Command) → IsLegal history → (option : ℕ) → option_count history ≤ option → (c : List Bool)
    → replay (with_option c option true) history ≡ replay (with_option c option false) history

-- the replay with a commit more reads none either, if its ambition and sides have only declared options
abbrev pub CommitIsUnread : Type 0
CommitIsUnread = (history : List Command) (base : ℕ) (choice : List Bool) (ambition : Formula ℕ) (ss : List Sided) → IsLegal history → reach_within ambition ss ≤ option_count history
    → (option : ℕ) → option_count history ≤ option → (c : List Bool)
    → replay (with_option c option true) (history ++ commands.Commit base choice ambition ss ∷ [])
    ≡ replay (with_option c option false) (history ++ commands.Commit base choice ambition ss ∷ [])

-- where no choice is bad, a command leaves no fault on a valid choice within the ambition
abbrev pub NoneBadIsSound : Type 0
NoneBadIsSound = (history : List Command) (ambition : Formula ℕ) (k : Command) → bad_choice history ambition k ≡ None
    → (c : List Bool) → length c ≡ option_count history → is_valid_in history c ≡ true → value ambition c ≡ true → fault_after history k c ≡ None

-- a bad choice is one of all declared options, valid and within the ambition, and the command leaves a fault on it
abbrev pub BadHasFault : Type 0
BadHasFault = (history : List Command) (ambition : Formula ℕ) (k : Command) (c : List Bool) → bad_choice history ambition k ≡ Some c
    → (length c ≡ option_count history) × (is_valid_in history c ≡ true) × (value ambition c ≡ true) × (is_some (fault_after history k c) ≡ true)

-- each valid variant of a legal history is sound, and so on all longer choices
abbrev pub LegalIsSound : Type 0
LegalIsSound = (history : List Command) (c : List Bool) → IsLegal history → option_count history ≤ length c → is_valid_in history c ≡ true → fault_of (replay c history).rows ≡ None

-- a commit of edits of lines alone has no bad choice after a legal history
abbrev pub LinesStaySound : Type 0
LinesStaySound = (history : List Command) (base : ℕ) (choice : List Bool) (ambition : Formula ℕ) (ss : List Sided) → IsLegal history
    → list_any changes_rows (unsided ss) ≡ false → bad_choice history ambition (commands.Commit base choice ambition ss) ≡ None

-- a replay has no more rows than its history made nodes
abbrev pub RowsAreFew : Type 0
RowsAreFew = (c : List Bool) (history : List Command) → length (replay c history).rows ≤ (numbers_of history).nodes

-- the tree of each valid variant of a legal history has one row of each of its nodes but the root, and their paths rise
abbrev pub LegalTreeIsWhole : Type 0
LegalTreeIsWhole = (history : List Command) (c : List Bool) → IsLegal history → option_count history ≤ length c → is_valid_in history c ≡ true
    → IsTreeOf (replay c history) (tree_of (replay c history))

-- some choice of its options meets the constraints of a history
abbrev pub LeavesVariant : List Command → Type 0
LeavesVariant history = (c : List Bool) × (length c ≡ option_count history) × (is_valid_in history c ≡ true)

-- so it is with a legal history
abbrev pub LegalLeavesVariant : Type 0
LegalLeavesVariant = (history : List Command) → IsLegal history → LeavesVariant history
