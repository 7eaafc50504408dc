-- Sessions: what they see, and when they fit a history.
use Rattle.std.specs.Prelude.{◌≡◌, ℕ, ◌<◌, ◌≤◌, Bool, true, false, List, [], ◌∷◌, length, take, None}
use Rattle.std.specs.List.{fold, AllByRecursion}
use Rattle.cov_expr.specs.Formula.{Formula, value, reach}
use Rattle.cov_edit.specs.declared.sided.Sided.{Sided}
use Rattle.cov_edit.specs.declared.edit.Edit.{Edit}
use Rattle.cov_edit.specs.declared.command.Command.{Command}
use Rattle.cov_edit.specs.declared.command.Command.TheVariants as commands
use Rattle.cov_edit.specs.History.{option_count, is_valid_in}
use Rattle.cov_edit.specs.Numbering.{numbers_of, numbered}
use Rattle.cov_edit.specs.Sides.{unsided, conditions, reach_within}
use Rattle.cov_edit.specs.Variant.{Variant, edited}
use Rattle.cov_edit.specs.Replay.{replay}
use Rattle.cov_view.specs.Refusals.{first_refused}

-- edits on the variant of a choice at a base, made within an ambition, each with its side
pub record Session : Type 0 where
  pub base : ℕ
  pub choice : List Bool
  pub ambition : Formula ℕ
  pub edits : List Sided

-- the edits without their sides
abbrev pub edits_of : Session → List Edit
edits_of s = unsided s.edits

-- where each edit applies
abbrev pub within_of : Session → List (Formula ℕ)
within_of s = conditions s.ambition s.edits

-- the variant that a session sees: that of its choice at its base, with its own edits
abbrev pub seen : Session → List Command → Variant
seen s history = fold edited (replay s.choice (take s.base history)) (numbered (numbers_of (take s.base history)) (edits_of s))

-- a session fits a history: its choice is a valid one of all options of its base, the ambition and each side are true there
-- and name no other options, and each edit can be made in turn
pub record IsGood (history : List Command) (s : Session) : Type 0 where
  pub within : s.base ≤ length history
  pub of_all_options : length s.choice ≡ option_count (take s.base history)
  pub valid : is_valid_in (take s.base history) s.choice ≡ true
  pub in_ambition : value s.ambition s.choice ≡ true
  pub in_sides : AllByRecursion (λ e. value e.side s.choice ≡ true) s.edits
  pub in_reach : reach_within s.ambition s.edits ≤ option_count (take s.base history)
  pub accepted : first_refused (numbers_of (take s.base history)) (replay s.choice (take s.base history)) (edits_of s) ≡ None

-- the commit of a session
abbrev pub commit_of : Session → Command
commit_of s = commands.Commit s.base s.choice s.ambition s.edits

-- whether there is a commit among commands
abbrev pub has_commit : List Command → Bool
has_commit [] = false
has_commit (commands.Commit base choice ambition ss ∷ history) = true
has_commit (_ ∷ history) = has_commit history

-- the session of which a commit is
abbrev pub session_of : ℕ → List Bool → Formula ℕ → List Sided → Session
session_of base choice ambition ss = record { base = base; choice = choice; ambition = ambition; edits = ss }

-- a command that may come after a history: its options are declared, and a commit is that of a good session
abbrev pub MayCome : List Command → Command → Type 0
MayCome history (commands.Option name) = Unit {0}
MayCome history (commands.Constraint expr) = reach expr ≤ option_count history
MayCome history (commands.Prefer expr) = reach expr ≤ option_count history
MayCome history (commands.Default option on) = option < option_count history
MayCome history (commands.Commit base choice ambition ss) = IsGood history (session_of base choice ambition ss)
MayCome history commands.Upgrade = Unit {0}
