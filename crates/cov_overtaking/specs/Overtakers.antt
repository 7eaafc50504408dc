-- The first commit that overtakes another, by nodes.
use Rattle.std.specs.Prelude.{◌≡◌, ℕ, ◌-◌, ◌<◌, ◌≤◌, Bool, true, false, ◌⊎◌, nat_lt, List, [], ◌∷◌, length, take, drop, slice_get, slice_index_or, Option, Some, None}
use Rattle.std.specs.List.{AllByRecursion}
use Rattle.cov_base.specs.declared.limits.TheConstants.{CHOICE_WIDTH}
use Rattle.cov_dd.specs.declared.triple.Triple.{Triple}
use Rattle.cov_dd.specs.Diagrams.{value_in}
use Rattle.cov_expr.specs.Formula.{Formula}
use Rattle.cov_rules.specs.Installing.{reach_of}
use Rattle.cov_edit.specs.declared.command.Command.{Command}
use Rattle.cov_edit.specs.declared.sided.Sided.{Sided}
use Rattle.cov_edit.specs.History.{option_count, constraints_of, is_valid_in}
use Rattle.cov_edit.specs.Sides.{reach_within}
use Rattle.cov_edit.specs.Touched.{have_common}
use Rattle.cov_history.specs.Overtaking.{overtaken}
use Rattle.cov_overtaking.specs.Marks.{AreMarks}
use Rattle.cov_overtaking.specs.Touches.{touches_within, DoNotMeet}
use Rattle.cov_overtaking.specs.declared.commits.Notes.{Notes}
use Rattle.cov_overtaking.specs.declared.mark.CommitMark.{CommitMark}
use Rattle.cov_overtaking.specs.declared.touches.Touch.{Touch}

-- a test decides whether something holds
pub record Decides (b : Bool) (P : Type 0) : Type 0 where
  pub yes : b ≡ true → P
  pub no : b ≡ false → P → ⊥

-- the nodes that a mark touches, with the diagrams of where
abbrev pub touches_of : CommitMark → List Touch
touches_of m = touches_within m.touched m.node m.each

-- a commit comes after a base, and has a node and a choice in common with touches
pub record Overtakes (ts : List Triple) (base : ℕ) (own : List Touch) (m : CommitMark) : Type 0 where
  pub after : base < m.position
  pub meets : DoNotMeet ts (touches_of m) own → ⊥

-- the position of the first commit that overtakes, if there is one
abbrev pub IsFirstOf : List Triple → ℕ → List Touch → List CommitMark → Option ℕ → Type 0
IsFirstOf ts base own [] found = found ≡ None
IsFirstOf ts base own (m ∷ commits) found =
    (Overtakes ts base own m × (found ≡ Some m.position))
    ⊎ ((Overtakes ts base own m → ⊥) × IsFirstOf ts base own commits found)

-- the position of the first commit of a history that overtakes edits with their sides within an ambition, in whose table a node is
-- true on exactly the valid choices
abbrev pub IsOvertaker : List Triple → ℕ → List CommitMark → ℕ → Formula ℕ → List Sided → Option ℕ → Type 0
IsOvertaker ts valid commits base ambition ss found =
    (history : List Command) → option_count history ≤ CHOICE_WIDTH → reach_of (constraints_of history) ≤ option_count history → reach_within ambition ss ≤ option_count history
    → AreMarks ts (option_count history) 0 history commits → ((c : List Bool) → value_in ts valid c ≡ is_valid_in history c)
    → found ≡ overtaken history base ambition ss

-- whether a commit, if there is one, comes after a base
abbrev pub is_beyond : ℕ → Option CommitMark → Bool
is_beyond base None = false
is_beyond base (Some m) = nat_lt base m.position

-- whether the last of commits comes after a base
abbrev pub ends_beyond : ℕ → List CommitMark → Bool
ends_beyond base commits = is_beyond base (slice_get commits (length commits - 1))

-- the commits behind the first so many, the last of which doesn't come after a base
pub record IsAfter (base : ℕ) (commits later : List CommitMark) : Type 0 where
  pub count : ℕ
  pub few : count ≤ length commits
  pub is : later ≡ drop count commits
  pub end : ends_beyond base (take count commits) ≡ false

-- no commit after a base touches one of the nodes
abbrev pub NoneTouches : ℕ → List ℕ → List CommitMark → Type 0
NoneTouches base touched commits = AllByRecursion (λ m. base < m.position → have_common m.touched touched ≡ false) commits

-- the position that is noted at a node
abbrev pub noted : Notes → ℕ → ℕ
noted notes x = slice_index_or notes.listed.items x notes.unlisted

-- each commit's position is at most what is noted at the nodes that it touches
abbrev pub AreNoted : (ℕ → ℕ) → List CommitMark → Type 0
AreNoted newest commits = AllByRecursion (λ m. AllByRecursion (λ x. m.position ≤ newest x) m.touched) commits
