-- Conditional texts: lines of text, each on the choices on which its conditions hold.
use Rattle.std.specs.Prelude.{◌≡◌, ℕ, ◌<◌, ◌≤◌, Bool, true, nat_eq, List, [], ◌∷◌, length, map, if◌then◌else◌}
use Rattle.std.specs.List.{filter, flat_map, AllByRecursion}
use Rattle.cov_base.specs.Spelling.{is_line_text}
use Rattle.cov_base.specs.declared.limits.TheConstants.{MOST_PARTS}
use Rattle.cov_expr.specs.Formula.{Formula, part_count, reach}
use Rattle.cov_expr.specs.Validity.{is_valid}
pub use Rattle.cov_cond_text.specs.Conjunction.{joined, conjunction}
use Rattle.cov_cond_text.specs.declared.run.Run.{Run}

-- a line of text: its conditions from outside inwards, its text, and how many directives stand before it
pub record CondLine : Type 0 where
  pub conditions : List (Formula ℕ)
  pub text : List ℕ
  pub group : ℕ

-- the text of a line
abbrev pub text_in : CondLine → List ℕ
text_in l = l.text

-- whether all conditions of a line are true on a choice
abbrev pub is_in : List Bool → CondLine → Bool
is_in c l = is_valid l.conditions c

-- the texts whose conditions are all true on a choice, in order
abbrev pub projection : List CondLine → List Bool → List (List ℕ)
projection t c = map text_in (filter (is_in c) t)

-- a line by itself
abbrev pub run_of : CondLine → Run
run_of l = record { group = l.group; conditions = l.conditions; texts = l.text ∷ [] }

-- a run with a line more before its lines
abbrev pub with_line : CondLine → Run → Run
with_line l r = record { group = r.group; conditions = r.conditions; texts = l.text ∷ r.texts }

-- runs with a line more before them
abbrev pub onto_runs : CondLine → List Run → List Run
onto_runs l [] = run_of l ∷ []
onto_runs l (r ∷ rs) = if nat_eq l.group r.group then with_line l r ∷ rs else run_of l ∷ r ∷ rs

-- the runs of a conditional text
abbrev pub runs_of : List CondLine → List Run
runs_of [] = []
runs_of (l ∷ ls) = onto_runs l (runs_of ls)

-- a line of a run
abbrev pub line_in : Run → List ℕ → CondLine
line_in r text = record { conditions = r.conditions; text = text; group = r.group }

-- the lines of runs
abbrev pub lines_in : List Run → List CondLine
lines_in rs = flat_map (λ r. map (line_in r) r.texts) rs

-- the first of runs stands behind more directives than so many
abbrev pub BeginBehind : ℕ → List Run → Type 0
BeginBehind n [] = Unit {0}
BeginBehind n (r ∷ rs) = n < r.group

-- each run has a line, and stands behind more directives than the one before it
abbrev pub AreRuns : List Run → Type 0
AreRuns [] = Unit {0}
AreRuns (r ∷ rs) = (0 < length r.texts) × BeginBehind r.group rs × AreRuns rs

-- two lines one after the other: between them directives may stand, and where none stands both have the same conditions
pub record MayFollow (l m : CondLine) : Type 0 where
  pub later : l.group ≤ m.group
  pub same : l.group ≡ m.group → l.conditions ≡ m.conditions

-- each line may stand after that before it
abbrev pub AreGrouped : List CondLine → Type 0
AreGrouped [] = Unit {0}
AreGrouped (l ∷ []) = Unit {0}
AreGrouped (l ∷ m ∷ ls) = MayFollow l m × AreGrouped (m ∷ ls)

-- a line has a text that a file's line can have, and conditions whose conjunction is within its bounds and has only options below a count
pub record IsFitLine (count : ℕ) (l : CondLine) : Type 0 where
  pub spelt : is_line_text l.text ≡ true
  pub few : part_count (conjunction l.conditions) ≤ MOST_PARTS
  pub declared : reach (conjunction l.conditions) ≤ count

-- the lines of a conditional text are grouped, and fit so many options
pub record IsCondText (count : ℕ) (t : List CondLine) : Type 0 where
  pub grouped : AreGrouped t
  pub lines : AllByRecursion (IsFitLine count) t

-- the conditions of lines have only options below a count
abbrev pub HasOptionsBelow : ℕ → List CondLine → Type 0
HasOptionsBelow count t = AllByRecursion (λ l. reach (conjunction l.conditions) ≤ count) t
