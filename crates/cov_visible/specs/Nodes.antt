-- The lines of a file, whose visibilities are nodes of a table.
use Rattle.std.specs.Prelude.{◌≡◌, ℕ, ◌-◌, ◌<◌, ◌≤◌, ◌&&◌, not, nat_eq, nat_lt, List, [], ◌∷◌, slice_get, unwrap_or, if◌then◌else◌}
use Rattle.cov_dd.specs.declared.triple.Triple.{Triple}
use Rattle.std.specs.List.{AllByRecursion, AllZip}
use Rattle.cov_dd.specs.Diagrams.{diagram_size, value_in, Stands}
use Rattle.cov_dd.specs.Combinations.{joint_span}
use Rattle.cov_expr.specs.Formula.{value}
use Rattle.cov_file.specs.Dated.{DatedLine as FileLine, vis_at, vis_of}
use Rattle.cov_history.specs.Kept.{seen_at}
use Rattle.cov_history.specs.Files.{DatedLine}
use Rattle.cov_visible.specs.declared.file_part.FilePart.{FilePart}

-- a line of a file is a dated one: at each position its node names only the first so many options and is true where the
-- expression is
pub record IsDated (ts : List Triple) (count : ℕ) (d : DatedLine) (l : FileLine) : Type 0 where
  pub line : l.line ≡ d.line
  pub text : l.text ≡ d.text
  pub nodes : (p : ℕ) → Stands ts (vis_at l.changes p) 0 count (value (seen_at d.changes p))

-- the lines of a file are the dated ones, in order
abbrev pub AreDated : List Triple → ℕ → List DatedLine → List FileLine → Type 0
AreDated ts count ds ls = AllZip (IsDated ts count) ds ls

-- the node at a position of a line in a file, FALSE where the file has no such line
abbrev pub old_node : ℕ → List FilePart → ℕ → ℕ → ℕ
old_node p [] file line = 0
old_node p (e ∷ es) file line = if nat_eq e.node file then unwrap_or (vis_of line p e.lines.lines) 0 else old_node p es file line

-- the node of an inserted line by its place among these, FALSE where there are not so many
abbrev pub own_node : List ℕ → ℕ → ℕ
own_node inserted index = unwrap_or (slice_get inserted index) 0

-- the node of a line before a commit deletes it, m lines having been made before: that of its insert if the commit inserts
-- it, or else the one at a position of its file
abbrev pub line_node : ℕ → List FilePart → ℕ → List ℕ → ℕ → ℕ → ℕ
line_node p stored m inserted file line = if nat_lt m line then own_node inserted (line - m - 1) else old_node p stored file line

-- a node is true where another is and a third isn't
abbrev pub IsWithout : List Triple → ℕ → ℕ → ℕ → Type 0
IsWithout ts old on vis = Stands ts vis 0 (joint_span ts old on) (λ c. value_in ts old c && not (value_in ts on c))

-- a node is true where a line was and the node where it is deleted isn't
abbrev pub IsTaken : List Triple → ℕ → List FilePart → ℕ → List ℕ → ℕ → ℕ → ℕ → ℕ → Type 0
IsTaken ts p stored m inserted on file line vis = IsWithout ts (line_node p stored m inserted file line) on vis

-- the nodes of a stored file's lines at a position are of a table, and no change is beyond the position
pub record HasNodesIn (ts : List Triple) (p : ℕ) (e : FilePart) : Type 0 where
  pub nodes : AllByRecursion (λ l. vis_at l.changes p < diagram_size ts) e.lines.lines
  pub newest : e.lines.newest ≤ p
