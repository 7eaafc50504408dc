-- What is kept of each commit: its position, and the old nodes that it touches, with the diagrams of where it touches them.
use Rattle.std.specs.Prelude.{◌≡◌, ℕ, ◌+◌, ◌<◌, ◌≤◌, Bool, List, [], ◌∷◌, length, take, drop, replicate, slice_index_or}
use Rattle.std.specs.List.{flat_map, AllByRecursion}
use Rattle.cov_dd.specs.declared.triple.Triple.{Triple}
use Rattle.cov_dd.specs.Diagrams.{diagram_size}
use Rattle.cov_expr.specs.Formula.{Formula}
use Rattle.cov_edit.specs.declared.command.Command.{Command}
use Rattle.cov_edit.specs.declared.command.Command.TheVariants as commands
use Rattle.cov_edit.specs.declared.sided.Sided.{Sided}
use Rattle.cov_edit.specs.Sides.{unsided, reach_within}
use Rattle.cov_edit.specs.Touched.{touched, AreRising}
use Rattle.cov_overtaking.specs.Touches.{have_node_on, touched_on}
use Rattle.cov_overtaking.specs.declared.mark.CommitMark.{CommitMark}

-- the marks of commits in order, and the number of commits for which there is room
pub record CommitsValue : Type 0 where
  pub items : List CommitMark
  pub spare : ℕ

-- a diagram for each of so many nodes: those of a list, or one for all where the list is empty
abbrev pub nodes_within : ℕ → ℕ → List ℕ → List ℕ
nodes_within count node [] = replicate count node
nodes_within count node (n ∷ each) = n ∷ each

-- the diagrams of where a commit touches its nodes
abbrev pub within_of : CommitMark → List ℕ
within_of m = nodes_within (length m.touched) m.node m.each

-- the nodes of the table that a mark keeps, and those of all marks in order
abbrev pub mark_nodes : CommitMark → List ℕ
mark_nodes m = m.node ∷ m.each

abbrev pub all_mark_nodes : List CommitMark → List ℕ
all_mark_nodes ms = flat_map mark_nodes ms

-- a mark with the first of a list of nodes in the places of its own
abbrev pub mark_having : CommitMark → List ℕ → CommitMark
mark_having m ns = record { position = m.position; node = slice_index_or ns 0 m.node; touched = m.touched; each = take (length m.each) (drop 1 ns) }

-- marks with the nodes of a list in the places of theirs, in order
abbrev pub marks_having : List CommitMark → List ℕ → List CommitMark
marks_having [] ns = []
marks_having (m ∷ ms) ns = mark_having m ns ∷ marks_having ms (drop (length (mark_nodes m)) ns)

-- all of a mark but its nodes
abbrev pub without_nodes : CommitMark → CommitMark
without_nodes m = record { position = m.position; node = 0; touched = m.touched; each = replicate (length m.each) 0 }

-- a commit's mark, so many options being declared: it touches a node on exactly the choices on which one of its edits does
pub record IsMark (ts : List Triple) (count p : ℕ) (ambition : Formula ℕ) (ss : List Sided) (m : CommitMark) : Type 0 where
  pub position : m.position ≡ p
  pub touches : m.touched ≡ touched (unsided ss)
  pub of_table : AllByRecursion (λ n. n < diagram_size ts) (mark_nodes m)
  pub long : length (within_of m) ≡ length m.touched
  pub are : (node : ℕ) (c : List Bool) → have_node_on ts m.touched (within_of m) node c ≡ touched_on ambition ss node c
  pub named : reach_within ambition ss ≤ count

-- the marks of the commits of more of a history, so many commands standing before
abbrev pub AreMarks : List Triple → ℕ → ℕ → List Command → List CommitMark → Type 0
AreMarks ts count p [] ms = ms ≡ []
AreMarks ts count p (commands.Option name ∷ later) ms = AreMarks ts count (p + 1) later ms
AreMarks ts count p (commands.Constraint expr ∷ later) ms = AreMarks ts count (p + 1) later ms
AreMarks ts count p (commands.Prefer expr ∷ later) ms = AreMarks ts count (p + 1) later ms
AreMarks ts count p (commands.Default option on ∷ later) ms = AreMarks ts count (p + 1) later ms
AreMarks ts count p (commands.Commit base choice ambition ss ∷ later) [] = ⊥
AreMarks ts count p (commands.Commit base choice ambition ss ∷ later) (m ∷ ms) = IsMark ts count (p + 1) ambition ss m × AreMarks ts count (p + 1) later ms
AreMarks ts count p (commands.Upgrade ∷ later) ms = AreMarks ts count (p + 1) later ms

-- what a mark touches rises, with a diagram of a table for each node
pub record IsKeptMark (ts : List Triple) (m : CommitMark) : Type 0 where
  pub rising : AreRising m.touched
  pub of_table : AllByRecursion (λ n. n < diagram_size ts) (mark_nodes m)
  pub long : length (within_of m) ≡ length m.touched

abbrev pub AreKept : List Triple → List CommitMark → Type 0
AreKept ts marks = AllByRecursion (IsKeptMark ts) marks
