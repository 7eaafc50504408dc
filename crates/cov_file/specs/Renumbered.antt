-- The nodes of a file's lines, and others in their places.
use Rattle.std.specs.Prelude.{◌≡◌, ℕ, Bool, true, List, ◌++◌, map}
use Rattle.std.specs.List.{AllByRecursion}
use Rattle.cov_file.specs.declared.changes.Change.{Change}
use Rattle.cov_file.specs.Dated.{DatedLine}
use Rattle.cov_file.specs.Rooms.{DatedFile}

abbrev pub node_of : Change → ℕ
node_of c = c.node

-- the nodes of all changes, those of the newest of each line first
abbrev pub nodes_of : List Change → List Change → List ℕ
nodes_of newest earlier = map node_of newest ++ map node_of earlier

abbrev pub having_node : ℕ → Change → Change
having_node n c = record { node = n; from = c.from; before = c.before }

-- a line's changes with another node in the place of each
abbrev pub renumbered_changes : (ℕ → ℕ) → List (ℕ × ℕ) → List (ℕ × ℕ)
renumbered_changes by changes = map (λ c. (c.0, by c.1)) changes

abbrev pub renumbered_line : (ℕ → ℕ) → DatedLine → DatedLine
renumbered_line by l = record { line = l.line; text = l.text; changes = renumbered_changes by l.changes }

-- where the nodes of a file are a function of those before, the nodes of each line's changes are too
abbrev pub AreRenumberedLines : DatedFile → DatedFile → Type 0
AreRenumberedLines old new =
    (by : ℕ → ℕ) → new.nodes ≡ map by old.nodes → new.lines ≡ map (renumbered_line by) old.lines

-- the same of changes
abbrev pub AreRenumberedLists : List ℕ → List ℕ → List (List (ℕ × ℕ)) → List (List (ℕ × ℕ)) → Type 0
AreRenumberedLists nodes nodes' lists lists' =
    (by : ℕ → ℕ) → nodes' ≡ map by nodes → lists' ≡ map (renumbered_changes by) lists

-- each node passes a test
abbrev pub AllPass : (ℕ → Bool) → List ℕ → Type 0
AllPass test nodes = AllByRecursion (λ n. test n ≡ true) nodes

-- of the nodes that are kept now, each was kept before, but for one
abbrev pub AddsNode : ℕ → List ℕ → List ℕ → Type 0
AddsNode n old new = (test : ℕ → Bool) → AllPass test old → test n ≡ true → AllPass test new

-- the node of each change passes a test
abbrev pub ChangesPass : (ℕ → Bool) → List (ℕ × ℕ) → Type 0
ChangesPass test changes = AllByRecursion (λ c. test c.1 ≡ true) changes

-- the nodes of all changes are among the file's nodes
abbrev pub AreAllNodes : DatedFile → Type 0
AreAllNodes file =
    (test : ℕ → Bool) → AllPass test file.nodes → AllByRecursion (λ l. ChangesPass test l.changes) file.lines

-- the same of changes
abbrev pub AreAllListed : List ℕ → List (List (ℕ × ℕ)) → Type 0
AreAllListed nodes lists = (test : ℕ → Bool) → AllPass test nodes → AllByRecursion (ChangesPass test) lists

-- the positions of changes
abbrev pub dates_of : List (ℕ × ℕ) → List ℕ
dates_of changes = map (λ c. c.0) changes
