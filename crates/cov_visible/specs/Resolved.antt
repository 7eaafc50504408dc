-- The edits of a commit by numbers, each with the node where it applies.
use Rattle.std.specs.Prelude.{◌≡◌, ◌⊎◌, ℕ, ◌+◌, ◌^◌, ◌<◌, Bool, false, nat_lt, List, [], ◌∷◌, length}
use Rattle.std.specs.List.{list_any, AllByRecursion}
use Rattle.cov_dd.specs.declared.triple.Triple.{Triple}
use Rattle.cov_dd.specs.Diagrams.{diagram_size}
use Rattle.cov_edit.specs.declared.edit.Edit.{Edit}
use Rattle.cov_edit.specs.declared.edit.Edit.TheVariants as edits
use Rattle.cov_edit.specs.Numbering.{node_number, line_number, node_count_after, line_count_after, nodes_made, anchors_of}
use Rattle.cov_visible.specs.Nodes.{IsTaken}
use Rattle.cov_visible.specs.declared.file_part.FilePart.{FilePart}
use Rattle.cov_visible.specs.declared.resolved_edit.ResolvedEdit.{ResolvedEdit}
use Rattle.cov_visible.specs.declared.resolved_edit.ResolvedEdit.TheVariants as resolved
use Rattle.cov_visible.specs.declared.resolving.CommitContext.{CommitContext}
use Rattle.cov_visible.specs.declared.resolving.MadeBefore.{MadeBefore}

-- how many nodes and lines there are after an edit
abbrev pub made_after : MadeBefore → Edit → MadeBefore
made_after made e = record { nodes = node_count_after made.nodes e; lines = line_count_after made.lines e }

-- the nodes and lines that edits make have numbers below 2^32, so many being made before these edits
pub record HaveNumbers (made : MadeBefore) (es : List Edit) : Type 0 where
  pub nodes : made.nodes + nodes_made es < 2 ^ 32
  pub lines : made.lines + length (anchors_of 0 es) < 2 ^ 32

-- nodes are of a table
abbrev pub AreOfTable : List Triple → List ℕ → Type 0
AreOfTable ts ns = AllByRecursion (λ n. n < diagram_size ts) ns

-- the node where the first of some edits applies, FALSE if nothing is said of it
abbrev pub first_node : List ℕ → ℕ
first_node [] = 0
first_node (n ∷ ns) = n

-- the nodes where the edits after the first apply
abbrev pub rest_nodes : List ℕ → List ℕ
rest_nodes [] = []
rest_nodes (n ∷ ns) = ns

-- the node of each line that edits insert, in order
abbrev pub insert_nodes : List ℕ → List Edit → List ℕ
insert_nodes ns [] = []
insert_nodes ns (edits.New kind parent name ∷ es) = insert_nodes (rest_nodes ns) es
insert_nodes ns (edits.Insert file after text ∷ es) = first_node ns ∷ insert_nodes (rest_nodes ns) es
insert_nodes ns (edits.Delete file line ∷ es) = insert_nodes (rest_nodes ns) es
insert_nodes ns (edits.Rename node name ∷ es) = insert_nodes (rest_nodes ns) es
insert_nodes ns (edits.Move node parent ∷ es) = insert_nodes (rest_nodes ns) es
insert_nodes ns (edits.Remove node ∷ es) = insert_nodes (rest_nodes ns) es

-- whether an edit deletes a line that isn't one of the m lines made before the commit
abbrev pub deletes_own : ℕ → Edit → Bool
deletes_own m (edits.New kind parent name) = false
deletes_own m (edits.Insert file after text) = false
deletes_own m (edits.Delete file line) = nat_lt m (line_number m line)
deletes_own m (edits.Rename node name) = false
deletes_own m (edits.Move node parent) = false
deletes_own m (edits.Remove node) = false

-- nodes are those of the lines that edits insert, or none where they delete none of these
abbrev pub AreOwnNodes : ℕ → List ℕ → List Edit → List ℕ → Type 0
AreOwnNodes m ns es own = (own ≡ insert_nodes ns es) ⊎ ((own ≡ []) × (list_any (deletes_own m) es ≡ false))

-- where it is told which node is left of a file's line when it is deleted where another is true; n nodes and m lines were
-- made before the commit
module _ (IsLeft : ℕ → ℕ → ℕ → ℕ → Type 0) (n m : ℕ) where
  -- an edit by numbers that applies where a node is true, so many nodes and lines having been made before it
  abbrev pub IsResolvedBy : ℕ → ℕ → ℕ → Edit → ResolvedEdit → Type 0
  IsResolvedBy on nodes lines (edits.New kind parent name) s = s ≡ resolved.New (nodes + 1) kind (node_number n parent) name on
  IsResolvedBy on nodes lines (edits.Insert file after text) s = s ≡ resolved.Insert (node_number n file) (line_number m after) (lines + 1) text on
  IsResolvedBy on nodes lines (edits.Delete file line) s =
      (vis : ℕ) × (s ≡ resolved.Delete (node_number n file) (line_number m line) vis) × IsLeft on (node_number n file) (line_number m line) vis
  IsResolvedBy on nodes lines (edits.Rename node name) s = s ≡ resolved.Rename (node_number n node) name on
  IsResolvedBy on nodes lines (edits.Move node parent) s = s ≡ resolved.Move (node_number n node) (node_number n parent) on
  IsResolvedBy on nodes lines (edits.Remove node) s = s ≡ resolved.Remove (node_number n node) on

  -- edits by numbers, one for one, each with the node at its place
  abbrev pub AreResolvedBy : List ℕ → ℕ → ℕ → List Edit → List ResolvedEdit → Type 0
  AreResolvedBy ns nodes lines [] [] = Unit {0}
  AreResolvedBy ns nodes lines [] (s ∷ ss) = ⊥
  AreResolvedBy ns nodes lines (e ∷ es) [] = ⊥
  AreResolvedBy ns nodes lines (e ∷ es) (s ∷ ss) =
      IsResolvedBy (first_node ns) nodes lines e s × AreResolvedBy (rest_nodes ns) (node_count_after nodes e) (line_count_after lines e) es ss

-- all edits of a commit by numbers, each with the node where it applies: a delete leaves its line where it was and the node
-- isn't true
abbrev pub AreResolved : ℕ → List FilePart → ℕ → ℕ → List ℕ → List Triple → List Edit → List ResolvedEdit → Type 0
AreResolved p stored n m ns ts es ss = AreResolvedBy (IsTaken ts p stored m (insert_nodes ns es)) n m ns n m es ss

-- an edit by numbers, and all of a commit, where its context says
abbrev pub IsResolvedIn : List ℕ → CommitContext → List FilePart → List Triple → ℕ → MadeBefore → Edit → ResolvedEdit → Type 0
IsResolvedIn inserted k stored ts on made e s = IsResolvedBy (IsTaken ts k.at stored k.lines inserted) k.nodes k.lines on made.nodes made.lines e s

abbrev pub AreResolvedWith : List ℕ → CommitContext → List FilePart → List Triple → List ℕ → List Edit → List ResolvedEdit → Type 0
AreResolvedWith inserted k stored ts ns es ss = AreResolvedBy (IsTaken ts k.at stored k.lines inserted) k.nodes k.lines ns k.nodes k.lines es ss

abbrev pub AreResolvedIn : CommitContext → List FilePart → List Triple → List ℕ → List Edit → List ResolvedEdit → Type 0
AreResolvedIn k stored ts ns es ss = AreResolved k.at stored k.nodes k.lines ns ts es ss
