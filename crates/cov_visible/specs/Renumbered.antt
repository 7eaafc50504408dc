-- The nodes that files keep, and others in their places.
use Rattle.std.specs.Prelude.{◌≡◌, ℕ, List, length}
use Rattle.std.specs.List.{AllZip}
use Rattle.cov_file.specs.Renumbered.{AreAllNodes, AreRenumberedLines}
use Rattle.cov_tree.specs.Renumbered.{all_numbers}
use Rattle.cov_visible.specs.declared.file_part.FilePart.{FilePart}

-- every node that a file keeps
abbrev pub kept_nodes : FilePart → List ℕ
kept_nodes e = e.lines.nodes

-- every node that files keep, in one order
abbrev pub line_nodes : List FilePart → List ℕ
line_nodes parts = all_numbers kept_nodes parts

-- a file has other nodes in the places of those that it kept, and is else as it was
pub record IsRenumberedPart (old new : FilePart) : Type 0 where
  pub node : new.node ≡ old.node
  pub count : length new.lines.nodes ≡ length old.lines.nodes
  pub all : AreAllNodes old.lines
  pub lines : AreRenumberedLines old.lines new.lines
  pub newest : new.lines.newest ≡ old.lines.newest

-- so have files, each in its place
abbrev pub ArePartsRenumbered : List FilePart → List FilePart → Type 0
ArePartsRenumbered old new = AllZip IsRenumberedPart old new
