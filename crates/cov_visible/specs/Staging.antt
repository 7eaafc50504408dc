-- What a commit adds to what is kept.
use Rattle.std.specs.Prelude.{◌≡◌, ℕ, suc, ◌^◌, ◌<◌, ◌≤◌, Bool, true, false, ◌&&◌, ◌||◌, nat_eq, List, [], ◌∷◌, map, Option, Some, None, if◌then◌else◌}
use Rattle.std.specs.List.{filter_map, AllByRecursion}
use Rattle.cov_base.specs.declared.number.NodeRef.{NodeRef}
use Rattle.cov_file.specs.Dated.{DatedLine as FileLine, line_numbers_of}
use Rattle.cov_order.specs.Orders.{has_line}
use Rattle.cov_edit.specs.declared.edit.Edit.{Edit}
use Rattle.cov_edit.specs.declared.edit.Edit.TheVariants as edits
use Rattle.cov_edit.specs.Numbering.{node_number, line_number}
use Rattle.cov_history.specs.FileNodes.{if_file, files_made}
use Rattle.cov_visible.specs.declared.file_part.FilePart.{FilePart}
use Rattle.cov_visible.specs.declared.resolved_edit.ResolvedEdit.{ResolvedEdit}
use Rattle.cov_visible.specs.declared.resolved_edit.ResolvedEdit.TheVariants as resolved

-- a file but for its room
pub record Contents : Type 0 where
  pub node : ℕ
  pub lines : List FileLine
  pub newest : ℕ
  pub nodes : List ℕ

abbrev pub contents : FilePart → Contents
contents e = record { node = e.node; lines = e.lines.lines; newest = e.lines.newest; nodes = e.lines.nodes }

-- a new file, which has no lines
abbrev pub new_contents : ℕ → Contents
new_contents node = record { node = node; lines = []; newest = 0; nodes = [] }

-- the files that edits make, so many nodes having been made before these edits
abbrev pub new_files : ℕ → List Edit → List Contents
new_files made es = map new_contents (files_made made es)

-- the number of a node that a reference names is below 2^32, n nodes having been made before
abbrev pub IsNearRef : ℕ → NodeRef → Type 0
IsNearRef n node = node_number n node < 2 ^ 32

-- so are those of the nodes that an edit names
abbrev pub IsNear : ℕ → Edit → Type 0
IsNear n (edits.New kind parent name) = IsNearRef n parent
IsNear n (edits.Insert file after text) = IsNearRef n file
IsNear n (edits.Delete file line) = IsNearRef n file
IsNear n (edits.Rename node name) = IsNearRef n node
IsNear n (edits.Move node parent) = IsNearRef n node × IsNearRef n parent
IsNear n (edits.Remove node) = IsNearRef n node

-- so are those of the nodes that edits name
abbrev pub AreNear : ℕ → List Edit → Type 0
AreNear n es = AllByRecursion (IsNear n) es

-- the number of the line that an edit names, 0 if it names none, m lines having been made before
abbrev pub named_line : ℕ → Edit → ℕ
named_line m (edits.New kind parent name) = 0
named_line m (edits.Insert file after text) = line_number m after
named_line m (edits.Delete file line) = line_number m line
named_line m (edits.Rename node name) = 0
named_line m (edits.Move node parent) = 0
named_line m (edits.Remove node) = 0

-- the lines that edits name have numbers below 2^32, m lines having been made before
abbrev pub AreLow : ℕ → List Edit → Type 0
AreLow m es = AllByRecursion (λ e. named_line m e < 2 ^ 32) es

-- how many lines edits insert into a file
abbrev pub inserts_into : ℕ → List ResolvedEdit → ℕ
inserts_into file [] = 0
inserts_into file (resolved.New node kind parent name on ∷ ss) = inserts_into file ss
inserts_into file (resolved.Insert f anchor line text vis ∷ ss) = if nat_eq f file then suc (inserts_into file ss) else inserts_into file ss
inserts_into file (resolved.Delete f line vis ∷ ss) = inserts_into file ss
inserts_into file (resolved.Rename node name on ∷ ss) = inserts_into file ss
inserts_into file (resolved.Move node parent on ∷ ss) = inserts_into file ss
inserts_into file (resolved.Remove node on ∷ ss) = inserts_into file ss

-- whether edits delete a line of a file
abbrev pub deletes_from : ℕ → ℕ → List ResolvedEdit → Bool
deletes_from file which [] = false
deletes_from file which (resolved.New node kind parent name on ∷ ss) = deletes_from file which ss
deletes_from file which (resolved.Insert f anchor line text vis ∷ ss) = deletes_from file which ss
deletes_from file which (resolved.Delete f line vis ∷ ss) = (nat_eq f file && nat_eq line which) || deletes_from file which ss
deletes_from file which (resolved.Rename node name on ∷ ss) = deletes_from file which ss
deletes_from file which (resolved.Move node parent on ∷ ss) = deletes_from file which ss
deletes_from file which (resolved.Remove node on ∷ ss) = deletes_from file which ss

-- whether edits insert into a file or delete from it
abbrev pub touches : ℕ → List ResolvedEdit → Bool
touches file [] = false
touches file (resolved.New node kind parent name on ∷ ss) = touches file ss
touches file (resolved.Insert f anchor line text vis ∷ ss) = nat_eq f file || touches file ss
touches file (resolved.Delete f line vis ∷ ss) = nat_eq f file || touches file ss
touches file (resolved.Rename node name on ∷ ss) = touches file ss
touches file (resolved.Move node parent on ∷ ss) = touches file ss
touches file (resolved.Remove node on ∷ ss) = touches file ss

-- a stored file has room for what edits do to its file, at any position
pub record HasRoom (ss : List ResolvedEdit) (e : FilePart) : Type 0 where
  pub inserts : inserts_into e.node ss ≤ e.lines.room.inserts
  pub changes : (line : ℕ) → deletes_from e.node line ss ≡ true → has_line line (line_numbers_of e.lines.lines) ≡ true → has_line line e.lines.room.changes ≡ true
  pub position : touches e.node ss ≡ true → e.lines.room.position ≡ None

-- the file that an edit makes, if it makes one
abbrev pub made_file : ResolvedEdit → Option ℕ
made_file (resolved.New node kind parent name on) = if_file kind node
made_file (resolved.Insert file anchor line text vis) = None
made_file (resolved.Delete file line vis) = None
made_file (resolved.Rename node name on) = None
made_file (resolved.Move node parent on) = None
made_file (resolved.Remove node on) = None

-- the files that edits make
abbrev pub made_files : List ResolvedEdit → List ℕ
made_files ss = filter_map made_file ss

-- the file of the line that an edit inserts, if it inserts one
abbrev pub file_of_new_line : ResolvedEdit → Option ℕ
file_of_new_line (resolved.New node kind parent name on) = None
file_of_new_line (resolved.Insert file anchor line text vis) = Some file
file_of_new_line (resolved.Delete file line vis) = None
file_of_new_line (resolved.Rename node name on) = None
file_of_new_line (resolved.Move node parent on) = None
file_of_new_line (resolved.Remove node on) = None

-- the files of the lines that edits insert
abbrev pub files_of_lines : List ResolvedEdit → List ℕ
files_of_lines ss = filter_map file_of_new_line ss
