-- Files by their nodes.
use Rattle.std.specs.Prelude.{◌≡◌, ℕ, suc, Bool, false, nat_eq, nat_lt, List, [], ◌∷◌, Option, Some, None, slice_get, if◌then◌else◌}
use Rattle.std.specs.List.{find, filter_map}
use Rattle.cov_base.specs.Rows.{has_node}
use Rattle.cov_base.specs.declared.number.Kind.{Kind}
use Rattle.cov_history.specs.FileNodes.{if_file}
use Rattle.cov_tree.specs.declared.entry.Entry.{Entry}
use Rattle.cov_tree.specs.Dated.{Dated, kinds_in, kinds_with}
use Rattle.cov_visible.specs.declared.file_part.FilePart.{FilePart}

-- the node of a file
abbrev pub part_node : FilePart → ℕ
part_node e = e.node

-- the file with a node, if there is one
abbrev pub part_of : List FilePart → ℕ → Option FilePart
part_of parts node = find (λ e. nat_eq e.node node) parts

-- whether a file, if there is one, has a node
abbrev pub is_at : Option FilePart → ℕ → Bool
is_at None node = false
is_at (Some e) node = nat_eq e.node node

-- a place has a number, or no place has it
abbrev pub IsPlaceOf : List ℕ → ℕ → Option ℕ → Type 0
IsPlaceOf xs x None = has_node x xs ≡ false
IsPlaceOf xs x (Some at) = slice_get xs at ≡ Some x

-- how many numbers come before the first that isn't below one
abbrev pub count_below : ℕ → List ℕ → ℕ
count_below x [] = 0
count_below x (y ∷ ys) = if nat_lt y x then suc (count_below x ys) else 0

-- the nodes of files among nodes with their kinds
abbrev pub files_among : List (ℕ × Kind) → List ℕ
files_among ks = filter_map (λ k. if_file k.1 k.0) ks

-- the nodes of all files that were ever made, in order, and the same with a plan
abbrev pub files_in : Dated → List ℕ
files_in d = files_among (kinds_in d)

abbrev pub files_with : List Entry → Dated → List ℕ
files_with plan d = files_among (kinds_with plan d)
