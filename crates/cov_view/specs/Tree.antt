-- The tree of a variant, and its digest.
use Rattle.std.specs.Prelude.{◌≡◌, true, not, ℕ, zero, suc, List, [], ◌∷◌, ◌++◌, length, map, Option, Some, None}
use Rattle.std.specs.Int.{w64, to_be_bytes}
use Rattle.std.specs.Cmp.Lexicographic.{slice_cmp}
use Rattle.std.specs.Ordering.{nat_cmp, match_ordering}
use Rattle.std.specs.declared.cmp.Ordering.TheVariants.{Less}
use Rattle.std.specs.List.{filter, flat_map, AllByRecursion}
use Rattle.std.specs.List.Sorted.{IsPermutation}
use Rattle.sha2.specs.Sha256.{sha256}
use Rattle.cov_base.specs.declared.number.Kind.{Kind}
use Rattle.cov_base.specs.declared.number.Kind.TheVariants.{File, Dir}
use Rattle.cov_base.specs.Rows.{Row, row_of}
use Rattle.cov_base.specs.Spelling.{is_name}
use Rattle.cov_edit.specs.Variant.{Variant, Line, lines_of}
use Rattle.cov_view.specs.References.{is_dir_kind}
use Rattle.cov_view.specs.declared.tree.TreeRow.{TreeRow}

-- a name, a slash and the path below it; the name alone where nothing is below
abbrev pub joined : List ℕ → List ℕ → List ℕ
joined name [] = name
joined name (b ∷ path) = name ++ 47 ∷ b ∷ path

-- goes on from the parent of a row, if there is one, with its name before the path
abbrev pub climbed : Option Row → (ℕ → List ℕ → List ℕ) → List ℕ → List ℕ
climbed None go path = path
climbed (Some r) go path = go r.parent (joined r.name path)

-- the path from the root to a node, before a path below it, by at most so many steps to the parent; the root has no row
abbrev pub path_to : List Row → ℕ → ℕ → List ℕ → List ℕ
path_to rows zero node path = path
path_to rows (suc steps) node path = climbed (row_of rows node) (path_to rows steps) path

-- the bytes of a file: its lines in order, each followed by byte 10; a directory has none
abbrev pub bytes_of : Kind → List Line → List ℕ
bytes_of File lines = flat_map (λ l. l.text ++ 10 ∷ []) lines
bytes_of Dir lines = []

-- a node of a variant as its tree has it
abbrev pub row_of_tree : Variant → Row → TreeRow
row_of_tree v r = record { path = path_to v.rows (length v.rows) r.node []; kind = r.kind; bytes = bytes_of r.kind (lines_of v r.node) }

-- rows in byte order of their paths with one more, in the place of one with its path, which no sound variant has
abbrev pub with_tree_row : TreeRow → List TreeRow → List TreeRow
with_tree_row e [] = e ∷ []
with_tree_row e (f ∷ fs) = match_ordering (slice_cmp nat_cmp e.path f.path) (e ∷ f ∷ fs) (record { path = f.path; kind = e.kind; bytes = e.bytes } ∷ fs) (f ∷ with_tree_row e fs)

-- rows of a tree with those of more nodes
abbrev pub with_tree_rows : Variant → List Row → List TreeRow → List TreeRow
with_tree_rows v [] done = done
with_tree_rows v (r ∷ rs) done = with_tree_rows v rs (with_tree_row (row_of_tree v r) done)

-- the tree of a sound variant: all nodes but the root, in byte order of their paths
abbrev pub tree_of : Variant → List TreeRow
tree_of v = with_tree_rows v v.rows []

-- the names of rows are spelt as names
abbrev pub AreSpelt : List Row → Type 0
AreSpelt rows = AllByRecursion (λ r. is_name r.name ≡ true) rows

-- the paths of rows rise in byte order, and none stands twice
abbrev pub DoPathsRise : List TreeRow → Type 0
DoPathsRise [] = Unit {0}
DoPathsRise (e ∷ es) = AllByRecursion (λ f. slice_cmp nat_cmp e.path f.path ≡ Less) es × DoPathsRise es

-- rows are one of each node of a variant but the root, in byte order of their paths, of which none stands twice
pub record IsTreeOf (v : Variant) (rows : List TreeRow) : Type 0 where
  pub each : IsPermutation (map (row_of_tree v) v.rows) rows
  pub rising : DoPathsRise rows

-- how many rows are directories
abbrev pub dirs_in : List TreeRow → ℕ
dirs_in rows = length (filter (λ e. is_dir_kind e.kind) rows)

-- how many rows are files
abbrev pub files_in : List TreeRow → ℕ
files_in rows = length (filter (λ e. not (is_dir_kind e.kind)) rows)

-- bytes behind their length, in eight bytes of which the highest comes first
abbrev pub framed : List ℕ → List ℕ
framed bytes = to_be_bytes w64 (length bytes) ++ bytes

-- what is digested of a node: d and the path of a directory, f, the path and the bytes of a file
abbrev pub kind_bytes : Kind → List ℕ → List ℕ → List ℕ
kind_bytes Dir path bytes = 100 ∷ framed path
kind_bytes File path bytes = (102 ∷ framed path) ++ framed bytes

-- what is digested of a row
abbrev pub row_bytes : TreeRow → List ℕ
row_bytes e = kind_bytes e.kind e.path e.bytes

-- what is digested of a tree
abbrev pub tree_bytes : List TreeRow → List ℕ
tree_bytes rows = flat_map row_bytes rows

-- the digest of a tree
abbrev pub digest_of : List TreeRow → List ℕ
digest_of rows = sha256 (tree_bytes rows)
