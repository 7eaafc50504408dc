-- What is in a directory.
use Rattle.std.specs.Prelude.{◌≡◌, ℕ, Bool, true, nat_eq, List, [], ◌∷◌, filter, map, if◌then◌else◌}
use Rattle.std.specs.Cmp.Lexicographic.{slice_cmp}
use Rattle.std.specs.Ordering.{nat_cmp, is_lt, ordering_then}
use Rattle.std.specs.declared.cmp.Ordering.{Ordering}
use Rattle.cov_base.specs.declared.number.Kind.{Kind}
use Rattle.cov_base.specs.declared.number.Kind.TheVariants as kinds
use Rattle.cov_base.specs.declared.number.NodeRef.{NodeRef}
use Rattle.cov_base.specs.Rows.{Row}
use Rattle.cov_edit.specs.Numbering.{Numbers, node_number}
use Rattle.cov_edit.specs.Variant.{Variant}
use Rattle.cov_view.specs.References.{same_node}
use Rattle.cov_view.specs.Refusals.{shows_node, is_dir}
use Rattle.cov_view.specs.declared.listing.DirRow.{DirRow}
use Rattle.cov_view.specs.declared.row.ViewRow.{ViewRow}

-- a row as a listing has it
abbrev pub dir_row : ViewRow → DirRow
dir_row r = record { kind = r.kind; name = r.name }

-- a row by numbers as a listing has it
abbrev pub listed_row : Row → DirRow
listed_row r = record { kind = r.kind; name = r.name }

-- the place of a kind
abbrev pub kind_rank : Kind → ℕ
kind_rank kinds.File = 0
kind_rank kinds.Dir = 1

-- byte order of names; a file comes before a directory of its name, which no sound variant has
abbrev pub listing_order : DirRow → DirRow → Ordering
listing_order x y = ordering_then (slice_cmp nat_cmp x.name y.name) (nat_cmp (kind_rank x.kind) (kind_rank y.kind))

-- whether a row comes before another in a listing
abbrev pub comes_before : DirRow → DirRow → Bool
comes_before x y = is_lt (listing_order x y)

-- a listing with one row more
abbrev pub with_listed : DirRow → List DirRow → List DirRow
with_listed x [] = x ∷ []
with_listed x (y ∷ ys) = if comes_before y x then y ∷ with_listed x ys else x ∷ y ∷ ys

-- rows in the order of a listing
abbrev pub in_listing_order : List DirRow → List DirRow
in_listing_order [] = []
in_listing_order (x ∷ xs) = with_listed x (in_listing_order xs)

-- what a view has in a directory, in order
abbrev pub listed_in : List ViewRow → NodeRef → List DirRow
listed_in rows dir = in_listing_order (map dir_row (filter (λ r. same_node r.parent dir) rows))

-- what a variant has in a directory, in order
abbrev pub listed : List Row → ℕ → List DirRow
listed rows dir = in_listing_order (map listed_row (filter (λ r. nat_eq r.parent dir) rows))

-- a listing is that of a directory that the variant has
pub record IsListingOf (ns : Numbers) (v : Variant) (dir : NodeRef) (listing : List DirRow) : Type 0 where
  pub there : shows_node ns v dir ≡ true
  pub is_directory : is_dir v.rows (node_number ns.nodes dir) ≡ true
  pub rows : listing ≡ listed v.rows (node_number ns.nodes dir)
