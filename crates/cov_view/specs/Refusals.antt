-- Which edits a variant refuses.
use Rattle.std.specs.Prelude.{ℕ, zero, suc, ◌+◌, Bool, true, false, ◌&&◌, ◌||◌, not, nat_eq, List, [], ◌∷◌, length, Option, Some, None}
use Rattle.std.specs.Option.{option_map_or}
use Rattle.std.specs.Str.{bytes_eq}
use Rattle.std.specs.List.{list_any}
use Rattle.cov_base.specs.declared.number.NodeRef.{NodeRef}
use Rattle.cov_base.specs.declared.number.LineRef.{LineRef}
use Rattle.cov_base.specs.Addresses.{line_of}
use Rattle.cov_base.specs.Faults.{from_parent}
use Rattle.cov_base.specs.Rows.{Row, row_of, is_present}
use Rattle.cov_edit.specs.declared.edit.Edit.{Edit}
use Rattle.cov_edit.specs.declared.edit.Edit.TheVariants as edits
use Rattle.cov_edit.specs.Numbering.{Numbers, NumberedEdit, numbered, node_number, line_number}
use Rattle.cov_edit.specs.Variant.{Variant, edited}
use Rattle.cov_view.specs.References.{is_root, is_head, is_dir_kind, is_known_node, is_known_line}
use Rattle.cov_view.specs.declared.fault.EditFault.{EditFault}
use Rattle.cov_view.specs.declared.fault.EditFault.TheVariants as faults

-- a refusal, where a test holds
abbrev pub when : {F : Type 0} → Bool → F → Option F
when true f = Some f
when false f = None

-- the first refusal of a list of tests
abbrev pub first_of : {F : Type 0} → List (Option F) → Option F
first_of [] = None
first_of (Some f ∷ fs) = Some f
first_of (None ∷ fs) = first_of fs

-- whether a variant has the node that a reference names; the root is always there
abbrev pub shows_node : Numbers → Variant → NodeRef → Bool
shows_node ns v node = is_known_node ns.nodes node && is_present v.rows (node_number ns.nodes node)

-- whether a row is there and is a directory's
abbrev pub row_is_dir : Option Row → Bool
row_is_dir None = false
row_is_dir (Some r) = is_dir_kind r.kind

-- whether a node is a present directory
abbrev pub is_dir : List Row → ℕ → Bool
is_dir rows zero = true
is_dir rows (suc node) = row_is_dir (row_of rows (suc node))

-- whether a file has the line that a reference names
abbrev pub shows_line : Numbers → Variant → ℕ → LineRef → Bool
shows_line ns v file line =
    is_known_line (length ns.addresses) line
    && list_any (λ l. nat_eq l.file file && nat_eq (line_of l.address) (line_number (length ns.addresses) line)) v.lines

-- whether a directory has a node of that name
abbrev pub has_name : List Row → ℕ → List ℕ → Bool
has_name rows dir name = list_any (λ r. nat_eq r.parent dir && bytes_eq r.name name) rows

-- whether the directory of a row, if there is one, has a node of that name
abbrev pub has_name_beside : List Row → Option Row → List ℕ → Bool
has_name_beside rows o name = option_map_or (λ r. has_name rows r.parent name) o false

-- whether a directory has a node with the name of a row, if there is one
abbrev pub has_name_of : List Row → ℕ → Option Row → Bool
has_name_of rows dir o = option_map_or (λ r. has_name rows dir r.name) o false

-- whether a node is another, or lies below it by at most so many steps to the parent
abbrev pub is_within : List Row → ℕ → ℕ → ℕ → Bool
is_within rows zero top node = nat_eq node top
is_within rows (suc steps) top node = nat_eq node top || from_parent (row_of rows node) (is_within rows steps top)

-- whether some node has a node as its parent
abbrev pub is_parent : List Row → ℕ → Bool
is_parent rows node = list_any (λ r. nat_eq r.parent node) rows

-- the first refusal of an edit on a variant; ns are the numbers after which it is numbered
abbrev pub refusal : Numbers → Variant → Edit → Option EditFault
refusal ns v (edits.New kind parent name) =
    let dir = node_number ns.nodes parent in
    first_of (when (not (shows_node ns v parent)) faults.NoSuchNode
    ∷ when (not (is_dir v.rows dir)) faults.NotDirectory
    ∷ when (has_name v.rows dir name) faults.NameTaken ∷ [])
refusal ns v (edits.Insert file after text) =
    let f = node_number ns.nodes file in
    first_of (when (not (shows_node ns v file)) faults.NoSuchNode
    ∷ when (is_dir v.rows f) faults.NotFile
    ∷ when (not (is_head after || shows_line ns v f after)) faults.NoSuchLine ∷ [])
refusal ns v (edits.Delete file line) =
    let f = node_number ns.nodes file in
    first_of (when (not (shows_node ns v file)) faults.NoSuchNode
    ∷ when (is_dir v.rows f) faults.NotFile
    ∷ when (is_head line || not (shows_line ns v f line)) faults.NoSuchLine ∷ [])
refusal ns v (edits.Rename node name) =
    let x = node_number ns.nodes node in
    first_of (when (is_root node) faults.IsRoot
    ∷ when (not (shows_node ns v node)) faults.NoSuchNode
    ∷ when (has_name_beside v.rows (row_of v.rows x) name) faults.NameTaken ∷ [])
refusal ns v (edits.Move node parent) =
    let x = node_number ns.nodes node in
    let dir = node_number ns.nodes parent in
    first_of (when (is_root node) faults.IsRoot
    ∷ when (not (shows_node ns v node)) faults.NoSuchNode
    ∷ when (not (shows_node ns v parent)) faults.NoSuchNode
    ∷ when (not (is_dir v.rows dir)) faults.NotDirectory
    ∷ when (is_within v.rows (length v.rows) x dir) faults.IntoItself
    ∷ when (has_name_of v.rows dir (row_of v.rows x)) faults.NameTaken ∷ [])
refusal ns v (edits.Remove node) =
    first_of (when (is_root node) faults.IsRoot
    ∷ when (not (shows_node ns v node)) faults.NoSuchNode
    ∷ when (is_parent v.rows (node_number ns.nodes node)) faults.NotEmpty ∷ [])

-- whether an edit may want memory; what only takes away or moves doesn't
abbrev pub takes_memory : Edit → Bool
takes_memory (edits.New kind parent name) = true
takes_memory (edits.Insert file after text) = true
takes_memory (edits.Delete file line) = false
takes_memory (edits.Rename node name) = true
takes_memory (edits.Move node parent) = false
takes_memory (edits.Remove node) = false

-- a refusal of edit i, or else that of those after it
abbrev pub refused_at : ℕ → Option EditFault → Option (ℕ × EditFault) → Option (ℕ × EditFault)
refused_at i (Some f) later = Some (i, f)
refused_at i None later = later

-- the first refused edit, from i, and its fault; each edit is tried on the variant with those before it
abbrev pub refused_from : Numbers → Variant → ℕ → List Edit → List NumberedEdit → Option (ℕ × EditFault)
refused_from ns v i [] ds = None
refused_from ns v i (e ∷ es) [] = None
refused_from ns v i (e ∷ es) (d ∷ ds) = refused_at i (refusal ns v e) (refused_from ns (edited v d) (i + 1) es ds)

-- the first refused edit of a list, on the variant before it
abbrev pub first_refused : Numbers → Variant → List Edit → Option (ℕ × EditFault)
first_refused ns v es = refused_from ns v 0 es (numbered ns es)
