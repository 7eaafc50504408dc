-- Lemmas on refusals, references, trees and rows of a history's nodes, for the proofs of callers.
pub use Rattle.cov_view.proofs.Added.{lines-added}
pub use Rattle.cov_view.proofs.Applying.{rows-after, shows-after}
pub use Rattle.cov_view.proofs.Changes.{not_there}
pub use Rattle.cov_view.proofs.FewRows.{few-tree}
pub use Rattle.cov_view.proofs.Naming.{below-head, head-number, line-same, made-known, node-same, rows-same}
pub use Rattle.cov_view.proofs.Placed.{old-append, rows-old}
pub use Rattle.cov_view.proofs.Refusing.{fault-by, refused-as}
pub use Rattle.cov_view.proofs.Standing.{node-itself, same_node-sym}
pub use Rattle.cov_view.proofs.Treeing.{length-tree, once-shown, tree_shown, whole-shown}
pub use Rattle.cov_view.proofs.WholeTree.{tree_whole}
use Rattle.std.proofs.Common.{◌≡◌, ℕ, Bool, true, false, ◌||◌, not, List, [], ◌∷◌, ◌++◌, length, Option, Some, None, refl}
use Rattle.std.proofs.lemmas.Bool.{and_parts, not-false, or_parts}
use Rattle.cov_base.specs.declared.number.Kind.{Kind}
use Rattle.cov_base.specs.declared.number.NodeRef.{NodeRef}
use Rattle.cov_base.specs.declared.number.LineRef.{LineRef}
use Rattle.cov_base.specs.Rows.{row_of}
use Rattle.cov_edit.specs.declared.edit.Edit.TheVariants as edits
use Rattle.cov_edit.specs.Numbering.{Numbers, node_number}
use Rattle.cov_edit.specs.Variant.{Variant}
use Rattle.cov_view.specs.References.{is_root, is_head, is_known_node}
use Rattle.cov_view.specs.Refusals.{when, first_of, shows_node, is_dir, shows_line, has_name, has_name_beside, has_name_of, is_within, is_parent, refusal}

module _ {F : Type 0} where
  -- a test that doesn't hold refuses nothing
  pub first-not_when : (b : Bool) (f : F) (os : List (Option F)) → b ≡ false → first_of (when b f ∷ os) ≡ first_of os
  first-not_when true f os h = absurd (cc)
  first-not_when false f os h = refl

  -- a test that holds refuses first
  pub first-when : (b : Bool) (f : F) (os : List (Option F)) → b ≡ true → first_of (when b f ∷ os) ≡ Some f
  first-when true f os h = refl
  first-when false f os h = absurd (cc)

  pub first-one : (o : Option F) → first_of (o ∷ []) ≡ o
  first-one None = refl
  first-one (Some f) = refl

  -- where nothing is refused, neither the first refuses nor those after it
  pub none-first : (o : Option F) (os : List (Option F)) → first_of (o ∷ os) ≡ None → (o ≡ None) × (first_of os ≡ None)
  none-first None os h = (refl, h)
  none-first (Some f) os h = absurd (cc)

  pub none-when : (b : Bool) (f : F) (os : List (Option F)) → first_of (when b f ∷ os) ≡ None → (b ≡ false) × (first_of os ≡ None)
  none-when true f os h = absurd (cc)
  none-when false f os h = (refl, h)

  pub none-behind : (os ps : List (Option F)) → first_of (os ++ ps) ≡ None → first_of ps ≡ None
  none-behind [] ps h = h
  none-behind (o ∷ os) ps h = none-behind os ps (none-first o (os ++ ps) h).1

module _ (ns : Numbers) (v : Variant) where
  -- a node that a variant has is known
  pub node-known : (node : NodeRef) → shows_node ns v node ≡ true → is_known_node ns.nodes node ≡ true
  node-known node h = (and_parts (is_known_node ns.nodes node) _ h).0

  -- a new node that isn't refused has its directory, which has no node of its name
  pub new-accepted : (kind : Kind) (parent : NodeRef) (name : List ℕ) → refusal ns v (edits.New kind parent name) ≡ None
      → (shows_node ns v parent ≡ true) × (is_dir v.rows (node_number ns.nodes parent) ≡ true) × (has_name v.rows (node_number ns.nodes parent) name ≡ false)
  new-accepted kind parent name h =
      let there = none-when (not (shows_node ns v parent)) _ _ h in
      let a_dir = none-when (not (is_dir v.rows (node_number ns.nodes parent))) _ _ there.1 in
      (not-false _ there.0, not-false _ a_dir.0, (none-when (has_name v.rows (node_number ns.nodes parent) name) _ _ a_dir.1).0)

  -- an insert that isn't refused has its file and its anchor
  pub insert-accepted : (file : NodeRef) (after : LineRef) (text : List ℕ) → refusal ns v (edits.Insert file after text) ≡ None
      → (shows_node ns v file ≡ true) × ((is_head after || shows_line ns v (node_number ns.nodes file) after) ≡ true)
  insert-accepted file after text h =
      let there = none-when (not (shows_node ns v file)) _ _ h in
      let a_file = none-when (is_dir v.rows (node_number ns.nodes file)) _ _ there.1 in
      let anchored = none-when (not (is_head after || shows_line ns v (node_number ns.nodes file) after)) _ _ a_file.1 in
      (not-false _ there.0, not-false _ anchored.0)

  -- a delete that isn't refused has its file, and its line, which isn't the head
  pub delete-accepted : (file : NodeRef) (line : LineRef) → refusal ns v (edits.Delete file line) ≡ None
      → (shows_node ns v file ≡ true) × (is_head line ≡ false) × (shows_line ns v (node_number ns.nodes file) line ≡ true)
  delete-accepted file line h =
      let there = none-when (not (shows_node ns v file)) _ _ h in
      let a_file = none-when (is_dir v.rows (node_number ns.nodes file)) _ _ there.1 in
      let had = none-when (is_head line || not (shows_line ns v (node_number ns.nodes file) line)) _ _ a_file.1 in
      let parts = or_parts (is_head line) (not (shows_line ns v (node_number ns.nodes file) line)) had.0 in
      (not-false _ there.0, parts.0, not-false _ parts.1)

  -- another name that isn't refused is that of a node below the root, and its directory has none of that name
  pub rename-accepted : (node : NodeRef) (name : List ℕ) → refusal ns v (edits.Rename node name) ≡ None
      → (is_root node ≡ false) × (shows_node ns v node ≡ true) × (has_name_beside v.rows (row_of v.rows (node_number ns.nodes node)) name ≡ false)
  rename-accepted node name h =
      let below = none-when (is_root node) _ _ h in
      let there = none-when (not (shows_node ns v node)) _ _ below.1 in
      (below.0, not-false _ there.0, (none-when (has_name_beside v.rows (row_of v.rows (node_number ns.nodes node)) name) _ _ there.1).0)

  -- a move that isn't refused is of a node below the root, into a directory that isn't within it and has none of its name
  pub move-accepted : (node parent : NodeRef) → refusal ns v (edits.Move node parent) ≡ None
      → (is_root node ≡ false) × (shows_node ns v node ≡ true) × (shows_node ns v parent ≡ true) × (is_dir v.rows (node_number ns.nodes parent) ≡ true)
      × (is_within v.rows (length v.rows) (node_number ns.nodes node) (node_number ns.nodes parent) ≡ false)
      × (has_name_of v.rows (node_number ns.nodes parent) (row_of v.rows (node_number ns.nodes node)) ≡ false)
  move-accepted node parent h =
      let below = none-when (is_root node) _ _ h in
      let there = none-when (not (shows_node ns v node)) _ _ below.1 in
      let into = none-when (not (shows_node ns v parent)) _ _ there.1 in
      let a_dir = none-when (not (is_dir v.rows (node_number ns.nodes parent))) _ _ into.1 in
      let apart = none-when (is_within v.rows (length v.rows) (node_number ns.nodes node) (node_number ns.nodes parent)) _ _ a_dir.1 in (
        below.0,
        not-false _ there.0,
        not-false _ into.0,
        not-false _ a_dir.0,
        apart.0,
        (none-when (has_name_of v.rows (node_number ns.nodes parent) (row_of v.rows (node_number ns.nodes node))) _ _ apart.1).0,
      )

  -- a removal that isn't refused is of a node below the root that is no node's parent
  pub remove-accepted : (node : NodeRef) → refusal ns v (edits.Remove node) ≡ None
      → (is_root node ≡ false) × (shows_node ns v node ≡ true) × (is_parent v.rows (node_number ns.nodes node) ≡ false)
  remove-accepted node h =
      let below = none-when (is_root node) _ _ h in
      let there = none-when (not (shows_node ns v node)) _ _ below.1 in
      (below.0, not-false _ there.0, (none-when (is_parent v.rows (node_number ns.nodes node)) _ _ there.1).0)
