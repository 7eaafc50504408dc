-- A view after an accepted edit shows the edited variant.
use Rattle.std.proofs.Common.{◌≡◌, ℕ, ◌+◌, Bool, true, false, cond, ◌&&◌, ◌||◌, not, nat_lt, List, length, Option, Some, None, is_some, refl, sym, ap, ◌∙◌, arith}
use Rattle.std.specs.Option.{option_map_or}
use Rattle.std.specs.List.{fold}
use Rattle.std.proofs.lemmas.Bool.{and_parts}
use Rattle.std.proofs.lemmas.Bool.Decides.{nat_tests}
use Rattle.cov_base.specs.Addresses.{IsTable}
use Rattle.cov_base.specs.declared.number.LineRef.TheVariants as lines
use Rattle.cov_base.specs.declared.number.NodeRef.{NodeRef}
use Rattle.cov_base.specs.declared.number.Kind.{Kind}
use Rattle.cov_base.specs.declared.number.Kind.TheVariants as kinds
use Rattle.cov_edit.specs.declared.edit.Edit.{Edit}
use Rattle.cov_edit.specs.declared.edit.Edit.TheVariants as edits
use Rattle.cov_edit.specs.Numbering.{Numbers}
use Rattle.cov_edit.specs.Variant.{Variant, edited}
use Rattle.cov_view.specs.References.{is_root, is_head}
use Rattle.cov_view.specs.Lines.{is_among, after_ref, without_ref}
use Rattle.cov_view.specs.Seen.{Seen, row_at, kind_in, is_there, has_line_in, has_child, new_fault, line_fault, rename_fault, move_fault, remove_fault, seen_fault, seen_after, with_lines_by, with_name_by, with_parent_by, AreRows}
use Rattle.cov_view.specs.Views.{Shows, table_after, next_by_number}
use Rattle.cov_view.specs.declared.fault.EditFault.{EditFault}
use Rattle.cov_view.specs.declared.fault.EditFault.TheVariants as faults
use Rattle.cov_view.specs.declared.row.ViewRow.{ViewRow}
use Rattle.cov_view.proofs.Changes.{next_fresh, rows-append, rows-more}
use Rattle.cov_view.proofs.Naming.{there-known}
use Rattle.cov_view.proofs.Moves.{shows-rename, shows-move, shows-remove}
use Rattle.cov_view.proofs.Refusing.{file_row, made_lines, there-made}
use Rattle.cov_view.proofs.Showing.{shows-new}
use Rattle.cov_view.proofs.Inserts.{anchor-made, shows-insert}
use Rattle.cov_view.proofs.Deletes.{shows-delete}
use Rattle.cov_view.proofs.Standing.{rows-changed, rows-without}

kind_there : (k : Option Kind) (taken : Bool) → new_fault k taken ≡ None → is_some k ≡ true
kind_there None taken h = absurd (cc)
kind_there (Some kinds.File) taken h = refl
kind_there (Some kinds.Dir) taken h = refl

is_file : (k : Option Kind) (had : Bool) → line_fault k had ≡ None → k ≡ Some kinds.File
is_file None had h = absurd (cc)
is_file (Some kinds.File) had h = refl
is_file (Some kinds.Dir) had h = absurd (cc)

is_had : (k : Option Kind) (had : Bool) → line_fault k had ≡ None → had ≡ true
is_had None had h = absurd (cc)
is_had (Some kinds.Dir) had h = absurd (cc)
is_had (Some kinds.File) true h = refl
is_had (Some kinds.File) false h = absurd (cc)

isn't : (b : Bool) → not b ≡ true → b ≡ false
isn't true h = absurd (cc)
isn't false h = refl

behind : (b : Bool) (f : EditFault) (o : Option EditFault) → cond b (Some f) o ≡ None → (b ≡ false) × (o ≡ None)
behind true f o h = absurd (cc)
behind false f o h = (refl, h)

isn't_not : (b : Bool) → not b ≡ false → b ≡ true
isn't_not true h = refl
isn't_not false h = absurd (cc)

-- what gets another name is there
renamed-there : (rows : List ViewRow) (node : NodeRef) (name : List ℕ) → rename_fault rows node name ≡ None → is_there rows node ≡ true
renamed-there rows node name h = isn't_not (is_there rows node) (behind (not (is_there rows node)) faults.NoSuchNode _ (behind (is_root node) faults.IsRoot _ h).1).0

-- what gets another directory is there, and so is the directory
moved-there : (rows : List ViewRow) (node parent : NodeRef) → move_fault rows node parent ≡ None → (is_there rows node ≡ true) × (is_there rows parent ≡ true)
moved-there rows node parent h =
    let there = behind (not (is_there rows node)) faults.NoSuchNode _ (behind (is_root node) faults.IsRoot _ h).1 in
    (isn't_not (is_there rows node) there.0, isn't_not (is_there rows parent) (behind (not (is_there rows parent)) faults.NoSuchNode _ there.1).0)

-- what is taken out is there
removed-there : (rows : List ViewRow) (node : NodeRef) → remove_fault rows node ≡ None → is_there rows node ≡ true
removed-there rows node h = isn't_not (is_there rows node) (behind (not (is_there rows node)) faults.NoSuchNode _ (behind (is_root node) faults.IsRoot _ h).1).0

module _ (ns : Numbers) (table : List (List ℕ)) (s : Seen) (v : Variant) (shows : Shows ns table s v) where
  -- an edit that a view accepts keeps it a view of the edited variant
  pub shows-after : (e : Edit) → IsTable table → AreRows s.nodes_made s.rows → seen_fault s.rows e ≡ None
      → Shows ns (table_after ns table e) (seen_after s e) (fold edited v (next_by_number ns table s e))
  shows-after (edits.New kind parent name) tab once accepted =
      shows-new ns table s v shows kind parent name
      (there-made ns s parent shows.made (kind_there (kind_in s.rows parent) (has_child s.rows parent name) accepted))
  shows-after (edits.Insert file after text) tab once accepted =
      let anchor = is_head after || has_line_in s.rows file after in
      let file_is : kind_in s.rows file ≡ Some kinds.File = is_file (kind_in s.rows file) anchor accepted in
      let row = file_row s.rows file file_is in
      let behind : (r : ViewRow) → row_at s.rows file ≡ Some r → (is_head after || is_among after r.lines) ≡ true =
      λ r at.
      sym (ap (λ o. is_head after || option_map_or (λ (q : ViewRow). is_among after q.lines) o false) at)
      ∙ is_had (kind_in s.rows file) anchor accepted in
      shows-insert ns table s v shows tab file after text
      (there-made ns s file shows.made (ap is_some file_is))
      (anchor-made (length ns.addresses) s.lines_made after row.0.lines (behind row.0 row.1) (made_lines ns table s v shows file row.0 row.1))
      once behind
  shows-after (edits.Delete file line) tab once accepted =
      let had = not (is_head line) && has_line_in s.rows file line in
      let both : had ≡ true = is_had (kind_in s.rows file) had accepted in
      let file_is : kind_in s.rows file ≡ Some kinds.File = is_file (kind_in s.rows file) had accepted in
      let row = file_row s.rows file file_is in
      let no_head : is_head line ≡ false = isn't (is_head line) (and_parts (not (is_head line)) (has_line_in s.rows file line) both).0 in
      let among : is_among line row.0.lines ≡ true =
      sym (ap (λ o. option_map_or (λ (q : ViewRow). is_among line q.lines) o false) row.1)
      ∙ (and_parts (not (is_head line)) (has_line_in s.rows file line) both).1 in
      shows-delete ns table s v shows tab file line
      (there-made ns s file shows.made (ap is_some file_is))
      (anchor-made (length ns.addresses) s.lines_made line row.0.lines (ap (λ b. b || is_among line row.0.lines) no_head ∙ among) (made_lines ns table s v shows file row.0 row.1))
      once
  shows-after (edits.Rename node name) tab once accepted =
      shows-rename ns table s v shows node (there-known ns s s.rows shows.made node (renamed-there s.rows node name accepted)) once name
  shows-after (edits.Move node parent) tab once accepted =
      let both = moved-there s.rows node parent accepted in
      shows-move ns table s v shows node (there-known ns s s.rows shows.made node both.0) once parent (there-made ns s parent shows.made both.1)
  shows-after (edits.Remove node) tab once accepted =
      shows-remove ns table s v shows node (there-known ns s s.rows shows.made node (removed-there s.rows node accepted)) once

-- after an edit no node has two rows, as before it
pub rows-after : (s : Seen) (e : Edit) → AreRows s.nodes_made s.rows → AreRows (seen_after s e).nodes_made (seen_after s e).rows
rows-after s (edits.New kind parent name) once =
    let below : nat_lt s.nodes_made (s.nodes_made + 1) ≡ true = grind (arith, nat_tests) in
    rows-append (s.nodes_made + 1) s.rows _ (rows-more s.nodes_made s.rows once) refl below (next_fresh s.nodes_made s.rows once)
rows-after s (edits.Insert file after text) once = rows-changed file (with_lines_by (after_ref after (record { line = lines.New s.lines_made; text = text }))) (λ r. refl) s.nodes_made s.rows once
rows-after s (edits.Delete file line) once = rows-changed file (with_lines_by (without_ref line)) (λ r. refl) s.nodes_made s.rows once
rows-after s (edits.Rename node name) once = rows-changed node (with_name_by name) (λ r. refl) s.nodes_made s.rows once
rows-after s (edits.Move node parent) once = rows-changed node (with_parent_by parent) (λ r. refl) s.nodes_made s.rows once
rows-after s (edits.Remove node) once = rows-without node s.nodes_made s.rows once
