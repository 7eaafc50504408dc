-- Why the head of a file isn't deleted.
use Rattle.std.proofs.Common.{◌≡◌, ◌∙◌, refl, sym, ap, ℕ, zero, suc, Bool, true, false, cond, ◌&&◌, ◌||◌, not, nat_eq, List, [], ◌∷◌, Option, Some, None, option_map, is_some, arith}
use Rattle.std.specs.List.{list_any}
use Rattle.std.proofs.lemmas.Bool.Decides.{nat_tests}
use Rattle.cov_base.specs.Rows.{Row, row_of, is_present}
use Rattle.cov_base.proofs.CallerLemmas.{is_some-find}
use Rattle.cov_base.specs.declared.number.Kind.{Kind}
use Rattle.cov_base.specs.declared.number.Kind.TheVariants as kinds
use Rattle.cov_base.specs.declared.number.NodeRef.{NodeRef}
use Rattle.cov_base.specs.declared.number.LineRef.TheVariants as lines
use Rattle.cov_edit.specs.declared.edit.Edit.TheVariants as edits
use Rattle.cov_edit.specs.Numbering.{Numbers, node_number}
use Rattle.cov_edit.specs.Variant.{Variant}
use Rattle.cov_view.specs.Paths.{kind_of, shown_kind}
use Rattle.cov_view.specs.References.{is_dir_kind, is_known_node}
use Rattle.cov_view.specs.Refusals.{when, first_of, is_dir, row_is_dir, refusal}
use Rattle.cov_view.specs.Seen.{Seen}
use Rattle.cov_view.specs.Views.{Shows}
use Rattle.cov_view.specs.declared.fault.EditFault.{EditFault}
use Rattle.cov_view.specs.declared.fault.EditFault.TheVariants as faults

-- the fault, by what the node is
abbrev pub fault_by : Option Kind → EditFault
fault_by None = faults.NoSuchNode
fault_by (Some kinds.Dir) = faults.NotFile
fault_by (Some kinds.File) = faults.NoSuchLine

-- the fault, by whether the node is there and whether it is a directory
abbrev fault_if : Bool → Bool → Option EditFault
fault_if there dir = first_of (when (not there) faults.NoSuchNode ∷ when dir faults.NotFile ∷ Some faults.NoSuchLine ∷ [])

by-kind : (there : Bool) (kind : Kind) → there ≡ true → fault_if there (is_dir_kind kind) ≡ Some (fault_by (Some kind))
by-kind true kinds.Dir e = refl
by-kind true kinds.File e = refl
by-kind false kind e = absurd (cc)

by-row : (there : Bool) (row : Option Row) → is_some row ≡ there → fault_if there (row_is_dir row) ≡ Some (fault_by (option_map (λ r. r.kind) row))
by-row true None e = absurd (cc)
by-row false None e = refl
by-row true (Some r) e = by-kind true r.kind refl
by-row false (Some r) e = absurd (cc)

by-number : (v : Variant) (x : ℕ) → fault_if (is_present v.rows x) (is_dir v.rows x) ≡ Some (fault_by (kind_of v.rows x))
by-number v zero = refl
by-number v (suc x) =
    let not_root : nat_eq (suc x) 0 ≡ false = grind (arith, nat_tests) in
    ap (λ b. fault_if (b || list_any (λ (r : Row). nat_eq r.node (suc x)) v.rows) (is_dir v.rows (suc x))) not_root
    ∙ by-row (list_any (λ (r : Row). nat_eq r.node (suc x)) v.rows) (row_of v.rows (suc x)) (is_some-find (λ (r : Row). nat_eq r.node (suc x)) v.rows)
    ∙ ap (λ b. Some (fault_by (cond b (Some kinds.Dir) (option_map (λ (r : Row). r.kind) (row_of v.rows (suc x)))))) (sym not_root)

pub head-fault : (ns : Numbers) (v : Variant) (file : NodeRef) (kind : Option Kind) → kind ≡ shown_kind ns v file
    → refusal ns v (edits.Delete file (lines.Old 0)) ≡ Some (fault_by kind)
head-fault ns v file kind is = at (is_known_node ns.nodes file) (by-number v (node_number ns.nodes file)) ∙ ap (λ k. Some (fault_by k)) (sym is)
  where
    at : (known : Bool) → fault_if (is_present v.rows (node_number ns.nodes file)) (is_dir v.rows (node_number ns.nodes file)) ≡ Some (fault_by (kind_of v.rows (node_number ns.nodes file)))
        → fault_if (known && is_present v.rows (node_number ns.nodes file)) (is_dir v.rows (node_number ns.nodes file)) ≡ Some (fault_by (cond known (kind_of v.rows (node_number ns.nodes file)) None))
    at true rest = rest
    at false rest = refl

-- a fault is why the head of a file can't be deleted, on each variant that a view shows
abbrev pub IsHeadFault : Seen → NodeRef → EditFault → Type 0
IsHeadFault view file f = (ns : Numbers) (table : List (List ℕ)) (v : Variant) → Shows ns table view v → refusal ns v (edits.Delete file (lines.Old 0)) ≡ Some f
