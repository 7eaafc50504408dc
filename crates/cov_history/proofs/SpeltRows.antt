-- The names of a replay's rows are those of edits, so they are well spelt.
use Rattle.std.proofs.Common.{◌≡◌, ℕ, ◌+◌, Bool, true, false, cond, not, nat_eq, List, [], ◌∷◌, ◌++◌, length, map}
use Rattle.std.proofs.lemmas.Bool.{and_parts}
use Rattle.std.specs.List.{fold, list_all, AllByRecursion}
use Rattle.cov_base.specs.Rows.{Row, with_name, with_parent}
use Rattle.cov_base.specs.Spelling.{is_name}
use Rattle.cov_base.proofs.CallerLemmas.{all-append, all-filter}
use Rattle.cov_expr.specs.Formula.{Formula, value}
use Rattle.cov_edit.specs.declared.edit.Edit.{Edit}
use Rattle.cov_edit.specs.declared.edit.Edit.TheVariants as edits
use Rattle.cov_edit.specs.declared.command.Command.{Command}
use Rattle.cov_edit.specs.declared.command.Command.TheVariants as commands
use Rattle.cov_edit.specs.EditFits.{fits_edit}
use Rattle.cov_edit.specs.Fits.{fits_expr, fits_with_side}
use Rattle.cov_edit.specs.Numbering.{Numbers, NumberedEdit, no_numbers, node_number, node_count_after, line_count_after, numbers_after, numbered_edit, numbered_from}
use Rattle.cov_edit.specs.Replay.{applying, first_within, rest_within, changes_within, commit_changes, changes_from, applied, replay}
use Rattle.cov_edit.specs.Sides.{unsided, conditions}
use Rattle.cov_edit.specs.Variant.{Variant, bare, edited}
use Rattle.cov_edit.proofs.CallerLemmas.{fold-append, edits-fit}
use Rattle.cov_history.specs.Verdict.{IsLegal, IsLegalFrom}
use Rattle.cov_history.proofs.Naming.{either-way}

abbrev pub IsSpelt : Row → Type 0
IsSpelt r = is_name r.name ≡ true

abbrev AreSpelt : Variant → Type 0
AreSpelt v = AllByRecursion IsSpelt v.rows

spelt-mapped : (f : Row → Row) → ((r : Row) → IsSpelt r → IsSpelt (f r)) → (rows : List Row) → AllByRecursion IsSpelt rows → AllByRecursion IsSpelt (map f rows)
spelt-mapped f so [] h = tt
spelt-mapped f so (r ∷ rows) h = (so r h.0, spelt-mapped f so rows h.1)

with-name : (node : ℕ) (name : List ℕ) → is_name name ≡ true → (r : Row) → IsSpelt r → IsSpelt (with_name node name r)
with-name node name fits r h = at (nat_eq r.node node)
  where
    at : (b : Bool) → IsSpelt (cond b (record { node = r.node; kind = r.kind; parent = r.parent; name = name }) r)
    at true = fits
    at false = h

with-parent : (node parent : ℕ) (r : Row) → IsSpelt r → IsSpelt (with_parent node parent r)
with-parent node parent r h = at (nat_eq r.node node)
  where
    at : (b : Bool) → IsSpelt (cond b (record { node = r.node; kind = r.kind; parent = parent; name = r.name }) r)
    at true = h
    at false = h

edit-spelt : (ns : Numbers) (t : List (List ℕ)) (node line : ℕ) (v : Variant) (e : Edit) → fits_edit e ≡ true → AreSpelt v → AreSpelt (edited v (numbered_edit ns t node line e))
edit-spelt ns t node line v (edits.New kind parent name) fits h =
    all-append IsSpelt v.rows (record { node = node + 1; kind = kind; parent = node_number ns.nodes parent; name = name } ∷ []) h (fits, tt)
edit-spelt ns t node line v (edits.Insert file after text) fits h = h
edit-spelt ns t node line v (edits.Delete file which) fits h = h
edit-spelt ns t node line v (edits.Rename which name) fits h =
    spelt-mapped (with_name (node_number ns.nodes which) name) (with-name (node_number ns.nodes which) name fits) v.rows h
edit-spelt ns t node line v (edits.Move which parent) fits h =
    spelt-mapped (with_parent (node_number ns.nodes which) (node_number ns.nodes parent)) (with-parent (node_number ns.nodes which) (node_number ns.nodes parent)) v.rows h
edit-spelt ns t node line v (edits.Remove which) fits h = all-filter IsSpelt (λ r. not (nat_eq r.node (node_number ns.nodes which))) v.rows h

edits-spelt : (c : List Bool) (within : List (Formula ℕ)) (ns : Numbers) (t : List (List ℕ)) (node line : ℕ) (v : Variant) (es : List Edit) → list_all fits_edit es ≡ true → AreSpelt v
    → AreSpelt (fold (applied c) v (changes_within within (numbered_from ns t node line es)))
edits-spelt c within ns t node line v [] fits h = h
edits-spelt c within ns t node line v (e ∷ es) fits h =
    let own = and_parts (fits_edit e) (list_all fits_edit es) fits in
    let d : NumberedEdit = numbered_edit ns t node line e in
    edits-spelt c (rest_within within) ns t (node_count_after node e) (line_count_after line e) (applied c v (applying (first_within within) d)) es own.1
    (either-way AreSpelt (value (first_within within) c) (edited v d) v (edit-spelt ns t node line v e own.0 h) h)

changes-spelt : (c : List Bool) (ns : Numbers) (v : Variant) (before later : List Command) → IsLegalFrom before later → AreSpelt v → AreSpelt (fold (applied c) v (changes_from ns later))
changes-spelt c ns v before [] legal h = h
changes-spelt c ns v before (commands.Commit base choice ambition ss ∷ later) legal h =
    let es : List Edit = unsided ss in
    let k : Command = commands.Commit base choice ambition ss in
    rw (fold-append (applied c) v (commit_changes ns ambition ss) (changes_from (numbers_after ns es) later))
    (changes-spelt c (numbers_after ns es) (fold (applied c) v (commit_changes ns ambition ss)) (before ++ k ∷ []) later legal.2
    (edits-spelt c (conditions ambition ss) ns (numbers_after ns es).addresses ns.nodes (length ns.addresses) v es (edits-fit ss (and_parts (fits_expr ambition) (list_all fits_with_side ss) legal.0).1) h))
changes-spelt c ns v before (commands.Option name ∷ later) legal h = changes-spelt c ns v (before ++ commands.Option name ∷ []) later legal.2 h
changes-spelt c ns v before (commands.Constraint expr ∷ later) legal h = changes-spelt c ns v (before ++ commands.Constraint expr ∷ []) later legal.2 h
changes-spelt c ns v before (commands.Prefer expr ∷ later) legal h = changes-spelt c ns v (before ++ commands.Prefer expr ∷ []) later legal.2 h
changes-spelt c ns v before (commands.Default option on ∷ later) legal h = changes-spelt c ns v (before ++ commands.Default option on ∷ []) later legal.2 h
changes-spelt c ns v before (commands.Upgrade ∷ later) legal h = changes-spelt c ns v (before ++ commands.Upgrade ∷ []) later legal.2 h

-- the names of a legal history's replay are well spelt
pub replay-spelt : (c : List Bool) (history : List Command) → IsLegal history → AllByRecursion IsSpelt (replay c history).rows
replay-spelt c history legal = changes-spelt c no_numbers bare [] history legal tt
