-- A line that can be deleted once another is inserted directly after it.
use Rattle.std.proofs.Common.{◌≡◌, ◌∙◌, refl, sym, ap, ℕ, ◌+◌, ◌-◌, Bool, true, false, cond, ◌&&◌, ◌||◌, not, List, [], ◌∷◌, ◌++◌, ◌<◌, ◌≤◌, length, length-append, Option, Some, None, option_map, arith}
use Rattle.std.specs.List.{list_any, slice_get}
use Rattle.std.proofs.lemmas.Bool.{or_right}
use Rattle.std.specs.Option.{option_map_or}
use Rattle.cov_base.specs.Addresses.{after_first}
use Rattle.cov_base.specs.declared.number.Kind.{Kind}
use Rattle.cov_base.specs.declared.number.Kind.TheVariants as kinds
use Rattle.cov_base.specs.declared.number.LineRef.{LineRef}
use Rattle.cov_base.specs.declared.number.LineRef.TheVariants as lines
use Rattle.cov_base.specs.declared.number.NodeRef.{NodeRef}
use Rattle.cov_edit.specs.Sides.{unsided}
use Rattle.cov_edit.specs.declared.sided.Sided.{Sided}
use Rattle.cov_edit.specs.declared.edit.Edit.{Edit}
use Rattle.cov_edit.specs.declared.edit.Edit.TheVariants as edits
use Rattle.cov_base.specs.declared.limits.TheConstants.{LIMITS}
use Rattle.cov_edit.specs.Numbering.{nodes_made, anchors_of}
use Rattle.cov_view.specs.Lines.{is_among, after_ref}
use Rattle.cov_view.specs.References.{is_head, is_root, same_node, same_line}
use Rattle.cov_view.specs.Seen.{Seen, row_at, line_fault, seen_fault, seen_after, at_row, with_lines_by}
use Rattle.cov_view.specs.declared.fault.EditFault.{EditFault}
use Rattle.cov_view.specs.declared.line.ViewLine.{ViewLine}
use Rattle.cov_view.specs.declared.row.ViewRow.{ViewRow}
use Rattle.cov_expr.specs.Formula.{Formula}
use Rattle.cov_edit.proofs.CallerLemmas.{unsided-length}
use Rattle.cov_session.specs.Adding.{on_side}
use Rattle.cov_session.specs.Counting.{IsCounted}
use Rattle.cov_session.proofs.Counting.{nodes-fit, lines-few, last-is}
use Rattle.cov_session.proofs.Sided.{grown-by}

-- what is there stays there with a line more
any-after : (t p : ViewLine → Bool) (new : ViewLine) (ls : List ViewLine) → list_any t ls ≡ true → list_any t (after_first p new ls) ≡ true
any-after t p new [] h = absurd (cc)
any-after t p new (l ∷ ls) h = at (p l) (t l) refl h (any-after t p new ls)
  where
    at : (b c : Bool) → t l ≡ c → (c || list_any t ls) ≡ true → (list_any t ls ≡ true → list_any t (after_first p new ls) ≡ true)
        → list_any t (cond b (l ∷ new ∷ ls) (l ∷ after_first p new ls)) ≡ true
    at true true e k rest = ap (λ d. d || (t new || list_any t ls)) e
    at true false e k rest = or_right (t l) (t new || list_any t ls) (or_right (t new) (list_any t ls) k)
    at false true e k rest = ap (λ d. d || list_any t (after_first p new ls)) e
    at false false e k rest = or_right (t l) (list_any t (after_first p new ls)) (rest k)

-- the row of a node whose lines change
row-changed : (f : List ViewLine → List ViewLine) (node : NodeRef) (rows : List ViewRow) → row_at (at_row node (with_lines_by f) rows) node ≡ option_map (with_lines_by f) (row_at rows node)
row-changed f node [] = refl
row-changed f node (r ∷ rows) = at (same_node r.node node) refl (row-changed f node rows)
  where
    at : (b : Bool) → same_node r.node node ≡ b → row_at (at_row node (with_lines_by f) rows) node ≡ option_map (with_lines_by f) (row_at rows node)
        → row_at (cond b (with_lines_by f r ∷ rows) (r ∷ at_row node (with_lines_by f) rows)) node ≡ option_map (with_lines_by f) (cond b (Some r) (row_at rows node))
    at true e rest = ap (λ b. cond b (Some (with_lines_by f r)) (row_at rows node)) e
    at false e rest = ap (λ b. cond b (Some r) (row_at (at_row node (with_lines_by f) rows) node)) e ∙ rest

-- the fault of a deletion, by whether the node is the root, and by its row
abbrev deletes : LineRef → Bool → Option ViewRow → Option EditFault
deletes line root row = line_fault (cond root (Some kinds.Dir) (option_map (λ r. r.kind) row)) (not (is_head line) && option_map_or (λ r. is_among line r.lines) row false)

abbrev inserts : LineRef → Bool → Option ViewRow → Option EditFault
inserts line root row = line_fault (cond root (Some kinds.Dir) (option_map (λ r. r.kind) row)) (is_head line || option_map_or (λ r. is_among line r.lines) row false)

in-row : (line : LineRef) (new : ViewLine) (root : Bool) (row : Option ViewRow) → is_head line ≡ false → inserts line root row ≡ None
    → deletes line root (option_map (with_lines_by (after_ref line new)) row) ≡ None
in-row line new true row not_head h = absurd (cc)
in-row line new false None not_head h = absurd (cc)
in-row line new false (Some r) not_head h = by r.kind (is_among line r.lines) refl (ap (λ b. line_fault (Some r.kind) (b || is_among line r.lines)) (sym not_head) ∙ h)
  where
    still : is_among line r.lines ≡ true → is_among line (after_ref line new r.lines) ≡ true
    still k =
        ap (λ b. is_among line (cond b (new ∷ r.lines) (after_first (λ (l : ViewLine). same_line l.line line) new r.lines))) not_head
        ∙ any-after (λ (l : ViewLine). same_line l.line line) (λ (l : ViewLine). same_line l.line line) new r.lines k

    by : (k : Kind) (there : Bool) → is_among line r.lines ≡ there → line_fault (Some k) there ≡ None → line_fault (Some k) (not (is_head line) && is_among line (after_ref line new r.lines)) ≡ None
    by kinds.Dir there e k = absurd (cc)
    by kinds.File false e k = absurd (cc)
    by kinds.File true e k =
        ap (λ b. line_fault (Some kinds.File) (not b && is_among line (after_ref line new r.lines))) not_head ∙ ap (line_fault (Some kinds.File)) (still e)

-- a line that another can be inserted after, and that isn't the head, can be deleted then
pub deletes-after : (s : Seen) (file : NodeRef) (line : LineRef) (text : List ℕ) → is_head line ≡ false → seen_fault s.rows (edits.Insert file line text) ≡ None
    → seen_fault (seen_after s (edits.Insert file line text)).rows (edits.Delete file line) ≡ None
deletes-after s file line text not_head h =
    let new : ViewLine = record { line = lines.New s.lines_made; text = text } in
    ap (deletes line (is_root file)) (row-changed (after_ref line new) file s.rows) ∙ in-row line new (is_root file) (row_at s.rows file) not_head h

get-at : (es : List Edit) (e : Edit) (more : List Edit) → slice_get (es ++ e ∷ more) (length es) ≡ Some e
get-at [] e more = refl
get-at (d ∷ es) e more = get-at es e more

-- the last edit but one
last-but-one : (all es : List Edit) (e f : Edit) (n : ℕ) → all ≡ es ++ e ∷ f ∷ [] → n ≡ length all → slice_get all (n - 2) ≡ Some e
last-but-one all es e f n is count =
    let l = length-append es (e ∷ f ∷ []) in
    let k : n ≡ length es + 2 = count ∙ ap length is ∙ l in
    let at : n - 2 ≡ length es = omega (arith, k) in
    ap (slice_get all) at ∙ ap (λ fs. slice_get fs (length es)) is ∙ get-at es e (f ∷ [])

-- an edit that is found there, the two having been appended with a side, is the insertion
pub inserted : (side : Formula ℕ) (found e f : Edit) (all ss : List Sided) (n : ℕ) → Some found ≡ slice_get (unsided all) (n - 2) → all ≡ ss ++ on_side side (e ∷ f ∷ []) → n ≡ length all → found ≡ e
inserted side found e f all ss n there pushed count =
    last-is found e (there ∙ last-but-one (unsided all) (unsided ss) e f n (grown-by all ss side (e ∷ f ∷ []) pushed) (count ∙ sym (unsided-length all)))

-- after it a view has room for the deletion
pub delete-fits : (side : Formula ℕ) (old new : Seen) (all ss : List Sided) (bytes n : ℕ) (found f : Edit) (file : NodeRef) (line : LineRef) (text : List ℕ) → IsCounted old (unsided ss) bytes → length (unsided ss) + 2 ≤ LIMITS.edits
    → Some found ≡ slice_get (unsided all) (n - 2) → all ≡ ss ++ on_side side (edits.Insert file line text ∷ f ∷ []) → n ≡ length all
    → new.nodes_made ≡ old.nodes_made + nodes_made (found ∷ []) → new.lines_made ≡ old.lines_made + length (anchors_of 0 (found ∷ [])) → (new.nodes_made < 4294967295) × (new.lines_made < 4294967295)
delete-fits side old new all ss bytes n found f file line text counted room there pushed count nodes lines_then =
    let is = inserted side found (edits.Insert file line text) f all ss n there pushed count in
    let nodes_before = nodes-fit old (unsided ss) bytes counted (omega (arith, room)) in
    let lines_before = lines-few old (unsided ss) bytes counted in
    let same : new.nodes_made ≡ old.nodes_made + nodes_made (edits.Insert file line text ∷ []) = nodes ∙ ap (λ e. old.nodes_made + nodes_made (e ∷ [])) is in
    let more : new.lines_made ≡ old.lines_made + length (anchors_of 0 (edits.Insert file line text ∷ [])) = lines_then ∙ ap (λ e. old.lines_made + length (anchors_of 0 (e ∷ []))) is in
    (omega (arith, nodes_before, same), omega (arith, lines_before, more, room))
