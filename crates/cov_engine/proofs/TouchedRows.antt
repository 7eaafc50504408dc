-- A variant with the rows of the nodes that edits touch, and of no others, refuses the same edit first, if all of them change lines.
use Rattle.std.proofs.Common.{◌≡◌, refl, ap, sym, ◌∙◌, ℕ, zero, suc, ◌+◌, ◌<◌, ◌≤◌, Bool, true, false, cond, ◌&&◌, ◌||◌, not, nat_eq, nat_lt, List, [], ◌∷◌, length, is_some, Option, Some, None, arith}
use Rattle.std.specs.List.{list_any, filter_map, cons_option, AllByRecursion}
use Rattle.std.proofs.lemmas.Bool.{or_parts, or_right}
use Rattle.std.proofs.lemmas.Bool.Decides.{nat_tests}
use Rattle.cov_base.specs.Rows.{Row, row_of}
use Rattle.cov_base.specs.declared.number.LineRef.{LineRef}
use Rattle.cov_base.specs.declared.number.NodeRef.{NodeRef}
use Rattle.cov_base.specs.declared.number.NodeRef.TheVariants as nodes
use Rattle.cov_base.proofs.CallerLemmas.{is_some-find}
use Rattle.cov_edit.specs.declared.edit.Edit.{Edit}
use Rattle.cov_edit.specs.declared.edit.Edit.TheVariants as edits
use Rattle.cov_edit.specs.Numbering.{Numbers, NumberedEdit, OnRows, Inserted, Deleted, line_count_after, node_count_after, node_number, numbered_edit, numbered_from, numbers_after}
use Rattle.cov_edit.specs.Touched.{has_number, touched, touched_by}
use Rattle.cov_edit.specs.Variant.{Variant, edited}
use Rattle.cov_edit.proofs.CallerLemmas.{touched-rising}
use Rattle.cov_history.specs.RowChanges.{changes_rows}
use Rattle.cov_tree.specs.Dated.{among}
use Rattle.cov_tree.proofs.CallerLemmas.{among_row}
use Rattle.cov_view.specs.References.{is_head, is_known_node}
use Rattle.cov_view.specs.Refusals.{when, first_of, shows_node, shows_line, is_dir, row_is_dir, refusal, refused_at, refused_from, first_refused}
use Rattle.cov_view.specs.declared.fault.EditFault.TheVariants as faults
use Rattle.cov_visible.proofs.CallerLemmas.{rows-of}

module _ (kept : ℕ → Bool) where
  -- each kept node has the same row in two variants, or in neither
  abbrev HaveRows : Variant → Variant → Type 0
  HaveRows v w = (x : ℕ) → kept x ≡ true → row_of v.rows x ≡ row_of w.rows x

  -- the file whose lines an edit names, if it names one's, is kept
  abbrev pub IsKept : ℕ → Edit → Type 0
  IsKept n (edits.New kind parent name) = Unit {0}
  IsKept n (edits.Insert file after text) = kept (node_number n file) ≡ true
  IsKept n (edits.Delete file line) = kept (node_number n file) ≡ true
  IsKept n (edits.Rename node name) = Unit {0}
  IsKept n (edits.Move node parent) = Unit {0}
  IsKept n (edits.Remove node) = Unit {0}

  module _ (ns : Numbers) (v w : Variant) (rows : HaveRows v w) (lines : v.lines ≡ w.lines) where
    line-same : (file : ℕ) (line : LineRef) → shows_line ns v file line ≡ shows_line ns w file line
    line-same file line = ap (λ ls. shows_line ns (record { rows = v.rows; lines = ls }) file line) lines

    node-same : (node : NodeRef) → kept (node_number ns.nodes node) ≡ true → shows_node ns v node ≡ shows_node ns w node
    node-same node own =
        let x = node_number ns.nodes node in
        ap (λ b. is_known_node ns.nodes node && (nat_eq x 0 || b))
        (sym (is_some-find (λ r. nat_eq r.node x) v.rows) ∙ ap is_some (rows x own) ∙ is_some-find (λ r. nat_eq r.node x) w.rows)

    dir-same : (x : ℕ) → kept x ≡ true → is_dir v.rows x ≡ is_dir w.rows x
    dir-same zero own = refl
    dir-same (suc x) own = ap row_is_dir (rows (suc x) own)

    -- they refuse the same edits of lines
    refusal-of_lines : (e : Edit) → changes_rows e ≡ false → IsKept ns.nodes e → refusal ns v e ≡ refusal ns w e
    refusal-of_lines (edits.New kind parent name) is own = absurd (cc)
    refusal-of_lines (edits.Insert file after text) is own = λ i.
        first_of (when (not (node-same file own i)) faults.NoSuchNode ∷ when (dir-same (node_number ns.nodes file) own i) faults.NotFile
        ∷ when (not (is_head after || line-same (node_number ns.nodes file) after i)) faults.NoSuchLine ∷ [])
    refusal-of_lines (edits.Delete file line) is own = λ i.
        first_of (when (not (node-same file own i)) faults.NoSuchNode ∷ when (dir-same (node_number ns.nodes file) own i) faults.NotFile
        ∷ when (is_head line || not (line-same (node_number ns.nodes file) line i)) faults.NoSuchLine ∷ [])
    refusal-of_lines (edits.Rename node name) is own = absurd (cc)
    refusal-of_lines (edits.Move node parent) is own = absurd (cc)
    refusal-of_lines (edits.Remove node) is own = absurd (cc)

  -- they have the same lines after an edit
  lines-edited : (v w : Variant) (d : NumberedEdit) → v.lines ≡ w.lines → (edited v d).lines ≡ (edited w d).lines
  lines-edited v w (OnRows change) same = same
  lines-edited v w (Inserted file address text) same = ap (λ ls. (edited (record { rows = v.rows; lines = ls }) (Inserted file address text)).lines) same
  lines-edited v w (Deleted file address) same = ap (λ ls. (edited (record { rows = v.rows; lines = ls }) (Deleted file address)).lines) same

  -- and the rows that they had after one of lines
  rows-edited : (ns : Numbers) (table : List (List ℕ)) (n l : ℕ) (v w : Variant) (e : Edit) → changes_rows e ≡ false → HaveRows v w
      → HaveRows (edited v (numbered_edit ns table n l e)) (edited w (numbered_edit ns table n l e))
  rows-edited ns table n l v w (edits.New kind parent name) is rows = absurd (cc)
  rows-edited ns table n l v w (edits.Insert file after text) is rows = rows
  rows-edited ns table n l v w (edits.Delete file line) is rows = rows
  rows-edited ns table n l v w (edits.Rename node name) is rows = absurd (cc)
  rows-edited ns table n l v w (edits.Move node parent) is rows = absurd (cc)
  rows-edited ns table n l v w (edits.Remove node) is rows = absurd (cc)

  -- they refuse the same edit of lines first
  refused-of_lines : (ns : Numbers) (table : List (List ℕ)) (n l : ℕ) (v w : Variant) (i : ℕ) (es : List Edit) → list_any changes_rows es ≡ false → HaveRows v w → v.lines ≡ w.lines
      → AllByRecursion (IsKept ns.nodes) es → refused_from ns v i es (numbered_from ns table n l es) ≡ refused_from ns w i es (numbered_from ns table n l es)
  refused-of_lines ns table n l v w i [] all rows lines own = refl
  refused-of_lines ns table n l v w i (e ∷ es) all rows lines own =
      let are = or_parts (changes_rows e) (list_any changes_rows es) all in
      let d = numbered_edit ns table n l e in λ j.
      refused_at i (refusal-of_lines ns v w rows lines e are.0 own.0 j)
      (refused-of_lines ns table (node_count_after n e) (line_count_after l e) (edited v d) (edited w d) (i + 1) es are.1 (rows-edited ns table n l v w e are.0 rows) (lines-edited v w d lines) own.1 j)

-- whether edits touch a file, or make it after so many nodes
abbrev pub is_kept : ℕ → List ℕ → ℕ → Bool
is_kept n xs file = has_number file xs || nat_lt n file

-- a node beyond those that were made has none
row-beyond : (n x : ℕ) (rows : List Row) → AllByRecursion (λ r. r.node ≤ n) rows → n < x → row_of rows x ≡ None
row-beyond n x [] made beyond = refl
row-beyond n x (r ∷ rows) made beyond =
    let own = made.0 in
    let differs : nat_eq r.node x ≡ false = grind (arith, nat_tests, own, beyond) in
    ap (λ b. cond b (Some r) (row_of rows x)) differs ∙ row-beyond n x rows made.1 beyond

-- the rows of touched nodes are all those of kept ones
only-rows : (n : ℕ) (xs : List ℕ) (v w : Variant) → AllByRecursion (λ r. r.node ≤ n) w.rows → v.rows ≡ among xs w.rows → HaveRows (is_kept n xs) v w
only-rows n xs v w made are x own = ap (λ rows. row_of rows x) are ∙ among_row xs w.rows x ∙ by (has_number x xs) refl
  where
    by : (b : Bool) → has_number x xs ≡ b → cond b (row_of w.rows x) None ≡ row_of w.rows x
    by true e = refl
    by false e =
        let above : nat_lt n x ≡ true = ap (λ b. b || nat_lt n x) (sym e) ∙ own in
        let beyond : n < x = grind (arith, nat_tests, above) in sym (row-beyond n x w.rows made beyond)

first-has : (o : Option ℕ) (x : ℕ) (xs : List ℕ) → o ≡ Some x → has_number x (cons_option o xs) ≡ true
first-has None x xs h = absurd (cc)
first-has (Some y) x xs h =
    let same : y ≡ x = cc in
    let is : nat_eq y x ≡ true = grind (arith, nat_tests, same) in
    ap (λ b. b || has_number x xs) is

rest-has : (o : Option ℕ) (x : ℕ) (xs : List ℕ) → has_number x xs ≡ true → has_number x (cons_option o xs) ≡ true
rest-has None x xs h = h
rest-has (Some y) x xs h = ap (λ b. nat_eq y x || b) h ∙ or_right (nat_eq y x) true refl

-- the files whose lines edits name are kept
all-kept : (n : ℕ) (es : List Edit) → AllByRecursion (IsKept (is_kept n (touched es)) n) es
all-kept n es = from es (λ x h. (touched-rising es).1 x ∙ h)
  where
    new : (i : ℕ) → is_kept n (touched es) (n + 1 + i) ≡ true
    new i = let above : nat_lt n (n + 1 + i) ≡ true = grind (arith, nat_tests) in ap (λ b. has_number (n + 1 + i) (touched es) || b) above ∙ or_right (has_number (n + 1 + i) (touched es)) true refl

    old : (x : ℕ) → has_number x (touched es) ≡ true → is_kept n (touched es) x ≡ true
    old x h = ap (λ b. b || nat_lt n x) h

    one : (e : Edit) → ((x : ℕ) → touched_by e ≡ Some x → has_number x (touched es) ≡ true) → IsKept (is_kept n (touched es)) n e
    one (edits.New kind parent name) h = tt
    one (edits.Insert (nodes.Old x) after text) h = old x (h x refl)
    one (edits.Insert (nodes.New i) after text) h = new i
    one (edits.Delete (nodes.Old x) line) h = old x (h x refl)
    one (edits.Delete (nodes.New i) line) h = new i
    one (edits.Rename node name) h = tt
    one (edits.Move node parent) h = tt
    one (edits.Remove node) h = tt

    from : (fs : List Edit) → ((x : ℕ) → has_number x (filter_map touched_by fs) ≡ true → has_number x (touched es) ≡ true) → AllByRecursion (IsKept (is_kept n (touched es)) n) fs
    from [] h = tt
    from (f ∷ fs) h = (one f (λ x is. h x (first-has (touched_by f) x (filter_map touched_by fs) is)), from fs (λ x k. h x (rest-has (touched_by f) x (filter_map touched_by fs) k)))

-- a variant with these rows and the same lines refuses the same of them first
pub tried-same : (ns : Numbers) (v w : Variant) (es : List Edit) → AllByRecursion (λ r. r.node ≤ ns.nodes) w.rows → v.rows ≡ rows-of es w.rows → v.lines ≡ w.lines → first_refused ns v es ≡ first_refused ns w es
tried-same ns v w es made rows lines = by (list_any changes_rows es) refl
  where
    are : (b : Bool) → list_any changes_rows es ≡ b → v.rows ≡ cond b w.rows (among (touched es) w.rows)
    are b e = rows ∙ ap (λ k. cond k w.rows (among (touched es) w.rows)) e

    by : (b : Bool) → list_any changes_rows es ≡ b → first_refused ns v es ≡ first_refused ns w es
    by true e = λ i. first_refused ns (record { rows = are true e i; lines = lines i }) es
    by false e =
        refused-of_lines (is_kept ns.nodes (touched es)) ns (numbers_after ns es).addresses ns.nodes (length ns.addresses) v w 0 es e
        (only-rows ns.nodes (touched es) v w made (are false e)) lines (all-kept ns.nodes es)
