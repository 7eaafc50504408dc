-- A trial, which keeps no lines in order, refuses the same edit first as what is seen of the rows with their lines.
use Rattle.std.proofs.Common.{◌≡◌, refl, ap, sym, ◌∙◌, ℕ, zero, suc, ◌+◌, Bool, true, false, cond, ◌&&◌, ◌||◌, not, nat_eq, nat_lt, List, [], ◌∷◌, ◌++◌, length, map, set, slice_get, Option, Some, None, option_map, unwrap_or, arith}
use Rattle.std.specs.List.{list_any}
use Rattle.std.specs.Option.{option_or}
use Rattle.std.proofs.lemmas.Bool.{and_parts, and_right}
use Rattle.std.proofs.lemmas.Bool.Decides.{nat_tests}
use Rattle.std.proofs.lemmas.List.{map-append}
use Rattle.indexmap.specs.IndexSet.{insert_key}
use Rattle.cov_base.specs.Rows.{Row, AreOnce}
use Rattle.cov_base.specs.declared.number.Kind.{Kind}
use Rattle.cov_base.specs.declared.number.Kind.TheVariants as kinds
use Rattle.cov_base.specs.declared.number.LineRef.{LineRef}
use Rattle.cov_base.specs.declared.number.LineRef.TheVariants as lines
use Rattle.cov_base.specs.declared.number.NodeRef.{NodeRef}
use Rattle.cov_base.specs.declared.number.NodeRef.TheVariants as nodes
use Rattle.cov_base.proofs.CallerLemmas.{any-map, any-push, nat_eq-sym}
use Rattle.cov_dd.specs.declared.triple.Triple.{Triple}
use Rattle.cov_edit.specs.declared.edit.Edit.{Edit}
use Rattle.cov_edit.specs.declared.edit.Edit.TheVariants as edits
use Rattle.cov_view.specs.Lines.{is_among, after_ref, without_ref}
use Rattle.cov_view.specs.References.{is_head, is_new_below, is_root, same_line, same_node}
use Rattle.cov_view.specs.Seen.{Seen, at_row, has_line_in, kind_in, line_fault, move_fault, new_fault, old_line, remove_fault, rename_fault, row_at, has_child, seen_after, seen_fault, with_lines_by, with_name_by, with_parent_by, without_node, AreRows}
use Rattle.cov_view.specs.declared.fault.EditFault.{EditFault}
use Rattle.cov_view.specs.declared.line.ViewLine.{ViewLine}
use Rattle.cov_view.specs.declared.row.ViewRow.{ViewRow}
use Rattle.cov_view.proofs.CallerLemmas.{node-same, rows-after}
use Rattle.cov_visible.specs.Parts.{part_of}
use Rattle.cov_visible.specs.Reading.{stored_rows}
use Rattle.cov_visible.specs.Showing.{bare_row}
use Rattle.cov_visible.specs.Trying.{Trying, deleted_from, file_shows, has_old, has_tried, is_deleted, is_file, is_made_in, place_of, place_refused, place_tried, row_lines, rows_tried, same_old, seen_tried, takes, takes_rows, tried_after, whole_row}
use Rattle.cov_visible.specs.declared.file_part.FilePart.{FilePart}
use Rattle.cov_visible.specs.declared.trial.OldLine.{OldLine}
use Rattle.cov_visible.specs.declared.visible.Visible.{Visible}
use Rattle.cov_visible.proofs.Matching.{among-after, among-without, at-kept, at-lines, at-push, at-without, bared, bared-at, bared-lines, bared-without, has-at, kind-bared, line_at, move-bared, new-bared, remove-bared, rename-bared}
use Rattle.cov_visible.proofs.NamedRows.{all-bared, no-new, none-any, whole-once}
use Rattle.cov_visible.proofs.StoredFiles.{equal}

-- a trial stands for what is seen: it has the same rows, and tells of each file which lines it has
pub record StandsFor (shows : ℕ → ℕ → Bool) (t : Trying) (s : Seen) : Type 0 where
  pub nodes : t.rows.nodes_made ≡ s.nodes_made
  pub made : length t.made ≡ s.lines_made
  pub rows : map bared t.rows.rows ≡ map bared s.rows
  pub once : AreRows s.nodes_made s.rows
  pub lines : (file : NodeRef) (line : LineRef) → kind_in s.rows file ≡ Some kinds.File → line_at s.rows file line ≡ Some (has_tried shows t file line)
  pub own : (i : ℕ) (file : NodeRef) → is_made_in file (slice_get t.made i) ≡ true → is_new_below s.nodes_made file ≡ true

zero-apart : (i : ℕ) → nat_eq 0 (suc i) ≡ false
zero-apart i = grind (arith, nat_tests)

suc-apart : (i : ℕ) → nat_eq (suc i) 0 ≡ false
suc-apart i = grind (arith, nat_tests)

suc-same : (i j : ℕ) → nat_eq (suc i) (suc j) ≡ nat_eq i j
suc-same i j = by (nat_eq i j) refl
  where
    by : (b : Bool) → nat_eq i j ≡ b → nat_eq (suc i) (suc j) ≡ b
    by true e = grind (arith, nat_tests, e)
    by false e = grind (arith, nat_tests, e)

-- a line that edits made is in its file
made-push : (made : List (Option NodeRef)) (file other : NodeRef) (i : ℕ)
    → is_made_in other (slice_get (made ++ Some file ∷ []) i) ≡ ((nat_eq (length made) i && same_node file other) || is_made_in other (slice_get made i))
made-push [] file other zero = sym (or_right (same_node file other) false refl)
  where
    or_right : (a b : Bool) → b ≡ false → (a || b) ≡ a
    or_right true b h = refl
    or_right false b h = h
made-push [] file other (suc i) = ap (λ b. (b && same_node file other) || false) (sym (zero-apart i))
made-push (m ∷ made) file other zero = ap (λ b. (b && same_node file other) || is_made_in other (Some m)) (sym (suc-apart (length made)))
made-push (m ∷ made) file other (suc i) = made-push made file other i ∙ ap (λ b. (b && same_node file other) || is_made_in other (slice_get made i)) (sym (suc-same (length made) i))

-- and in none once it was deleted
made-gone : (made : List (Option NodeRef)) (other : NodeRef) (i j : ℕ) → is_made_in other (slice_get (set made j None) i) ≡ (not (nat_eq i j) && is_made_in other (slice_get made i))
made-gone [] other i j = sym (and_right (not (nat_eq i j)) false refl)
made-gone (m ∷ made) other zero zero = refl
made-gone (m ∷ made) other zero (suc j) = ap (λ b. not b && is_made_in other (Some m)) (sym (zero-apart j))
made-gone (m ∷ made) other (suc i) zero = ap (λ b. not b && is_made_in other (slice_get made i)) (sym (suc-apart i))
made-gone (m ∷ made) other (suc i) (suc j) = made-gone made other i j ∙ ap (λ b. not b && is_made_in other (slice_get made i)) (sym (suc-same i j))

-- it is in no other file
made-elsewhere : (file other : NodeRef) (o : Option (Option NodeRef)) → is_made_in file o ≡ true → same_node file other ≡ false → is_made_in other o ≡ false
made-elsewhere file other None h differ = absurd (cc)
made-elsewhere file other (Some None) h differ = absurd (cc)
made-elsewhere file other (Some (Some f)) h differ = ap (λ n. same_node n other) (node-same f file h) ∙ differ

-- a line of before that is deleted
deleted-more : (ds : List OldLine) (file line x y : ℕ)
    → is_deleted (insert_key same_old ds (record { file = file; line = line })) x y ≡ ((nat_eq x file && nat_eq y line) || is_deleted ds x y)
deleted-more ds file line x y = by (list_any (same_old d) ds) refl
  where
    d : OldLine
    d = record { file = file; line = line }

    q : OldLine
    q = record { file = x; line = y }

    behind : (a b : Bool) → (b || a) ≡ (a || b)
    behind true true = refl
    behind true false = refl
    behind false true = refl
    behind false false = refl

    within : (b : Bool) → (nat_eq x file && nat_eq y line) ≡ b → list_any (same_old d) ds ≡ true → is_deleted ds x y ≡ (b || is_deleted ds x y)
    within true e has =
        let same = and_parts (nat_eq x file) (nat_eq y line) e in
        (λ i. list_any (same_old (record { file = equal x file same.0 i; line = equal y line same.1 i })) ds) ∙ has
    within false e has = refl

    by : (b : Bool) → list_any (same_old d) ds ≡ b → list_any (same_old q) (cond b ds (ds ++ d ∷ [])) ≡ ((nat_eq x file && nat_eq y line) || is_deleted ds x y)
    by true has = within (nat_eq x file && nat_eq y line) refl has
    by false has = any-push (same_old q) ds d ∙ behind (nat_eq x file && nat_eq y line) (is_deleted ds x y)

-- a row's node is one of before, or was made by an edit
row-below : (n : ℕ) (rows : List ViewRow) (file : NodeRef) (r : ViewRow) → AreRows n rows → row_at rows file ≡ Some r → is_new_below n file ≡ true
row-below n [] file r once found = absurd (cc)
row-below n (q ∷ rows) file r once found = by (same_node q.node file) refl found (row-below n rows file r once.3)
  where
    by : (b : Bool) → same_node q.node file ≡ b → cond b (Some q) (row_at rows file) ≡ Some r → (row_at rows file ≡ Some r → is_new_below n file ≡ true) → is_new_below n file ≡ true
    by true e found rest = ap (is_new_below n) (sym (node-same q.node file e)) ∙ once.1
    by false e found rest = rest found

file-below : (n : ℕ) (rows : List ViewRow) (file : NodeRef) → AreRows n rows → kind_in rows file ≡ Some kinds.File → is_new_below n file ≡ true
file-below n rows file once h = by (is_root file) (row_at rows file) refl h
  where
    by : (b : Bool) (o : Option ViewRow) → row_at rows file ≡ o → cond b (Some kinds.Dir) (option_map (λ (r : ViewRow). r.kind) o) ≡ Some kinds.File → is_new_below n file ≡ true
    by true o found is = absurd (cc)
    by false None found is = absurd (cc)
    by false (Some r) found is = row-below n rows file r once found

below-more : (n : ℕ) (file : NodeRef) → is_new_below n file ≡ true → is_new_below (n + 1) file ≡ true
below-more n (nodes.Old x) h = refl
below-more n (nodes.New i) h = grind (arith, nat_tests, h)

-- the kinds of nodes after an edit

kind-kept : (rows news : List ViewRow) (node : NodeRef) → map bared news ≡ map bared rows → kind_in news node ≡ kind_in rows node
kind-kept rows news node same = sym (kind-bared news node) ∙ ap (λ rs. kind_in rs node) same ∙ kind-bared rows node

kind-at : (other node : NodeRef) (f : ViewRow → ViewRow) → ((r : ViewRow) → (f r).node ≡ r.node) → ((r : ViewRow) → (f r).kind ≡ r.kind) → (rows : List ViewRow)
    → kind_in (at_row other f rows) node ≡ kind_in rows node
kind-at other node f same kept rows = ap (cond (is_root node) (Some kinds.Dir)) (from rows)
  where
    kind_of : Option ViewRow → Option Kind
    kind_of o = option_map (λ (r : ViewRow). r.kind) o

    from : (rs : List ViewRow) → kind_of (row_at (at_row other f rs) node) ≡ kind_of (row_at rs node)
    from [] = refl
    from (r ∷ rs) = by (same_node r.node other) (from rs)
      where
        first : (b : Bool) → kind_of (cond b (Some (f r)) (row_at rs node)) ≡ kind_of (cond b (Some r) (row_at rs node))
        first true = ap Some (kept r)
        first false = refl

        behind : (b : Bool) → kind_of (row_at (at_row other f rs) node) ≡ kind_of (row_at rs node) → kind_of (cond b (Some r) (row_at (at_row other f rs) node)) ≡ kind_of (cond b (Some r) (row_at rs node))
        behind true rest = refl
        behind false rest = rest

        by : (a : Bool) → kind_of (row_at (at_row other f rs) node) ≡ kind_of (row_at rs node)
            → kind_of (row_at (cond a (f r ∷ rs) (r ∷ at_row other f rs)) node) ≡ kind_of (cond (same_node r.node node) (Some r) (row_at rs node))
        by true rest = ap (λ n. kind_of (cond (same_node n node) (Some (f r)) (row_at rs node))) (same r) ∙ first (same_node r.node node)
        by false rest = behind (same_node r.node node) rest

row-without : (other node : NodeRef) (rows : List ViewRow) → row_at (without_node other rows) node ≡ cond (same_node node other) None (row_at rows node)
row-without other node [] = none (same_node node other)
  where
    none : (b : Bool) → ◌≡◌ {A = Option ViewRow} None (cond b None None)
    none true = refl
    none false = refl
row-without other node (r ∷ rows) = by (same_node r.node other) (same_node r.node node) refl refl (row-without other node rows)
  where
    by : (a b : Bool) → same_node r.node other ≡ a → same_node r.node node ≡ b → row_at (without_node other rows) node ≡ cond (same_node node other) None (row_at rows node)
        → row_at (cond (not a) (r ∷ without_node other rows) (without_node other rows)) node ≡ cond (same_node node other) None (cond b (Some r) (row_at rows node))
    by true true d e rest =
        let same : same_node node other ≡ true = ap (λ n. same_node n other) (sym (node-same r.node node e)) ∙ d in
        rest ∙ ap (λ k. cond k None (row_at rows node)) same ∙ ap (λ k. cond k None (Some r)) (sym same)
    by true false d e rest = rest
    by false true d e rest =
        let differ : same_node node other ≡ false = ap (λ n. same_node n other) (sym (node-same r.node node e)) ∙ d in
        ap (λ k. cond k (Some r) (row_at (without_node other rows) node)) e ∙ ap (λ k. cond k None (Some r)) (sym differ)
    by false false d e rest = ap (λ k. cond k (Some r) (row_at (without_node other rows) node)) e ∙ rest

row-push : (rows : List ViewRow) (r : ViewRow) (node : NodeRef) → row_at (rows ++ r ∷ []) node ≡ option_or (row_at rows node) (row_at (r ∷ []) node)
row-push [] r node = refl
row-push (q ∷ rows) r node = by (same_node q.node node) (row-push rows r node)
  where
    by : (b : Bool) → row_at (rows ++ r ∷ []) node ≡ option_or (row_at rows node) (row_at (r ∷ []) node)
        → cond b (Some q) (row_at (rows ++ r ∷ []) node) ≡ option_or (cond b (Some q) (row_at rows node)) (row_at (r ∷ []) node)
    by true rest = refl
    by false rest = rest

-- an edit of lines is taken where no fault is seen
line-taken : (k : Option Kind) (a b : Bool) → (k ≡ Some kinds.File → b ≡ a) → (is_file k && a) ≡ takes_rows (line_fault k b)
line-taken None a b h = refl
line-taken (Some kinds.Dir) a b h = refl
line-taken (Some kinds.File) a b h = sym (h refl) ∙ by b
  where
    by : (c : Bool) → c ≡ takes_rows (line_fault (Some kinds.File) c)
    by true = refl
    by false = refl

with_true : (b : Bool) → b ≡ (b && true)
with_true true = refl
with_true false = refl

both-sides : (b : Bool) (x : Bool) → ◌≡◌ {A = Option Bool} (cond b (Some x) (Some x)) (Some x)
both-sides true x = refl
both-sides false x = refl

module _ (shows : ℕ → ℕ → Bool) (t : Trying) (s : Seen) (h : StandsFor shows t s) where
  kinds-same : (node : NodeRef) → kind_in t.rows.rows node ≡ kind_in s.rows node
  kinds-same node = kind-kept s.rows t.rows.rows node h.rows

  had : (file : NodeRef) (line : LineRef) → kind_in t.rows.rows file ≡ Some kinds.File → has_line_in s.rows file line ≡ has_tried shows t file line
  had file line is = has-at s.rows file line ∙ ap (λ o. unwrap_or o false) (h.lines file line (sym (kinds-same file) ∙ is))

  -- an edit is taken where no fault is seen
  pub taken-same : (e : Edit) → takes shows t e ≡ takes_rows (seen_fault s.rows e)
  taken-same e = by e
    where
      of : (F : List ViewRow → Option EditFault) → ((rows : List ViewRow) → F (map bared rows) ≡ F rows) → takes_rows (F t.rows.rows) ≡ takes_rows (F s.rows)
      of F same = ap takes_rows (sym (same t.rows.rows) ∙ ap F h.rows ∙ same s.rows)

      by : (d : Edit) → takes shows t d ≡ takes_rows (seen_fault s.rows d)
      by (edits.New kind parent name) = of (λ rows. new_fault (kind_in rows parent) (has_child rows parent name)) (λ rows. new-bared rows parent name)
      by (edits.Insert file after text) =
          line-taken (kind_in t.rows.rows file) (is_head after || has_tried shows t file after) (is_head after || has_line_in s.rows file after) (λ is. ap (λ b. is_head after || b) (had file after is))
          ∙ ap (λ k. takes_rows (line_fault k (is_head after || has_line_in s.rows file after))) (kinds-same file)
      by (edits.Delete file line) =
          line-taken (kind_in t.rows.rows file) (not (is_head line) && has_tried shows t file line) (not (is_head line) && has_line_in s.rows file line) (λ is. ap (λ b. not (is_head line) && b) (had file line is))
          ∙ ap (λ k. takes_rows (line_fault k (not (is_head line) && has_line_in s.rows file line))) (kinds-same file)
      by (edits.Rename node name) = of (λ rows. rename_fault rows node name) (λ rows. rename-bared rows node name)
      by (edits.Move node parent) = of (λ rows. move_fault rows node parent) (λ rows. move-bared rows node parent)
      by (edits.Remove node) = of (λ rows. remove_fault rows node) (λ rows. remove-bared rows node)

  -- then it stands for what is seen after it

  after-new : (kind : Kind) (parent : NodeRef) (name : List ℕ) → StandsFor shows (tried_after t (edits.New kind parent name)) (seen_after s (edits.New kind parent name))
  after-new kind parent name = record {
    nodes = ap (λ n. n + 1) h.nodes;
    made = h.made;
    rows = map-append bared t.rows.rows (new t.rows ∷ []) ∙ (λ i. h.rows i ++ record { node = nodes.New (h.nodes i); kind = kind; parent = parent; name = name; lines = [] } ∷ []) ∙ sym (map-append bared s.rows (new s ∷ []));
    once = rows-after s (edits.New kind parent name) h.once;
    lines = λ file line is. by file line (row_at s.rows file) refl (sym (ap (λ o. cond (is_root file) (Some kinds.Dir) (option_map (λ (r : ViewRow). r.kind) o)) (row-push s.rows (new s) file)) ∙ is);
    own = λ i file is. below-more s.nodes_made file (h.own i file is);
  }
    where
      new : Seen → ViewRow
      new u = record { node = nodes.New u.nodes_made; kind = kind; parent = parent; name = name; lines = [] }

      none-made : (i : ℕ) → false ≡ is_made_in (nodes.New s.nodes_made) (slice_get t.made i)
      none-made i = from (is_made_in (nodes.New s.nodes_made) (slice_get t.made i)) refl
        where
          from : (b : Bool) → is_made_in (nodes.New s.nodes_made) (slice_get t.made i) ≡ b → false ≡ b
          from true is = let below : nat_lt s.nodes_made s.nodes_made ≡ true = h.own i (nodes.New s.nodes_made) is in absurd (grind (arith, nat_tests, below))
          from false is = refl

      none-had : (line : LineRef) → false ≡ has_tried shows t (nodes.New s.nodes_made) line
      none-had (lines.Old x) = refl
      none-had (lines.New i) = none-made i

      by : (file : NodeRef) (line : LineRef) (o : Option ViewRow) → row_at s.rows file ≡ o
          → cond (is_root file) (Some kinds.Dir) (option_map (λ (r : ViewRow). r.kind) (option_or o (row_at (new s ∷ []) file))) ≡ Some kinds.File
          → line_at (s.rows ++ new s ∷ []) file line ≡ Some (has_tried shows t file line)
      by file line (Some r) found is =
          let kind_is : kind_in s.rows file ≡ Some kinds.File = ap (λ o. cond (is_root file) (Some kinds.Dir) (option_map (λ (q : ViewRow). q.kind) o)) found ∙ is in
          at-push s.rows (new s) file line ∙ ap (λ o. option_or o (line_at (new s ∷ []) file line)) (h.lines file line kind_is)
      by file line None found is =
          at-push s.rows (new s) file line
          ∙ ap (λ (o : Option ViewRow). option_or (option_map (λ (q : ViewRow). is_among line q.lines) o) (line_at (new s ∷ []) file line)) found
          ∙ made (same_node (nodes.New s.nodes_made) file) (is_root file) refl is
        where
          made : (b root : Bool) → same_node (nodes.New s.nodes_made) file ≡ b
              → cond root (Some kinds.Dir) (option_map (λ (r : ViewRow). r.kind) (cond b (Some (new s)) None)) ≡ Some kinds.File
              → option_map (λ (q : ViewRow). is_among line q.lines) (cond b (Some (new s)) None) ≡ Some (has_tried shows t file line)
          made true root e kind_is = ap Some (none-had line ∙ ap (λ n. has_tried shows t n line) (node-same (nodes.New s.nodes_made) file e))
          made false true e kind_is = absurd (cc)
          made false false e kind_is = absurd (cc)

  after-insert : (file : NodeRef) (after : LineRef) (text : List ℕ) → kind_in s.rows file ≡ Some kinds.File
      → StandsFor shows (tried_after t (edits.Insert file after text)) (seen_after s (edits.Insert file after text))
  after-insert file after text is_there = record {
    nodes = h.nodes;
    made = count t.made ∙ ap (λ n. n + 1) h.made;
    rows = h.rows ∙ sym (bared-lines file put s.rows);
    once = rows-after s (edits.Insert file after text) h.once;
    lines = λ other line is.
        at-lines file other line put (λ b. same_line (lines.New s.lines_made) line || b) (among-after line after new) s.rows
        ∙ ap (λ o. cond (same_node file other) (option_map (λ b. same_line (lines.New s.lines_made) line || b) o) o)
        (h.lines other line (sym (kind-kept s.rows (at_row file (with_lines_by put) s.rows) other (bared-lines file put s.rows)) ∙ is))
        ∙ by other line;
    own = λ i other is. mine i other (sym (made-push t.made file other i) ∙ is);
  }
    where
      new : ViewLine
      new = record { line = lines.New s.lines_made; text = text }

      put : List ViewLine → List ViewLine
      put = after_ref after new

      count : (made : List (Option NodeRef)) → length (made ++ Some file ∷ []) ≡ length made + 1
      count [] = refl
      count (m ∷ made) = let rest = count made in omega (arith, rest)

      by : (other : NodeRef) (line : LineRef)
          → cond (same_node file other) (Some (same_line (lines.New s.lines_made) line || has_tried shows t other line)) (Some (has_tried shows t other line))
          ≡ Some (has_tried shows (tried_after t (edits.Insert file after text)) other line)
      by (nodes.Old x) (lines.Old y) = both-sides (same_node file (nodes.Old x)) (has_old shows t (nodes.Old x) y)
      by (nodes.New j) (lines.Old y) = both-sides (same_node file (nodes.New j)) false
      by other (lines.New i) = at (same_node file other) ∙ ap Some (sym (made-push t.made file other i))
        where
          at : (b : Bool) → cond b (Some (nat_eq s.lines_made i || is_made_in other (slice_get t.made i))) (Some (is_made_in other (slice_get t.made i)))
              ≡ Some ((nat_eq (length t.made) i && b) || is_made_in other (slice_get t.made i))
          at true = ap (λ n. Some (nat_eq n i || is_made_in other (slice_get t.made i))) (sym h.made) ∙ ap (λ b. Some (b || is_made_in other (slice_get t.made i))) (with_true (nat_eq (length t.made) i))
          at false = ap (λ b. Some (b || is_made_in other (slice_get t.made i))) (sym (and_right (nat_eq (length t.made) i) false refl))

      mine : (i : ℕ) (other : NodeRef) → ((nat_eq (length t.made) i && same_node file other) || is_made_in other (slice_get t.made i)) ≡ true → is_new_below s.nodes_made other ≡ true
      mine i other is = from (nat_eq (length t.made) i) (same_node file other) refl is
        where
          from : (a b : Bool) → same_node file other ≡ b → ((a && b) || is_made_in other (slice_get t.made i)) ≡ true → is_new_below s.nodes_made other ≡ true
          from true true e k = ap (is_new_below s.nodes_made) (sym (node-same file other e)) ∙ file-below s.nodes_made s.rows file h.once is_there
          from true false e k = h.own i other k
          from false b e k = h.own i other k

  after-delete : (file : NodeRef) (line : LineRef) → has_tried shows t file line ≡ true → StandsFor shows (tried_after t (edits.Delete file line)) (seen_after s (edits.Delete file line))
  after-delete file line there = record {
    nodes = of-nodes file line;
    made = of-made file line;
    rows = of-rows file line ∙ h.rows ∙ sym (bared-lines file (without_ref line) s.rows);
    once = rows-after s (edits.Delete file line) h.once;
    lines = λ other kept is.
        at-lines file other kept (without_ref line) (λ b. not (same_line kept line) && b) (among-without kept line) s.rows
        ∙ ap (λ o. cond (same_node file other) (option_map (λ b. not (same_line kept line) && b) o) o)
        (h.lines other kept (sym (kind-kept s.rows (at_row file (with_lines_by (without_ref line)) s.rows) other (bared-lines file (without_ref line) s.rows)) ∙ is))
        ∙ by file line there other kept;
    own = λ i other is. h.own i other (of-own file line i other is);
  }
    where
      of-nodes : (f : NodeRef) (l : LineRef) → (deleted_from t f l).rows.nodes_made ≡ s.nodes_made
      of-nodes (nodes.Old x) (lines.Old y) = h.nodes
      of-nodes (nodes.New i) (lines.Old y) = h.nodes
      of-nodes f (lines.New i) = h.nodes

      count : (made : List (Option NodeRef)) (i : ℕ) → length (set made i None) ≡ length made
      count [] i = refl
      count (m ∷ made) zero = refl
      count (m ∷ made) (suc i) = ap suc (count made i)

      of-made : (f : NodeRef) (l : LineRef) → length (deleted_from t f l).made ≡ s.lines_made
      of-made (nodes.Old x) (lines.Old y) = h.made
      of-made (nodes.New i) (lines.Old y) = h.made
      of-made f (lines.New i) = count t.made i ∙ h.made

      of-rows : (f : NodeRef) (l : LineRef) → map bared (deleted_from t f l).rows.rows ≡ map bared t.rows.rows
      of-rows (nodes.Old x) (lines.Old y) = refl
      of-rows (nodes.New i) (lines.Old y) = refl
      of-rows f (lines.New i) = refl

      of-own : (f : NodeRef) (l : LineRef) (i : ℕ) (other : NodeRef) → is_made_in other (slice_get (deleted_from t f l).made i) ≡ true → is_made_in other (slice_get t.made i) ≡ true
      of-own (nodes.Old x) (lines.Old y) i other is = is
      of-own (nodes.New j) (lines.Old y) i other is = is
      of-own f (lines.New j) i other is = (and_parts (not (nat_eq i j)) (is_made_in other (slice_get t.made i)) (sym (made-gone t.made other i j) ∙ is)).1

      by : (f : NodeRef) (l : LineRef) → has_tried shows t f l ≡ true → (other : NodeRef) (kept : LineRef)
          → cond (same_node f other) (Some (not (same_line kept l) && has_tried shows t other kept)) (Some (has_tried shows t other kept)) ≡ Some (has_tried shows (deleted_from t f l) other kept)
      by (nodes.New j) (lines.Old y) has other kept = absurd (cc)
      by (nodes.Old x) (lines.Old y) has (nodes.New j) (lines.Old w) = refl
      by (nodes.Old x) (lines.Old y) has (nodes.Old v) (lines.Old w) =
          of (nat_eq x v) (nat_eq w y) (shows v w) (is_deleted t.deleted v w)
          ∙ (λ i. Some (shows v w && not ((nat_eq-sym x v i && nat_eq w y) || is_deleted t.deleted v w)))
          ∙ ap (λ b. Some (shows v w && not b)) (sym (deleted-more t.deleted x y v w))
        where
          of : (a b c d : Bool) → cond a (Some (not b && (c && not d))) (Some (c && not d)) ≡ Some (c && not ((a && b) || d))
          of true true true true = refl
          of true true true false = refl
          of true true false d = refl
          of true false c d = refl
          of false b c d = refl
      by (nodes.Old x) (lines.Old y) has other (lines.New i) = both-sides (same_node (nodes.Old x) other) (is_made_in other (slice_get t.made i))
      by f (lines.New j) has (nodes.Old v) (lines.Old w) = both-sides (same_node f (nodes.Old v)) (has_old shows t (nodes.Old v) w)
      by f (lines.New j) has (nodes.New v) (lines.Old w) = both-sides (same_node f (nodes.New v)) false
      by f (lines.New j) has other (lines.New i) = of (same_node f other) refl ∙ ap Some (sym (made-gone t.made other i j))
        where
          elsewhere : same_node f other ≡ false → (b : Bool) → nat_eq i j ≡ b → is_made_in other (slice_get t.made i) ≡ (not b && is_made_in other (slice_get t.made i))
          elsewhere differ true same = (λ k. is_made_in other (slice_get t.made (equal i j same k))) ∙ made-elsewhere f other (slice_get t.made j) has differ
          elsewhere differ false same = refl

          of : (b : Bool) → same_node f other ≡ b
              → cond b (Some (not (nat_eq i j) && is_made_in other (slice_get t.made i))) (Some (is_made_in other (slice_get t.made i))) ≡ Some (not (nat_eq i j) && is_made_in other (slice_get t.made i))
          of true e = refl
          of false e = ap Some (elsewhere e (nat_eq i j) refl)

  after-rename : (node : NodeRef) (name : List ℕ) → StandsFor shows (tried_after t (edits.Rename node name)) (seen_after s (edits.Rename node name))
  after-rename node name = record {
    nodes = h.nodes;
    made = h.made;
    rows = bared-at node (with_name_by name) t.rows.rows (λ r. refl) ∙ ap (at_row node (with_name_by name)) h.rows ∙ sym (bared-at node (with_name_by name) s.rows (λ r. refl));
    once = rows-after s (edits.Rename node name) h.once;
    lines = λ file line is.
        at-kept node file line (with_name_by name) (λ r. refl) (λ r. refl) s.rows
        ∙ h.lines file line (sym (kind-at node file (with_name_by name) (λ r. refl) (λ r. refl) s.rows) ∙ is);
    own = h.own;
  }

  after-move : (node parent : NodeRef) → StandsFor shows (tried_after t (edits.Move node parent)) (seen_after s (edits.Move node parent))
  after-move node parent = record {
    nodes = h.nodes;
    made = h.made;
    rows = bared-at node (with_parent_by parent) t.rows.rows (λ r. refl) ∙ ap (at_row node (with_parent_by parent)) h.rows ∙ sym (bared-at node (with_parent_by parent) s.rows (λ r. refl));
    once = rows-after s (edits.Move node parent) h.once;
    lines = λ file line is.
        at-kept node file line (with_parent_by parent) (λ r. refl) (λ r. refl) s.rows
        ∙ h.lines file line (sym (kind-at node file (with_parent_by parent) (λ r. refl) (λ r. refl) s.rows) ∙ is);
    own = h.own;
  }

  after-remove : (node : NodeRef) → StandsFor shows (tried_after t (edits.Remove node)) (seen_after s (edits.Remove node))
  after-remove node = record {
    nodes = h.nodes;
    made = h.made;
    rows = bared-without node t.rows.rows ∙ ap (without_node node) h.rows ∙ sym (bared-without node s.rows);
    once = rows-after s (edits.Remove node) h.once;
    lines = λ file line is.
        at-without node file line s.rows
        ∙ by file line (is_root file) (same_node file node) refl (sym (ap (λ o. cond (is_root file) (Some kinds.Dir) (option_map (λ (r : ViewRow). r.kind) o)) (row-without node file s.rows)) ∙ is);
    own = h.own;
  }
    where
      by : (file : NodeRef) (line : LineRef) (root b : Bool) → is_root file ≡ root
          → cond root (Some kinds.Dir) (option_map (λ (r : ViewRow). r.kind) (cond b None (row_at s.rows file))) ≡ Some kinds.File
          → cond b None (line_at s.rows file line) ≡ Some (has_tried shows t file line)
      by file line true b e is = absurd (cc)
      by file line false true e is = absurd (cc)
      by file line false false e is = h.lines file line (ap (λ r. cond r (Some kinds.Dir) (option_map (λ (q : ViewRow). q.kind) (row_at s.rows file))) e ∙ is)

  -- what is taken is taken of a file, and of lines that are there
  there : (file : NodeRef) (b : Bool) → (is_file (kind_in t.rows.rows file) && b) ≡ true → (kind_in s.rows file ≡ Some kinds.File) × (b ≡ true)
  there file b is =
      let parts = and_parts (is_file (kind_in t.rows.rows file)) b is in
      (sym (kinds-same file) ∙ file-kind (kind_in t.rows.rows file) parts.0, parts.1)
    where
      file-kind : (k : Option Kind) → is_file k ≡ true → k ≡ Some kinds.File
      file-kind None e = absurd (cc)
      file-kind (Some kinds.File) e = refl
      file-kind (Some kinds.Dir) e = absurd (cc)

  pub stands-after : (e : Edit) → takes shows t e ≡ true → StandsFor shows (tried_after t e) (seen_after s e)
  stands-after (edits.New kind parent name) taken = after-new kind parent name
  stands-after (edits.Insert file after text) taken = after-insert file after text (there file (is_head after || has_tried shows t file after) taken).0
  stands-after (edits.Delete file line) taken =
      after-delete file line (and_parts (not (is_head line)) (has_tried shows t file line) (there file (not (is_head line) && has_tried shows t file line) taken).1).1
  stands-after (edits.Rename node name) taken = after-rename node name
  stands-after (edits.Move node parent) taken = after-move node parent
  stands-after (edits.Remove node) taken = after-remove node

-- so the first edit that isn't taken is the first that is refused
pub place-tried : (shows : ℕ → ℕ → Bool) (i : ℕ) (t : Trying) (s : Seen) (es : List Edit) → StandsFor shows t s → place_tried shows i t es ≡ place_refused i s es
place-tried shows i t s [] h = refl
place-tried shows i t s (e ∷ es) h = by (seen_fault s.rows e) refl (λ taken. place-tried shows (i + 1) (tried_after t e) (seen_after s e) es (stands-after shows t s h e taken))
  where
    by : (o : Option EditFault) → seen_fault s.rows e ≡ o
        → (takes shows t e ≡ true → place_tried shows (i + 1) (tried_after t e) es ≡ place_refused (i + 1) (seen_after s e) es)
        → cond (takes shows t e) (place_tried shows (i + 1) (tried_after t e) es) (Some i) ≡ place_of i o (place_refused (i + 1) (seen_after s e) es)
    by None is rest =
        let taken : takes shows t e ≡ true = taken-same shows t s h e ∙ ap takes_rows is in
        ap (λ b. cond b (place_tried shows (i + 1) (tried_after t e) es) (Some i)) taken ∙ rest taken
    by (Some f) is rest = ap (λ b. cond b (place_tried shows (i + 1) (tried_after t e) es) (Some i)) (taken-same shows t s h e ∙ ap takes_rows is)

module _ (ts : List Triple) (c : List Bool) (at : ℕ) (stored : List FilePart) where
  abbrev pub shown : ℕ → ℕ → Bool
  shown = file_shows ts c at stored

  -- a file shows a line where it is among its lines
  among-rows : (x : ℕ) (line : LineRef) (t : Trying) → t.made ≡ [] → t.deleted ≡ [] → is_among line (row_lines ts c at stored kinds.File x) ≡ has_tried shown t (nodes.Old x) line
  among-rows x (lines.Old y) t made deleted =
      any-map (λ (l : ViewLine). same_line l.line (lines.Old y)) old_line (stored_rows ts c at (part_of stored x)) ∙ with_true (shown x y) ∙ ap (λ ds. shown x y && not (is_deleted ds x y)) (sym deleted)
  among-rows x (lines.New i) t made deleted =
      any-map (λ (l : ViewLine). same_line l.line (lines.New i)) old_line (stored_rows ts c at (part_of stored x))
      ∙ none-any (λ r. false) (stored_rows ts c at (part_of stored x)) (λ r. refl) ∙ ap (λ ms. is_made_in (nodes.Old x) (slice_get ms i)) (sym made)

  row-shown : (rs : List Row) (x : ℕ) (line : LineRef) (t : Trying) → t.made ≡ [] → t.deleted ≡ []
      → option_map (λ (r : ViewRow). r.kind) (row_at (map (whole_row ts c at stored) rs) (nodes.Old x)) ≡ Some kinds.File → line_at (map (whole_row ts c at stored) rs) (nodes.Old x) line ≡ Some (has_tried shown t (nodes.Old x) line)
  row-shown [] x line t made deleted is = absurd (cc)
  row-shown (r ∷ rs) x line t made deleted is = by (nat_eq r.node x) refl is (row-shown rs x line t made deleted)
    where
      own : (k : Kind) → k ≡ kinds.File → is_among line (row_lines ts c at stored k x) ≡ has_tried shown t (nodes.Old x) line
      own k e = ap (λ d. is_among line (row_lines ts c at stored d x)) e ∙ among-rows x line t made deleted

      by : (b : Bool) → nat_eq r.node x ≡ b
          → option_map (λ (q : ViewRow). q.kind) (cond b (Some (whole_row ts c at stored r)) (row_at (map (whole_row ts c at stored) rs) (nodes.Old x))) ≡ Some kinds.File
          → (option_map (λ (q : ViewRow). q.kind) (row_at (map (whole_row ts c at stored) rs) (nodes.Old x)) ≡ Some kinds.File
          → line_at (map (whole_row ts c at stored) rs) (nodes.Old x) line ≡ Some (has_tried shown t (nodes.Old x) line))
          → option_map (λ (q : ViewRow). is_among line q.lines) (cond b (Some (whole_row ts c at stored r)) (row_at (map (whole_row ts c at stored) rs) (nodes.Old x))) ≡ Some (has_tried shown t (nodes.Old x) line)
      by true e is rest = let kind_is : r.kind ≡ kinds.File = cc in ap (λ y. Some (is_among line (row_lines ts c at stored r.kind y))) (equal r.node x e) ∙ ap Some (own r.kind kind_is)
      by false e is rest = rest is

  -- at the start a trial stands for the rows with their lines
  pub starts : (rs : List Row) (t : Trying) → t.rows ≡ record { rows = map bare_row rs; nodes_made = 0; lines_made = 0 } → t.made ≡ [] → t.deleted ≡ [] → AreOnce rs
      → StandsFor shown t (record { rows = map (whole_row ts c at stored) rs; nodes_made = 0; lines_made = 0 })
  starts rs t rows made deleted once = record {
    nodes = ap (λ (s : Seen). s.nodes_made) rows;
    made = ap length made;
    rows = ap (λ (s : Seen). map bared s.rows) rows ∙ all-bared ts c at stored rs;
    once = whole-once ts c at stored rs once.0 once.1;
    lines = by;
    own = λ i file is. let none : is_made_in file (slice_get t.made i) ≡ false = ap (λ ms. is_made_in file (slice_get ms i)) made in absurd (cc);
  }
    where
      by : (file : NodeRef) (line : LineRef) → kind_in (map (whole_row ts c at stored) rs) file ≡ Some kinds.File → line_at (map (whole_row ts c at stored) rs) file line ≡ Some (has_tried shown t file line)
      by (nodes.Old zero) line is = absurd (cc)
      by (nodes.Old (suc x)) line is = row-shown rs (suc x) line t made deleted is
      by (nodes.New i) line is =
          let none : option_map (λ (r : ViewRow). r.kind) (row_at (map (whole_row ts c at stored) rs) (nodes.New i)) ≡ None = ap (option_map (λ (r : ViewRow). r.kind)) (no-new ts c at stored (whole_row ts c at stored) (λ r. refl) i rs) in
          absurd (cc)

-- the first edit that isn't taken from the start on is the first that is refused on what edits are tried on
pub tried-as-seen : (v : Visible) (c : List Bool) (at : ℕ) (es : List Edit) (rs : List Row) (t : Trying) → rs ≡ rows_tried v c at es
    → t.rows ≡ record { rows = map bare_row rs; nodes_made = 0; lines_made = 0 } → t.made ≡ [] → t.deleted ≡ [] → AreOnce rs
    → place_tried (file_shows v.table c at v.files) 0 t es ≡ place_refused 0 (seen_tried v c at es) es
tried-as-seen v c at es rs t is rows made deleted once =
    place-tried (file_shows v.table c at v.files) 0 t (record { rows = map (whole_row v.table c at v.files) rs; nodes_made = 0; lines_made = 0 }) es (starts v.table c at v.files rs t rows made deleted once)
    ∙ ap (λ qs. place_refused 0 (record { rows = map (whole_row v.table c at v.files) qs; nodes_made = 0; lines_made = 0 }) es) is
