-- Lemmas on edits and their numbers, for the proofs of callers.
pub use Rattle.cov_edit.proofs.Examples.{absent_anchor, commit, make_m}
pub use Rattle.cov_edit.proofs.Limits.{limits-most, upgraded-append}
pub use Rattle.cov_edit.proofs.Replays.{all-apply, all_within, behind-numbered, changes_within-append, each_change, fold-append, none-apply, none_outside, nothing_outside, numbers_from-append, replay-append, replay-commit, those_that_apply}
pub use Rattle.cov_edit.proofs.Rising.{all-rest, opened, rest-is, rest_of}
pub use Rattle.cov_edit.proofs.Sides.{ambition-low, conditions-low, edits-fit, outside-ambition, sides-low, unsided-append, unsided-length}
pub use Rattle.cov_edit.proofs.TouchedNodes.{touched-rising}
use Rattle.std.proofs.Common.{◌≡◌, ◌∙◌, refl, ap, ℕ, suc, ◌+◌, ◌≤◌, List, [], ◌∷◌, ◌++◌, length, Option, Some, None, arith}
use Rattle.std.specs.List.{cons_option}
use Rattle.std.proofs.lemmas.List.Sums.{sum_by-append}
use Rattle.cov_base.specs.Addresses.{with_line, with_lines}
use Rattle.cov_edit.specs.declared.edit.Edit.{Edit}
use Rattle.cov_edit.specs.declared.edit.Edit.TheVariants as edits
use Rattle.cov_edit.specs.History.{text_bytes, edit_bytes}
use Rattle.cov_edit.specs.Numbering.{Numbers, node_count_after, line_count_after, nodes_made, anchor_of, anchors_of, numbered_edit, numbered_from}

-- what edits make is what the first of them make and then the others
pub anchors-append : (m : ℕ) (es fs : List Edit) → anchors_of m (es ++ fs) ≡ anchors_of m es ++ anchors_of m fs
anchors-append m [] fs = refl
anchors-append m (e ∷ es) fs = ap (cons_option (anchor_of m e)) (anchors-append m es fs) ∙ behind (anchor_of m e)
  where
    behind : (o : Option ℕ) → cons_option o (anchors_of m es ++ anchors_of m fs) ≡ cons_option o (anchors_of m es) ++ anchors_of m fs
    behind None = refl
    behind (Some x) = refl

-- nodes and lines that are counted after an edit, or the edit after them
pub node_count_after-is : (node n : ℕ) (e : Edit) → node + node_count_after n e ≡ node_count_after node e + n
node_count_after-is node n (edits.New kind parent name) = omega arith
node_count_after-is node n (edits.Insert file after text) = refl
node_count_after-is node n (edits.Delete file line) = refl
node_count_after-is node n (edits.Rename which name) = refl
node_count_after-is node n (edits.Move which parent) = refl
node_count_after-is node n (edits.Remove which) = refl

pub line_count_after-is : (line m : ℕ) (e : Edit) (ms : List ℕ) → line + length (cons_option (anchor_of m e) ms) ≡ line_count_after line e + length ms
line_count_after-is line m (edits.New kind parent name) ms = refl
line_count_after-is line m (edits.Insert file after text) ms = omega arith
line_count_after-is line m (edits.Delete file which) ms = refl
line_count_after-is line m (edits.Rename node name) ms = refl
line_count_after-is line m (edits.Move node parent) ms = refl
line_count_after-is line m (edits.Remove node) ms = refl

node_count_after-most : (n : ℕ) (e : Edit) → node_count_after n e ≤ n + 1
node_count_after-most n (edits.New kind parent name) = omega arith
node_count_after-most n (edits.Insert file after text) = omega arith
node_count_after-most n (edits.Delete file line) = omega arith
node_count_after-most n (edits.Rename node name) = omega arith
node_count_after-most n (edits.Move node parent) = omega arith
node_count_after-most n (edits.Remove node) = omega arith

pub nodes-append : (es fs : List Edit) → nodes_made (es ++ fs) ≡ nodes_made es + nodes_made fs
nodes-append [] fs = omega arith
nodes-append (e ∷ es) fs =
    let n = nodes-append es fs in
    let a = node_count_after-is 0 (nodes_made (es ++ fs)) e in
    let b = node_count_after-is 0 (nodes_made es) e in
    omega (arith, n, a, b)

-- edits make no more nodes and lines than there are edits
pub nodes-most : (es : List Edit) → nodes_made es ≤ length es
nodes-most [] = omega arith
nodes-most (e ∷ es) = let n = nodes-most es in let m = node_count_after-most (nodes_made es) e in omega (arith, n, m)

pub lines-most : (m : ℕ) (es : List Edit) → length (anchors_of m es) ≤ length es
lines-most m [] = omega arith
lines-most m (e ∷ es) = more (anchor_of m e) (lines-most m es)
  where
    more : (o : Option ℕ) → length (anchors_of m es) ≤ length es → length (cons_option o (anchors_of m es)) ≤ suc (length es)
    more None h = omega (arith, h)
    more (Some x) h = omega (arith, h)

pub with_lines-append : (t : List (List ℕ)) (ms ns : List ℕ) → with_lines t (ms ++ ns) ≡ with_lines (with_lines t ms) ns
with_lines-append t [] ns = refl
with_lines-append t (m ∷ ms) ns = with_lines-append (with_line t m) ms ns

-- edits after others are numbered after what these made
pub numbered-append : (ns : Numbers) (t : List (List ℕ)) (node line k l m : ℕ) (es fs : List Edit) → k ≡ node + nodes_made es → l ≡ line + length (anchors_of m es)
    → numbered_from ns t node line (es ++ fs) ≡ numbered_from ns t node line es ++ numbered_from ns t k l fs
numbered-append ns t node line k l m [] fs e f =
    let a : node ≡ k = omega (arith, e) in
    let b : line ≡ l = omega (arith, f) in
    ap (λ x. numbered_from ns t x line fs) a ∙ ap (λ y. numbered_from ns t k y fs) b
numbered-append ns t node line k l m (d ∷ es) fs e f =
    ap (λ ds. numbered_edit ns t node line d ∷ ds)
    (numbered-append ns t (node_count_after node d) (line_count_after line d) k l m es fs (e ∙ node_count_after-is node (nodes_made es) d) (f ∙ line_count_after-is line m d (anchors_of m es)))

pub bytes-append : (es fs : List Edit) → text_bytes (es ++ fs) ≡ text_bytes es + text_bytes fs
bytes-append es fs = sum_by-append edit_bytes es fs

-- edits insert as many lines wherever their numbers begin
pub anchors-same_count : (m n : ℕ) (es : List Edit) → length (anchors_of m es) ≡ length (anchors_of n es)
anchors-same_count m n [] = refl
anchors-same_count m n (e ∷ es) =
    let a = line_count_after-is 0 m e (anchors_of m es) in
    let b = line_count_after-is 0 n e (anchors_of n es) in
    let c = anchors-same_count m n es in
    omega (arith, a, b, c)
