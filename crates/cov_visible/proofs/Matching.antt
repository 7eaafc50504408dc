-- What is seen of rows without their lines, and what is known of a line after an edit.
use Rattle.std.proofs.Common.{◌≡◌, refl, ap, sym, ◌∙◌, ℕ, zero, suc, Bool, true, false, cond, ◌&&◌, ◌||◌, not, List, [], ◌∷◌, ◌++◌, length, map, Option, Some, None, option_map, is_some, unwrap_or}
use Rattle.std.specs.Option.{option_map_or, option_or}
use Rattle.std.specs.Str.{bytes_eq}
use Rattle.std.proofs.lemmas.List.{length-map}
use Rattle.std.proofs.lemmas.Map.Views.{any-filter_same}
use Rattle.cov_base.specs.Addresses.{after_first}
use Rattle.cov_base.specs.declared.number.Kind.TheVariants as kinds
use Rattle.cov_base.specs.declared.number.LineRef.{LineRef}
use Rattle.cov_base.specs.declared.number.NodeRef.{NodeRef}
use Rattle.cov_base.proofs.CallerLemmas.{any-map, or_left_comm}
use Rattle.cov_view.specs.Lines.{is_among, after_ref, without_ref}
use Rattle.cov_view.specs.References.{is_head, is_root, same_line, same_node}
use Rattle.cov_view.specs.Seen.{at_row, has_child, has_child_beside, has_child_of, has_children, has_line_in, is_there, kind_in, kind_is_dir, lies_within, move_fault, new_fault, remove_fault, rename_fault, row_at, with_lines_by, without_node}
use Rattle.cov_view.specs.declared.fault.EditFault.TheVariants as faults
use Rattle.cov_view.specs.declared.line.ViewLine.{ViewLine}
use Rattle.cov_view.specs.declared.row.ViewRow.{ViewRow}
use Rattle.cov_view.proofs.CallerLemmas.{line-same, node-same, same_node-sym}

-- a row without its lines
abbrev pub bared : ViewRow → ViewRow
bared r = record { node = r.node; kind = r.kind; parent = r.parent; name = r.name; lines = [] }

-- whether the row of a node has a line, if there is such a row
abbrev pub line_at : List ViewRow → NodeRef → LineRef → Option Bool
line_at rows node line = option_map (λ (r : ViewRow). is_among line r.lines) (row_at rows node)

-- what is seen of rows without their lines

pub row_at-bared : (rows : List ViewRow) (node : NodeRef) → row_at (map bared rows) node ≡ option_map bared (row_at rows node)
row_at-bared [] node = refl
row_at-bared (r ∷ rows) node = by (same_node r.node node) (row_at-bared rows node)
  where
    by : (b : Bool) → row_at (map bared rows) node ≡ option_map bared (row_at rows node)
        → cond b (Some (bared r)) (row_at (map bared rows) node) ≡ option_map bared (cond b (Some r) (row_at rows node))
    by true rest = refl
    by false rest = rest

pub kind-bared : (rows : List ViewRow) (node : NodeRef) → kind_in (map bared rows) node ≡ kind_in rows node
kind-bared rows node = ap (λ o. cond (is_root node) (Some kinds.Dir) (option_map (λ (r : ViewRow). r.kind) o)) (row_at-bared rows node) ∙ ap (λ k. cond (is_root node) (Some kinds.Dir) k) (same (row_at rows node))
  where
    same : (o : Option ViewRow) → option_map (λ (r : ViewRow). r.kind) (option_map bared o) ≡ option_map (λ (r : ViewRow). r.kind) o
    same None = refl
    same (Some r) = refl

child-bared : (rows : List ViewRow) (dir : NodeRef) (name : List ℕ) → has_child (map bared rows) dir name ≡ has_child rows dir name
child-bared rows dir name = any-map (λ (r : ViewRow). same_node r.parent dir && bytes_eq r.name name) bared rows

beside-bared : (rows : List ViewRow) (node : NodeRef) (name : List ℕ) → has_child_beside (map bared rows) (row_at (map bared rows) node) name ≡ has_child_beside rows (row_at rows node) name
beside-bared rows node name = ap (λ o. has_child_beside (map bared rows) o name) (row_at-bared rows node) ∙ same (row_at rows node)
  where
    same : (o : Option ViewRow) → has_child_beside (map bared rows) (option_map bared o) name ≡ has_child_beside rows o name
    same None = refl
    same (Some r) = child-bared rows r.parent name

of-bared : (rows : List ViewRow) (dir node : NodeRef) → has_child_of (map bared rows) dir (row_at (map bared rows) node) ≡ has_child_of rows dir (row_at rows node)
of-bared rows dir node = ap (λ o. has_child_of (map bared rows) dir o) (row_at-bared rows node) ∙ same (row_at rows node)
  where
    same : (o : Option ViewRow) → has_child_of (map bared rows) dir (option_map bared o) ≡ has_child_of rows dir o
    same None = refl
    same (Some r) = child-bared rows dir r.name

within-bared : (rows : List ViewRow) (steps : ℕ) (top node : NodeRef) → lies_within (map bared rows) steps top node ≡ lies_within rows steps top node
within-bared rows zero top node = refl
within-bared rows (suc steps) top node =
    ap (λ o. same_node node top || option_map_or (λ (r : ViewRow). lies_within (map bared rows) steps top r.parent) o false) (row_at-bared rows node)
    ∙ ap (λ b. same_node node top || b) (same (row_at rows node) (λ dir. within-bared rows steps top dir))
  where
    same : (o : Option ViewRow) → ((dir : NodeRef) → lies_within (map bared rows) steps top dir ≡ lies_within rows steps top dir)
        → option_map_or (λ (r : ViewRow). lies_within (map bared rows) steps top r.parent) (option_map bared o) false ≡ option_map_or (λ (r : ViewRow). lies_within rows steps top r.parent) o false
    same None h = refl
    same (Some r) h = h r.parent

children-bared : (rows : List ViewRow) (node : NodeRef) → has_children (map bared rows) node ≡ has_children rows node
children-bared rows node = any-map (λ (r : ViewRow). same_node r.parent node) bared rows

-- an edit of rows is refused on rows without their lines as with them
pub new-bared : (rows : List ViewRow) (parent : NodeRef) (name : List ℕ) → new_fault (kind_in (map bared rows) parent) (has_child (map bared rows) parent name) ≡ new_fault (kind_in rows parent) (has_child rows parent name)
new-bared rows parent name = λ i. new_fault (kind-bared rows parent i) (child-bared rows parent name i)

pub rename-bared : (rows : List ViewRow) (node : NodeRef) (name : List ℕ) → rename_fault (map bared rows) node name ≡ rename_fault rows node name
rename-bared rows node name = λ i. cond (is_root node) (Some faults.IsRoot) (cond (not (is_some (kind-bared rows node i))) (Some faults.NoSuchNode) (cond (beside-bared rows node name i) (Some faults.NameTaken) None))

pub move-bared : (rows : List ViewRow) (node parent : NodeRef) → move_fault (map bared rows) node parent ≡ move_fault rows node parent
move-bared rows node parent =
    (λ i. cond (is_root node) (Some faults.IsRoot) (cond (not (is_some (kind-bared rows node i))) (Some faults.NoSuchNode) (cond (not (is_some (kind-bared rows parent i))) (Some faults.NoSuchNode)
    (cond (not (kind_is_dir (kind-bared rows parent i))) (Some faults.NotDirectory) (cond (lies_within (map bared rows) (length-map rows bared i) node parent) (Some faults.IntoItself)
    (cond (of-bared rows parent node i) (Some faults.NameTaken) None))))))
    ∙ ap (λ b. cond (is_root node) (Some faults.IsRoot) (cond (not (is_there rows node)) (Some faults.NoSuchNode) (cond (not (is_there rows parent)) (Some faults.NoSuchNode)
    (cond (not (kind_is_dir (kind_in rows parent))) (Some faults.NotDirectory) (cond b (Some faults.IntoItself) (cond (has_child_of rows parent (row_at rows node)) (Some faults.NameTaken) None))))))
    (within-bared rows (length rows) node parent)

pub remove-bared : (rows : List ViewRow) (node : NodeRef) → remove_fault (map bared rows) node ≡ remove_fault rows node
remove-bared rows node = λ i. cond (is_root node) (Some faults.IsRoot) (cond (not (is_some (kind-bared rows node i))) (Some faults.NoSuchNode) (cond (children-bared rows node i) (Some faults.NotEmpty) None))

-- whether a row has a line is what is known of it
pub has-at : (rows : List ViewRow) (node : NodeRef) (line : LineRef) → has_line_in rows node line ≡ unwrap_or (line_at rows node line) false
has-at rows node line = by (row_at rows node)
  where
    by : (o : Option ViewRow) → option_map_or (λ (r : ViewRow). is_among line r.lines) o false ≡ unwrap_or (option_map (λ (r : ViewRow). is_among line r.lines) o) false
    by None = refl
    by (Some r) = refl

-- what rows without their lines are after an edit

pub bared-lines : (node : NodeRef) (f : List ViewLine → List ViewLine) (rows : List ViewRow) → map bared (at_row node (with_lines_by f) rows) ≡ map bared rows
bared-lines node f [] = refl
bared-lines node f (r ∷ rows) = by (same_node r.node node) (bared-lines node f rows)
  where
    by : (b : Bool) → map bared (at_row node (with_lines_by f) rows) ≡ map bared rows → map bared (cond b (with_lines_by f r ∷ rows) (r ∷ at_row node (with_lines_by f) rows)) ≡ bared r ∷ map bared rows
    by true rest = refl
    by false rest = ap (λ rs. bared r ∷ rs) rest

pub bared-at : (node : NodeRef) (f : ViewRow → ViewRow) (rows : List ViewRow) → ((r : ViewRow) → bared (f r) ≡ f (bared r)) → map bared (at_row node f rows) ≡ at_row node f (map bared rows)
bared-at node f [] same = refl
bared-at node f (r ∷ rows) same = by (same_node r.node node) (bared-at node f rows same)
  where
    by : (b : Bool) → map bared (at_row node f rows) ≡ at_row node f (map bared rows) → map bared (cond b (f r ∷ rows) (r ∷ at_row node f rows)) ≡ cond b (f (bared r) ∷ map bared rows) (bared r ∷ at_row node f (map bared rows))
    by true rest = ap (λ q. q ∷ map bared rows) (same r)
    by false rest = ap (λ rs. bared r ∷ rs) rest

pub bared-without : (node : NodeRef) (rows : List ViewRow) → map bared (without_node node rows) ≡ without_node node (map bared rows)
bared-without node [] = refl
bared-without node (r ∷ rows) = by (not (same_node r.node node)) (bared-without node rows)
  where
    by : (b : Bool) → map bared (without_node node rows) ≡ without_node node (map bared rows)
        → map bared (cond b (r ∷ without_node node rows) (without_node node rows)) ≡ cond b (bared r ∷ without_node node (map bared rows)) (without_node node (map bared rows))
    by true rest = ap (λ rs. bared r ∷ rs) rest
    by false rest = rest

-- what is known of a line after an edit

-- where a row gets other lines, of which it has one by what it had of it before
pub at-lines : (file node : NodeRef) (line : LineRef) (f : List ViewLine → List ViewLine) (g : Bool → Bool) → ((ls : List ViewLine) → is_among line (f ls) ≡ g (is_among line ls)) → (rows : List ViewRow)
    → line_at (at_row file (with_lines_by f) rows) node line ≡ cond (same_node file node) (option_map g (line_at rows node line)) (line_at rows node line)
at-lines file node line f g is [] = none (same_node file node)
  where
    none : (b : Bool) → ◌≡◌ {A = Option Bool} None (cond b None None)
    none true = refl
    none false = refl
at-lines file node line f g is (r ∷ rows) = by (same_node r.node file) (same_node r.node node) refl refl (at-lines file node line f g is rows)
  where
    has : Option ViewRow → Option Bool
    has o = option_map (λ (q : ViewRow). is_among line q.lines) o

    by : (a b : Bool) → same_node r.node file ≡ a → same_node r.node node ≡ b
        → line_at (at_row file (with_lines_by f) rows) node line ≡ cond (same_node file node) (option_map g (line_at rows node line)) (line_at rows node line)
        → has (row_at (cond a (with_lines_by f r ∷ rows) (r ∷ at_row file (with_lines_by f) rows)) node)
        ≡ cond (same_node file node) (option_map g (has (cond b (Some r) (row_at rows node)))) (has (cond b (Some r) (row_at rows node)))
    by true true d e rest =
        let same : same_node file node ≡ true = ap (λ n. same_node n node) (sym (node-same r.node file d)) ∙ e in
        ap (λ k. has (cond k (Some (with_lines_by f r)) (row_at rows node))) e ∙ ap Some (is r.lines) ∙ ap (λ k. cond k (Some (g (is_among line r.lines))) (Some (is_among line r.lines))) (sym same)
    by true false d e rest =
        let differ : same_node file node ≡ false = ap (λ n. same_node n node) (sym (node-same r.node file d)) ∙ e in
        ap (λ k. has (cond k (Some (with_lines_by f r)) (row_at rows node))) e ∙ ap (λ k. cond k (option_map g (line_at rows node line)) (line_at rows node line)) (sym differ)
    by false true d e rest =
        let differ : same_node file node ≡ false = ap (λ n. same_node file n) (sym (node-same r.node node e)) ∙ same_node-sym file r.node ∙ d in
        ap (λ k. has (cond k (Some r) (row_at (at_row file (with_lines_by f) rows) node))) e ∙ ap (λ k. cond k (Some (g (is_among line r.lines))) (Some (is_among line r.lines))) (sym differ)
    by false false d e rest = ap (λ k. has (cond k (Some r) (row_at (at_row file (with_lines_by f) rows) node))) e ∙ rest

-- where a row gets another name or parent
pub at-kept : (other node : NodeRef) (line : LineRef) (f : ViewRow → ViewRow) → ((r : ViewRow) → (f r).node ≡ r.node) → ((r : ViewRow) → (f r).lines ≡ r.lines) → (rows : List ViewRow)
    → line_at (at_row other f rows) node line ≡ line_at rows node line
at-kept other node line f same kept [] = refl
at-kept other node line f same kept (r ∷ rows) = by (same_node r.node other) (at-kept other node line f same kept rows)
  where
    has : Option ViewRow → Option Bool
    has o = option_map (λ (q : ViewRow). is_among line q.lines) o

    first : (b : Bool) → has (cond b (Some (f r)) (row_at rows node)) ≡ has (cond b (Some r) (row_at rows node))
    first true = ap (λ ls. Some (is_among line ls)) (kept r)
    first false = refl

    behind : (b : Bool) → line_at (at_row other f rows) node line ≡ line_at rows node line → has (cond b (Some r) (row_at (at_row other f rows) node)) ≡ has (cond b (Some r) (row_at rows node))
    behind true rest = refl
    behind false rest = rest

    by : (a : Bool) → line_at (at_row other f rows) node line ≡ line_at rows node line → has (row_at (cond a (f r ∷ rows) (r ∷ at_row other f rows)) node) ≡ has (cond (same_node r.node node) (Some r) (row_at rows node))
    by true rest = ap (λ n. has (cond (same_node n node) (Some (f r)) (row_at rows node))) (same r) ∙ first (same_node r.node node)
    by false rest = behind (same_node r.node node) rest

-- where a row is put behind
pub at-push : (rows : List ViewRow) (r : ViewRow) (node : NodeRef) (line : LineRef) → line_at (rows ++ r ∷ []) node line ≡ option_or (line_at rows node line) (line_at (r ∷ []) node line)
at-push [] r node line = refl
at-push (q ∷ rows) r node line = by (same_node q.node node) (at-push rows r node line)
  where
    has : Option ViewRow → Option Bool
    has o = option_map (λ (q : ViewRow). is_among line q.lines) o

    by : (b : Bool) → line_at (rows ++ r ∷ []) node line ≡ option_or (line_at rows node line) (line_at (r ∷ []) node line)
        → has (cond b (Some q) (row_at (rows ++ r ∷ []) node)) ≡ option_or (has (cond b (Some q) (row_at rows node))) (line_at (r ∷ []) node line)
    by true rest = refl
    by false rest = rest

-- where a row is taken out
pub at-without : (other node : NodeRef) (line : LineRef) (rows : List ViewRow) → line_at (without_node other rows) node line ≡ cond (same_node node other) None (line_at rows node line)
at-without other node line [] = none (same_node node other)
  where
    none : (b : Bool) → ◌≡◌ {A = Option Bool} None (cond b None None)
    none true = refl
    none false = refl
at-without other node line (r ∷ rows) = by (same_node r.node other) (same_node r.node node) refl refl (at-without other node line rows)
  where
    has : Option ViewRow → Option Bool
    has o = option_map (λ (q : ViewRow). is_among line q.lines) o

    by : (a b : Bool) → same_node r.node other ≡ a → same_node r.node node ≡ b → line_at (without_node other rows) node line ≡ cond (same_node node other) None (line_at rows node line)
        → has (row_at (cond (not a) (r ∷ without_node other rows) (without_node other rows)) node) ≡ cond (same_node node other) None (has (cond b (Some r) (row_at rows node)))
    by true true d e rest =
        let same : same_node node other ≡ true = ap (λ n. same_node n other) (sym (node-same r.node node e)) ∙ d in
        rest ∙ ap (λ k. cond k None (line_at rows node line)) same ∙ ap (λ k. cond k None (Some (is_among line r.lines))) (sym same)
    by true false d e rest = rest
    by false true d e rest =
        let differ : same_node node other ≡ false = ap (λ n. same_node n other) (sym (node-same r.node node e)) ∙ d in
        ap (λ k. has (cond k (Some r) (row_at (without_node other rows) node))) e ∙ ap (λ k. cond k None (Some (is_among line r.lines))) (sym differ)
    by false false d e rest = ap (λ k. has (cond k (Some r) (row_at (without_node other rows) node))) e ∙ rest

-- a line that is put in is there, and so are those that were
pub among-after : (line after : LineRef) (new : ViewLine) (ls : List ViewLine) → is_among line (after_ref after new ls) ≡ (same_line new.line line || is_among line ls)
among-after line after new ls = by (is_head after)
  where
    behind : (ms : List ViewLine) → is_among line (after_first (λ (l : ViewLine). same_line l.line after) new ms) ≡ (same_line new.line line || is_among line ms)
    behind [] = refl
    behind (m ∷ ms) = at (same_line m.line after) (behind ms)
      where
        at : (b : Bool) → is_among line (after_first (λ (l : ViewLine). same_line l.line after) new ms) ≡ (same_line new.line line || is_among line ms)
            → is_among line (cond b (m ∷ new ∷ ms) (m ∷ after_first (λ (l : ViewLine). same_line l.line after) new ms)) ≡ (same_line new.line line || (same_line m.line line || is_among line ms))
        at true rest = or_left_comm (same_line m.line line) (same_line new.line line) (is_among line ms)
        at false rest = ap (λ b. same_line m.line line || b) rest ∙ or_left_comm (same_line m.line line) (same_line new.line line) (is_among line ms)

    by : (b : Bool) → is_among line (cond b (new ∷ ls) (after_first (λ (l : ViewLine). same_line l.line after) new ls)) ≡ (same_line new.line line || is_among line ls)
    by true = refl
    by false = behind ls

-- of the others a line that is taken out takes none with it
pub among-without : (line gone : LineRef) (ls : List ViewLine) → is_among line (without_ref gone ls) ≡ (not (same_line line gone) && is_among line ls)
among-without line gone ls =
    any-filter_same (λ l. same_line l.line line) (λ l. not (same_line l.line gone)) (not (same_line line gone)) (λ l is. ap (λ m. not (same_line m gone)) (line-same l.line line is)) ls
