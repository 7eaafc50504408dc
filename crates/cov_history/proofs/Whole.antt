-- What a history holds has all that the history makes.
use Rattle.std.proofs.Common.{◌≡◌, ℕ, zero, suc, ◌+◌, ◌<◌, ◌≤◌, Bool, true, false, cond, ◌||◌, nat_eq, Some, List, [], ◌∷◌, ◌++◌, ◌⊎◌, inl, inr, length, length-append, map, slice_get, append_assoc, append-nil, refl, sym, ap, subst, ◌∙◌, arith}
use Rattle.std.specs.List.{fold, list_any, cons_option}
use Rattle.std.proofs.lemmas.Bool.{or_right}
use Rattle.std.proofs.lemmas.Bool.Decides.{nat_tests}
use Rattle.std.proofs.lemmas.List.Folds.{list_any-append}
use Rattle.cov_base.specs.Addresses.{address_in, placed, IsTable}
use Rattle.cov_base.specs.Rows.{Row, RowChange, Created, Renamed, Moved, Removed, with_name, with_parent}
use Rattle.cov_base.specs.declared.number.Kind.{Kind}
use Rattle.cov_base.proofs.CallerLemmas.{line_of-in, length-with_lines}
use Rattle.cov_order.specs.Orders.{has_line}
use Rattle.cov_expr.specs.Formula.{Formula}
use Rattle.cov_edit.specs.declared.edit.Edit.{Edit}
use Rattle.cov_edit.specs.declared.edit.Edit.TheVariants as edits
use Rattle.cov_edit.specs.declared.command.Command.{Command}
use Rattle.cov_edit.specs.declared.command.Command.TheVariants as commands
use Rattle.cov_edit.specs.Numbering.{Numbers, node_number, line_number, node_count_after, line_count_after, nodes_made, anchors_of, no_numbers, numbers_after, numbers_from, numbers_of, numbered_edit, numbered_from}
use Rattle.cov_edit.specs.Replay.{first_within, rest_within, changes_within, commit_changes}
use Rattle.cov_edit.specs.Sides.{unsided, conditions}
use Rattle.cov_edit.specs.Variant.{Line, is_line}
use Rattle.cov_edit.proofs.CallerLemmas.{node_count_after-is, line_count_after-is}
use Rattle.cov_history.specs.Kept.{Kept, hidden, taken_up, hidden_where, replaced_where, kept_address, kept_number, new_item, new_line, kept_with, is_row, rows_kept_after, entries_after, entries_with, Holding, nothing_held, held_with, held_from, kept_of, file_kept, is_kept_anchor}
use Rattle.cov_history.specs.Files.{file_order}
use Rattle.cov_history.specs.FileOfLine.{new_file, new_file_of_line, file_of_line_from, file_of_line_in, AreFilesOfLines, IsWhole}
use Rattle.cov_history.proofs.Appends.{lines-edits, rows-edits}
use Rattle.cov_history.proofs.Deletes.{order-hidden, lines-apart}
use Rattle.cov_history.proofs.Files.{anchor-case, anchor-stays, anchor-new}
use Rattle.cov_history.proofs.Orders.{any-mapped}
use Rattle.cov_history.proofs.Standing.{table-after, no_table, holding-stands}

-- each line's file
pub files_of_lines-stay : (ks ks' : List (Kept Line)) → ((file line : ℕ) → is_kept_anchor file line ks ≡ true → is_kept_anchor file line ks' ≡ true) → (k : ℕ) (file_of_line : List ℕ) → AreFilesOfLines ks k file_of_line → AreFilesOfLines ks' k file_of_line
files_of_lines-stay ks ks' f k [] h = tt
files_of_lines-stay ks ks' f k (file ∷ file_of_line) h = (f file (k + 1) h.0, files_of_lines-stay ks ks' f (k + 1) file_of_line h.1)

pub file_of_line-more : (ks : List (Kept Line)) (file k : ℕ) (file_of_line : List ℕ) → AreFilesOfLines ks k file_of_line → is_kept_anchor file (k + length file_of_line + 1) ks ≡ true → AreFilesOfLines ks k (file_of_line ++ file ∷ [])
file_of_line-more ks file k [] h own = (subst (λ j. is_kept_anchor file j ks ≡ true) (let same : k + 0 + 1 ≡ k + 1 = omega arith in same) own, tt)
file_of_line-more ks file k (x ∷ file_of_line) h own =
    (h.0, file_of_line-more ks file (k + 1) file_of_line h.1 (subst (λ j. is_kept_anchor file j ks ≡ true) (let same : k + suc (length file_of_line) + 1 ≡ k + 1 + length file_of_line + 1 = omega arith in same) own))

-- the file that is noted of a line has it
pub file_of_line-has : (ks : List (Kept Line)) (n i : ℕ) (file_of_line : List ℕ) (file : ℕ) → AreFilesOfLines ks n file_of_line → slice_get file_of_line i ≡ Some file → is_kept_anchor file (n + i + 1) ks ≡ true
file_of_line-has ks n i [] file h e = absurd (cc)
file_of_line-has ks n zero (f ∷ file_of_line) file h e =
    let same : f ≡ file = cc in
    let first : n + 1 ≡ n + 0 + 1 = omega arith in
    subst (λ m. is_kept_anchor file m ks ≡ true) first (subst (λ g. is_kept_anchor g (n + 1) ks ≡ true) same h.0)
file_of_line-has ks n (suc i) (f ∷ file_of_line) file h e =
    let next : n + 1 + i + 1 ≡ n + suc i + 1 = omega arith in
    subst (λ m. is_kept_anchor file m ks ≡ true) next (file_of_line-has ks (n + 1) i file_of_line file h.1 e)

anchor-hidden : (test : Line → Bool) (q : ℕ) (within : Formula ℕ) (file line : ℕ) (ks : List (Kept Line)) → is_kept_anchor file line (map (hidden_where test q within) ks) ≡ is_kept_anchor file line ks
anchor-hidden test q within file line ks =
    ap (λ b. nat_eq line 0 || b)
    (sym (any-mapped kept_number line (file_kept file (map (hidden_where test q within) ks))) ∙ ap (has_line line) (order-hidden test q within file ks)
    ∙ any-mapped kept_number line (file_kept file ks))

-- edits keep each line in its file, and put each new one into its own
file_of_line-edits : (q : ℕ) (within : List (Formula ℕ)) (ns : Numbers) (t : List (List ℕ)) (node line m : ℕ) (es : List Edit) (ks : List (Kept Line)) (file_of_line : List ℕ)
    → IsTable t → line + length (anchors_of m es) ≤ length t → length file_of_line ≡ line → AreFilesOfLines ks 0 file_of_line
    → AreFilesOfLines (fold (kept_with q) ks (changes_within within (numbered_from ns t node line es))) 0 (file_of_line ++ new_file_of_line ns.nodes es)
file_of_line-edits q within ns t node line m [] ks file_of_line table low e h = subst (AreFilesOfLines ks 0) (sym (append-nil file_of_line)) h
file_of_line-edits q within ns t node line m (edits.New kind parent name ∷ es) ks file_of_line table low e h = file_of_line-edits q (rest_within within) ns t (node + 1) line m es ks file_of_line table low e h
file_of_line-edits q within ns t node line m (edits.Rename which name ∷ es) ks file_of_line table low e h = file_of_line-edits q (rest_within within) ns t node line m es ks file_of_line table low e h
file_of_line-edits q within ns t node line m (edits.Move which parent ∷ es) ks file_of_line table low e h = file_of_line-edits q (rest_within within) ns t node line m es ks file_of_line table low e h
file_of_line-edits q within ns t node line m (edits.Remove which ∷ es) ks file_of_line table low e h = file_of_line-edits q (rest_within within) ns t node line m es ks file_of_line table low e h
file_of_line-edits q within ns t node line m (edits.Delete file which ∷ es) ks file_of_line table low e h =
    let test : Line → Bool = is_line (node_number ns.nodes file) (address_in t (line_number (length ns.addresses) which)) in
    file_of_line-edits q (rest_within within) ns t node line m es (map (hidden_where test q (first_within within)) ks) file_of_line table low e
    (files_of_lines-stay ks (map (hidden_where test q (first_within within)) ks) (λ f l i. anchor-hidden test q (first_within within) f l ks ∙ i) 0 file_of_line h)
file_of_line-edits q within ns t node line m (edits.Insert file after text ∷ es) ks file_of_line table low e h =
    let f : ℕ = node_number ns.nodes file in
    let new : Kept Line = new_line q (first_within within) f (address_in t (line + 1)) text in
    let next : suc line ≡ line + 1 = omega arith in
    let place : line + 1 ≡ 0 + length file_of_line + 1 = omega (arith, e) in
    let number : kept_number new ≡ line + 1 =
    subst (λ n. kept_number (new_line q (first_within within) f (address_in t n) text) ≡ n) next (line_of-in t line table (omega (arith, low))) in
    let more : length (file_of_line ++ f ∷ []) ≡ line + 1 = (let all = length-append file_of_line (f ∷ []) in omega (arith, all, e)) in
    subst (AreFilesOfLines (fold (kept_with q) (placed kept_address new ks) (changes_within (rest_within within) (numbered_from ns t node (line + 1) es))) 0) (append_assoc file_of_line (f ∷ []) (new_file_of_line ns.nodes es))
    (file_of_line-edits q (rest_within within) ns t node (line + 1) m es (placed kept_address new ks) (file_of_line ++ f ∷ []) table (omega (arith, low)) more
    (file_of_line-more (placed kept_address new ks) f 0 file_of_line
    (files_of_lines-stay ks (placed kept_address new ks) (λ g l i. anchor-stays g l new ks i) 0 file_of_line h)
    (anchor-new f (0 + length file_of_line + 1) new ks refl (number ∙ place))))

new_file-count : (n m line : ℕ) (e : Edit) (files : List ℕ) → line + length (cons_option (new_file n e) files) ≡ line_count_after line e + length files
new_file-count n m line (edits.New kind parent name) files = refl
new_file-count n m line (edits.Insert file after text) files = omega arith
new_file-count n m line (edits.Delete file which) files = refl
new_file-count n m line (edits.Rename node name) files = refl
new_file-count n m line (edits.Move node parent) files = refl
new_file-count n m line (edits.Remove node) files = refl

pub new-files_of_lines-count : (n m : ℕ) (es : List Edit) → length (new_file_of_line n es) ≡ length (anchors_of m es)
new-files_of_lines-count n m [] = refl
new-files_of_lines-count n m (e ∷ es) =
    let files = new_file-count n m 0 e (new_file_of_line n es) in
    let anchors = line_count_after-is 0 m e (anchors_of m es) in
    let same = new-files_of_lines-count n m es in
    omega (arith, files, anchors, same)

-- more of a history keeps each line in its file, and puts each new one into its own
file_of_line-along : (q : ℕ) (ns : Numbers) (held : Holding) (history : List Command) (file_of_line : List ℕ) → IsTable ns.addresses → length file_of_line ≡ length ns.addresses → AreFilesOfLines held.lines 0 file_of_line
    → AreFilesOfLines (held_from q held ns history).lines 0 (file_of_line ++ file_of_line_from ns.nodes history) × (length (file_of_line ++ file_of_line_from ns.nodes history) ≡ length (numbers_from ns history).addresses)
file_of_line-along q ns held [] file_of_line table e h = (subst (AreFilesOfLines held.lines 0) (sym (append-nil file_of_line)) h, ap length (append-nil file_of_line) ∙ e)
file_of_line-along q ns held (commands.Option name ∷ history) file_of_line table e h = file_of_line-along (q + 1) ns held history file_of_line table e h
file_of_line-along q ns held (commands.Constraint expr ∷ history) file_of_line table e h = file_of_line-along (q + 1) ns held history file_of_line table e h
file_of_line-along q ns held (commands.Prefer expr ∷ history) file_of_line table e h = file_of_line-along (q + 1) ns held history file_of_line table e h
file_of_line-along q ns held (commands.Default option on ∷ history) file_of_line table e h = file_of_line-along (q + 1) ns held history file_of_line table e h
file_of_line-along q ns held (commands.Commit base choice ambition ss ∷ history) file_of_line table e h =
    let es : List Edit = unsided ss in
    let m : ℕ = length ns.addresses in
    let t : List (List ℕ) = (numbers_after ns es).addresses in
    let after : Holding = fold (held_with (q + 1)) held (commit_changes ns ambition ss) in
    let later : List ℕ = file_of_line_from (ns.nodes + nodes_made es) history in
    let grown : length t ≡ m + length (anchors_of m es) = length-with_lines ns.addresses (anchors_of m es) in
    let count : length (file_of_line ++ new_file_of_line ns.nodes es) ≡ length t =
    (let all = length-append file_of_line (new_file_of_line ns.nodes es) in let new = new-files_of_lines-count ns.nodes m es in omega (arith, all, new, grown, e)) in
    subst (λ xs. AreFilesOfLines (held_from (q + 1) after (numbers_after ns es) history).lines 0 xs × (length xs ≡ length (numbers_from (numbers_after ns es) history).addresses))
    (append_assoc file_of_line (new_file_of_line ns.nodes es) later)
    (file_of_line-along (q + 1) (numbers_after ns es) after history (file_of_line ++ new_file_of_line ns.nodes es) (table-after ns es table) count
    (subst (λ ks. AreFilesOfLines ks 0 (file_of_line ++ new_file_of_line ns.nodes es)) (sym (lines-edits (q + 1) held (commit_changes ns ambition ss)))
    (file_of_line-edits (q + 1) (conditions ambition ss) ns t ns.nodes m m es held.lines file_of_line (table-after ns es table) (omega (arith, grown)) e h)))
file_of_line-along q ns held (commands.Upgrade ∷ history) file_of_line table e h = file_of_line-along (q + 1) ns held history file_of_line table e h

-- whether there is a row of a node
abbrev has_row_of : ℕ → List (Kept Row) → Bool
has_row_of node ks = list_any (λ k. is_row node k.item) ks

-- there is a row of each node up to a number
abbrev HasRows : ℕ → List (Kept Row) → Type 0
HasRows count ks = (node : ℕ) → 0 < node → node ≤ count → has_row_of node ks ≡ true

first_or_rest : (first rest later : Bool) → (first || rest) ≡ true → (rest ≡ true → later ≡ true) → (first || later) ≡ true
first_or_rest true rest later h f = refl
first_or_rest false rest later h f = f h

module _ (q : ℕ) (within : Formula ℕ) (node : ℕ) where
  row-replaced : (test : Row → Bool) (next : Row → Row) (ks : List (Kept Row)) → has_row_of node ks ≡ true → has_row_of node (replaced_where test next q within ks) ≡ true
  row-replaced test next [] h = h
  row-replaced test next (k ∷ ks) h = at (test k.item) (row-replaced test next ks)
    where
      later : List (Kept Row)
      later = replaced_where test next q within ks

      at : (b : Bool) → (has_row_of node ks ≡ true → has_row_of node later ≡ true) → has_row_of node (cond b (hidden q within k ∷ taken_up q within next k ∷ later) (k ∷ later)) ≡ true
      at true rest =
          first_or_rest (is_row node k.item) (has_row_of node ks) (is_row node (next k.item) || has_row_of node later) h
          (λ j. or_right (is_row node (next k.item)) (has_row_of node later) (rest j))
      at false rest = first_or_rest (is_row node k.item) (has_row_of node ks) (has_row_of node later) h rest

  row-hidden : (test : Row → Bool) (ks : List (Kept Row)) → has_row_of node (map (hidden_where test q within) ks) ≡ has_row_of node ks
  row-hidden test [] = refl
  row-hidden test (k ∷ ks) = at (test k.item) ∙ ap (λ b. is_row node k.item || b) (row-hidden test ks)
    where
      later : List (Kept Row)
      later = map (hidden_where test q within) ks

      at : (b : Bool) → has_row_of node (cond b (hidden q within k) k ∷ later) ≡ has_row_of node (k ∷ later)
      at true = refl
      at false = refl

  -- a change leaves a row of a node that has one
  row-stays : (ks : List (Kept Row)) (change : RowChange) → has_row_of node ks ≡ true → has_row_of node (rows_kept_after q within ks change) ≡ true
  row-stays ks (Created other kind parent name) h =
      let new : Kept Row = new_item q within (record { node = other; kind = kind; parent = parent; name = name }) in
      list_any-append (λ k. is_row node k.item) ks (new ∷ []) ∙ ap (λ b. b || (nat_eq other node || false)) h
  row-stays ks (Renamed other name) h = row-replaced (is_row other) (with_name other name) ks h
  row-stays ks (Moved other parent) h = row-replaced (is_row other) (with_parent other parent) ks h
  row-stays ks (Removed other) h = row-hidden (is_row other) ks ∙ h

-- a new row behind others
row-more : (q : ℕ) (within : Formula ℕ) (node : ℕ) (kind : Kind) (parent : ℕ) (name : List ℕ) (ks : List (Kept Row)) → HasRows node ks
    → HasRows (node + 1) (rows_kept_after q within ks (Created (node + 1) kind parent name))
row-more q within node kind parent name ks h = λ x above low. at x above low (nat_eq (node + 1) x) refl
  where
    new : Kept Row
    new = new_item q within (record { node = node + 1; kind = kind; parent = parent; name = name })

    at : (x : ℕ) → 0 < x → x ≤ node + 1 → (b : Bool) → nat_eq (node + 1) x ≡ b → has_row_of x (ks ++ new ∷ []) ≡ true
    at x above low true i =
        list_any-append (λ k. is_row x k.item) ks (new ∷ []) ∙ ap (λ b. has_row_of x ks || (b || false)) i ∙ or_right (has_row_of x ks) (true || false) refl
    at x above low false i =
        let below : x ≤ node = grind (arith, nat_tests, i, low) in
        row-stays q within x ks (Created (node + 1) kind parent name) (h x above below)

rows-edit : (q : ℕ) (within : Formula ℕ) (ns : Numbers) (t : List (List ℕ)) (node line : ℕ) (e : Edit) (ks : List (Kept Row)) → HasRows node ks
    → HasRows (node_count_after node e) (entries_after q within ks (numbered_edit ns t node line e))
rows-edit q within ns t node line (edits.New kind parent name) ks h = row-more q within node kind (node_number ns.nodes parent) name ks h
rows-edit q within ns t node line (edits.Insert file after text) ks h = h
rows-edit q within ns t node line (edits.Delete file which) ks h = h
rows-edit q within ns t node line (edits.Rename which name) ks h = λ x above low. row-stays q within x ks (Renamed (node_number ns.nodes which) name) (h x above low)
rows-edit q within ns t node line (edits.Move which parent) ks h =
    λ x above low. row-stays q within x ks (Moved (node_number ns.nodes which) (node_number ns.nodes parent)) (h x above low)
rows-edit q within ns t node line (edits.Remove which) ks h = λ x above low. row-stays q within x ks (Removed (node_number ns.nodes which)) (h x above low)

rows-more : (q : ℕ) (within : List (Formula ℕ)) (ns : Numbers) (t : List (List ℕ)) (node line : ℕ) (es : List Edit) (ks : List (Kept Row)) → HasRows node ks
    → HasRows (node + nodes_made es) (fold (entries_with q) ks (changes_within within (numbered_from ns t node line es)))
rows-more q within ns t node line [] ks h = subst (λ n. HasRows n ks) (let same : node ≡ node + 0 = omega arith in same) h
rows-more q within ns t node line (e ∷ es) ks h =
    let after : List (Kept Row) = entries_after q (first_within within) ks (numbered_edit ns t node line e) in
    subst (λ n. HasRows n (fold (entries_with q) after (changes_within (rest_within within) (numbered_from ns t (node_count_after node e) (line_count_after line e) es)))) (sym (node_count_after-is node (nodes_made es) e))
    (rows-more q (rest_within within) ns t (node_count_after node e) (line_count_after line e) es after (rows-edit q (first_within within) ns t node line e ks h))

rows-along : (q : ℕ) (ns : Numbers) (held : Holding) (history : List Command) → HasRows ns.nodes held.rows → HasRows (numbers_from ns history).nodes (held_from q held ns history).rows
rows-along q ns held [] h = h
rows-along q ns held (commands.Option name ∷ history) h = rows-along (q + 1) ns held history h
rows-along q ns held (commands.Constraint expr ∷ history) h = rows-along (q + 1) ns held history h
rows-along q ns held (commands.Prefer expr ∷ history) h = rows-along (q + 1) ns held history h
rows-along q ns held (commands.Default option on ∷ history) h = rows-along (q + 1) ns held history h
rows-along q ns held (commands.Commit base choice ambition ss ∷ history) h =
    let es : List Edit = unsided ss in
    rows-along (q + 1) (numbers_after ns es) (fold (held_with (q + 1)) held (commit_changes ns ambition ss)) history
    (subst (HasRows (ns.nodes + nodes_made es)) (sym (rows-edits (q + 1) held (commit_changes ns ambition ss)))
    (rows-more (q + 1) (conditions ambition ss) ns (numbers_after ns es).addresses ns.nodes (length ns.addresses) es held.rows h))
rows-along q ns held (commands.Upgrade ∷ history) h = rows-along (q + 1) ns held history h

none-made : HasRows 0 []
none-made node above low = absurd (omega (arith, above, low))

pub holding-whole : (history : List Command) → IsWhole history
holding-whole history =
    let t = (numbers_of history).addresses in
    let stands = holding-stands history in
    let file_of_line = file_of_line-along 0 no_numbers nothing_held history [] no_table refl tt in
    record {
      counted = file_of_line.1;
      lines = λ before file e. has before file (file_of_line-has (kept_of history) 0 before (file_of_line_in history) file file_of_line.0 e);
      once = lines-apart t (length t) (kept_of history) stands.0 (omega arith) stands.1.in_order stands.1.numbered_lines;
      rows = rows-along 0 no_numbers nothing_held history none-made;
    }
  where
    at : (before file : ℕ) → (before + 1 ≡ 0) ⊎ (list_any (λ k. nat_eq (kept_number k) (before + 1)) (file_kept file (kept_of history)) ≡ true) → has_line (before + 1) (file_order file (kept_of history)) ≡ true
    at before file (inl none) = absurd (omega (arith, none))
    at before file (inr any) = any-mapped kept_number (before + 1) (file_kept file (kept_of history)) ∙ any

    has : (before file : ℕ) → is_kept_anchor file (0 + before + 1) (kept_of history) ≡ true → has_line (before + 1) (file_order file (kept_of history)) ≡ true
    has before file h =
        let same : 0 + before + 1 ≡ before + 1 = omega arith in
        at before file (anchor-case file (before + 1) (kept_of history) (subst (λ n. is_kept_anchor file n (kept_of history) ≡ true) same h))
