-- Edits that an older base accepts, and what the history holds now.
use Rattle.std.proofs.Common.{◌≡◌, ℕ, zero, suc, ◌+◌, ◌<◌, ◌≤◌, Bool, true, false, cond, ◌||◌, ◌&&◌, not, nat_eq, List, [], ◌∷◌, ◌++◌, length, map, take, drop, None, ◌⊎◌, inl, inr, refl, sym, ap, subst, ◌∙◌, arith}
use Rattle.std.specs.List.{fold, list_any}
use Rattle.std.proofs.Math.Seq.{take-length}
use Rattle.std.proofs.lemmas.List.{take-append-drop}
use Rattle.std.proofs.lemmas.Bool.{and_parts, or_right}
use Rattle.std.proofs.lemmas.Bool.Decides.{nat_tests}
use Rattle.cov_base.specs.Addresses.{address_in, line_of, IsTable, IsLineOf}
use Rattle.cov_base.specs.declared.number.NodeRef.{NodeRef}
use Rattle.cov_base.specs.declared.number.NodeRef.TheVariants as nodes
use Rattle.cov_base.specs.declared.number.LineRef.{LineRef}
use Rattle.cov_base.specs.declared.number.LineRef.TheVariants as lines
use Rattle.cov_base.proofs.CallerLemmas.{all-map, at_one, line_of-in}
use Rattle.cov_order.specs.Orders as orders
use Rattle.cov_expr.specs.Formula.{Formula}
use Rattle.cov_edit.specs.declared.edit.Edit.{Edit}
use Rattle.cov_edit.specs.declared.edit.Edit.TheVariants as edits
use Rattle.cov_edit.specs.declared.command.Command.{Command}
use Rattle.cov_edit.specs.declared.command.Command.TheVariants as commands
use Rattle.cov_edit.specs.Numbering.{Numbers, NumberedEdit, OnRows, Inserted, Deleted, node_number, line_number, node_count_after, line_count_after, anchors_of, numbers_after, numbers_of, numbered_edit, numbered_from}
use Rattle.cov_edit.specs.Variant.{Variant, Line, line_address, is_line, edited}
use Rattle.cov_edit.specs.Replay.{Change, first_within, rest_within, changes_within, commit_changes, replay}
use Rattle.cov_edit.specs.Sides.{unsided}
use Rattle.cov_edit.proofs.CallerLemmas.{anchors-same_count, line_count_after-is}
use Rattle.cov_view.proofs.CallerLemmas.{node-known, insert-accepted, delete-accepted, head-number, below-head}
use Rattle.cov_view.specs.References.{is_head, is_known_node, is_known_line}
use Rattle.cov_view.specs.Refusals.{shows_line, refusal, refused_from, first_refused}
use Rattle.cov_history.specs.Kept.{Kept, kept_number, new_line, kept_after, kept_with, hidden_where, Holding, held_with, held_from, held_by, kept_of, file_kept, is_kept_anchor}
use Rattle.cov_history.specs.Files.{file_order}
use Rattle.cov_history.specs.Insertions.{Insertion, the_insert, all_edits, lines_before, table_of, numbered_amid, held_amid, file_of, anchor_of, held_before}
use Rattle.cov_history.specs.Deletions.{Deletion, the_delete, all_with, delete_file, delete_line, before_delete}
use Rattle.cov_history.specs.Sessions.{Session, edits_of, within_of, IsGood}
use Rattle.cov_history.specs.Verdict.{IsLegalFrom, IsLegal}
use Rattle.cov_history.proofs.Appends.{holding-goes_on, lines-edits}
use Rattle.cov_history.proofs.Deletes.{order-hidden}
use Rattle.cov_history.proofs.Files.{anchor-case, any-placed, anchor-stays, anchor-new}
use Rattle.cov_history.proofs.Inserts.{is_table-of, amid-within}
use Rattle.cov_history.proofs.Naming.{legal-named}
use Rattle.cov_history.proofs.Orders.{any-mapped}
use Rattle.cov_history.proofs.Replays.{replay-seen}
use Rattle.cov_history.proofs.Sessions.{edit-accepted, rest-accepted, turn-accepted, line-shown}
use Rattle.cov_history.proofs.Shown.{replay-stands}

-- a history that is legal was so before
pub legal-take : (n : ℕ) (before history : List Command) → IsLegalFrom before history → IsLegalFrom before (take n history)
legal-take zero before [] h = tt
legal-take zero before (k ∷ history) h = tt
legal-take (suc n) before [] h = tt
legal-take (suc n) before (k ∷ history) h = (h.0, h.1, legal-take n (before ++ k ∷ []) history h.2)

-- what is kept of a file stays an anchor
module _ (file line : ℕ) where
  anchor-hidden : (test : Line → Bool) (q : ℕ) (within : Formula ℕ) (ks : List (Kept Line)) → is_kept_anchor file line (map (hidden_where test q within) ks) ≡ is_kept_anchor file line ks
  anchor-hidden test q within ks =
      ap (λ b. nat_eq line 0 || b)
      (sym (any-mapped kept_number line (file_kept file (map (hidden_where test q within) ks)))
      ∙ ap (orders.has_line line) (order-hidden test q within file ks) ∙ any-mapped kept_number line (file_kept file ks))

  anchor-edit : (q : ℕ) (within : Formula ℕ) (ks : List (Kept Line)) (d : NumberedEdit) → is_kept_anchor file line ks ≡ true → is_kept_anchor file line (kept_after q within ks d) ≡ true
  anchor-edit q within ks (OnRows change) h = h
  anchor-edit q within ks (Inserted f address text) h = anchor-stays file line (new_line q within f address text) ks h
  anchor-edit q within ks (Deleted f address) h = anchor-hidden (is_line f address) q within ks ∙ h

  anchor-edits : (q : ℕ) (ks : List (Kept Line)) (changes : List Change) → is_kept_anchor file line ks ≡ true → is_kept_anchor file line (fold (kept_with q) ks changes) ≡ true
  anchor-edits q ks [] h = h
  anchor-edits q ks (change ∷ changes) h = anchor-edits q (kept_with q ks change) changes (anchor-edit q change.within ks change.edit h)

  anchor-from : (q : ℕ) (held : Holding) (ns : Numbers) (history : List Command) → is_kept_anchor file line held.lines ≡ true → is_kept_anchor file line (held_from q held ns history).lines ≡ true
  anchor-from q held ns [] h = h
  anchor-from q held ns (commands.Commit base choice ambition ss ∷ history) h =
      anchor-from (q + 1) (fold (held_with (q + 1)) held (commit_changes ns ambition ss)) (numbers_after ns (unsided ss)) history
      (ap (is_kept_anchor file line) (lines-edits (q + 1) held (commit_changes ns ambition ss)) ∙ anchor-edits (q + 1) held.lines (commit_changes ns ambition ss) h)
  anchor-from q held ns (commands.Option name ∷ history) h = anchor-from (q + 1) held ns history h
  anchor-from q held ns (commands.Constraint expr ∷ history) h = anchor-from (q + 1) held ns history h
  anchor-from q held ns (commands.Prefer expr ∷ history) h = anchor-from (q + 1) held ns history h
  anchor-from q held ns (commands.Default option on ∷ history) h = anchor-from (q + 1) held ns history h
  anchor-from q held ns (commands.Upgrade ∷ history) h = anchor-from (q + 1) held ns history h

  -- a line that was kept at a position is kept at the end
  pub anchor-since : (base : ℕ) (history : List Command) → is_kept_anchor file line (kept_of (take base history)) ≡ true → is_kept_anchor file line (kept_of history) ≡ true
  anchor-since base history h =
      ap (λ hs. is_kept_anchor file line (kept_of hs)) (sym (take-append-drop base history))
      ∙ ap (λ (held : Holding). is_kept_anchor file line held.lines) (holding-goes_on (take base history) (drop base history))
      ∙ anchor-from (length (take base history)) (held_by (take base history)) (numbers_of (take base history)) (drop base history) h

-- references that are known and name the same node at one numbering do so at each
pub same-node_now : (n m : ℕ) (x y : NodeRef) → is_known_node n x ≡ true → is_known_node n y ≡ true → node_number n x ≡ node_number n y → node_number m x ≡ node_number m y
same-node_now n m (nodes.Old x) (nodes.Old y) h k e = e
same-node_now n m (nodes.Old x) (nodes.New j) h k e = let low : x ≤ n = grind (arith, nat_tests, h) in absurd (omega (arith, low, e))
same-node_now n m (nodes.New i) (nodes.Old y) h k e = let low : y ≤ n = grind (arith, nat_tests, k) in absurd (omega (arith, low, e))
same-node_now n m (nodes.New i) (nodes.New j) h k e = omega (arith, e)

-- a line made so many lines after the base is as many lines after any other position
new-line_now : (n m j : ℕ) (line : LineRef) → is_known_line n line ≡ true → line_number n line ≡ n + j + 1 → line_number m line ≡ m + j + 1
new-line_now n m j (lines.Old x) h e = let low : x ≤ n = grind (arith, nat_tests, h) in absurd (omega (arith, low, e))
new-line_now n m j (lines.New i) h e = omega (arith, e)

module _ (nb nh : Numbers) where
  abbrev mb : ℕ
  mb = length nb.addresses

  abbrev mh : ℕ
  mh = length nh.addresses

  -- the lines that a variant has by references from the base are kept by the same references from now on
  abbrev pub AreKeptNow : Variant → List (Kept Line) → Type 0
  AreKeptNow v ks = (file : NodeRef) (line : LineRef) → is_known_node nb.nodes file ≡ true → shows_line nb v (node_number nb.nodes file) line ≡ true
      → is_kept_anchor (node_number nh.nodes file) (line_number mh line) ks ≡ true

  insert-now : (q : ℕ) (within : Formula ℕ) (v : Variant) (ks : List (Kept Line)) (file : NodeRef) (ab ah text : List ℕ) (j : ℕ) → is_known_node nb.nodes file ≡ true
      → line_of ab ≡ mb + j + 1 → line_of ah ≡ mh + j + 1 → AreKeptNow v ks
      → AreKeptNow (edited v (Inserted (node_number nb.nodes file) ab text)) (kept_after q within ks (Inserted (node_number nh.nodes file) ah text))
  insert-now q within v ks file ab ah text j own eb eh kept other line known h =
      let parts = and_parts (is_known_line mb line) (list_any is_it (edited v (Inserted (node_number nb.nodes file) ab text)).lines) h in
      at (is_it new) (list_any is_it v.lines) refl refl parts.0 (sym (any-placed line_address is_it new v.lines) ∙ parts.1)
    where
      is_it : Line → Bool
      is_it l = nat_eq l.file (node_number nb.nodes other) && nat_eq (line_of l.address) (line_number mb line)

      new : Line
      new = record { file = node_number nb.nodes file; address = ab; text = text }

      at : (a b : Bool) → is_it new ≡ a → list_any is_it v.lines ≡ b → is_known_line mb line ≡ true → (a || b) ≡ true
          → is_kept_anchor (node_number nh.nodes other) (line_number mh line) (kept_after q within ks (Inserted (node_number nh.nodes file) ah text)) ≡ true
      at true b e f k t =
          let two = and_parts (nat_eq (node_number nb.nodes file) (node_number nb.nodes other)) (nat_eq (line_of ab) (line_number mb line)) e in
          let first = two.0 in
          let second = two.1 in
          let same_file : node_number nb.nodes file ≡ node_number nb.nodes other = grind (arith, nat_tests, first) in
          let same_line : line_number mb line ≡ mb + j + 1 = grind (arith, nat_tests, second, eb) in
          anchor-new (node_number nh.nodes other) (line_number mh line) (new_line q within (node_number nh.nodes file) ah text) ks
          (same-node_now nb.nodes nh.nodes file other own known same_file)
          (eh ∙ sym (new-line_now mb mh j line k same_line))
      at false true e f k t =
          anchor-stays (node_number nh.nodes other) (line_number mh line) (new_line q within (node_number nh.nodes file) ah text) ks
          (kept other line known (ap (λ b. b && list_any is_it v.lines) k ∙ f))
      at false false e f k t = absurd (cc)

  filter-has : (test p : Line → Bool) (ls : List Line) → list_any test (Rattle.std.specs.List.filter p ls) ≡ true → list_any test ls ≡ true
  filter-has test p [] h = h
  filter-has test p (l ∷ ls) h = at (p l) h (λ k. filter-has test p ls k)
    where
      at : (b : Bool) → list_any test (cond b (l ∷ Rattle.std.specs.List.filter p ls) (Rattle.std.specs.List.filter p ls)) ≡ true
          → (list_any test (Rattle.std.specs.List.filter p ls) ≡ true → list_any test ls ≡ true) → (test l || list_any test ls) ≡ true
      at true k rest = both (test l) k rest
        where
          both : (t : Bool) → (t || list_any test (Rattle.std.specs.List.filter p ls)) ≡ true → (list_any test (Rattle.std.specs.List.filter p ls) ≡ true → list_any test ls ≡ true) → (t || list_any test ls) ≡ true
          both true i r = refl
          both false i r = r i
      at false k rest = or_right (test l) (list_any test ls) (rest k)

  delete-now : (q : ℕ) (within : Formula ℕ) (v : Variant) (ks : List (Kept Line)) (fb fh : ℕ) (ab ah : List ℕ) → AreKeptNow v ks
      → AreKeptNow (edited v (Deleted fb ab)) (kept_after q within ks (Deleted fh ah))
  delete-now q within v ks fb fh ab ah kept file line known h =
      let parts = and_parts (is_known_line mb line) (list_any is_it (edited v (Deleted fb ab)).lines) h in
      anchor-hidden (node_number nh.nodes file) (line_number mh line) (is_line fh ah) q within ks
      ∙ kept file line known (ap (λ b. b && list_any is_it v.lines) parts.0 ∙ filter-has is_it (λ l. not (is_line fb ab l)) v.lines parts.1)
    where
      is_it : Line → Bool
      is_it l = nat_eq l.file (node_number nb.nodes file) && nat_eq (line_of l.address) (line_number mb line)

  number-at : (t : List (List ℕ)) (k : ℕ) → IsTable t → k < length t → line_of (address_in t (k + 1)) ≡ k + 1
  number-at t k table below = subst (λ n. line_of (address_in t n) ≡ n) (let one : suc k ≡ k + 1 = omega arith in one) (line_of-in t k table below)

  -- so they are after an edit that is accepted
  edit-now : (q : ℕ) (within : Formula ℕ) (tb th : List (List ℕ)) (xb xh lb lh j : ℕ) (v : Variant) (ks : List (Kept Line)) (e : Edit)
      → IsTable tb → IsTable th → lb ≡ mb + j → lh ≡ mh + j → line_count_after lb e ≤ length tb → line_count_after lh e ≤ length th → refusal nb v e ≡ None → AreKeptNow v ks
      → AreKeptNow (edited v (numbered_edit nb tb xb lb e)) (kept_after q within ks (numbered_edit nh th xh lh e))
  edit-now q within tb th xb xh lb lh j v ks (edits.New kind parent name) is_tb is_th eb eh below_b below_h accepted kept = kept
  edit-now q within tb th xb xh lb lh j v ks (edits.Insert file after text) is_tb is_th eb eh below_b below_h accepted kept =
      let nb_line : line_of (address_in tb (lb + 1)) ≡ mb + j + 1 = number-at tb lb is_tb (omega (arith, below_b)) ∙ ap (λ n. n + 1) eb in
      let nh_line : line_of (address_in th (lh + 1)) ≡ mh + j + 1 = number-at th lh is_th (omega (arith, below_h)) ∙ ap (λ n. n + 1) eh in
      insert-now q within v ks file (address_in tb (lb + 1)) (address_in th (lh + 1)) text j (node-known nb v file (insert-accepted nb v file after text accepted).0) nb_line nh_line kept
  edit-now q within tb th xb xh lb lh j v ks (edits.Delete file which) is_tb is_th eb eh below_b below_h accepted kept =
      delete-now q within v ks (node_number nb.nodes file) (node_number nh.nodes file) (address_in tb (line_number mb which)) (address_in th (line_number mh which)) kept
  edit-now q within tb th xb xh lb lh j v ks (edits.Rename which name) is_tb is_th eb eh below_b below_h accepted kept = kept
  edit-now q within tb th xb xh lb lh j v ks (edits.Move which parent) is_tb is_th eb eh below_b below_h accepted kept = kept
  edit-now q within tb th xb xh lb lh j v ks (edits.Remove which) is_tb is_th eb eh below_b below_h accepted kept = kept

  -- so they are after each edit that is accepted
  pub edits-now : (q : ℕ) (within : List (Formula ℕ)) (tb th : List (List ℕ)) (xb xh lb lh j k m : ℕ) (v : Variant) (ks : List (Kept Line)) (begun later : List Edit)
      → IsTable tb → IsTable th → lb ≡ mb + j → lh ≡ mh + j → lb + length (anchors_of m begun) ≤ length tb → lh + length (anchors_of m begun) ≤ length th
      → refused_from nb v k (begun ++ later) (numbered_from nb tb xb lb (begun ++ later)) ≡ None → AreKeptNow v ks
      → AreKeptNow (fold edited v (numbered_from nb tb xb lb begun)) (fold (kept_with q) ks (changes_within within (numbered_from nh th xh lh begun)))
  edits-now q within tb th xb xh lb lh j k m v ks [] later is_tb is_th eb eh below_b below_h accepted kept = kept
  edits-now q within tb th xb xh lb lh j k m v ks (e ∷ begun) later is_tb is_th eb eh below_b below_h accepted kept =
      let count_b = line_count_after-is lb m e (anchors_of m begun) in
      let count_h = line_count_after-is lh m e (anchors_of m begun) in
      let count = line_count_after-is j m e (anchors_of m begun) in
      edits-now q (rest_within within) tb th (node_count_after xb e) (node_count_after xh e) (line_count_after lb e) (line_count_after lh e) (line_count_after j e) (k + 1) m
      (edited v (numbered_edit nb tb xb lb e)) (kept_after q (first_within within) ks (numbered_edit nh th xh lh e)) begun later is_tb is_th
      (omega (arith, eb, count_b, count)) (omega (arith, eh, count_h, count)) (omega (arith, below_b, count_b)) (omega (arith, below_h, count_h))
      (rest-accepted k (refusal nb v e) _ accepted)
      (edit-now q (first_within within) tb th xb xh lb lh j v ks e is_tb is_th eb eh (omega (arith, below_b, count_b)) (omega (arith, below_h, count_h)) (edit-accepted k (refusal nb v e) _ accepted) kept)

-- the lines of the base's replay are kept now
start-now : (base : ℕ) (history : List Command) (c : List Bool) → IsLegal history
    → AreKeptNow (numbers_of (take base history)) (numbers_of history) (replay c (take base history)) (kept_of history)
start-now base history c legal (nodes.Old x) (lines.Old y) known h =
    anchor-since x y base history
    (or_right (nat_eq y 0) (list_any (λ k. nat_eq (kept_number k) y) (file_kept x (kept_of (take base history))))
    (line-shown c (length (take base history)) (held_by (take base history)) (replay c (take base history)) (numbers_of (take base history)) x (lines.Old y)
    (replay-seen c (length (take base history)) (take base history) ∙ ap (replay c) (take-length (take base history))) h))
start-now base history c legal (nodes.Old x) (lines.New j) known h =
    let nb : Numbers = numbers_of (take base history) in
    absurd (at_one (λ l. nat_eq l.file x && nat_eq (line_of l.address) (length nb.addresses + 1 + j)) ⊥ (replay c (take base history)).lines h
    (all-map (λ l. IsLineOf nb.addresses (length nb.addresses) l.address) (λ l. (nat_eq l.file x && nat_eq (line_of l.address) (length nb.addresses + 1 + j)) ≡ true → ⊥)
    (λ l line e.
    let less : line.0 < length nb.addresses = line.1 in
    let number : line_of l.address ≡ suc line.0 = ap line_of line.2 ∙ line_of-in nb.addresses line.0 (is_table-nb base history) less in
    let second = (and_parts (nat_eq l.file x) (nat_eq (line_of l.address) (length nb.addresses + 1 + j)) e).1 in
    let same : line_of l.address ≡ length nb.addresses + 1 + j = grind (arith, nat_tests, second) in
    omega (arith, less, number, same))
    (replay c (take base history)).lines (replay-stands c (take base history)).1))
  where
    is_table-nb : (base : ℕ) (history : List Command) → IsTable (numbers_of (take base history)).addresses
    is_table-nb base history = is_table-of (take base history) []
start-now base history c legal (nodes.New i) line known h =
    let nb : Numbers = numbers_of (take base history) in
    let parts = and_parts (is_known_line (length nb.addresses) line) _ h in
    absurd (at_one (λ l. nat_eq l.file (nb.nodes + 1 + i) && nat_eq (line_of l.address) (line_number (length nb.addresses) line)) ⊥ (replay c (take base history)).lines parts.1
    (all-map (λ l. l.file ≤ nb.nodes) (λ l. (nat_eq l.file (nb.nodes + 1 + i) && nat_eq (line_of l.address) (line_number (length nb.addresses) line)) ≡ true → ⊥)
    (λ l low e.
    let first = (and_parts (nat_eq l.file (nb.nodes + 1 + i)) (nat_eq (line_of l.address) (line_number (length nb.addresses) line)) e).0 in
    let same : l.file ≡ nb.nodes + 1 + i = grind (arith, nat_tests, first) in
    omega (arith, low, same))
    (replay c (take base history)).lines (legal-named c (take base history) (legal-take base [] history legal)).files))

module _ (history : List Command) (s : Session) (legal : IsLegal history) (good : IsGood history s) where
  abbrev before : List Command
  before = take s.base history

  -- each edit of a good session is accepted at its base when it is its turn
  edit-at_base : (begun : List Edit) (e : Edit) (later : List Edit) → begun ++ e ∷ later ≡ edits_of s
      → refusal (numbers_of before) (fold edited (replay s.choice before) (numbered_amid before (begun ++ e ∷ later) begun)) e ≡ None
  edit-at_base begun e later all =
      turn-accepted (numbers_of before) (table_of before (begun ++ e ∷ later)) (numbers_of before).nodes (lines_before before) 0 (replay s.choice before) begun e later
      (ap (first_refused (numbers_of before) (replay s.choice before)) all ∙ good.accepted)

  -- what it sees then of its own lines and those of the base is kept now
  amid-now : (begun later : List Edit) → begun ++ later ≡ edits_of s
      → AreKeptNow (numbers_of before) (numbers_of history) (fold edited (replay s.choice before) (numbered_amid before (begun ++ later) begun)) (held_amid history (within_of s) (begun ++ later) begun).lines
  amid-now begun later all =
      let nb : Numbers = numbers_of before in
      let nh : Numbers = numbers_of history in
      subst (AreKeptNow nb nh (fold edited (replay s.choice before) (numbered_amid before (begun ++ later) begun)))
      (sym (lines-edits (length history + 1) (held_by history) (changes_within (within_of s) (numbered_amid history (begun ++ later) begun))))
      (edits-now nb nh (length history + 1) (within_of s) (table_of before (begun ++ later)) (table_of history (begun ++ later)) nb.nodes nh.nodes
      (length nb.addresses) (length nh.addresses) 0 0 (length nb.addresses) (replay s.choice before) (kept_of history) begun later
      (is_table-of before (begun ++ later)) (is_table-of history (begun ++ later)) (omega arith) (omega arith)
      (amid-within before begun later)
      (let within = amid-within history begun later in let same = anchors-same_count (length nb.addresses) (length nh.addresses) begun in omega (arith, within, same))
      (ap (first_refused nb (replay s.choice before)) all ∙ good.accepted)
      (start-now s.base history s.choice legal))

  -- each insert of a good session has its anchor kept when it is its turn, also on an older base
  pub accepted-anchored : (i : Insertion) → all_edits i ≡ edits_of s → is_kept_anchor (file_of history i) (anchor_of history i) (held_before history (within_of s) i).lines ≡ true
  accepted-anchored i all =
      let nb : Numbers = numbers_of before in
      let accepted = insert-accepted nb v i.file i.after i.text (edit-at_base i.begun (the_insert i) i.later all) in
      at (is_head i.after) refl accepted.1 (λ h. amid-now i.begun (the_insert i ∷ i.later) all i.file i.after (node-known nb v i.file accepted.0) h)
    where
      v : Variant
      v = fold edited (replay s.choice before) (numbered_amid before (all_edits i) i.begun)

      at : (b : Bool) → is_head i.after ≡ b → (b || shows_line (numbers_of before) v (node_number (numbers_of before).nodes i.file) i.after) ≡ true
          → (shows_line (numbers_of before) v (node_number (numbers_of before).nodes i.file) i.after ≡ true → is_kept_anchor (file_of history i) (anchor_of history i) (held_before history (within_of s) i).lines ≡ true)
          → is_kept_anchor (file_of history i) (anchor_of history i) (held_before history (within_of s) i).lines ≡ true
      at true e k rest = subst (λ n. is_kept_anchor (file_of history i) n (held_before history (within_of s) i).lines ≡ true) (sym (head-number (lines_before history) i.after e)) refl
      at false e k rest = rest k

  -- each delete of a good session has its line in its file when it is its turn, also on an older base
  pub accepted-there : (d : Deletion) → all_with d ≡ edits_of s → orders.has_line (delete_line history d) (file_order (delete_file history d) (before_delete history (within_of s) d).lines) ≡ true
  accepted-there d all =
      let nb : Numbers = numbers_of before in
      let accepted = delete-accepted nb v d.file d.line (edit-at_base d.begun (the_delete d) d.later all) in
      let kept = amid-now d.begun (the_delete d ∷ d.later) all d.file d.line (node-known nb v d.file accepted.0) accepted.2 in
      any-mapped kept_number (delete_line history d) (file_kept (delete_file history d) (before_delete history (within_of s) d).lines)
      ∙ at accepted.1 (anchor-case (delete_file history d) (delete_line history d) (before_delete history (within_of s) d).lines kept)
    where
      v : Variant
      v = fold edited (replay s.choice before) (numbered_amid before (all_with d) d.begun)

      at : is_head d.line ≡ false → (delete_line history d ≡ 0) ⊎ (list_any (λ k. nat_eq (kept_number k) (delete_line history d)) (file_kept (delete_file history d) (before_delete history (within_of s) d).lines) ≡ true)
          → list_any (λ k. nat_eq (kept_number k) (delete_line history d)) (file_kept (delete_file history d) (before_delete history (within_of s) d).lines) ≡ true
      at no_head (inl e) = absurd (below-head (lines_before history) d.line no_head e)
      at no_head (inr e) = e
