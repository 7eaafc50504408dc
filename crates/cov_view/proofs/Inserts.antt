-- A view still shows its variant after a line was inserted into both.
use Rattle.std.proofs.Common.{◌≡◌, ℕ, zero, suc, ◌+◌, ◌<◌, ◌≤◌, Bool, true, false, cond, ◌||◌, nat_eq, List, [], ◌∷◌, ◌++◌, length, map, Some, ◌⊎◌, inl, inr, refl, sym, ap, subst, ◌∙◌, arith}
use Rattle.std.specs.List.{list_any, AllByRecursion}
use Rattle.std.proofs.lemmas.Bool.Decides.{nat_tests}
use Rattle.std.proofs.lemmas.Bool.{and_parts}
use Rattle.cov_base.specs.declared.number.NodeRef.{NodeRef}
use Rattle.cov_base.specs.declared.number.LineRef.{LineRef}
use Rattle.cov_base.specs.declared.number.LineRef.TheVariants as lines
use Rattle.cov_base.specs.Addresses.{stands_before, address_in, with_line, line_of, IsTable, IsLineOf, placed, number_by, after_first, after_anchor_by}
use Rattle.cov_base.proofs.CallerLemmas.{all-map, all-both, all-filter, all-placed, placed-in_order, filter-placed, in_order-filter, new_after, at_one, map-after_anchor, order-insert, line_of-in, inside, is_table-with_line, length-with_line, address_in-with_line, address_in-next, any-map}
use Rattle.cov_edit.specs.declared.edit.Edit.TheVariants as edits
use Rattle.cov_edit.specs.Numbering.{Numbers, Inserted, node_number, line_number}
use Rattle.cov_edit.specs.Variant.{Variant, Line, line_address, lines_of, edited}
use Rattle.cov_view.specs.References.{is_head, same_node, same_line, is_known_line, is_made_node, is_made_line}
use Rattle.cov_view.specs.Lines.{is_among, after_ref}
use Rattle.cov_view.specs.Seen.{Seen, row_at, with_lines_by, seen_after, AreRows}
use Rattle.cov_view.specs.Views.{line_by_number, by_number, ShowsLines, IsMade, Shows}
use Rattle.cov_view.specs.declared.line.ViewLine.{ViewLine}
use Rattle.cov_view.specs.declared.row.ViewRow.{ViewRow}
use Rattle.cov_view.proofs.Naming.{head-number, line-same, made-known, made-known_line, made-line_number, made-more_line, made-number, node-same, rows-same, same-line, same-node}
use Rattle.cov_view.proofs.Refusing.{among-known}
use Rattle.cov_view.proofs.Standing.{stand-once, all-at_row, only-found}

after_first-same : {X : Type 0} (t u : X → Bool) (x : X) (ys : List X) → AllByRecursion (λ y. t y ≡ u y) ys → after_first t x ys ≡ after_first u x ys
after_first-same t u x [] h = refl
after_first-same t u x (y ∷ ys) h =
    ap (λ b. cond b (y ∷ x ∷ ys) (y ∷ after_first t x ys)) h.0 ∙ ap (λ l. cond (u y) (y ∷ x ∷ ys) (y ∷ l)) (after_first-same t u x ys h.1)

all-after_first : {X : Type 0} (P : X → Type 0) (t : X → Bool) (x : X) (ys : List X) → P x → AllByRecursion P ys → AllByRecursion P (after_first t x ys)
all-after_first P t x [] p h = (p, tt)
all-after_first P t x (y ∷ ys) p h = at (t y) (all-after_first P t x ys p h.1)
  where
    at : (b : Bool) → AllByRecursion P (after_first t x ys) → AllByRecursion P (cond b (y ∷ x ∷ ys) (y ∷ after_first t x ys))
    at true rest = (h.0, (p, h.1))
    at false rest = (h.0, rest)

all-after_ref : (P : ViewLine → Type 0) (after : LineRef) (q : ViewLine) (ls : List ViewLine) → P q → AllByRecursion P ls → AllByRecursion P (after_ref after q ls)
all-after_ref P after q ls p h = at (is_head after)
  where
    at : (b : Bool) → AllByRecursion P (cond b (q ∷ ls) (after_first (λ l. same_line l.line after) q ls))
    at true = (p, h)
    at false = all-after_first P (λ l. same_line l.line after) q ls p h

after_anchor-below : {X : Type 0} (number : X → ℕ) (anchor : ℕ) (x : X) (ys : List X) → (anchor ≡ 0 → ⊥) → after_anchor_by number anchor x ys ≡ after_first (λ y. nat_eq (number y) anchor) x ys
after_anchor-below number zero x ys h = absurd (h refl)
after_anchor-below number (suc anchor) x ys h = refl

-- directly after the anchor, by number and by reference
after-number : (n made : ℕ) (after : LineRef) (q : ViewLine) (ls : List ViewLine) → AllByRecursion (λ l. is_made_line n made l.line ≡ true) ls → is_known_line n after ≡ true
    → after_anchor_by (λ (l : ViewLine). line_number n l.line) (line_number n after) q ls ≡ after_ref after q ls
after-number n made (lines.Old zero) q ls all known = refl
after-number n made (lines.Old (suc x)) q ls all known =
    sym (after_first-same (λ l. same_line l.line (lines.Old (suc x))) (λ l. nat_eq (line_number n l.line) (suc x)) q ls
    (all-map (λ l. is_made_line n made l.line ≡ true) (λ l. same_line l.line (lines.Old (suc x)) ≡ nat_eq (line_number n l.line) (suc x)) (λ l h. same-line n made l.line (lines.Old (suc x)) h known) ls all))
after-number n made (lines.New i) q ls all known =
    after_anchor-below (λ (l : ViewLine). line_number n l.line) (n + 1 + i) q ls (λ e. omega (arith, e))
    ∙ sym (after_first-same (λ l. same_line l.line (lines.New i)) (λ l. nat_eq (line_number n l.line) (n + 1 + i)) q ls
    (all-map (λ l. is_made_line n made l.line ≡ true) (λ l. same_line l.line (lines.New i) ≡ nat_eq (line_number n l.line) (n + 1 + i)) (λ l h. same-line n made l.line (lines.New i) h known) ls all))

head-made : (n made : ℕ) (after : LineRef) → is_head after ≡ true → is_made_line n made after ≡ true
head-made n made (lines.Old zero) h = grind (arith, nat_tests)
head-made n made (lines.Old (suc x)) h = absurd (cc)
head-made n made (lines.New i) h = absurd (cc)

-- an anchor is made
pub anchor-made : (n made : ℕ) (after : LineRef) (ls : List ViewLine) → (is_head after || is_among after ls) ≡ true → AllByRecursion (λ l. is_made_line n made l.line ≡ true) ls
    → is_made_line n made after ≡ true
anchor-made n made after ls anchor all = at (is_head after) refl anchor
  where
    at : (b : Bool) → is_head after ≡ b → (b || is_among after ls) ≡ true → is_made_line n made after ≡ true
    at true e h = head-made n made after e
    at false e h =
        at_one (λ (l : ViewLine). same_line l.line after) (is_made_line n made after ≡ true) ls h
        (all-map (λ (l : ViewLine). is_made_line n made l.line ≡ true) (λ l. same_line l.line after ≡ true → is_made_line n made after ≡ true)
        (λ l k t. subst (λ (x : LineRef). is_made_line n made x ≡ true) (line-same l.line after t) k) ls all)

-- the line that is inserted into a file at the end of a table
abbrev next_line : Numbers → List (List ℕ) → NodeRef → LineRef → List ℕ → Line
next_line ns table file after text =
    record { file = node_number ns.nodes file; address = address_in (with_line table (line_number (length ns.addresses) after)) (length table + 1); text = text }

-- the same line by reference
abbrev next_seen : Seen → List ℕ → ViewLine
next_seen s text = record { line = lines.New s.lines_made; text = text }

module _ (ns : Numbers) (table : List (List ℕ)) (s : Seen) (v : Variant) (shows : Shows ns table s v) (tab : IsTable table)
    (file : NodeRef) (after : LineRef) (text : List ℕ) (file_made : is_made_node ns.nodes s.nodes_made file ≡ true) (after_made : is_made_line (length ns.addresses) s.lines_made after ≡ true) where
  anchor_in : line_number (length ns.addresses) after ≤ length table
  anchor_in = let h = made-line_number (length ns.addresses) s.lines_made after after_made in let k = shows.counted in omega (arith, h, k)

  next : length table + 1 ≡ suc (length table)
  next = omega arith

  table' : IsTable (with_line table (line_number (length ns.addresses) after))
  table' = is_table-with_line table (line_number (length ns.addresses) after) tab

  longer : length (with_line table (line_number (length ns.addresses) after)) ≡ suc (length table)
  longer = length-with_line table (line_number (length ns.addresses) after) ∙ next

  own_address : line_address (next_line ns table file after text) ≡ address_in (with_line table (line_number (length ns.addresses) after)) (suc (length table))
  own_address = ap (address_in (with_line table (line_number (length ns.addresses) after))) next

  link : address_in (with_line table (line_number (length ns.addresses) after)) (suc (length table))
      ≡ address_in (with_line table (line_number (length ns.addresses) after)) (line_number (length ns.addresses) after) ++ suc (length table) ∷ []
  link = address_in-next table (line_number (length ns.addresses) after) [] anchor_in

  old_lines : AllByRecursion (λ (l : Line). IsLineOf (with_line table (line_number (length ns.addresses) after)) (length table) (line_address l)) v.lines
  old_lines = all-map (λ (l : Line). IsLineOf table (length table) l.address) (λ l. IsLineOf (with_line table (line_number (length ns.addresses) after)) (length table) (line_address l))
      (λ l h. (h.0, h.1, h.2 ∙ sym (address_in-with_line table (line_number (length ns.addresses) after) (suc h.0) h.1))) v.lines shows.addresses

  same_line_number : by_number (next_line ns table file after text) ≡ line_by_number ns (next_seen s text)
  same_line_number =
      let k = shows.counted in
      let below : length table < length (with_line table (line_number (length ns.addresses) after)) = omega (arith, longer) in
      let e : line_of (line_address (next_line ns table file after text)) ≡ length ns.addresses + 1 + s.lines_made =
      ap line_of own_address ∙ line_of-in (with_line table (line_number (length ns.addresses) after)) (length table) table' below ∙ omega (arith, k) in
      ap (λ (n : ℕ). (n, text)) e

  below : length table < length (with_line table (line_number (length ns.addresses) after))
  below = omega (arith, longer)

  after_known : is_known_line (length ns.addresses) after ≡ true
  after_known = made-known_line (length ns.addresses) s.lines_made after after_made

  -- the anchor is the head or a line of the file
  anchored : (r : ViewRow) (ls : List Line) → AllByRecursion (λ l. is_made_line (length ns.addresses) s.lines_made l.line ≡ true) r.lines
      → (is_head after || is_among after r.lines) ≡ true → map by_number ls ≡ map (line_by_number ns) r.lines
      → (line_number (length ns.addresses) after ≡ 0) ⊎ (list_any (λ k. nat_eq (number_by line_address k) (line_number (length ns.addresses) after)) ls ≡ true)
  anchored r ls made anchor shown = at (is_head after) refl anchor
    where
      at : (b : Bool) → is_head after ≡ b → (b || is_among after r.lines) ≡ true
          → (line_number (length ns.addresses) after ≡ 0) ⊎ (list_any (λ k. nat_eq (number_by line_address k) (line_number (length ns.addresses) after)) ls ≡ true)
      at true e k = inl (head-number (length ns.addresses) after e)
      at false e k = inr
          (sym (any-map (λ p. nat_eq p.0 (line_number (length ns.addresses) after)) by_number ls)
          ∙ ap (list_any (λ p. nat_eq p.0 (line_number (length ns.addresses) after))) shown
          ∙ any-map (λ p. nat_eq p.0 (line_number (length ns.addresses) after)) (line_by_number ns) r.lines
          ∙ among-known (length ns.addresses) s.lines_made after r.lines after_known made ∙ k)

  -- the lines of the file with the new one
  own-lines : (r : ViewRow) → same_node r.node file ≡ true → AllByRecursion (λ l. is_made_line (length ns.addresses) s.lines_made l.line ≡ true) r.lines
      → (is_head after || is_among after r.lines) ≡ true → ShowsLines ns v r
      → ShowsLines ns (edited v (Inserted (node_number ns.nodes file) (line_address (next_line ns table file after text)) text)) (with_lines_by (after_ref after (next_seen s text)) r)
  own-lines r same made anchor h kind =
      let f = node_number ns.nodes r.node in
      let new = next_line ns table file after text in
      let m = line_number (length ns.addresses) after in
      let ls = lines_of v f in
      let its : node_number ns.nodes file ≡ f = ap (node_number ns.nodes) (sym (node-same r.node file same)) in
      let mine : nat_eq (node_number ns.nodes file) f ≡ true = grind (arith, nat_tests, its) in
      ap (map by_number)
      (filter-placed line_address (λ (l : Line). nat_eq l.file f) new v.lines shows.in_order
      ∙ ap (λ b. cond b (placed line_address new ls) ls) mine
      ∙ order-insert line_address (with_line table m) (length table) m new ls table' below own_address link
      (in_order-filter line_address (λ (l : Line). nat_eq l.file f) v.lines shows.in_order)
      (all-filter (λ (l : Line). IsLineOf (with_line table m) (length table) (line_address l)) (λ l. nat_eq l.file f) v.lines old_lines)
      (anchored r ls made anchor (h kind)))
      ∙ map-after_anchor by_number (λ p. p.0) m new ls
      ∙ ap (λ (x : ℕ × List ℕ). after_anchor_by (λ (p : ℕ × List ℕ). p.0) m x (map by_number ls)) same_line_number
      ∙ ap (λ (l : List (ℕ × List ℕ)). after_anchor_by (λ (p : ℕ × List ℕ). p.0) m (line_by_number ns (next_seen s text)) l) (h kind)
      ∙ sym (map-after_anchor (line_by_number ns) (λ p. p.0) m (next_seen s text) r.lines)
      ∙ ap (map (line_by_number ns)) (after-number (length ns.addresses) s.lines_made after (next_seen s text) r.lines made after_known)

  -- the lines of another file
  other-lines : (r : ViewRow) → same_node r.node file ≡ false → is_made_node ns.nodes s.nodes_made r.node ≡ true → ShowsLines ns v r
      → ShowsLines ns (edited v (Inserted (node_number ns.nodes file) (line_address (next_line ns table file after text)) text)) r
  other-lines r other made h kind =
      let f = node_number ns.nodes r.node in
      let new = next_line ns table file after text in
      let apart : nat_eq f (node_number ns.nodes file) ≡ false = sym (same-node ns.nodes s.nodes_made r.node file made (made-known ns.nodes s.nodes_made file file_made)) ∙ other in
      let not_mine : nat_eq (node_number ns.nodes file) f ≡ false = grind (arith, nat_tests, apart) in
      ap (map by_number)
      (filter-placed line_address (λ (l : Line). nat_eq l.file f) new v.lines shows.in_order
      ∙ ap (λ b. cond b (placed line_address new (lines_of v f)) (lines_of v f)) not_mine)
      ∙ h kind

  -- what is used of each row
  abbrev Stays : ViewRow → Type 0
  Stays r = ShowsLines ns v r × IsMade ns s r × (same_node r.node file ≡ true → (is_head after || is_among after r.lines) ≡ true)

  abbrev IsMadeLine : ViewLine → Type 0
  IsMadeLine l = is_made_line (length ns.addresses) (s.lines_made + 1) l.line ≡ true

  more : (ls : List ViewLine) → AllByRecursion (λ l. is_made_line (length ns.addresses) s.lines_made l.line ≡ true) ls → AllByRecursion IsMadeLine ls
  more ls h = all-map (λ (l : ViewLine). is_made_line (length ns.addresses) s.lines_made l.line ≡ true) IsMadeLine (λ l k. made-more_line (length ns.addresses) s.lines_made l.line k) ls h

  -- after a line was inserted
  pub shows-insert : AreRows s.nodes_made s.rows
      → ((r : ViewRow) → row_at s.rows file ≡ Some r → (is_head after || is_among after r.lines) ≡ true)
      → Shows ns (with_line table (line_number (length ns.addresses) after)) (seen_after s (edits.Insert file after text))
      (edited v (Inserted (node_number ns.nodes file) (line_address (next_line ns table file after text)) text))
  shows-insert once anchor = record {
    rows = shows.rows ∙ sym (rows-same ns file (after_ref after (next_seen s text)) s.rows);
    lines = all-at_row Stays (ShowsLines ns (edited v (Inserted (node_number ns.nodes file) (line_address (next_line ns table file after text)) text))) file (with_lines_by (after_ref after (next_seen s text)))
        (λ r e p. own-lines r e p.1.1 (p.2 e) p.0)
        (λ r e p. other-lines r e (and_parts (is_made_node ns.nodes s.nodes_made r.node) (is_made_node ns.nodes s.nodes_made r.parent) p.1.0).0 p.0)
        s.rows (stand-once s.nodes_made s.rows once) all_kept;
    made = all-at_row (IsMade ns s) (IsMade ns (seen_after s (edits.Insert file after text))) file (with_lines_by (after_ref after (next_seen s text)))
        (λ r e p. (p.0, all-after_ref IsMadeLine after (next_seen s text) r.lines (grind (arith, nat_tests)) (more r.lines p.1)))
        (λ r e p. (p.0, more r.lines p.1))
        s.rows (stand-once s.nodes_made s.rows once) shows.made;
    in_order = placed-in_order line_address (next_line ns table file after text) v.lines shows.in_order
        (all-map (λ (l : Line). IsLineOf table (length table) l.address)
        (λ l. stands_before (line_address (next_line ns table file after text)) (line_address l) ≡ false → stands_before (line_address l) (line_address (next_line ns table file after text)) ≡ true)
        (λ l h. behind l.address (inside table (length table) l.address tab (omega arith) h).1) v.lines shows.addresses);
    files = all-placed line_address (λ (l : Line). l.file ≤ ns.nodes + s.nodes_made) (next_line ns table file after text) v.lines (made-number ns.nodes s.nodes_made file file_made) shows.files;
    addresses = all-placed line_address (λ (l : Line). IsLineOf (with_line table (line_number (length ns.addresses) after)) (length (with_line table (line_number (length ns.addresses) after))) l.address)
        (next_line ns table file after text) v.lines (length table, below, own_address)
        (all-map (λ (l : Line). IsLineOf (with_line table (line_number (length ns.addresses) after)) (length table) (line_address l))
        (λ l. IsLineOf (with_line table (line_number (length ns.addresses) after)) (length (with_line table (line_number (length ns.addresses) after))) l.address)
        (λ l h. (h.0, (let k = h.1 in omega (arith, k, below)), h.2)) v.lines old_lines);
    counted = (let k = shows.counted in omega (arith, k, longer));
  }
    where
      anchors : AllByRecursion (λ (r : ViewRow). same_node r.node file ≡ true → (is_head after || is_among after r.lines) ≡ true) s.rows
      anchors = only-found file (λ r. (is_head after || is_among after r.lines) ≡ true) s.rows (stand-once s.nodes_made s.rows once) anchor

      all_kept : AllByRecursion Stays s.rows
      all_kept =
          all-both (λ (r : ViewRow). ShowsLines ns v r × IsMade ns s r) (λ r. same_node r.node file ≡ true → (is_head after || is_among after r.lines) ≡ true) Stays
          (λ r h k. (h.0, h.1, k)) s.rows
          (all-both (ShowsLines ns v) (IsMade ns s) (λ (r : ViewRow). ShowsLines ns v r × IsMade ns s r) (λ r h k. (h, k)) s.rows shows.lines shows.made)
          anchors

      behind : (a : List ℕ) → AllByRecursion (λ n. n < suc (length table)) a
          → stands_before (line_address (next_line ns table file after text)) a ≡ false → stands_before a (line_address (next_line ns table file after text)) ≡ true
      behind a small =
          let m = line_number (length ns.addresses) after in
          subst (λ b. stands_before b a ≡ false → stands_before a b ≡ true) (sym (own_address ∙ link))
          (λ e. new_after (suc (length table)) (address_in (with_line table m) m) a small e)
