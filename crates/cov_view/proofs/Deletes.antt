-- A view still shows its variant after a line was taken out of both.
use Rattle.std.proofs.Common.{◌≡◌, ℕ, ◌+◌, ◌≤◌, Bool, true, false, cond, ◌&&◌, not, nat_eq, List, [], ◌∷◌, length, map, refl, sym, ap, ◌∙◌, arith}
use Rattle.std.specs.List.{filter, AllByRecursion}
use Rattle.std.specs.Str.{bytes_eq}
use Rattle.std.proofs.lemmas.Bool.Decides.{nat_tests}
use Rattle.std.proofs.lemmas.Bool.{and_parts}
use Rattle.cov_base.specs.declared.number.NodeRef.{NodeRef}
use Rattle.cov_base.specs.declared.number.LineRef.{LineRef}
use Rattle.cov_base.specs.Addresses.{address_in, line_of, IsTable, IsLineOf}
use Rattle.cov_base.proofs.CallerLemmas.{all-map, all-both, all-filter, in_order-filter, line_is}
use Rattle.cov_edit.specs.declared.edit.Edit.TheVariants as edits
use Rattle.cov_edit.specs.Numbering.{Numbers, Deleted, node_number, line_number}
use Rattle.cov_edit.specs.Variant.{Variant, Line, line_address, is_line, lines_of, edited}
use Rattle.cov_view.specs.References.{same_node, same_line, is_made_node, is_made_line}
use Rattle.cov_view.specs.Lines.{without_ref}
use Rattle.cov_view.specs.Seen.{Seen, with_lines_by, seen_after, AreRows}
use Rattle.cov_view.specs.Views.{line_by_number, by_number, ShowsLines, IsMade, Shows}
use Rattle.cov_view.specs.declared.line.ViewLine.{ViewLine}
use Rattle.cov_view.specs.declared.row.ViewRow.{ViewRow}
use Rattle.cov_view.proofs.Naming.{same-node, same-line, node-same, made-known, made-known_line, rows-same}
use Rattle.cov_view.proofs.Standing.{stand-once, all-at_row}

filter-same : {X : Type 0} (p q : X → Bool) (xs : List X) → AllByRecursion (λ x. p x ≡ q x) xs → filter p xs ≡ filter q xs
filter-same p q [] h = refl
filter-same p q (x ∷ xs) h = ap (λ b. cond b (x ∷ filter p xs) (filter p xs)) h.0 ∙ ap (λ l. cond (q x) (x ∷ l) l) (filter-same p q xs h.1)

pub filter-map : {X Y : Type 0} (g : X → Y) (p : Y → Bool) (xs : List X) → map g (filter (λ x. p (g x)) xs) ≡ filter p (map g xs)
filter-map g p [] = refl
filter-map g p (x ∷ xs) = at (p (g x)) (filter-map g p xs)
  where
    at : (b : Bool) → map g (filter (λ y. p (g y)) xs) ≡ filter p (map g xs)
        → map g (cond b (x ∷ filter (λ y. p (g y)) xs) (filter (λ y. p (g y)) xs)) ≡ cond b (g x ∷ filter p (map g xs)) (filter p (map g xs))
    at true rest = ap (λ l. g x ∷ l) rest
    at false rest = rest

module _ {X : Type 0} (p : X → Bool) where
  -- what is taken out of those that pass
  filter-out : (t : X → Bool) (xs : List X) → filter p (filter (λ x. not (p x && t x)) xs) ≡ filter (λ x. not (t x)) (filter p xs)
  filter-out t [] = refl
  filter-out t (x ∷ xs) = at (p x) (t x) refl refl (filter-out t xs)
    where
      rest_of : List X
      rest_of = filter (λ y. not (p y && t y)) xs

      at : (a b : Bool) → p x ≡ a → t x ≡ b → filter p rest_of ≡ filter (λ y. not (t y)) (filter p xs)
          → filter p (cond (not (a && b)) (x ∷ rest_of) rest_of) ≡ filter (λ y. not (t y)) (cond a (x ∷ filter p xs) (filter p xs))
      at true true e f rest = rest ∙ sym (ap (λ b. cond (not b) (x ∷ filter (λ y. not (t y)) (filter p xs)) (filter (λ y. not (t y)) (filter p xs))) f)
      at true false e f rest =
          ap (λ a. cond a (x ∷ filter p rest_of) (filter p rest_of)) e ∙ ap (λ l. x ∷ l) rest
          ∙ sym (ap (λ b. cond (not b) (x ∷ filter (λ y. not (t y)) (filter p xs)) (filter (λ y. not (t y)) (filter p xs))) f)
      at false b e f rest = ap (λ a. cond a (x ∷ filter p rest_of) (filter p rest_of)) e ∙ rest

  -- what doesn't pass may be taken out or not
  filter-other : (u : X → Bool) → ((x : X) → p x ≡ true → u x ≡ false) → (xs : List X) → filter p (filter (λ x. not (u x)) xs) ≡ filter p xs
  filter-other u apart [] = refl
  filter-other u apart (x ∷ xs) = at (p x) (u x) refl (λ e. apart x e) (filter-other u apart xs)
    where
      rest_of : List X
      rest_of = filter (λ y. not (u y)) xs

      at : (a b : Bool) → p x ≡ a → (p x ≡ true → b ≡ false) → filter p rest_of ≡ filter p xs
          → filter p (cond (not b) (x ∷ rest_of) rest_of) ≡ cond a (x ∷ filter p xs) (filter p xs)
      at true true e h rest = absurd (let k = h e in cc)
      at false true e h rest = rest
      at true false e h rest = ap (λ a. cond a (x ∷ filter p rest_of) (filter p rest_of)) e ∙ ap (λ l. x ∷ l) rest
      at false false e h rest = ap (λ a. cond a (x ∷ filter p rest_of) (filter p rest_of)) e ∙ rest

module _ (ns : Numbers) (table : List (List ℕ)) (s : Seen) (v : Variant) (shows : Shows ns table s v) (tab : IsTable table)
    (file : NodeRef) (line : LineRef) (file_made : is_made_node ns.nodes s.nodes_made file ≡ true)
    (line_made : is_made_line (length ns.addresses) s.lines_made line ≡ true) where
  -- the number of the line
  abbrev N : ℕ
  N = line_number (length ns.addresses) line

  -- the variant without it
  abbrev v' : Variant
  v' = edited v (Deleted (node_number ns.nodes file) (address_in table N))

  by-number : (f : ℕ) → AllByRecursion (λ (l : Line). not (is_line f (address_in table N) l) ≡ not (nat_eq l.file f && nat_eq (line_of l.address) N)) v.lines
  by-number f =
      all-map (λ (l : Line). IsLineOf table (length table) l.address) (λ l. not (is_line f (address_in table N) l) ≡ not (nat_eq l.file f && nat_eq (line_of l.address) N))
      (λ l h. ap (λ b. not (nat_eq l.file f && b)) (line_is table (length table) N l.address tab (omega arith) h)) v.lines shows.addresses

  line_known : (ls : List ViewLine) → AllByRecursion (λ l. is_made_line (length ns.addresses) s.lines_made l.line ≡ true) ls
      → AllByRecursion (λ (l : ViewLine). not (nat_eq (line_number (length ns.addresses) l.line) N) ≡ not (same_line l.line line)) ls
  line_known ls made =
      all-map (λ (l : ViewLine). is_made_line (length ns.addresses) s.lines_made l.line ≡ true) (λ l. not (nat_eq (line_number (length ns.addresses) l.line) N) ≡ not (same_line l.line line))
      (λ l h. ap not (sym (same-line (length ns.addresses) s.lines_made l.line line h (made-known_line (length ns.addresses) s.lines_made line line_made)))) ls made

  -- the lines of the file without the one
  own-lines : (r : ViewRow) → same_node r.node file ≡ true → AllByRecursion (λ l. is_made_line (length ns.addresses) s.lines_made l.line ≡ true) r.lines → ShowsLines ns v r
      → ShowsLines ns v' (with_lines_by (without_ref line) r)
  own-lines r same made h kind =
      let f = node_number ns.nodes r.node in
      let mine : Line → Bool = λ l. nat_eq l.file f in
      let its : node_number ns.nodes file ≡ f = ap (node_number ns.nodes) (sym (node-same r.node file same)) in
      ap (λ (n : ℕ). map by_number (filter mine (filter (λ l. not (is_line n (address_in table N) l)) v.lines))) its
      ∙ ap (λ (ls : List Line). map by_number (filter mine ls))
      (filter-same (λ l. not (is_line f (address_in table N) l)) (λ l. not (mine l && nat_eq (line_of l.address) N)) v.lines (by-number f))
      ∙ ap (map by_number) (filter-out mine (λ l. nat_eq (line_of l.address) N) v.lines)
      ∙ filter-map by_number (λ (p : ℕ × List ℕ). not (nat_eq p.0 N)) (lines_of v f)
      ∙ ap (filter (λ (p : ℕ × List ℕ). not (nat_eq p.0 N))) (h kind)
      ∙ sym (filter-map (line_by_number ns) (λ (p : ℕ × List ℕ). not (nat_eq p.0 N)) r.lines)
      ∙ ap (map (line_by_number ns))
      (filter-same (λ l. not (nat_eq (line_number (length ns.addresses) l.line) N)) (λ l. not (same_line l.line line)) r.lines (line_known r.lines made))

  -- the lines of another file
  other-lines : (r : ViewRow) → same_node r.node file ≡ false → is_made_node ns.nodes s.nodes_made r.node ≡ true → ShowsLines ns v r → ShowsLines ns v' r
  other-lines r other made h kind =
      let f = node_number ns.nodes r.node in
      let apart : nat_eq f (node_number ns.nodes file) ≡ false = sym (same-node ns.nodes s.nodes_made r.node file made (made-known ns.nodes s.nodes_made file file_made)) ∙ other in
      ap (map by_number)
      (filter-other (λ (l : Line). nat_eq l.file f) (is_line (node_number ns.nodes file) (address_in table N))
      (λ l e. let k : nat_eq l.file (node_number ns.nodes file) ≡ false = grind (arith, nat_tests, apart, e) in ap (λ b. b && bytes_eq l.address (address_in table N)) k)
      v.lines)
      ∙ h kind

  abbrev Stays : ViewRow → Type 0
  Stays r = ShowsLines ns v r × IsMade ns s r

  -- after a line was taken out
  pub shows-delete : AreRows s.nodes_made s.rows → Shows ns table (seen_after s (edits.Delete file line)) v'
  shows-delete once = record {
    rows = shows.rows ∙ sym (rows-same ns file (without_ref line) s.rows);
    lines = all-at_row Stays (ShowsLines ns v') file (with_lines_by (without_ref line))
        (λ r e p. own-lines r e p.1.1 p.0)
        (λ r e p. other-lines r e (and_parts (is_made_node ns.nodes s.nodes_made r.node) (is_made_node ns.nodes s.nodes_made r.parent) p.1.0).0 p.0)
        s.rows (stand-once s.nodes_made s.rows once) (all-both (ShowsLines ns v) (IsMade ns s) Stays (λ r h k. (h, k)) s.rows shows.lines shows.made);
    made = all-at_row (IsMade ns s) (IsMade ns (seen_after s (edits.Delete file line))) file (with_lines_by (without_ref line))
        (λ r e p. (p.0, all-filter (λ (l : ViewLine). is_made_line (length ns.addresses) s.lines_made l.line ≡ true) (λ l. not (same_line l.line line)) r.lines p.1))
        (λ r e p. p)
        s.rows (stand-once s.nodes_made s.rows once) shows.made;
    in_order = in_order-filter line_address (λ l. not (is_line (node_number ns.nodes file) (address_in table N) l)) v.lines shows.in_order;
    files = all-filter (λ (l : Line). l.file ≤ ns.nodes + s.nodes_made) (λ l. not (is_line (node_number ns.nodes file) (address_in table N) l)) v.lines shows.files;
    addresses = all-filter (λ (l : Line). IsLineOf table (length table) l.address) (λ l. not (is_line (node_number ns.nodes file) (address_in table N) l)) v.lines shows.addresses;
    counted = shows.counted;
  }
