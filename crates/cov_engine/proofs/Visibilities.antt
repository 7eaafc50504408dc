-- The node of a line is true where the replay has the line.
use Rattle.std.proofs.Common.{◌≡◌, ℕ, ◌<◌, ◌≤◌, Bool, true, false, cond, ◌||◌, nat_eq, nat_lt, None, Option, Some, List, [], ◌∷◌, ◌⊎◌, inl, inr, length, map, refl, sym, ap, subst, ◌∙◌, arith}
use Rattle.std.specs.Prelude.{IfSome, is_none}
use Rattle.std.specs.List.{filter, find, list_any, AllByRecursion}
use Rattle.std.specs.Option.{option_map}
use Rattle.std.proofs.Math.Seq.{take-length}
use Rattle.std.proofs.lemmas.Bool.Decides.{nat_tests}
use Rattle.cov_base.specs.Addresses.{stands_before, line_of, address_in, IsTable, IsLineOf, AreInOrder}
use Rattle.cov_base.proofs.CallerLemmas.{before-itself, one_address}
use Rattle.cov_dd.specs.declared.triple.Triple.{Triple}
use Rattle.cov_dd.specs.Diagrams.{Stands}
use Rattle.cov_expr.specs.Formula.{value}
use Rattle.cov_edit.specs.declared.command.Command.{Command}
use Rattle.cov_edit.specs.History.{option_count}
use Rattle.cov_edit.specs.Numbering.{numbers_of, line_count}
use Rattle.cov_edit.specs.Replay.{replay}
use Rattle.cov_edit.specs.Variant.{Variant, Line}
use Rattle.cov_file.specs.Dated.{DatedLine as FileLine, vis_at, vis_of, all_rows}
use Rattle.cov_visible.specs.declared.file_part.FilePart.{FilePart}
use Rattle.cov_overtaking.specs.declared.mark.CommitMark.{CommitMark}
use Rattle.cov_history.specs.Files.{DatedLine, dated, file_dated}
use Rattle.cov_engine.specs.Holdings.{IsFileOf, AreRowsAndLinesOf}
use Rattle.cov_history.specs.Kept.{Kept, seen_at, is_seen, kept_address, kept_number, kept_of, lines_seen, file_kept}
use Rattle.cov_visible.specs.Nodes.{IsDated, AreDated}
use Rattle.cov_history.specs.Verdict.{IsLegal}
use Rattle.cov_engine.specs.Visibility.{has_line_number, IsVisibilityOf, is_no_line, as_row, item_of, stored_file_of}
use Rattle.cov_visible.specs.Parts.{part_of}
use Rattle.cov_history.proofs.CallerLemmas.{any-seen, replay-seen, seen-cons, holding-stands}
use Rattle.cov_tree.specs.Dated.{Dated}
use Rattle.cov_visible.proofs.CallerLemmas.{equal}
use Rattle.cov_engine.proofs.FileOfLine.{stored-held, none-stored, line-stored, no-line-file}

-- the first item that passes a test
any-found : {X : Type 0} (t : X → Bool) (xs : List X) → list_any t xs ≡ true → (x : X) × (find t xs ≡ Some x)
any-found t [] h = absurd (cc)
any-found t (x ∷ xs) h = at (t x) h (any-found t xs)
  where
    at : (b : Bool) → (b || list_any t xs) ≡ true → (list_any t xs ≡ true → (y : _) × (find t xs ≡ Some y)) → (y : _) × (cond b (Some x) (find t xs) ≡ Some y)
    at true k rest = (x, refl)
    at false k rest = rest k

found-mapped : {X Y : Type 0} (t : Y → Bool) (f : X → Y) (xs : List X) (x : X) → find (λ z. t (f z)) xs ≡ Some x → find t (map f xs) ≡ Some (f x)
found-mapped t f [] x h = absurd (cc)
found-mapped t f (z ∷ xs) x h = at (t (f z)) h (found-mapped t f xs x)
  where
    at : (b : Bool) → cond b (Some z) (find (λ y. t (f y)) xs) ≡ Some x → (find (λ y. t (f y)) xs ≡ Some x → find t (map f xs) ≡ Some (f x))
        → cond b (Some (f z)) (find t (map f xs)) ≡ Some (f x)
    at true k rest = ap (option_map f) k
    at false k rest = rest k

found-any : {X : Type 0} (t : X → Bool) (xs : List X) (x : X) → find t xs ≡ Some x → list_any t xs ≡ true
found-any t [] x h = absurd (cc)
found-any t (z ∷ xs) x h = at (t z) h (found-any t xs x)
  where
    at : (b : Bool) → cond b (Some z) (find t xs) ≡ Some x → (find t xs ≡ Some x → list_any t xs ≡ true) → (b || list_any t xs) ≡ true
    at true k rest = refl
    at false k rest = rest k

any-filter : {X : Type 0} (t q : X → Bool) (xs : List X) → list_any t (filter q xs) ≡ true → list_any t xs ≡ true
any-filter t q [] h = h
any-filter t q (x ∷ xs) h = at (q x) (t x) refl h (any-filter t q xs)
  where
    at : (b s : Bool) → t x ≡ s → list_any t (cond b (x ∷ filter q xs) (filter q xs)) ≡ true → (list_any t (filter q xs) ≡ true → list_any t xs ≡ true) → (s || list_any t xs) ≡ true
    at b true e k rest = refl
    at true false e k rest = rest (sym (ap (λ s. s || list_any t (filter q xs)) e) ∙ k)
    at false false e k rest = rest k

-- the line of a file with a number is the dated one
dated-found : (ts : List Triple) (count line : ℕ) (ds : List DatedLine) (ls : List FileLine) (d : DatedLine) → AreDated ts count ds ls → find (λ e. nat_eq e.line line) ds ≡ Some d
    → (l : FileLine) × (find (λ m. nat_eq m.line line) ls ≡ Some l) × IsDated ts count d l
dated-found ts count line [] ls d are h = absurd (cc)
dated-found ts count line (e ∷ ds) [] d are h = absurd are
dated-found ts count line (e ∷ ds) (m ∷ ls) d are h =
    let first : nat_eq m.line line ≡ nat_eq e.line line = ap (λ n. nat_eq n line) are.0.line in
    let is = at (nat_eq e.line line) h (dated-found ts count line ds ls d are.1) in
    (is.0, ap (λ b. cond b (Some m) (find (λ l. nat_eq l.line line) ls)) first ∙ is.1, is.2)
  where
    at : (b : Bool) → cond b (Some e) (find (λ f. nat_eq f.line line) ds) ≡ Some d
        → (find (λ f. nat_eq f.line line) ds ≡ Some d → (l : FileLine) × (find (λ n. nat_eq n.line line) ls ≡ Some l) × IsDated ts count d l)
        → (l : FileLine) × (cond b (Some m) (find (λ n. nat_eq n.line line) ls) ≡ Some l) × IsDated ts count d l
    at true k rest = let same : e ≡ d = cc in (m, refl, subst (λ f. IsDated ts count f m) same are.0)
    at false k rest = rest k

module _ (t : List (List ℕ)) (n : ℕ) (table : IsTable t) (below : n ≤ length t) where
  -- no line after another has its number
  none-after : (line : ℕ) (k : Kept Line) (ks : List (Kept Line)) → kept_number k ≡ line → IsLineOf t n (kept_address k) → AllByRecursion (λ j. IsLineOf t n (kept_address j)) ks
      → AllByRecursion (λ j. stands_before (kept_address k) (kept_address j) ≡ true) ks → list_any (λ j. nat_eq (kept_number j) line) ks ≡ false
  none-after line k [] e own lines order = refl
  none-after line k (j ∷ ks) e own lines order =
      at (nat_eq (kept_number j) line) refl (none-after line k ks e own lines.1 order.1)
    where
      at : (b : Bool) → nat_eq (kept_number j) line ≡ b → list_any (λ i. nat_eq (kept_number i) line) ks ≡ false → (b || list_any (λ i. nat_eq (kept_number i) line) ks) ≡ false
      at true f rest =
          let one : kept_address k ≡ address_in t line = one_address t n line (kept_address k) table below own e in
          let two : kept_address j ≡ address_in t line = one_address t n line (kept_address j) table below lines.0 (equal (kept_number j) line f) in
          let same : kept_address j ≡ kept_address k = two ∙ sym one in
          let itself : stands_before (kept_address k) (kept_address k) ≡ true = subst (λ a. stands_before (kept_address k) a ≡ true) same order.0 in
          let never : stands_before (kept_address k) (kept_address k) ≡ false = before-itself (kept_address k) in
          absurd (cc)
      at false f rest = rest

  module _ (c : List Bool) (p line file : ℕ) where
    abbrev has : List (Kept Line) → Bool
    has ks = list_any (λ l. nat_eq (line_of l.address) line) (lines_seen c p ks)

    none-seen : (ks : List (Kept Line)) → list_any (λ j. nat_eq (kept_number j) line) ks ≡ false → has ks ≡ false
    none-seen ks none = at (has ks) refl
      where
        at : (b : Bool) → has ks ≡ b → b ≡ false
        at true e = let any : list_any (λ j. nat_eq (kept_number j) line) ks ≡ true = any-seen c p (λ l. nat_eq (line_of l.address) line) ks e in absurd (cc)
        at false e = refl

    -- the line of a number is seen where the one kept is
    only-line : (ks : List (Kept Line)) (k : Kept Line) → AreInOrder kept_address ks → AllByRecursion (λ j. IsLineOf t n (kept_address j)) ks
        → find (λ j. nat_eq (kept_number j) line) (file_kept file ks) ≡ Some k → has ks ≡ is_seen c p k
    only-line [] k order lines h = absurd (cc)
    only-line (j ∷ ks) k order lines h =
        ap (list_any (λ l. nat_eq (line_of l.address) line)) (seen-cons c p j ks)
        ∙ at (nat_eq j.item.file file) (nat_eq (kept_number j) line) refl h (only-line ks k order.1 lines.1)
      where
        Rest : Type 0
        Rest = find (λ i. nat_eq (kept_number i) line) (file_kept file ks) ≡ Some k → has ks ≡ is_seen c p k

        seen-first : (s : Bool) → is_seen c p j ≡ s → nat_eq (kept_number j) line ≡ true → has ks ≡ false
            → list_any (λ l. nat_eq (line_of l.address) line) (cond s (j.item ∷ lines_seen c p ks) (lines_seen c p ks)) ≡ s
        seen-first true e own none = ap (λ b. b || has ks) own
        seen-first false e own none = none

        seen-other : (s : Bool) → nat_eq (kept_number j) line ≡ false
            → list_any (λ l. nat_eq (line_of l.address) line) (cond s (j.item ∷ lines_seen c p ks) (lines_seen c p ks)) ≡ has ks
        seen-other true other = ap (λ b. b || has ks) other
        seen-other false other = refl

        head-of : (b : Bool) → b ≡ true → cond b (Some j) (find (λ i. nat_eq (kept_number i) line) (file_kept file ks)) ≡ Some k → j ≡ k
        head-of true e g = cc
        head-of false e g = absurd (cc)

        next-of : (b : Bool) → b ≡ false → cond b (Some j) (find (λ i. nat_eq (kept_number i) line) (file_kept file ks)) ≡ Some k
            → find (λ i. nat_eq (kept_number i) line) (file_kept file ks) ≡ Some k
        next-of true e g = absurd (cc)
        next-of false e g = g

        elsewhere : (b : Bool) → nat_eq (kept_number j) line ≡ b → find (λ i. nat_eq (kept_number i) line) (file_kept file ks) ≡ Some k → Rest
            → list_any (λ l. nat_eq (line_of l.address) line) (cond (is_seen c p j) (j.item ∷ lines_seen c p ks) (lines_seen c p ks)) ≡ is_seen c p k
        elsewhere true e g rest =
            let any : list_any (λ i. nat_eq (kept_number i) line) (file_kept file ks) ≡ true = found-any (λ i. nat_eq (kept_number i) line) (file_kept file ks) k g in
            let also : list_any (λ i. nat_eq (kept_number i) line) ks ≡ true = any-filter (λ i. nat_eq (kept_number i) line) (λ i. nat_eq i.item.file file) ks any in
            let none : list_any (λ i. nat_eq (kept_number i) line) ks ≡ false = none-after line j ks (equal (kept_number j) line e) lines.0 lines.1 order.0 in
            absurd (cc)
        elsewhere false e g rest = seen-other (is_seen c p j) e ∙ rest g

        at : (f b : Bool) → nat_eq (kept_number j) line ≡ b → find (λ i. nat_eq (kept_number i) line) (cond f (j ∷ file_kept file ks) (file_kept file ks)) ≡ Some k → Rest
            → list_any (λ l. nat_eq (line_of l.address) line) (cond (is_seen c p j) (j.item ∷ lines_seen c p ks) (lines_seen c p ks)) ≡ is_seen c p k
        at true true e g rest =
            let same : j ≡ k = head-of (nat_eq (kept_number j) line) e g in
            seen-first (is_seen c p j) refl e (none-seen ks (none-after line j ks (equal (kept_number j) line e) lines.0 lines.1 order.0)) ∙ ap (is_seen c p) same
        at true false e g rest = elsewhere false e (next-of (nat_eq (kept_number j) line) e g) rest
        at false b e g rest = elsewhere b e g rest

stands-as : (ts : List Triple) (r least most : ℕ) (f g : List Bool → Bool) → ((c : List Bool) → f c ≡ g c) → Stands ts r least most f → Stands ts r least most g
stands-as ts r least most f g same s = record { within = s.within; above = s.above; below = s.below; value = λ c. s.value c ∙ same c }

-- the newest node of a line in its file is its visibility
record IsNode (history : List Command) (ts : List Triple) (line : ℕ) (e : FilePart) : Type 0 where
  node : ℕ
  is : vis_of line (length history) e.lines.lines ≡ Some node
  stands : IsVisibilityOf history ts line node

node-stands : (history : List Command) (ts : List Triple) (line : ℕ) (e : FilePart) → list_any (λ k. nat_eq (kept_number k) line) (file_kept e.node (kept_of history)) ≡ true → IsFileOf history ts e
    → IsNode history ts line e
node-stands history ts line e any file =
    let kept = any-found (λ k. nat_eq (kept_number k) line) (file_kept e.node (kept_of history)) any in
    let k : Kept Line = kept.0 in
    let found = dated-found ts (option_count history) line (file_dated e.node (kept_of history)) e.lines.lines (dated k) file.lines
    (found-mapped (λ (d : DatedLine). nat_eq d.line line) dated (file_kept e.node (kept_of history)) k kept.1) in
    let l : FileLine = found.0 in
    let own : IsDated ts (option_count history) (dated k) l = found.2 in
    let table : List (List ℕ) = (numbers_of history).addresses in
    let standing = holding-stands history in
    record {
      node = vis_at l.changes (length history);
      is = ap (option_map (λ (m : FileLine). vis_at m.changes (length history))) found.1;
      stands = stands-as ts (vis_at l.changes (length history)) 0 (option_count history) (value (seen_at k.changes (length history))) (λ c. has_line_number line (replay c history))
          (λ c.
          sym (only-line table (length table) standing.0 (let all : length table ≤ length table = omega arith in all) c (length history) line e.node (kept_of history) k
          standing.1.in_order standing.1.numbered_lines kept.1)
          ∙ ap (λ (v : Variant). has_line_number line v) (replay-seen c (length history) history ∙ ap (replay c) (take-length history)))
          (own.nodes (length history));
    }

-- an answer tells the visibility of a line, or that there is no such line
pub record TellsVisibility (history : List Command) (ts : List Triple) (line : ℕ) (answer : Option ℕ) : Type 0 where
  pub none : is_none answer ≡ is_no_line history line
  pub stands : IfSome answer (IsVisibilityOf history ts line)

module _ (history : List Command) (ts : List Triple) (commits : List CommitMark) (file_of_line : List ℕ) (entries : Dated) (stored : List FilePart) (legal : IsLegal history) (held : AreRowsAndLinesOf history ts commits file_of_line entries stored) where
  -- where the line's file has no stored file
  pub no-answer : (line : ℕ) → stored_file_of stored (item_of file_of_line line) ≡ None → is_no_line history line ≡ true
  no-answer line h = by (no-line-file history ts commits file_of_line entries stored legal held line h)
    where
      by : (line ≡ 0) ⊎ (line_count history < line) → is_no_line history line ≡ true
      by (inl e) = let zero_is : nat_eq line 0 ≡ true = grind (arith, nat_tests, e) in ap (λ b. b || nat_lt (line_count history) line) zero_is
      by (inr above) =
          let no_zero : nat_eq line 0 ≡ false = grind (arith, nat_tests, above) in
          let beyond : nat_lt (line_count history) line ≡ true = grind (arith, nat_tests, above) in
          ap (λ b. b || nat_lt (line_count history) line) no_zero ∙ beyond

  -- and where it has
  pub answer : (line : ℕ) (e : FilePart) (result : Option ℕ) → stored_file_of stored (item_of file_of_line line) ≡ Some e → ((p : ℕ) → e.lines.newest ≤ p → result ≡ vis_of line p e.lines.lines)
      → TellsVisibility history ts line result
  answer line e result h latest =
      let its = line-stored history ts commits file_of_line entries stored legal held line e h in
      let node = node-stands history ts line e its.2 its.3 in
      let is : result ≡ Some node.node = latest (length history) its.3.newest ∙ node.is in
      let above : 0 < line = its.0 in
      let below : line ≤ line_count history = its.1 in
      let no_zero : nat_eq line 0 ≡ false = grind (arith, nat_tests, above) in
      let within : nat_lt (line_count history) line ≡ false = grind (arith, nat_tests, below) in
      let known : is_no_line history line ≡ false = ap (λ b. b || nat_lt (line_count history) line) no_zero ∙ within in
      subst (TellsVisibility history ts line) (sym is) (record { none = sym known; stands = node.stands })

  same-rows : (count : ℕ) (ds : List DatedLine) (ls : List FileLine) → AreDated ts count ds ls → all_rows ls ≡ map as_row ds
  same-rows count [] [] h = refl
  same-rows count [] (l ∷ ls) h = absurd h
  same-rows count (d ∷ ds) [] h = absurd h
  same-rows count (d ∷ ds) (l ∷ ls) h = λ i. record { line = h.0.line i; text = h.0.text i } ∷ same-rows count ds ls h.1 i

  -- all lines of a file are those kept
  pub all-kept : (file : ℕ) (e : FilePart) → part_of stored file ≡ Some e → all_rows e.lines.lines ≡ map as_row (file_dated file (kept_of history))
  all-kept file e h =
      let own = stored-held history ts commits file_of_line entries stored legal held file e h in
      same-rows (option_count history) (file_dated e.node (kept_of history)) e.lines.lines own.1.lines
      ∙ ap (λ f. map as_row (file_dated f (kept_of history))) own.0

  pub none-kept : (file : ℕ) → part_of stored file ≡ None → [] ≡ map as_row (file_dated file (kept_of history))
  none-kept file h = sym (ap (λ ks. map as_row (map dated ks)) (none-stored history ts commits file_of_line entries stored legal held file h))
