-- What a history holds stays in order, numbered and dated.
use Rattle.std.proofs.Common.{◌≡◌, ℕ, suc, ◌+◌, ◌<◌, ◌≤◌, Bool, true, false, cond, List, [], ◌∷◌, length, map, refl, sym, ap, subst, ◌∙◌, arith}
use Rattle.std.specs.List.{fold, AllByRecursion}
use Rattle.cov_base.specs.Addresses.{stands_before, address_in, with_lines, IsTable, IsLineOf, AreInOrder}
use Rattle.cov_base.specs.Rows.{Row, RowChange, Created, Renamed, Moved, Removed, with_name, with_parent}
use Rattle.cov_base.proofs.CallerLemmas.{all-map, all-append, all-placed, placed-in_order, new_after, inside, length-with_lines, is_table-with_lines, address_in-with_lines}
use Rattle.cov_expr.specs.Formula.{Formula}
use Rattle.cov_edit.specs.declared.edit.Edit.{Edit}
use Rattle.cov_edit.specs.declared.edit.Edit.TheVariants as edits
use Rattle.cov_edit.specs.declared.command.Command.{Command}
use Rattle.cov_edit.specs.declared.command.Command.TheVariants as commands
use Rattle.cov_edit.specs.Numbering.{Numbers, NumberedEdit, OnRows, Inserted, Deleted, no_numbers, node_count_after, line_count_after, anchors_of, numbers_after, numbers_from, numbers_of, numbered_edit, numbered_from, numbered}
use Rattle.cov_edit.specs.Replay.{first_within, rest_within, changes_within, commit_changes}
use Rattle.cov_edit.specs.Sides.{unsided, conditions}
use Rattle.cov_edit.specs.Variant.{Line, is_line}
use Rattle.cov_edit.proofs.CallerLemmas.{line_count_after-is}
use Rattle.cov_history.specs.Kept.{Kept, IsUpTo, new_item, hidden, taken_up, hidden_where, replaced_where, kept_address, new_line, is_row, rows_kept_after, Holding, nothing_held, held_after, held_with, held_from, held_by, IsHolding}

-- how many lines there are after an edit
abbrev pub count_after : ℕ → NumberedEdit → ℕ
count_after n (OnRows change) = n
count_after n (Inserted file address text) = n + 1
count_after n (Deleted file address) = n

-- a line that an edit inserts is the next of a table
abbrev pub IsNext : List (List ℕ) → ℕ → NumberedEdit → Type 0
IsNext t n (OnRows change) = Unit {0}
IsNext t n (Inserted file address text) = (n < length t) × (address ≡ address_in t (n + 1))
IsNext t n (Deleted file address) = Unit {0}

-- the lines that edits insert are the next of a table
abbrev pub AreNext : List (List ℕ) → ℕ → List NumberedEdit → Type 0
AreNext t n [] = Unit {0}
AreNext t n (d ∷ ds) = IsNext t n d × AreNext t (count_after n d) ds

-- an edit by numbers counts its line as the edit does
pub count-edit : (ns : Numbers) (t : List (List ℕ)) (node line n : ℕ) (e : Edit) → count_after n (numbered_edit ns t node line e) ≡ line_count_after n e
count-edit ns t node line n (edits.New kind parent name) = refl
count-edit ns t node line n (edits.Insert file after text) = refl
count-edit ns t node line n (edits.Delete file which) = refl
count-edit ns t node line n (edits.Rename which name) = refl
count-edit ns t node line n (edits.Move which parent) = refl
count-edit ns t node line n (edits.Remove which) = refl

pub next-edit : (ns : Numbers) (t : List (List ℕ)) (node line : ℕ) (e : Edit) → line_count_after line e ≤ length t → IsNext t line (numbered_edit ns t node line e)
next-edit ns t node line (edits.New kind parent name) h = tt
next-edit ns t node line (edits.Insert file after text) h = (omega (arith, h), refl)
next-edit ns t node line (edits.Delete file which) h = tt
next-edit ns t node line (edits.Rename which name) h = tt
next-edit ns t node line (edits.Move which parent) h = tt
next-edit ns t node line (edits.Remove which) h = tt

pub numbered-next : (ns : Numbers) (t : List (List ℕ)) (node line m : ℕ) (es : List Edit) → line + length (anchors_of m es) ≤ length t
    → AreNext t line (numbered_from ns t node line es)
numbered-next ns t node line m [] h = tt
numbered-next ns t node line m (e ∷ es) h =
    let count = line_count_after-is line m e (anchors_of m es) in (
      next-edit ns t node line e (omega (arith, h, count)),
      subst (λ n. AreNext t n (numbered_from ns t (node_count_after node e) (line_count_after line e) es)) (sym (count-edit ns t node line line e))
          (numbered-next ns t (node_count_after node e) (line_count_after line e) m es (omega (arith, h, count))),
    )

pub numbered-count : (ns : Numbers) (t : List (List ℕ)) (node line m : ℕ) (es : List Edit) → fold count_after line (numbered_from ns t node line es) ≡ line + length (anchors_of m es)
numbered-count ns t node line m [] = omega arith
numbered-count ns t node line m (e ∷ es) =
    ap (λ n. fold count_after n (numbered_from ns t (node_count_after node e) (line_count_after line e) es)) (count-edit ns t node line line e)
    ∙ numbered-count ns t (node_count_after node e) (line_count_after line e) m es ∙ sym (line_count_after-is line m e (anchors_of m es))

pub all-mapped : {X Y : Type 0} (P : X → Type 0) (Q : Y → Type 0) (f : X → Y) → ((x : X) → P x → Q (f x)) → (xs : List X) → AllByRecursion P xs → AllByRecursion Q (map f xs)
all-mapped P Q f g [] h = tt
all-mapped P Q f g (x ∷ xs) h = (g x h.0, all-mapped P Q f g xs h.1)

in_order-mapped : {X : Type 0} (address : X → List ℕ) (f : X → X) → ((x : X) → address (f x) ≡ address x) → (xs : List X) → AreInOrder address xs → AreInOrder address (map f xs)
in_order-mapped address f same [] o = tt
in_order-mapped address f same (x ∷ xs) o = (
  all-mapped (λ y. stands_before (address x) (address y) ≡ true) (λ y. stands_before (address (f x)) (address y) ≡ true) f
      (λ y h. ap (λ a. stands_before a (address (f y))) (same x) ∙ ap (stands_before (address x)) (same y) ∙ h) xs o.0,
  in_order-mapped address f same xs o.1,
)

-- no change beyond a position
abbrev IsDated : {X : Type 0} → ℕ → Kept X → Type 0
IsDated q k = IsUpTo q k.changes

at_itself : (q : ℕ) → q ≤ q
at_itself q = omega arith

dated-later : {X : Type 0} (p q : ℕ) → p ≤ q → (k : Kept X) → IsDated p k → IsDated q k
dated-later p q h k = at k.changes
  where
    at : (changes : List (ℕ × Formula ℕ)) → IsUpTo p changes → IsUpTo q changes
    at [] dated = tt
    at (change ∷ changes) dated = omega (arith, h, dated)

hidden-dated : {X : Type 0} (test : X → Bool) (q : ℕ) (within : Formula ℕ) (k : Kept X) → IsDated q k → IsDated q (hidden_where test q within k)
hidden-dated test q within k h = at (test k.item)
  where
    at : (b : Bool) → IsDated q (cond b (hidden q within k) k)
    at true = at_itself q
    at false = h

replaced-dated : {X : Type 0} (test : X → Bool) (other : X → X) (q : ℕ) (within : Formula ℕ) (ks : List (Kept X))
    → AllByRecursion (IsDated q) ks → AllByRecursion (IsDated q) (replaced_where test other q within ks)
replaced-dated test other q within [] h = tt
replaced-dated test other q within (k ∷ ks) h = at (test k.item) (replaced-dated test other q within ks h.1)
  where
    at : (b : Bool) → AllByRecursion (IsDated q) (replaced_where test other q within ks)
        → AllByRecursion (IsDated q) (cond b (hidden q within k ∷ taken_up q within other k ∷ replaced_where test other q within ks) (k ∷ replaced_where test other q within ks))
    at true rest = (at_itself q, (at_itself q, rest))
    at false rest = (h.0, rest)

rows-dated : (q : ℕ) (within : Formula ℕ) (ks : List (Kept Row)) (change : RowChange) → AllByRecursion (IsDated q) ks → AllByRecursion (IsDated q) (rows_kept_after q within ks change)
rows-dated q within ks (Created node kind parent name) h =
    all-append (IsDated q) ks (new_item q within (record { node = node; kind = kind; parent = parent; name = name }) ∷ []) h (at_itself q, tt)
rows-dated q within ks (Renamed node name) h = replaced-dated (is_row node) (with_name node name) q within ks h
rows-dated q within ks (Moved node parent) h = replaced-dated (is_row node) (with_parent node parent) q within ks h
rows-dated q within ks (Removed node) h = all-mapped (IsDated q) (IsDated q) (hidden_where (is_row node) q within) (hidden-dated (is_row node) q within) ks h

hidden-address : (test : Line → Bool) (q : ℕ) (within : Formula ℕ) (k : Kept Line) → kept_address (hidden_where test q within k) ≡ kept_address k
hidden-address test q within k = at (test k.item)
  where
    at : (b : Bool) → kept_address (cond b (hidden q within k) k) ≡ kept_address k
    at true = refl
    at false = refl

pub line_of-more : (t : List (List ℕ)) (n : ℕ) (a : List ℕ) → IsLineOf t n a → IsLineOf t (n + 1) a
line_of-more t n a line = (line.0, (let less : line.0 < n = line.1 in omega (arith, less)), line.2)

-- the next line of a table stands behind the lines that it doesn't stand before
pub next-behind : (t : List (List ℕ)) (n : ℕ) (a : List ℕ) → IsTable t → n < length t → IsLineOf t n a
    → stands_before (address_in t (suc n)) a ≡ false → stands_before a (address_in t (suc n)) ≡ true
next-behind t n a table below line =
    let e = table n below in
    subst (λ b. stands_before b a ≡ false → stands_before a b ≡ true) (sym e.1)
    (new_after (suc n) e.0 a (inside t n a table (omega (arith, below)) line).1)

pub stands-edit : (t : List (List ℕ)) (n q : ℕ) (within : Formula ℕ) (held : Holding) (d : NumberedEdit) → IsTable t → IsNext t n d → IsHolding t n q held
    → IsHolding t (count_after n d) q (held_after q within held d)
stands-edit t n q within held (OnRows change) table next s = record {
  in_order = s.in_order;
  numbered_lines = s.numbered_lines;
  dated_rows = rows-dated q within held.rows change s.dated_rows;
  dated_lines = s.dated_lines;
}
stands-edit t n q within held (Inserted file address text) table next s = record {
  in_order = placed-in_order kept_address new held.lines s.in_order
      (all-map (λ k. IsLineOf t n (kept_address k)) (λ k. stands_before address (kept_address k) ≡ false → stands_before (kept_address k) address ≡ true)
      (λ k line. subst (λ a. stands_before a (kept_address k) ≡ false → stands_before (kept_address k) a ≡ true) (sym own) (next-behind t n (kept_address k) table next.0 line))
      held.lines s.numbered_lines);
  numbered_lines = all-placed kept_address (λ k. IsLineOf t (n + 1) (kept_address k)) new held.lines (n, (omega arith), own)
      (all-map (λ k. IsLineOf t n (kept_address k)) (λ k. IsLineOf t (n + 1) (kept_address k)) (λ k. line_of-more t n (kept_address k)) held.lines s.numbered_lines);
  dated_rows = s.dated_rows;
  dated_lines = all-placed kept_address (IsDated q) new held.lines (at_itself q) s.dated_lines;
}
  where
    new : Kept Line
    new = new_line q within file address text

    own : address ≡ address_in t (suc n)
    own = let one : n + 1 ≡ suc n = omega arith in next.1 ∙ ap (address_in t) one
stands-edit t n q within held (Deleted file address) table next s = record {
  in_order = in_order-mapped kept_address (hidden_where (is_line file address) q within) (hidden-address (is_line file address) q within) held.lines s.in_order;
  numbered_lines = all-mapped (λ k. IsLineOf t n (kept_address k)) (λ k. IsLineOf t n (kept_address k)) (hidden_where (is_line file address) q within)
      (λ k line. subst (IsLineOf t n) (sym (hidden-address (is_line file address) q within k)) line) held.lines s.numbered_lines;
  dated_rows = s.dated_rows;
  dated_lines = all-mapped (IsDated q) (IsDated q) (hidden_where (is_line file address) q within) (hidden-dated (is_line file address) q within) held.lines s.dated_lines;
}

pub stands-edits : (t : List (List ℕ)) (n q : ℕ) (within : List (Formula ℕ)) (held : Holding) (ds : List NumberedEdit) → IsTable t → AreNext t n ds → IsHolding t n q held
    → IsHolding t (fold count_after n ds) q (fold (held_with q) held (changes_within within ds))
stands-edits t n q within held [] table next s = s
stands-edits t n q within held (d ∷ ds) table next s =
    stands-edits t (count_after n d) q (rest_within within) (held_after q (first_within within) held d) ds table next.1 (stands-edit t n q (first_within within) held d table next.0 s)

pub stands-later : (t : List (List ℕ)) (n p q : ℕ) (held : Holding) → p ≤ q → IsHolding t n p held → IsHolding t n q held
stands-later t n p q held h s = record {
  in_order = s.in_order;
  numbered_lines = s.numbered_lines;
  dated_rows = all-map (IsDated p) (IsDated q) (dated-later p q h) held.rows s.dated_rows;
  dated_lines = all-map (IsDated p) (IsDated q) (dated-later p q h) held.lines s.dated_lines;
}

stands-with_lines : (t : List (List ℕ)) (anchors : List ℕ) (q : ℕ) (held : Holding) → IsHolding t (length t) q held → IsHolding (with_lines t anchors) (length t) q held
stands-with_lines t anchors q held s = record {
  in_order = s.in_order;
  numbered_lines = all-map (λ k. IsLineOf t (length t) (kept_address k)) (λ k. IsLineOf (with_lines t anchors) (length t) (kept_address k))
      (λ k line. let less : line.0 < length t = line.1 in (line.0, line.1, line.2 ∙ sym (address_in-with_lines t anchors (suc line.0) (omega (arith, less))))) held.lines s.numbered_lines;
  dated_rows = s.dated_rows;
  dated_lines = s.dated_lines;
}

-- what stands before the edits of a commit, in the table after it
pub stands-opened : (ns : Numbers) (es : List Edit) (q : ℕ) (held : Holding) → IsHolding ns.addresses (length ns.addresses) q held
    → IsHolding (numbers_after ns es).addresses (length ns.addresses) (q + 1) held
stands-opened ns es q held s =
    stands-later (numbers_after ns es).addresses (length ns.addresses) q (q + 1) held (omega arith) (stands-with_lines ns.addresses (anchors_of (length ns.addresses) es) q held s)

pub table-after : (ns : Numbers) (es : List Edit) → IsTable ns.addresses → IsTable (numbers_after ns es).addresses
table-after ns es table = is_table-with_lines ns.addresses (anchors_of (length ns.addresses) es) table

-- the lines of a commit are the next of the table after it
pub commit-next : (ns : Numbers) (es : List Edit) → AreNext (numbers_after ns es).addresses (length ns.addresses) (numbered ns es)
commit-next ns es =
    let e = length-with_lines ns.addresses (anchors_of (length ns.addresses) es) in
    numbered-next ns (numbers_after ns es).addresses ns.nodes (length ns.addresses) (length ns.addresses) es (omega (arith, e))

pub stands-commit : (ns : Numbers) (within : List (Formula ℕ)) (es : List Edit) (q : ℕ) (held : Holding) → IsTable ns.addresses → IsHolding ns.addresses (length ns.addresses) q held
    → IsHolding (numbers_after ns es).addresses (length (numbers_after ns es).addresses) (q + 1) (fold (held_with (q + 1)) held (changes_within within (numbered ns es)))
stands-commit ns within es q held table s =
    let count = numbered-count ns (numbers_after ns es).addresses ns.nodes (length ns.addresses) (length ns.addresses) es in
    subst (λ n. IsHolding (numbers_after ns es).addresses n (q + 1) (fold (held_with (q + 1)) held (changes_within within (numbered ns es))))
    (count ∙ sym (length-with_lines ns.addresses (anchors_of (length ns.addresses) es)))
    (stands-edits (numbers_after ns es).addresses (length ns.addresses) (q + 1) within held (numbered ns es) (table-after ns es table) (commit-next ns es) (stands-opened ns es q held s))

-- what stands before a history stands, later, after it
pub stands-from : (ns : Numbers) (p q : ℕ) (held : Holding) (history : List Command) → p ≡ q + length history → IsTable ns.addresses → IsHolding ns.addresses (length ns.addresses) q held
    → IsTable (numbers_from ns history).addresses
    × IsHolding (numbers_from ns history).addresses (length (numbers_from ns history).addresses) p (held_from q held ns history)
stands-from ns p q held [] e table s = (table, stands-later ns.addresses (length ns.addresses) q p held (omega (arith, e)) s)
stands-from ns p q held (commands.Commit base choice ambition ss ∷ history) e table s =
    stands-from (numbers_after ns (unsided ss)) p (q + 1) (fold (held_with (q + 1)) held (commit_changes ns ambition ss)) history (omega (arith, e))
    (table-after ns (unsided ss) table) (stands-commit ns (conditions ambition ss) (unsided ss) q held table s)
stands-from ns p q held (commands.Option name ∷ history) e table s =
    stands-from ns p (q + 1) held history (omega (arith, e)) table (stands-later ns.addresses (length ns.addresses) q (q + 1) held (omega arith) s)
stands-from ns p q held (commands.Constraint expr ∷ history) e table s =
    stands-from ns p (q + 1) held history (omega (arith, e)) table (stands-later ns.addresses (length ns.addresses) q (q + 1) held (omega arith) s)
stands-from ns p q held (commands.Prefer expr ∷ history) e table s =
    stands-from ns p (q + 1) held history (omega (arith, e)) table (stands-later ns.addresses (length ns.addresses) q (q + 1) held (omega arith) s)
stands-from ns p q held (commands.Default option on ∷ history) e table s =
    stands-from ns p (q + 1) held history (omega (arith, e)) table (stands-later ns.addresses (length ns.addresses) q (q + 1) held (omega arith) s)
stands-from ns p q held (commands.Upgrade ∷ history) e table s =
    stands-from ns p (q + 1) held history (omega (arith, e)) table (stands-later ns.addresses (length ns.addresses) q (q + 1) held (omega arith) s)

pub no_table : IsTable []
no_table n h = absurd (omega (arith, h))

pub nothing-stands : IsHolding [] 0 0 nothing_held
nothing-stands = record { in_order = tt; numbered_lines = tt; dated_rows = tt; dated_lines = tt }

pub holding-stands : (history : List Command)
    → IsTable (numbers_of history).addresses × IsHolding (numbers_of history).addresses (length (numbers_of history).addresses) (length history) (held_by history)
holding-stands history = stands-from no_numbers (length history) 0 nothing_held history (omega arith) no_table nothing-stands
