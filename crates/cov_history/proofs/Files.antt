-- The kept lines of one file.
use Rattle.std.proofs.Common.{◌≡◌, ℕ, suc, ◌<◌, ◌≤◌, Bool, true, false, cond, ◌||◌, ◌&&◌, nat_eq, List, [], ◌∷◌, ◌++◌, length, take, ◌⊎◌, refl, sym, ap, inl, inr, ◌∙◌, arith}
use Rattle.std.specs.List.{filter, list_any}
pub use Rattle.std.proofs.lemmas.Bool.{or_right}
use Rattle.std.proofs.lemmas.Bool.Decides.{nat_tests}
use Rattle.cov_base.specs.Addresses.{stands_before, address_in, IsTable, IsLineOf, line_of, placed, number_by, AreInOrder, after_anchor_by}
use Rattle.cov_base.proofs.CallerLemmas.{any-filter, all-map, all-filter, filter-placed, in_order-filter, at_one, or_left_comm, order-insert, line_of-in}
use Rattle.cov_expr.specs.Formula.{Formula}
use Rattle.cov_edit.specs.declared.command.Command.{Command}
use Rattle.cov_edit.specs.Variant.{Variant, Line, line_address, lines_of}
use Rattle.cov_edit.specs.Replay.{replay}
use Rattle.cov_history.specs.Kept.{Kept, is_seen, kept_address, kept_number, new_line, Holding, kept_of, lines_seen, file_kept, is_kept_anchor, IsHolding}
use Rattle.cov_history.proofs.Seen.{seen-cons}
use Rattle.cov_history.proofs.Replays.{replay-seen}

pub file-seen : (c : List Bool) (p file : ℕ) (ks : List (Kept Line)) → filter (λ l. nat_eq l.file file) (lines_seen c p ks) ≡ lines_seen c p (file_kept file ks)
file-seen c p file [] = refl
file-seen c p file (k ∷ ks) =
    ap (filter (λ l. nat_eq l.file file)) (seen-cons c p k ks)
    ∙ table (nat_eq k.item.file file) (is_seen c p k) refl (file-seen c p file ks)
    ∙ sym (back (nat_eq k.item.file file))
  where
    shown : List Line
    shown = lines_seen c p ks

    own : List Line
    own = lines_seen c p (file_kept file ks)

    table : (t s : Bool) → nat_eq k.item.file file ≡ t → filter (λ l. nat_eq l.file file) shown ≡ own
        → filter (λ l. nat_eq l.file file) (cond s (k.item ∷ shown) shown) ≡ cond t (cond s (k.item ∷ own) own) own
    table true true e rest = ap (λ b. cond b (k.item ∷ filter (λ l. nat_eq l.file file) shown) (filter (λ l. nat_eq l.file file) shown)) e ∙ ap (λ l. k.item ∷ l) rest
    table true false e rest = rest
    table false true e rest = ap (λ b. cond b (k.item ∷ filter (λ l. nat_eq l.file file) shown) (filter (λ l. nat_eq l.file file) shown)) e ∙ rest
    table false false e rest = rest

    back : (t : Bool) → lines_seen c p (cond t (k ∷ file_kept file ks) (file_kept file ks)) ≡ cond t (cond (is_seen c p k) (k.item ∷ own) own) own
    back true = seen-cons c p k (file_kept file ks)
    back false = refl

pub file-replay : (c : List Bool) (p file : ℕ) (history : List Command) → lines_of (replay c (take p history)) file ≡ lines_seen c p (file_kept file (kept_of history))
file-replay c p file history =
    ap (λ (v : Variant). lines_of v file) (sym (replay-seen c p history)) ∙ file-seen c p file (kept_of history)

-- what is seen is kept
pub any-seen : (c : List Bool) (p : ℕ) (test : Line → Bool) (ks : List (Kept Line)) → list_any test (lines_seen c p ks) ≡ true → list_any (λ k. test k.item) ks ≡ true
any-seen c p test [] h = h
any-seen c p test (k ∷ ks) h = at (is_seen c p k) (test k.item) refl (sym (ap (list_any test) (seen-cons c p k ks)) ∙ h) (λ j. any-seen c p test ks j)
  where
    at : (s t : Bool) → test k.item ≡ t → list_any test (cond s (k.item ∷ lines_seen c p ks) (lines_seen c p ks)) ≡ true
        → (list_any test (lines_seen c p ks) ≡ true → list_any (λ j. test j.item) ks ≡ true)
        → (test k.item || list_any (λ j. test j.item) ks) ≡ true
    at s true e i rest = ap (λ b. b || list_any (λ j. test j.item) ks) e
    at true false e i rest = or_right (test k.item) (list_any (λ j. test j.item) ks) (rest (sym (ap (λ b. b || list_any test (lines_seen c p ks)) e) ∙ i))
    at false false e i rest = or_right (test k.item) (list_any (λ j. test j.item) ks) (rest i)

pub shown-kept : (c : List Bool) (p file line : ℕ) (history : List Command)
    → list_any (λ l. nat_eq (number_by line_address l) line) (lines_of (replay c (take p history)) file) ≡ true → is_kept_anchor file line (kept_of history) ≡ true
shown-kept c p file line history h =
    or_right (nat_eq line 0) (list_any (λ k. nat_eq (kept_number k) line) (file_kept file (kept_of history)))
    (any-seen c p (λ l. nat_eq (number_by line_address l) line) (file_kept file (kept_of history))
    (sym (ap (list_any (λ l. nat_eq (number_by line_address l) line)) (file-replay c p file history)) ∙ h))

pub anchor-case : (file anchor : ℕ) (ks : List (Kept Line)) → is_kept_anchor file anchor ks ≡ true
    → (anchor ≡ 0) ⊎ (list_any (λ k. nat_eq (kept_number k) anchor) (file_kept file ks) ≡ true)
anchor-case file anchor ks h = at (nat_eq anchor 0) refl h
  where
    at : (b : Bool) → nat_eq anchor 0 ≡ b → (b || list_any (λ k. nat_eq (kept_number k) anchor) (file_kept file ks)) ≡ true
        → (anchor ≡ 0) ⊎ (list_any (λ k. nat_eq (kept_number k) anchor) (file_kept file ks) ≡ true)
    at true e k = inl (grind (arith, nat_tests, e))
    at false e k = inr k

-- an anchor's number is at most the count of lines
pub anchor-below : (t : List (List ℕ)) (n q file anchor : ℕ) (held : Holding) → IsTable t → n ≤ length t → IsHolding t n q held → is_kept_anchor file anchor held.lines ≡ true → anchor ≤ n
anchor-below t n q file anchor held table below s h = at (anchor-case file anchor held.lines h)
  where
    at : (anchor ≡ 0) ⊎ (list_any (λ k. nat_eq (kept_number k) anchor) (file_kept file held.lines) ≡ true) → anchor ≤ n
    at (inl e) = omega (arith, e)
    at (inr e) =
        at_one (λ k. nat_eq (kept_number k) anchor) (anchor ≤ n) (file_kept file held.lines) e
        (all-filter (λ k. nat_eq (kept_number k) anchor ≡ true → anchor ≤ n) (λ k. nat_eq k.item.file file) held.lines
        (all-map (λ k. IsLineOf t n (kept_address k)) (λ k. nat_eq (kept_number k) anchor ≡ true → anchor ≤ n)
        (λ k line f.
        let less : line.0 < n = line.1 in
        let number : kept_number k ≡ suc line.0 = ap line_of line.2 ∙ line_of-in t line.0 table (omega (arith, less, below)) in
        let same : kept_number k ≡ anchor = grind (arith, nat_tests, f) in
        omega (arith, less, number, same))
        held.lines s.numbered_lines))

-- the next line of a table goes directly after its anchor
pub placed-anchor : (t : List (List ℕ)) (n q file anchor : ℕ) (within : Formula ℕ) (text : List ℕ) (held : Holding)
    → IsTable t → n < length t → address_in t (suc n) ≡ address_in t anchor ++ suc n ∷ [] → IsHolding t n q held
    → is_kept_anchor file anchor held.lines ≡ true
    → file_kept file (placed kept_address (new_line q within file (address_in t (suc n)) text) held.lines)
    ≡ after_anchor_by kept_number anchor (new_line q within file (address_in t (suc n)) text) (file_kept file held.lines)
placed-anchor t n q file anchor within text held table below link s h =
    let own : nat_eq file file ≡ true = grind (arith, nat_tests) in
    filter-placed kept_address (λ k. nat_eq k.item.file file) new held.lines s.in_order
    ∙ ap (λ b. cond b (placed kept_address new (file_kept file held.lines)) (file_kept file held.lines)) own
    ∙ order-insert kept_address t n anchor new (file_kept file held.lines) table below refl link
    (in_order-filter kept_address (λ k. nat_eq k.item.file file) held.lines s.in_order)
    (all-filter (λ k. IsLineOf t n (kept_address k)) (λ k. nat_eq k.item.file file) held.lines s.numbered_lines)
    (anchor-case file anchor held.lines h)
  where
    new : Kept Line
    new = new_line q within file (address_in t (suc n)) text

-- a line placed in one file leaves the others
pub placed-elsewhere : (q file other : ℕ) (within : Formula ℕ) (address text : List ℕ) (ks : List (Kept Line)) → AreInOrder kept_address ks → nat_eq file other ≡ false
    → file_kept other (placed kept_address (new_line q within file address text) ks) ≡ file_kept other ks
placed-elsewhere q file other within address text ks o h =
    filter-placed kept_address (λ k. nat_eq k.item.file other) (new_line q within file address text) ks o
    ∙ ap (λ b. cond b (placed kept_address (new_line q within file address text) (file_kept other ks)) (file_kept other ks)) h

pub any-placed : {X : Type 0} (address : X → List ℕ) (t : X → Bool) (x : X) (xs : List X) → list_any t (placed address x xs) ≡ (t x || list_any t xs)
any-placed address t x [] = refl
any-placed address t x (y ∷ ys) = at (stands_before (address x) (address y)) (any-placed address t x ys)
  where
    at : (b : Bool) → list_any t (placed address x ys) ≡ (t x || list_any t ys) → list_any t (cond b (x ∷ y ∷ ys) (y ∷ placed address x ys)) ≡ (t x || (t y || list_any t ys))
    at true rest = refl
    at false rest = ap (λ b. t y || b) rest ∙ or_left_comm (t y) (t x) (list_any t ys)

-- whether a kept line is one of a file with a number
abbrev pub is_one : ℕ → ℕ → Kept Line → Bool
is_one file line k = nat_eq k.item.file file && nat_eq (kept_number k) line

anchor-placed : (file line : ℕ) (new : Kept Line) (ks : List (Kept Line))
    → is_kept_anchor file line (placed kept_address new ks) ≡ (nat_eq line 0 || (is_one file line new || list_any (is_one file line) ks))
anchor-placed file line new ks =
    ap (λ b. nat_eq line 0 || b) (any-filter (λ k. nat_eq k.item.file file) (λ k. nat_eq (kept_number k) line) (placed kept_address new ks) ∙ any-placed kept_address (is_one file line) new ks)

pub anchor-stays : (file line : ℕ) (new : Kept Line) (ks : List (Kept Line)) → is_kept_anchor file line ks ≡ true → is_kept_anchor file line (placed kept_address new ks) ≡ true
anchor-stays file line new ks h =
    anchor-placed file line new ks
    ∙ more (nat_eq line 0) (is_one file line new) (list_any (is_one file line) ks)
    (sym (ap (λ b. nat_eq line 0 || b) (any-filter (λ k. nat_eq k.item.file file) (λ k. nat_eq (kept_number k) line) ks)) ∙ h)
  where
    more : (a b c : Bool) → (a || c) ≡ true → (a || (b || c)) ≡ true
    more true b c e = refl
    more false true c e = refl
    more false false c e = e

pub anchor-new : (file line : ℕ) (new : Kept Line) (ks : List (Kept Line)) → new.item.file ≡ file → kept_number new ≡ line → is_kept_anchor file line (placed kept_address new ks) ≡ true
anchor-new file line new ks e f =
    let same_file : nat_eq new.item.file file ≡ true = grind (arith, nat_tests, e) in
    let same_line : nat_eq (kept_number new) line ≡ true = grind (arith, nat_tests, f) in
    anchor-placed file line new ks
    ∙ found (nat_eq line 0) (nat_eq new.item.file file) (nat_eq (kept_number new) line) (list_any (is_one file line) ks) same_file same_line
  where
    found : (a b c d : Bool) → b ≡ true → c ≡ true → (a || ((b && c) || d)) ≡ true
    found true b c d i j = refl
    found false true true d i j = refl
    found false true false d i j = absurd (cc)
    found false false c d i j = absurd (cc)
