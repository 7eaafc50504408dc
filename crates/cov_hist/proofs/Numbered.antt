-- Which commit inserts a line, by how many lines there were.
use Rattle.std.proofs.Common.{◌≡◌, ℕ, zero, suc, ◌+◌, ◌<◌, ◌≤◌, Bool, true, false, cond, not, ◌&&◌, ◌||◌, nat_eq, nat_le, nat_lt, List, [], ◌∷◌, ◌++◌, length, map, take, Option, Some, None, is_some, unwrap_or, refl, sym, ap, subst, ◌∙◌, arith}
use Rattle.std.specs.List.{list_any, AllByRecursion}
use Rattle.std.proofs.Math.Seq.{take-length}
use Rattle.std.proofs.lemmas.Bool.{and_parts}
use Rattle.std.proofs.lemmas.Bool.Decides.{nat_tests}
use Rattle.cov_base.specs.Addresses.{address_in, line_of, IsTable, IsLineOf}
use Rattle.cov_base.specs.declared.file_row.FileRow.{FileRow}
use Rattle.cov_base.proofs.CallerLemmas.{all-filter, all-map, is_table-with_lines, length-with_lines, line_of-in}
use Rattle.cov_edit.specs.declared.command.Command.{Command}
use Rattle.cov_edit.specs.declared.command.Command.TheVariants as commands
use Rattle.cov_edit.specs.declared.edit.Edit.{Edit}
use Rattle.cov_edit.specs.declared.edit.Edit.TheVariants as edits
use Rattle.cov_edit.specs.Numbering.{Numbers, no_numbers, anchors_of, line_count, numbered, numbered_from, numbers_after, numbers_from, numbers_of}
use Rattle.cov_edit.specs.Replay.{replay}
use Rattle.cov_edit.specs.Sides.{unsided}
use Rattle.cov_edit.specs.Variant.{Line, lines_of}
use Rattle.cov_history.proofs.CallerLemmas.{all-mapped, holding-stands, replay-stands}
use Rattle.cov_visible.specs.Reading.{line_row}
use Rattle.cov_hist.specs.Origins.{inserts, origin, origin_from, blame_row, HasOrigin}

module _ (ns : Numbers) (t : List (List ℕ)) (table : IsTable t) (m x : ℕ) where
  own-number : (line : ℕ) → line < length t → line_of (address_in t (line + 1)) ≡ suc line
  own-number line less = (let one : line + 1 ≡ suc line = omega arith in ap (λ y. line_of (address_in t y)) one) ∙ line_of-in t line table less

  -- edits insert the lines that they draw
  drawn-there : (node line : ℕ) (es : List Edit) → line + length (anchors_of m es) ≤ length t → line < x → x ≤ line + length (anchors_of m es)
      → list_any (inserts x) (numbered_from ns t node line es) ≡ true
  drawn-there node line [] below low high = absurd (omega (arith, low, high))
  drawn-there node line (edits.New kind parent name ∷ es) below low high = drawn-there (node + 1) line es below low high
  drawn-there node line (edits.Insert file after text ∷ es) below low high =
      at (nat_eq (line_of (address_in t (line + 1))) x) refl (own-number line (omega (arith, below)))
      (λ later. drawn-there node (line + 1) es (omega (arith, below)) later (omega (arith, high)))
    where
      at : (b : Bool) → nat_eq (line_of (address_in t (line + 1))) x ≡ b → line_of (address_in t (line + 1)) ≡ suc line
          → (line + 1 < x → list_any (inserts x) (numbered_from ns t node (line + 1) es) ≡ true)
          → (b || list_any (inserts x) (numbered_from ns t node (line + 1) es)) ≡ true
      at true e own rest = refl
      at false e own rest = rest (grind (arith, nat_tests, e, own, low))
  drawn-there node line (edits.Delete file which ∷ es) below low high = drawn-there node line es below low high
  drawn-there node line (edits.Rename which name ∷ es) below low high = drawn-there node line es below low high
  drawn-there node line (edits.Move which parent ∷ es) below low high = drawn-there node line es below low high
  drawn-there node line (edits.Remove which ∷ es) below low high = drawn-there node line es below low high

  -- and no others
  drawn-only : (node line : ℕ) (es : List Edit) → line + length (anchors_of m es) ≤ length t → (line < x → x ≤ line + length (anchors_of m es) → ⊥)
      → list_any (inserts x) (numbered_from ns t node line es) ≡ false
  drawn-only node line [] below outside = refl
  drawn-only node line (edits.New kind parent name ∷ es) below outside = drawn-only (node + 1) line es below outside
  drawn-only node line (edits.Insert file after text ∷ es) below outside =
      ap (λ b. b || list_any (inserts x) (numbered_from ns t node (line + 1) es)) (at (nat_eq (line_of (address_in t (line + 1))) x) refl (own-number line (omega (arith, below))))
      ∙ drawn-only node (line + 1) es (omega (arith, below)) (λ low high. outside (omega (arith, low)) (omega (arith, high)))
    where
      at : (b : Bool) → nat_eq (line_of (address_in t (line + 1))) x ≡ b → line_of (address_in t (line + 1)) ≡ suc line → b ≡ false
      at true e own = let same : x ≡ suc line = grind (arith, nat_tests, e, own) in absurd (outside (omega (arith, same)) (omega (arith, same)))
      at false e own = refl
  drawn-only node line (edits.Delete file which ∷ es) below outside = drawn-only node line es below outside
  drawn-only node line (edits.Rename which name ∷ es) below outside = drawn-only node line es below outside
  drawn-only node line (edits.Move which parent ∷ es) below outside = drawn-only node line es below outside
  drawn-only node line (edits.Remove which ∷ es) below outside = drawn-only node line es below outside

abbrev lines_in : Numbers → ℕ
lines_in ns = length ns.addresses

-- a commit inserts the lines by which its history has more
module _ (ns : Numbers) (table : IsTable ns.addresses) (es : List Edit) (x : ℕ) where
  pub commit-counts : lines_in (numbers_after ns es) ≡ lines_in ns + length (anchors_of (lines_in ns) es)
  commit-counts = length-with_lines ns.addresses (anchors_of (lines_in ns) es)

  pub commit-table : IsTable (numbers_after ns es).addresses
  commit-table = is_table-with_lines ns.addresses (anchors_of (lines_in ns) es) table

  commit-inserts : lines_in ns < x → x ≤ lines_in (numbers_after ns es) → list_any (inserts x) (numbered ns es) ≡ true
  commit-inserts low high =
      let count = commit-counts in
      drawn-there ns (numbers_after ns es).addresses commit-table (lines_in ns) x ns.nodes (lines_in ns) es (omega (arith, count)) low (omega (arith, high, count))

  commit-inserts_none : (lines_in ns < x → x ≤ lines_in (numbers_after ns es) → ⊥) → list_any (inserts x) (numbered ns es) ≡ false
  commit-inserts_none outside =
      let count = commit-counts in
      drawn-only ns (numbers_after ns es).addresses commit-table (lines_in ns) x ns.nodes (lines_in ns) es (omega (arith, count)) (λ low high. outside low (omega (arith, high, count)))

  commit-grows : lines_in ns ≤ lines_in (numbers_after ns es)
  commit-grows = let count = commit-counts in omega (arith, count)

-- a longer history has no fewer lines
lines-grow : (ns : Numbers) (ks : List Command) → IsTable ns.addresses → lines_in ns ≤ lines_in (numbers_from ns ks)
lines-grow ns [] table = omega arith
lines-grow ns (commands.Option name ∷ ks) table = lines-grow ns ks table
lines-grow ns (commands.Constraint expr ∷ ks) table = lines-grow ns ks table
lines-grow ns (commands.Prefer expr ∷ ks) table = lines-grow ns ks table
lines-grow ns (commands.Default option on ∷ ks) table = lines-grow ns ks table
lines-grow ns (commands.Commit base choice ambition ss ∷ ks) table =
    let own = commit-grows ns table (unsided ss) 0 in
    let later = lines-grow (numbers_after ns (unsided ss)) ks (commit-table ns table (unsided ss) 0) in
    omega (arith, own, later)
lines-grow ns (commands.Upgrade ∷ ks) table = lines-grow ns ks table

-- the commit up to which there is a line, and before which there isn't, inserts it
pub origin-found : (x : ℕ) (ns : Numbers) (p q : ℕ) (ks : List Command) → IsTable ns.addresses → q < length ks → lines_in (numbers_from ns (take q ks)) < x → x ≤ lines_in (numbers_from ns (take (suc q) ks))
    → origin_from ns p ks x ≡ Some (p + suc q)
origin-found x ns p q [] table less low high = absurd (omega (arith, less))
origin-found x ns p zero (commands.Option name ∷ ks) table less low high = absurd (omega (arith, low, high))
origin-found x ns p zero (commands.Constraint expr ∷ ks) table less low high = absurd (omega (arith, low, high))
origin-found x ns p zero (commands.Prefer expr ∷ ks) table less low high = absurd (omega (arith, low, high))
origin-found x ns p zero (commands.Default option on ∷ ks) table less low high = absurd (omega (arith, low, high))
origin-found x ns p zero (commands.Commit base choice ambition ss ∷ ks) table less low high =
    ap (λ b. cond b (Some (p + 1)) (origin_from (numbers_after ns (unsided ss)) (p + 1) ks x)) (commit-inserts ns table (unsided ss) x low high)
origin-found x ns p zero (commands.Upgrade ∷ ks) table less low high = absurd (omega (arith, low, high))
origin-found x ns p (suc q) (commands.Option name ∷ ks) table less low high = origin-found x ns (p + 1) q ks table (omega (arith, less)) low high ∙ ap Some (omega arith)
origin-found x ns p (suc q) (commands.Constraint expr ∷ ks) table less low high = origin-found x ns (p + 1) q ks table (omega (arith, less)) low high ∙ ap Some (omega arith)
origin-found x ns p (suc q) (commands.Prefer expr ∷ ks) table less low high = origin-found x ns (p + 1) q ks table (omega (arith, less)) low high ∙ ap Some (omega arith)
origin-found x ns p (suc q) (commands.Default option on ∷ ks) table less low high = origin-found x ns (p + 1) q ks table (omega (arith, less)) low high ∙ ap Some (omega arith)
origin-found x ns p (suc q) (commands.Commit base choice ambition ss ∷ ks) table less low high =
    let after = commit-table ns table (unsided ss) 0 in
    let grown = lines-grow (numbers_after ns (unsided ss)) (take q ks) after in
    ap (λ b. cond b (Some (p + 1)) (origin_from (numbers_after ns (unsided ss)) (p + 1) ks x)) (commit-inserts_none ns table (unsided ss) x (λ _ most. omega (arith, most, grown, low)))
    ∙ origin-found x (numbers_after ns (unsided ss)) (p + 1) q ks after (omega (arith, less)) low high
    ∙ ap Some (omega arith)
origin-found x ns p (suc q) (commands.Upgrade ∷ ks) table less low high = origin-found x ns (p + 1) q ks table (omega (arith, less)) low high ∙ ap Some (omega arith)

-- a line that these commands don't insert has no origin among them
pub origin-absent : (x : ℕ) (ns : Numbers) (p : ℕ) (ks : List Command) → IsTable ns.addresses → (lines_in ns < x → x ≤ lines_in (numbers_from ns ks) → ⊥) → origin_from ns p ks x ≡ None
origin-absent x ns p [] table outside = refl
origin-absent x ns p (commands.Option name ∷ ks) table outside = origin-absent x ns (p + 1) ks table outside
origin-absent x ns p (commands.Constraint expr ∷ ks) table outside = origin-absent x ns (p + 1) ks table outside
origin-absent x ns p (commands.Prefer expr ∷ ks) table outside = origin-absent x ns (p + 1) ks table outside
origin-absent x ns p (commands.Default option on ∷ ks) table outside = origin-absent x ns (p + 1) ks table outside
origin-absent x ns p (commands.Commit base choice ambition ss ∷ ks) table outside =
    let own = commit-grows ns table (unsided ss) 0 in
    let after = commit-table ns table (unsided ss) 0 in
    let grown = lines-grow (numbers_after ns (unsided ss)) ks after in
    ap (λ b. cond b (Some (p + 1)) (origin_from (numbers_after ns (unsided ss)) (p + 1) ks x)) (commit-inserts_none ns table (unsided ss) x (λ low high. outside low (omega (arith, high, grown))))
    ∙ origin-absent x (numbers_after ns (unsided ss)) (p + 1) ks after (λ low high. outside (omega (arith, low, own)) high)
origin-absent x ns p (commands.Upgrade ∷ ks) table outside = origin-absent x ns (p + 1) ks table outside

-- a line that they insert has one
origin-some : (x : ℕ) (ns : Numbers) (p : ℕ) (ks : List Command) → IsTable ns.addresses → lines_in ns < x → x ≤ lines_in (numbers_from ns ks) → is_some (origin_from ns p ks x) ≡ true
origin-some x ns p [] table low high = absurd (omega (arith, low, high))
origin-some x ns p (commands.Option name ∷ ks) table low high = origin-some x ns (p + 1) ks table low high
origin-some x ns p (commands.Constraint expr ∷ ks) table low high = origin-some x ns (p + 1) ks table low high
origin-some x ns p (commands.Prefer expr ∷ ks) table low high = origin-some x ns (p + 1) ks table low high
origin-some x ns p (commands.Default option on ∷ ks) table low high = origin-some x ns (p + 1) ks table low high
origin-some x ns p (commands.Commit base choice ambition ss ∷ ks) table low high =
    at (list_any (inserts x) (numbered ns (unsided ss))) refl (λ later. origin-some x (numbers_after ns (unsided ss)) (p + 1) ks (commit-table ns table (unsided ss) 0) later high)
  where
    at : (b : Bool) → list_any (inserts x) (numbered ns (unsided ss)) ≡ b → (lines_in (numbers_after ns (unsided ss)) < x → is_some (origin_from (numbers_after ns (unsided ss)) (p + 1) ks x) ≡ true)
        → is_some (cond b (Some (p + 1)) (origin_from (numbers_after ns (unsided ss)) (p + 1) ks x)) ≡ true
    at true e rest = refl
    at false e rest = rest (above (nat_lt (lines_in (numbers_after ns (unsided ss))) x) refl)
      where
        above : (d : Bool) → nat_lt (lines_in (numbers_after ns (unsided ss))) x ≡ d → lines_in (numbers_after ns (unsided ss)) < x
        above true f = grind (arith, nat_tests, f)
        above false f = let there = commit-inserts ns table (unsided ss) x low (grind (arith, nat_tests, f)) in absurd (cc)
origin-some x ns p (commands.Upgrade ∷ ks) table low high = origin-some x ns (p + 1) ks table low high

no_table : IsTable no_numbers.addresses
no_table n less = absurd (omega (arith, less))

pub origin-is : (history : List Command) (x q : ℕ) → q < length history → line_count (take q history) < x → x ≤ line_count (take (suc q) history) → origin history x ≡ Some (suc q)
origin-is history x q less low high = origin-found x no_numbers 0 q history no_table less low high ∙ (let at : 0 + suc q ≡ suc q = omega arith in ap Some at)

pub origin-none : (history : List Command) (x : ℕ) → (0 < x → x ≤ line_count history → ⊥) → origin history x ≡ None
origin-none history x outside = origin-absent x no_numbers 0 history no_table outside

-- a number is a line's, or none has it
pub inserted-parts : (x n : ℕ) → (nat_lt 0 x && nat_le x n) ≡ true → (0 < x) × (x ≤ n)
inserted-parts x n h =
    let parts = and_parts (nat_lt 0 x) (nat_le x n) h in
    let low = parts.0 in
    let high = parts.1 in
    (grind (arith, nat_tests, low), grind (arith, nat_tests, high))

outside-both : (a b : Bool) → (a && b) ≡ false → a ≡ true → b ≡ true → ⊥
outside-both true true h l k = absurd (cc)
outside-both true false h l k = absurd (cc)
outside-both false b h l k = absurd (cc)

pub origin-outside : (history : List Command) (x : ℕ) → (nat_lt 0 x && nat_le x (line_count history)) ≡ false → origin history x ≡ None
origin-outside history x h =
    origin-none history x (λ low high. outside-both (nat_lt 0 x) (nat_le x (line_count history)) h (grind (arith, nat_tests, low)) (grind (arith, nat_tests, high)))

pub no_line-is : (x n : ℕ) (b : Bool) → (nat_lt 0 x && nat_le x n) ≡ b → not b ≡ (nat_eq x 0 || nat_lt n x)
no_line-is x n b h = at (nat_lt 0 x) (nat_le x n) refl refl h
  where
    at : (l k : Bool) → nat_lt 0 x ≡ l → nat_le x n ≡ k → (l && k) ≡ b → not b ≡ (nat_eq x 0 || nat_lt n x)
    at true true e f same =
        let some : nat_eq x 0 ≡ false = grind (arith, nat_tests, e) in
        let low : nat_lt n x ≡ false = grind (arith, nat_tests, f) in
        ap not (sym same) ∙ sym (ap (λ d. d || nat_lt n x) some ∙ low)
    at true false e f same =
        let some : nat_eq x 0 ≡ false = grind (arith, nat_tests, e) in
        let high : nat_lt n x ≡ true = grind (arith, nat_tests, f) in
        ap not (sym same) ∙ sym (ap (λ d. d || nat_lt n x) some ∙ high)
    at false k e f same =
        let none : nat_eq x 0 ≡ true = grind (arith, nat_tests, e) in
        ap not (sym same) ∙ sym (ap (λ d. d || nat_lt n x) none)

-- whatever follows, the lines that there are come from the same commits
origins-kept : (x : ℕ) (ns : Numbers) (p : ℕ) (ks later : List Command) → IsTable ns.addresses → x ≤ lines_in (numbers_from ns ks) → origin_from ns p (ks ++ later) x ≡ origin_from ns p ks x
origins-kept x ns p [] later table high = origin-absent x ns p later table (λ low _. omega (arith, low, high))
origins-kept x ns p (commands.Option name ∷ ks) later table high = origins-kept x ns (p + 1) ks later table high
origins-kept x ns p (commands.Constraint expr ∷ ks) later table high = origins-kept x ns (p + 1) ks later table high
origins-kept x ns p (commands.Prefer expr ∷ ks) later table high = origins-kept x ns (p + 1) ks later table high
origins-kept x ns p (commands.Default option on ∷ ks) later table high = origins-kept x ns (p + 1) ks later table high
origins-kept x ns p (commands.Commit base choice ambition ss ∷ ks) later table high =
    ap (λ o. cond (list_any (inserts x) (numbered ns (unsided ss))) (Some (p + 1)) o)
    (origins-kept x (numbers_after ns (unsided ss)) (p + 1) ks later (commit-table ns table (unsided ss) 0) high)
origins-kept x ns p (commands.Upgrade ∷ ks) later table high = origins-kept x ns (p + 1) ks later table high

pub origins-stay : (history later : List Command) (line : ℕ) → line ≤ line_count history → origin (history ++ later) line ≡ origin history line
origins-stay history later line high = origins-kept line no_numbers 0 history later no_table high

-- each line of a replay has an origin
module _ (history : List Command) (t : List (List ℕ)) (same : t ≡ (numbers_of history).addresses) (table : IsTable t) where
  line-has : (l : Line) → IsLineOf t (length t) l.address → HasOrigin history (line_row l)
  line-has l is =
      let less : is.0 < length t = is.1 in
      let number : line_of l.address ≡ suc is.0 = ap line_of is.2 ∙ line_of-in t is.0 table less in
      let long : length t ≡ line_count history = ap length same in
      origin-some (line_of l.address) no_numbers 0 history no_table (omega (arith, number)) (omega (arith, number, less, long))

-- so do those of a file in the variant of a choice at the end of a history
pub blamed-have : (history : List Command) (c : List Bool) (file at : ℕ) (lines : List FileRow) → at ≡ length history → lines ≡ map line_row (lines_of (replay c (take at history)) file)
    → AllByRecursion (HasOrigin history) lines
blamed-have history c file at lines now is =
    let whole : take at history ≡ history = ap (λ n. take n history) now ∙ take-length history in
    subst (AllByRecursion (HasOrigin history)) (sym (is ∙ ap (λ h. map line_row (lines_of (replay c h) file)) whole))
    (all-mapped (λ l. HasOrigin history (line_row l)) (HasOrigin history) line_row (λ l has. has) (lines_of (replay c history) file)
    (all-filter (λ l. HasOrigin history (line_row l)) (λ l. nat_eq l.file file) (replay c history).lines
    (all-map (λ l. IsLineOf (numbers_of history).addresses (length (numbers_of history).addresses) l.address) (λ l. HasOrigin history (line_row l))
    (line-has history (numbers_of history).addresses refl (holding-stands history).0) (replay c history).lines (replay-stands c history).1)))

-- a line with its origin has it
pub rows-have : (history : List Command) (rows : List FileRow) → AllByRecursion (HasOrigin history) rows
    → AllByRecursion (λ row. origin history row.line ≡ Some row.position) (map (blame_row history) rows)
rows-have history [] all = tt
rows-have history (row ∷ rows) all = (at (origin history row.line) all.0, rows-have history rows all.1)
  where
    at : (o : Option ℕ) → is_some o ≡ true → o ≡ Some (unwrap_or o 0)
    at None h = absurd (cc)
    at (Some p) h = refl
