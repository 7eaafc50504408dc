-- The lines of a file by their numbers.
use Rattle.std.proofs.Common.{◌≡◌, ℕ, zero, suc, ◌+◌, ◌<◌, ◌≤◌, Bool, true, false, cond, ◌||◌, nat_eq, List, [], ◌∷◌, ◌++◌, length, map, take, refl, sym, ap, ◌∙◌, arith}
use Rattle.std.specs.List.{filter, list_any, AllByRecursion}
use Rattle.std.proofs.lemmas.Bool.Decides.{nat_tests}
use Rattle.cov_base.specs.Addresses.{line_of, IsTable, IsLineOf, itself, after_anchor, after_anchor_by}
use Rattle.cov_base.proofs.CallerLemmas.{any-map, all-map, all-filter, map-after_anchor, line_of-in}
use Rattle.cov_order.specs.Orders.{has_line, is_anchor}
use Rattle.cov_expr.specs.Formula.{Formula}
use Rattle.cov_edit.specs.declared.command.Command.{Command}
use Rattle.cov_edit.specs.declared.command.Command.TheVariants as commands
use Rattle.cov_edit.specs.Numbering.{Numbers, numbers_of}
use Rattle.cov_edit.specs.Variant.{Line, lines_of}
use Rattle.cov_edit.specs.Replay.{replay}
use Rattle.cov_history.specs.Kept.{Kept, is_seen, kept_address, kept_number, Holding, held_from, held_by, kept_of, lines_seen, file_kept, is_kept_anchor, IsHolding}
use Rattle.cov_history.specs.Insertions.{Insertion, all_edits, IsHeldAmid, lines_begun, table_with, file_of, anchor_of, line_with, held_behind}
use Rattle.cov_history.specs.Files.{DatedLine, dated_number, dated, file_dated, file_order, as_shown, dated_as_shown, is_dated_seen, dated_shown, Takes}
use Rattle.cov_history.specs.Sessions.{has_commit}
use Rattle.cov_history.proofs.Appends.{holding-goes_on}
use Rattle.cov_history.proofs.Files.{file-replay}
use Rattle.cov_history.proofs.Inserts.{is_table, in_table, insert-anchor, insert-number}

same-held : (q : ℕ) (held : Holding) (ns : Numbers) (history : List Command) → has_commit history ≡ false → held_from q held ns history ≡ held
same-held q held ns [] h = refl
same-held q held ns (commands.Commit base choice ambition ss ∷ history) h = absurd (cc)
same-held q held ns (commands.Option name ∷ history) h = same-held (q + 1) held ns history h
same-held q held ns (commands.Constraint expr ∷ history) h = same-held (q + 1) held ns history h
same-held q held ns (commands.Prefer expr ∷ history) h = same-held (q + 1) held ns history h
same-held q held ns (commands.Default option on ∷ history) h = same-held (q + 1) held ns history h
same-held q held ns (commands.Upgrade ∷ history) h = same-held (q + 1) held ns history h

pub no_commit-holds : (history later : List Command) → has_commit later ≡ false → held_by (history ++ later) ≡ held_by history
no_commit-holds history later h = holding-goes_on history later ∙ same-held (length history) (held_by history) (numbers_of history) later h

shown-dated : (c : List Bool) (p : ℕ) (ks : List (Kept Line)) → dated_shown c p (map dated ks) ≡ map as_shown (lines_seen c p ks)
shown-dated c p [] = refl
shown-dated c p (k ∷ ks) = at (is_seen c p k) (shown-dated c p ks)
  where
    at : (b : Bool) → dated_shown c p (map dated ks) ≡ map as_shown (lines_seen c p ks)
        → map dated_as_shown (cond b (dated k ∷ filter (is_dated_seen c p) (map dated ks)) (filter (is_dated_seen c p) (map dated ks)))
        ≡ map as_shown (map (λ j. j.item) (cond b (k ∷ filter (is_seen c p) ks) (filter (is_seen c p) ks)))
    at true rest = ap (λ l. dated_as_shown (dated k) ∷ l) rest
    at false rest = rest

pub file-shows : (c : List Bool) (p file : ℕ) (history : List Command)
    → dated_shown c p (file_dated file (kept_of history)) ≡ map as_shown (lines_of (replay c (take p history)) file)
file-shows c p file history = shown-dated c p (file_kept file (kept_of history)) ∙ ap (map as_shown) (sym (file-replay c p file history))

pub insert-dated : (history : List Command) (held : Holding) (on : Formula ℕ) (i : Insertion) → IsHeldAmid history (all_edits i) i.begun held
    → is_kept_anchor (file_of history i) (anchor_of history i) held.lines ≡ true
    → file_dated (file_of history i) (held_behind history held on i).lines
    ≡ after_anchor_by dated_number (anchor_of history i) (record { line = lines_begun history i + 1; text = i.text; changes = (length history + 1, on) ∷ [] })
    (file_dated (file_of history i) held.lines)
insert-dated history held on i s h =
    ap (map dated) (insert-anchor history held on i s h)
    ∙ map-after_anchor dated dated_number (anchor_of history i) (line_with history on i) (file_kept (file_of history i) held.lines)
    ∙ ap (λ n. after_anchor_by dated_number (anchor_of history i) (numbered_line n) (file_dated (file_of history i) held.lines)) (insert-number history on i)
  where
    numbered_line : ℕ → DatedLine
    numbered_line n = record { line = n; text = i.text; changes = (length history + 1, on) ∷ [] }

pub any-mapped : {X : Type 0} (g : X → ℕ) (n : ℕ) (xs : List X) → has_line n (map g xs) ≡ list_any (λ x. nat_eq (g x) n) xs
any-mapped g n xs = any-map (λ k. nat_eq k n) g xs

pub any-none : {X : Type 0} (t : X → Bool) (xs : List X) → AllByRecursion (λ x. t x ≡ false) xs → list_any t xs ≡ false
any-none t [] h = refl
any-none t (x ∷ xs) h = ap (λ b. b || list_any t xs) h.0 ∙ any-none t xs h.1

order-anchor : (file anchor : ℕ) (ks : List (Kept Line)) → is_kept_anchor file anchor ks ≡ true → is_anchor anchor (file_order file ks) ≡ true
order-anchor file zero ks h = refl
order-anchor file (suc n) ks h =
    let above : nat_eq (suc n) 0 ≡ false = grind (arith, nat_tests) in
    any-mapped kept_number (suc n) (file_kept file ks) ∙ sym (ap (λ b. b || list_any (λ k. nat_eq (kept_number k) (suc n)) (file_kept file ks)) above) ∙ h

order-fresh : (t : List (List ℕ)) (n q file : ℕ) (held : Holding) → IsTable t → n ≤ length t → IsHolding t n q held → has_line (n + 1) (file_order file held.lines) ≡ false
order-fresh t n q file held table below s =
    any-mapped kept_number (n + 1) (file_kept file held.lines)
    ∙ any-none (λ k. nat_eq (kept_number k) (n + 1)) (file_kept file held.lines)
    (all-filter (λ k. nat_eq (kept_number k) (n + 1) ≡ false) (λ k. nat_eq k.item.file file) held.lines
    (all-map (λ k. IsLineOf t n (kept_address k)) (λ k. nat_eq (kept_number k) (n + 1) ≡ false)
    (λ k line.
    let less : line.0 < n = line.1 in
    let number : kept_number k ≡ suc line.0 = ap line_of line.2 ∙ line_of-in t line.0 table (omega (arith, less, below)) in
    grind (arith, nat_tests, less, number))
    held.lines s.numbered_lines))

pub order-takes : (history : List Command) (held : Holding) (on : Formula ℕ) (i : Insertion) → IsHeldAmid history (all_edits i) i.begun held
    → is_kept_anchor (file_of history i) (anchor_of history i) held.lines ≡ true
    → Takes (file_order (file_of history i) held.lines) (anchor_of history i) (lines_begun history i + 1)
    × (file_order (file_of history i) (held_behind history held on i).lines
    ≡ after_anchor (anchor_of history i) (lines_begun history i + 1) (file_order (file_of history i) held.lines))
order-takes history held on i s h =
    let below = in_table history i in (
      record {
        anchored = order-anchor (file_of history i) (anchor_of history i) held.lines h;
        above_head = omega arith;
        fresh = order-fresh (table_with history i) (lines_begun history i) (length history + 1) (file_of history i) held (is_table history i) (omega (arith, below)) s;
      },
      (ap (map kept_number) (insert-anchor history held on i s h)
          ∙ map-after_anchor kept_number itself (anchor_of history i) (line_with history on i) (file_kept (file_of history i) held.lines)
          ∙ ap (λ n. after_anchor (anchor_of history i) n (file_order (file_of history i) held.lines)) (insert-number history on i)),
    )
