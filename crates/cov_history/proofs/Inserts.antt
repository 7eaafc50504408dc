-- The edits of a commit, and an insert among them.
use Rattle.std.proofs.Common.{◌≡◌, ℕ, suc, ◌+◌, ◌<◌, ◌≤◌, true, false, nat_eq, List, [], ◌∷◌, ◌++◌, length, length-append, refl, sym, ap, subst, ◌∙◌, arith}
use Rattle.std.specs.List.{fold}
use Rattle.cov_base.specs.Addresses.{address_in, with_line, with_lines, line_of, IsTable, placed, after_anchor_by}
use Rattle.cov_base.proofs.CallerLemmas.{line_of-in, length-with_lines, address_in-next}
use Rattle.cov_expr.specs.Formula.{Formula}
use Rattle.cov_edit.specs.declared.edit.Edit.{Edit}
use Rattle.cov_edit.specs.declared.command.Command.{Command}
use Rattle.cov_edit.specs.Numbering.{Numbers, NumberedEdit, line_count_after, nodes_made, anchors_of, numbers_of, numbered_edit, numbered_from}
use Rattle.cov_edit.specs.Replay.{first_within, within_behind, changes_within}
use Rattle.cov_edit.specs.Variant.{Line}
use Rattle.std.proofs.lemmas.List.Sums.{fold-append}
pub use Rattle.cov_edit.proofs.CallerLemmas.{anchors-append}
use Rattle.cov_edit.proofs.CallerLemmas.{behind-numbered, changes_within-append, line_count_after-is, with_lines-append, numbered-append}
use Rattle.cov_history.specs.Kept.{Kept, kept_address, kept_number, Holding, held_with, held_by, file_kept, is_kept_anchor, IsHolding}
use Rattle.cov_history.specs.Insertions.{Insertion, the_insert, all_edits, lines_before, table_of, numbered_amid, lines_amid, held_amid, IsHeldAmid, held_next, lines_begun, table_with, file_of, anchor_of, line_with, held_behind}
use Rattle.cov_history.proofs.Standing.{count_after, AreNext, count-edit, next-edit, stands-edit, numbered-next, numbered-count, stands-edits, stands-opened, table-after, holding-stands}
use Rattle.cov_history.proofs.Files.{anchor-below, placed-anchor, placed-elsewhere, anchor-stays, anchor-new}

-- what is held when one more of a commit's edits is done, each of which applies within the expression at its place
pub amid-goes_on : (history : List Command) (within : List (Formula ℕ)) (es begun : List Edit) (e : Edit)
    → held_amid history within es (begun ++ e ∷ []) ≡ held_next history es begun (held_amid history within es begun) (first_within (within_behind begun within)) e
amid-goes_on history within es begun e =
    let ns = numbers_of history in
    let last = ns.nodes + nodes_made begun in
    let later : List NumberedEdit = numbered_from ns (table_of history es) last (lines_amid history begun) (e ∷ []) in
    ap (λ ds. fold (held_with (length history + 1)) (held_by history) (changes_within within ds))
    (numbered-append ns (table_of history es) ns.nodes (lines_before history) last (lines_amid history begun) (lines_before history) begun (e ∷ []) refl refl)
    ∙ ap (fold (held_with (length history + 1)) (held_by history)) (changes_within-append within (numbered_amid history es begun) later)
    ∙ fold-append (held_with (length history + 1)) (held_by history) (changes_within within (numbered_amid history es begun)) (changes_within (within_behind (numbered_amid history es begun) within) later)
    ∙ ap (λ behind. fold (held_with (length history + 1)) (held_amid history within es begun) (changes_within behind later))
    (behind-numbered ns (table_of history es) ns.nodes (lines_before history) begun within)

pub is_table-of : (history : List Command) (es : List Edit) → IsTable (table_of history es)
is_table-of history es = table-after (numbers_of history) es (holding-stands history).0

module _ (history : List Command) (begun later : List Edit) where
  abbrev m : ℕ
  m = lines_before history

  -- the lines of the first edits are in the table after all edits
  pub amid-within : lines_amid history begun ≤ length (table_of history (begun ++ later))
  amid-within =
      let e = length-with_lines (numbers_of history).addresses (anchors_of m (begun ++ later)) in
      let f = ap length (anchors-append m begun later) ∙ length-append (anchors_of m begun) (anchors_of m later) in
      omega (arith, e, f)

  pub amid-next : AreNext (table_of history (begun ++ later)) m (numbered_amid history (begun ++ later) begun)
  amid-next = numbered-next (numbers_of history) (table_of history (begun ++ later)) (numbers_of history).nodes m m begun amid-within

  pub amid-opened : IsHolding (table_of history (begun ++ later)) m (length history + 1) (held_by history)
  amid-opened = stands-opened (numbers_of history) (begun ++ later) (length history) (held_by history) (holding-stands history).1

  -- what is held when the first edits are done stands
  pub stands-amid : (within : List (Formula ℕ))
      → IsHolding (table_of history (begun ++ later)) (lines_amid history begun) (length history + 1) (held_amid history within (begun ++ later) begun)
  stands-amid within =
      subst (λ n. IsHolding (table_of history (begun ++ later)) n (length history + 1) (held_amid history within (begun ++ later) begun))
      (numbered-count (numbers_of history) (table_of history (begun ++ later)) (numbers_of history).nodes m m begun)
      (stands-edits (table_of history (begun ++ later)) m (length history + 1) within (held_by history) (numbered_amid history (begun ++ later) begun)
      (is_table-of history (begun ++ later)) amid-next amid-opened)

-- what is held stands when one more of the edits is done, whatever it applies within
pub stands-next : (history : List Command) (begun later : List Edit) (e : Edit) (held : Holding) (on : Formula ℕ)
    → IsHeldAmid history (begun ++ e ∷ later) begun held
    → IsHeldAmid history (begun ++ e ∷ later) (begun ++ e ∷ []) (held_next history (begun ++ e ∷ later) begun held on e)
stands-next history begun later e held on s =
    subst (λ n. IsHolding t n (length history + 1) (held_next history (begun ++ e ∷ later) begun held on e)) count
    (stands-edit t line (length history + 1) on held (numbered_edit ns t node line e) (is_table-of history (begun ++ e ∷ later)) (next-edit ns t node line e below) s)
  where
    ns : Numbers
    ns = numbers_of history

    m : ℕ
    m = lines_before history

    t : List (List ℕ)
    t = table_of history (begun ++ e ∷ later)

    node : ℕ
    node = ns.nodes + nodes_made begun

    line : ℕ
    line = lines_amid history begun

    below : line_count_after line e ≤ length t
    below =
        let all = length-with_lines ns.addresses (anchors_of m (begun ++ e ∷ later)) in
        let parts = ap length (anchors-append m begun (e ∷ later)) ∙ length-append (anchors_of m begun) (anchors_of m (e ∷ later)) in
        let one = line_count_after-is line m e (anchors_of m later) in
        omega (arith, all, parts, one)

    count : count_after line (numbered_edit ns t node line e) ≡ lines_amid history (begun ++ e ∷ [])
    count =
        let same = count-edit ns t node line line e in
        let parts = ap length (anchors-append m begun (e ∷ [])) ∙ length-append (anchors_of m begun) (anchors_of m (e ∷ [])) in
        let one = line_count_after-is line m e [] in
        omega (arith, same, parts, one)

module _ (history : List Command) (i : Insertion) where
  abbrev begun : List ℕ
  begun = anchors_of (lines_before history) i.begun

  abbrev later : List ℕ
  later = anchors_of (lines_before history) i.later

  abbrev before : List (List ℕ)
  before = (numbers_of history).addresses

  anchors : anchors_of (lines_before history) (all_edits i) ≡ begun ++ anchor_of history i ∷ later
  anchors = anchors-append (lines_before history) i.begun (the_insert i ∷ i.later)

  the_table : table_with history i ≡ with_lines (with_line (with_lines before begun) (anchor_of history i)) later
  the_table = ap (with_lines before) anchors ∙ with_lines-append before begun (anchor_of history i ∷ later)

  pub in_table : lines_begun history i < length (table_with history i)
  in_table =
      let e = length-with_lines before (anchors_of (lines_before history) (all_edits i)) in
      let f = ap length anchors ∙ length-append begun (anchor_of history i ∷ later) in
      omega (arith, e, f)

  pub is_table : IsTable (table_with history i)
  is_table = is_table-of history (all_edits i)

  one_more : lines_begun history i + 1 ≡ suc (lines_begun history i)
  one_more = omega arith

  -- the new line's address is that of its anchor followed by its number
  link : anchor_of history i ≤ lines_begun history i
      → address_in (table_with history i) (suc (lines_begun history i)) ≡ address_in (table_with history i) (anchor_of history i) ++ suc (lines_begun history i) ∷ []
  link h =
      let count : length (with_lines before begun) ≡ lines_begun history i = length-with_lines before begun in
      subst (λ n. address_in (table_with history i) (suc n) ≡ address_in (table_with history i) (anchor_of history i) ++ suc n ∷ []) count
      (subst (λ t. address_in t (suc (length (with_lines before begun))) ≡ address_in t (anchor_of history i) ++ suc (length (with_lines before begun)) ∷ []) (sym the_table)
      (address_in-next (with_lines before begun) (anchor_of history i) later (omega (arith, h, count))))

-- an anchor that is kept is one of the lines so far
pub anchor-known : (history : List Command) (held : Holding) (i : Insertion) → IsHeldAmid history (all_edits i) i.begun held
    → is_kept_anchor (file_of history i) (anchor_of history i) held.lines ≡ true → anchor_of history i ≤ lines_begun history i
anchor-known history held i s h =
    let below = in_table history i in
    anchor-below (table_with history i) (lines_begun history i) (length history + 1) (file_of history i) (anchor_of history i) held (is_table history i) (omega (arith, below)) s h

pub insert-anchor : (history : List Command) (held : Holding) (on : Formula ℕ) (i : Insertion) → IsHeldAmid history (all_edits i) i.begun held
    → is_kept_anchor (file_of history i) (anchor_of history i) held.lines ≡ true
    → file_kept (file_of history i) (held_behind history held on i).lines
    ≡ after_anchor_by kept_number (anchor_of history i) (line_with history on i) (file_kept (file_of history i) held.lines)
insert-anchor history held on i s h =
    let below = in_table history i in
    let known = anchor-known history held i s h in
    subst (λ n. file_kept (file_of history i) (placed kept_address (as_new n) held.lines)
    ≡ after_anchor_by kept_number (anchor_of history i) (as_new n) (file_kept (file_of history i) held.lines))
    (sym (one_more history i))
    (placed-anchor (table_with history i) (lines_begun history i) (length history + 1) (file_of history i) (anchor_of history i) on i.text held
    (is_table history i) below (link history i known) s h)
  where
    as_new : ℕ → Kept Line
    as_new n = record {
      item = record { file = file_of history i; address = address_in (table_with history i) n; text = i.text };
      changes = (length history + 1, on) ∷ [];
    }

pub insert-elsewhere : (history : List Command) (held : Holding) (on : Formula ℕ) (i : Insertion) (file : ℕ) → IsHeldAmid history (all_edits i) i.begun held
    → nat_eq (file_of history i) file ≡ false
    → file_kept file (held_behind history held on i).lines ≡ file_kept file held.lines
insert-elsewhere history held on i file s h =
    placed-elsewhere (length history + 1) (file_of history i) file on (address_in (table_with history i) (lines_begun history i + 1)) i.text held.lines s.in_order h

pub insert-number : (history : List Command) (on : Formula ℕ) (i : Insertion) → kept_number (line_with history on i) ≡ lines_begun history i + 1
insert-number history on i =
    subst (λ n. line_of (address_in (table_with history i) n) ≡ n) (sym (one_more history i)) (line_of-in (table_with history i) (lines_begun history i) (is_table history i) (in_table history i))

pub anchors-stay : (history : List Command) (held : Holding) (on : Formula ℕ) (i : Insertion)
    → ((file line : ℕ) → is_kept_anchor file line held.lines ≡ true → is_kept_anchor file line (held_behind history held on i).lines ≡ true)
    × (is_kept_anchor (file_of history i) (lines_begun history i + 1) (held_behind history held on i).lines ≡ true)
anchors-stay history held on i = (
  (λ file line h. anchor-stays file line (line_with history on i) held.lines h),
  anchor-new (file_of history i) (lines_begun history i + 1) (line_with history on i) held.lines refl (insert-number history on i),
)
