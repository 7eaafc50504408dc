-- What is seen of what a history holds, and the replay.
use Rattle.std.proofs.Common.{◌≡◌, ℕ, zero, suc, ◌+◌, ◌<◌, ◌≤◌, Bool, true, false, cond, List, [], ◌∷◌, length, take, refl, sym, ap, ◌∙◌, arith}
use Rattle.std.specs.List.{fold}
use Rattle.cov_base.specs.Addresses.{IsTable, AreInOrder}
use Rattle.cov_base.specs.Rows.{Row, RowChange, Created, Renamed, Moved, Removed, with_name, with_parent, changed}
use Rattle.cov_expr.specs.Formula.{Formula, value}
use Rattle.cov_edit.specs.declared.edit.Edit.{Edit}
use Rattle.cov_edit.specs.declared.command.Command.{Command}
use Rattle.cov_edit.specs.declared.command.Command.TheVariants as commands
use Rattle.cov_edit.specs.Numbering.{Numbers, NumberedEdit, OnRows, Inserted, Deleted, no_numbers, numbers_after, numbered}
use Rattle.cov_edit.specs.Variant.{Variant, Line, line_address, is_line, lines_after, rows_after, edited}
use Rattle.cov_edit.specs.Replay.{Change, applying, first_within, rest_within, changes_within, commit_changes, changes_from, applied, replay}
use Rattle.cov_edit.specs.Sides.{unsided, conditions}
use Rattle.cov_edit.proofs.CallerLemmas.{fold-append}
use Rattle.cov_history.specs.Kept.{Kept, kept_address, kept_after, is_row, rows_kept_after, entries_after, Holding, nothing_held, held_after, held_with, held_from, held_by, lines_seen, rows_seen, variant_seen, IsHolding}
use Rattle.cov_history.proofs.Seen.{seen-later, append-seen, append-before, hide-seen, hide-before, replace-seen, replace-before, place-seen, place-before}
use Rattle.cov_history.proofs.Standing.{count_after, AreNext, stands-edit, stands-opened, stands-commit, stands-later, table-after, commit-next, no_table, nothing-stands}

either_way : {A : Type 0} (b : Bool) (x : A) → x ≡ cond b x x
either_way true x = refl
either_way false x = refl

abbrev of_parts : List Row → List Line → Variant
of_parts rows lines = record { rows = rows; lines = lines }

pub joined : {rs es : List Row} {ls ms : List Line} → rs ≡ es → ls ≡ ms → of_parts rs ls ≡ of_parts es ms
joined e f = λ i. of_parts (e i) (f i)

module _ (c : List Bool) where
  change-seen : (q : ℕ) (within : Formula ℕ) (ks : List (Kept Row)) (change : RowChange)
      → rows_seen c q (rows_kept_after q within ks change) ≡ cond (value within c) (changed (rows_seen c q ks) change) (rows_seen c q ks)
  change-seen q within ks (Created node kind parent name) = append-seen c q within (record { node = node; kind = kind; parent = parent; name = name }) ks
  change-seen q within ks (Renamed node name) =
      replace-seen c (is_row node) (with_name node name) (λ r e. ap (λ b. cond b (record { node = r.node; kind = r.kind; parent = r.parent; name = name }) r) e) q within ks
  change-seen q within ks (Moved node parent) =
      replace-seen c (is_row node) (with_parent node parent) (λ r e. ap (λ b. cond b (record { node = r.node; kind = r.kind; parent = parent; name = r.name }) r) e) q within ks
  change-seen q within ks (Removed node) = hide-seen c (is_row node) q within ks

  change-before : (p q : ℕ) (within : Formula ℕ) (ks : List (Kept Row)) (change : RowChange) → p < q → rows_seen c p (rows_kept_after q within ks change) ≡ rows_seen c p ks
  change-before p q within ks (Created node kind parent name) h = append-before c p q within (record { node = node; kind = kind; parent = parent; name = name }) ks h
  change-before p q within ks (Renamed node name) h = replace-before c (is_row node) (with_name node name) p q within ks h
  change-before p q within ks (Moved node parent) h = replace-before c (is_row node) (with_parent node parent) p q within ks h
  change-before p q within ks (Removed node) h = hide-before c (is_row node) p q within ks h

  rows-seen : (q : ℕ) (within : Formula ℕ) (ks : List (Kept Row)) (d : NumberedEdit)
      → rows_seen c q (entries_after q within ks d) ≡ cond (value within c) (rows_after (rows_seen c q ks) d) (rows_seen c q ks)
  rows-seen q within ks (OnRows change) = change-seen q within ks change
  rows-seen q within ks (Inserted file address text) = either_way (value within c) (rows_seen c q ks)
  rows-seen q within ks (Deleted file address) = either_way (value within c) (rows_seen c q ks)

  rows-before : (p q : ℕ) (within : Formula ℕ) (ks : List (Kept Row)) (d : NumberedEdit) → p < q → rows_seen c p (entries_after q within ks d) ≡ rows_seen c p ks
  rows-before p q within ks (OnRows change) h = change-before p q within ks change h
  rows-before p q within ks (Inserted file address text) h = refl
  rows-before p q within ks (Deleted file address) h = refl

  lines-seen : (q : ℕ) (within : Formula ℕ) (ks : List (Kept Line)) (d : NumberedEdit) → AreInOrder kept_address ks
      → lines_seen c q (kept_after q within ks d) ≡ cond (value within c) (lines_after (lines_seen c q ks) d) (lines_seen c q ks)
  lines-seen q within ks (OnRows change) o = either_way (value within c) (lines_seen c q ks)
  lines-seen q within ks (Inserted file address text) o = place-seen c line_address q within (record { file = file; address = address; text = text }) ks o
  lines-seen q within ks (Deleted file address) o = hide-seen c (is_line file address) q within ks

  lines-before : (p q : ℕ) (within : Formula ℕ) (ks : List (Kept Line)) (d : NumberedEdit) → p < q → lines_seen c p (kept_after q within ks d) ≡ lines_seen c p ks
  lines-before p q within ks (OnRows change) h = refl
  lines-before p q within ks (Inserted file address text) h = place-before c kept_address p q within (record { file = file; address = address; text = text }) ks h
  lines-before p q within ks (Deleted file address) h = hide-before c (is_line file address) p q within ks h

  -- at its own position, an edit is seen where it applies
  pub edit-seen : (q : ℕ) (within : Formula ℕ) (held : Holding) (d : NumberedEdit) → AreInOrder kept_address held.lines
      → variant_seen c q (held_after q within held d) ≡ applied c (variant_seen c q held) (applying within d)
  edit-seen q within held d o =
      joined (rows-seen q within held.rows d) (lines-seen q within held.lines d o) ∙ at (value within c)
    where
      at : (b : Bool) → of_parts (cond b (rows_after (rows_seen c q held.rows) d) (rows_seen c q held.rows)) (cond b (lines_after (lines_seen c q held.lines) d) (lines_seen c q held.lines))
          ≡ cond b (edited (variant_seen c q held) d) (variant_seen c q held)
      at true = refl
      at false = refl

  -- before its position it isn't seen
  pub edit-before : (p q : ℕ) (within : Formula ℕ) (held : Holding) (d : NumberedEdit) → p < q → variant_seen c p (held_after q within held d) ≡ variant_seen c p held
  edit-before p q within held d h = joined (rows-before p q within held.rows d h) (lines-before p q within held.lines d h)

  pub edits-seen : (t : List (List ℕ)) (n q : ℕ) (within : List (Formula ℕ)) (held : Holding) (ds : List NumberedEdit) → IsTable t → AreNext t n ds → IsHolding t n q held
      → variant_seen c q (fold (held_with q) held (changes_within within ds)) ≡ fold (applied c) (variant_seen c q held) (changes_within within ds)
  edits-seen t n q within held [] table next s = refl
  edits-seen t n q within held (d ∷ ds) table next s =
      edits-seen t (count_after n d) q (rest_within within) (held_after q (first_within within) held d) ds table next.1 (stands-edit t n q (first_within within) held d table next.0 s)
      ∙ ap (λ v. fold (applied c) v (changes_within (rest_within within) ds)) (edit-seen q (first_within within) held d s.in_order)

  pub edits-before : (p q : ℕ) (held : Holding) (changes : List Change) → p < q → variant_seen c p (fold (held_with q) held changes) ≡ variant_seen c p held
  edits-before p q held [] h = refl
  edits-before p q held (change ∷ changes) h = edits-before p q (held_with q held change) changes h ∙ edit-before p q change.within held change.edit h

  -- what comes after a position isn't seen at it
  pub history-before : (p q : ℕ) (held : Holding) (ns : Numbers) (history : List Command) → p ≤ q → variant_seen c p (held_from q held ns history) ≡ variant_seen c p held
  history-before p q held ns [] h = refl
  history-before p q held ns (commands.Commit base choice ambition ss ∷ history) h =
      history-before p (q + 1) (fold (held_with (q + 1)) held (commit_changes ns ambition ss)) (numbers_after ns (unsided ss)) history (omega (arith, h))
      ∙ edits-before p (q + 1) held (commit_changes ns ambition ss) (omega (arith, h))
  history-before p q held ns (commands.Option name ∷ history) h = history-before p (q + 1) held ns history (omega (arith, h))
  history-before p q held ns (commands.Constraint expr ∷ history) h = history-before p (q + 1) held ns history (omega (arith, h))
  history-before p q held ns (commands.Prefer expr ∷ history) h = history-before p (q + 1) held ns history (omega (arith, h))
  history-before p q held ns (commands.Default option on ∷ history) h = history-before p (q + 1) held ns history (omega (arith, h))
  history-before p q held ns (commands.Upgrade ∷ history) h = history-before p (q + 1) held ns history (omega (arith, h))

  -- each position sees the same once nothing is newer
  pub variant-later : (t : List (List ℕ)) (n p q : ℕ) (held : Holding) → q ≤ p → IsHolding t n q held → variant_seen c p held ≡ variant_seen c q held
  variant-later t n p q held h s = joined (seen-later c p q held.rows h s.dated_rows) (seen-later c p q held.lines h s.dated_lines)

  pub replay-from : (m p q : ℕ) (held : Holding) (ns : Numbers) (history : List Command) → p ≡ q + m → IsTable ns.addresses → IsHolding ns.addresses (length ns.addresses) q held
      → variant_seen c p (held_from q held ns history) ≡ fold (applied c) (variant_seen c q held) (changes_from ns (take m history))
  replay-from zero p q held ns history e table s =
      history-before p q held ns history (omega (arith, e)) ∙ variant-later ns.addresses (length ns.addresses) p q held (omega (arith, e)) s
  replay-from (suc m) p q held ns [] e table s = variant-later ns.addresses (length ns.addresses) p q held (omega (arith, e)) s
  replay-from (suc m) p q held ns (commands.Commit base choice ambition ss ∷ history) e table s =
      replay-from m p (q + 1) (fold (held_with (q + 1)) held (commit_changes ns ambition ss)) (numbers_after ns es) history (omega (arith, e))
      (table-after ns es table) (stands-commit ns (conditions ambition ss) es q held table s)
      ∙ ap (λ v. fold (applied c) v later)
      (edits-seen (numbers_after ns es).addresses (length ns.addresses) (q + 1) (conditions ambition ss) held (numbered ns es) (table-after ns es table) (commit-next ns es) (stands-opened ns es q held s)
      ∙ ap (λ v. fold (applied c) v (commit_changes ns ambition ss)) (variant-later ns.addresses (length ns.addresses) (q + 1) q held (omega arith) s))
      ∙ sym (fold-append (applied c) (variant_seen c q held) (commit_changes ns ambition ss) later)
    where
      es : List Edit
      es = unsided ss

      later : List Change
      later = changes_from (numbers_after ns es) (take m history)
  replay-from (suc m) p q held ns (commands.Option name ∷ history) e table s =
      replay-from m p (q + 1) held ns history (omega (arith, e)) table (stands-later ns.addresses (length ns.addresses) q (q + 1) held (omega arith) s)
      ∙ ap (λ v. fold (applied c) v (changes_from ns (take m history))) (variant-later ns.addresses (length ns.addresses) (q + 1) q held (omega arith) s)
  replay-from (suc m) p q held ns (commands.Constraint expr ∷ history) e table s =
      replay-from m p (q + 1) held ns history (omega (arith, e)) table (stands-later ns.addresses (length ns.addresses) q (q + 1) held (omega arith) s)
      ∙ ap (λ v. fold (applied c) v (changes_from ns (take m history))) (variant-later ns.addresses (length ns.addresses) (q + 1) q held (omega arith) s)
  replay-from (suc m) p q held ns (commands.Prefer expr ∷ history) e table s =
      replay-from m p (q + 1) held ns history (omega (arith, e)) table (stands-later ns.addresses (length ns.addresses) q (q + 1) held (omega arith) s)
      ∙ ap (λ v. fold (applied c) v (changes_from ns (take m history))) (variant-later ns.addresses (length ns.addresses) (q + 1) q held (omega arith) s)
  replay-from (suc m) p q held ns (commands.Default option on ∷ history) e table s =
      replay-from m p (q + 1) held ns history (omega (arith, e)) table (stands-later ns.addresses (length ns.addresses) q (q + 1) held (omega arith) s)
      ∙ ap (λ v. fold (applied c) v (changes_from ns (take m history))) (variant-later ns.addresses (length ns.addresses) (q + 1) q held (omega arith) s)
  replay-from (suc m) p q held ns (commands.Upgrade ∷ history) e table s =
      replay-from m p (q + 1) held ns history (omega (arith, e)) table (stands-later ns.addresses (length ns.addresses) q (q + 1) held (omega arith) s)
      ∙ ap (λ v. fold (applied c) v (changes_from ns (take m history))) (variant-later ns.addresses (length ns.addresses) (q + 1) q held (omega arith) s)

  pub replay-seen : (p : ℕ) (history : List Command) → variant_seen c p (held_by history) ≡ replay c (take p history)
  replay-seen p history = replay-from p p 0 nothing_held no_numbers history (omega arith) no_table nothing-stands
