-- A commit whose inserts go one after the other.
use Rattle.std.proofs.Common.{◌≡◌, ℕ, suc, ◌+◌, ◌≤◌, Bool, true, List, [], ◌∷◌, ◌++◌, length, length-append, append_assoc, append-nil, refl, sym, ap, subst, ◌∙◌, arith}
use Rattle.cov_base.specs.Addresses.{after_anchor_by}
use Rattle.cov_base.specs.declared.number.NodeRef.{NodeRef}
use Rattle.cov_base.specs.declared.number.LineRef.{LineRef}
use Rattle.cov_base.specs.declared.number.LineRef.TheVariants as lines
use Rattle.cov_base.proofs.CallerLemmas.{length-with_lines}
use Rattle.cov_expr.specs.Formula.{Formula}
use Rattle.cov_edit.specs.declared.edit.Edit.{Edit}
use Rattle.cov_edit.specs.declared.command.Command.{Command}
use Rattle.cov_edit.specs.declared.command.Command.TheVariants as commands
use Rattle.cov_edit.specs.Numbering.{node_number, line_number, anchors_of, numbers_of, line_count}
use Rattle.cov_edit.specs.Numbering.{no_numbers}
use Rattle.cov_edit.specs.Replay.{commit_changes}
use Rattle.cov_edit.specs.Sides.{unsided, conditions}
use Rattle.cov_edit.specs.declared.sided.Sided.{Sided}
use Rattle.cov_edit.proofs.CallerLemmas.{anchors-append, numbers_from-append}
use Rattle.cov_history.specs.Files.{DatedLine, dated_number, file_dated}
use Rattle.cov_edit.specs.Replay.{first_within}
use Rattle.cov_history.specs.Insertions.{Insertion, the_insert, all_edits, lines_before, lines_amid, held_amid, held_next}
use Rattle.cov_history.specs.Kept.{Holding, held_by, kept_of, is_kept_anchor}
use Rattle.cov_history.proofs.CallerLemmas.{amid-goes_on, anchors-stay, commit-lines, insert-dated, lines-edits, stands-amid}
use Rattle.cov_cond.specs.Importing.{meant_for_all, chained}
use Rattle.cov_cond.proofs.Chains.{chain, AreAfter, AreNext}
use Rattle.cov_cond.proofs.Meant.{all_within, on_all, unsided-all, within-begun}

-- texts as new lines, numbered on from a number, that are seen within an expression from a position on
abbrev pub new_lines : ℕ → ℕ → Formula ℕ → List (List ℕ) → List DatedLine
new_lines n q e [] = []
new_lines n q e (text ∷ texts) = record { line = n + 1; text = text; changes = (q, e) ∷ [] } ∷ new_lines (n + 1) q e texts

pub length-new : (n q : ℕ) (e : Formula ℕ) (texts : List (List ℕ)) → length (new_lines n q e texts) ≡ length texts
length-new n q e [] = refl
length-new n q e (text ∷ texts) = ap suc (length-new (n + 1) q e texts)

pub new-next : (n q : ℕ) (e : Formula ℕ) (texts : List (List ℕ)) → AreNext dated_number n (new_lines n q e texts)
new-next n q e [] = tt
new-next n q e (text ∷ texts) = (refl, new-next (n + 1) q e texts)

pub new-after : (m n q : ℕ) (e : Formula ℕ) (texts : List (List ℕ)) → m ≤ n → AreAfter dated_number m (new_lines n q e texts)
new-after m n q e [] h = tt
new-after m n q e (text ∷ texts) h = ((omega (arith, h)), new-after (n + 1) (n + 1) q e texts (omega arith))

pub new-append : (n q : ℕ) (e : Formula ℕ) (texts more : List (List ℕ)) → new_lines n q e (texts ++ more) ≡ new_lines n q e texts ++ new_lines (n + length texts) q e more
new-append n q e [] more = let same : n ≡ n + 0 = omega arith in ap (λ k. new_lines k q e more) same
new-append n q e (text ∷ texts) more =
    let same : n + 1 + length texts ≡ n + suc (length texts) = omega arith in
    ap (λ ds. record { line = n + 1; text = text; changes = (q, e) ∷ [] } ∷ ds) (new-append (n + 1) q e texts more ∙ ap (λ k. new_lines (n + 1) q e texts ++ new_lines k q e more) same)

-- a commit's inserts are as many as its texts
pub anchors-chained : (m : ℕ) (file : NodeRef) (after : LineRef) (i : ℕ) (texts : List (List ℕ)) → length (anchors_of m (chained file after i texts)) ≡ length texts
anchors-chained m file after i [] = refl
anchors-chained m file after i (text ∷ texts) = ap suc (anchors-chained m file (lines.New i) (i + 1) texts)

module _ (history : List Command) (ambition : Formula ℕ) (file : NodeRef) where
  abbrev m : ℕ
  m = lines_before history

  abbrev f : ℕ
  f = node_number (numbers_of history).nodes file

  abbrev q : ℕ
  q = length history + 1

  -- what is held when the first of a commit's edits are done, which are all meant for the whole ambition
  abbrev pub held_at : List Edit → List Edit → Holding
  held_at es begun = held_amid history (all_within ambition es) es begun

  -- each text of a chain comes behind the one before
  pub chain-held : (es begun : List Edit) (after : LineRef) (i : ℕ) (texts : List (List ℕ)) → begun ++ chained file after i texts ≡ es → length (anchors_of m begun) ≡ i
      → is_kept_anchor f (line_number m after) (held_at es begun).lines ≡ true
      → file_dated f (held_at es es).lines
      ≡ chain dated_number (line_number m after) (new_lines (m + i) q (on_all ambition) texts) (file_dated f (held_at es begun).lines)
  chain-held es begun after i [] e count h = ap (λ fs. file_dated f (held_at es fs).lines) (sym e ∙ append-nil begun)
  chain-held es begun after i (text ∷ texts) e count h =
      let dated = subst Dated e dated-own in
      let there = subst There e there-own in
      let here = subst (λ n. is_kept_anchor f (n + 1) (held_at es more).lines ≡ true) placed there in
      let number : m + i + 1 ≡ m + 1 + i = omega arith in
      let shift : m + (i + 1) ≡ m + i + 1 = omega arith in
      chain-held es more (lines.New i) (i + 1) texts (append_assoc begun (the_insert ins ∷ []) later ∙ e) counted
      (subst (λ n. is_kept_anchor f n (held_at es more).lines ≡ true) number here)
      ∙ ap (λ n. chain dated_number n (new_lines (m + (i + 1)) q (on_all ambition) texts) (file_dated f (held_at es more).lines)) (sym number)
      ∙ ap (λ n. chain dated_number (m + i + 1) (new_lines n q (on_all ambition) texts) (file_dated f (held_at es more).lines)) shift
      ∙ ap (chain dated_number (m + i + 1) (new_lines (m + i + 1) q (on_all ambition) texts))
      (subst (λ n. file_dated f (held_at es more).lines
      ≡ after_anchor_by dated_number (line_number m after) (record { line = n + 1; text = text; changes = (q, on_all ambition) ∷ [] }) (file_dated f (held_at es begun).lines))
      placed (dated h))
    where
      later : List Edit
      later = chained file (lines.New i) (i + 1) texts

      ins : Insertion
      ins = record { begun = begun; file = file; after = after; text = text; later = later }

      more : List Edit
      more = begun ++ the_insert ins ∷ []

      placed : lines_amid history begun ≡ m + i
      placed = ap (λ n. m + n) count

      counted : length (anchors_of m more) ≡ i + 1
      counted =
          let all = ap length (anchors-append m begun (the_insert ins ∷ [])) ∙ length-append (anchors_of m begun) (line_number m after ∷ []) in
          omega (arith, all, count)

      own : List Edit
      own = all_edits ins

      step : (held_at own more).lines ≡ (held_next history own begun (held_at own begun) (on_all ambition) (the_insert ins)).lines
      step =
          ap (λ (held : Holding). held.lines) (amid-goes_on history (all_within ambition own) own begun (the_insert ins))
          ∙ ap (λ within. (held_next history own begun (held_at own begun) (first_within within) (the_insert ins)).lines) (within-begun ambition begun (the_insert ins ∷ later))

      Dated : List Edit → Type 0
      Dated all = is_kept_anchor f (line_number m after) (held_at all begun).lines ≡ true
          → file_dated f (held_at all more).lines
          ≡ after_anchor_by dated_number (line_number m after) (record { line = lines_amid history begun + 1; text = text; changes = (q, on_all ambition) ∷ [] })
          (file_dated f (held_at all begun).lines)

      dated-own : Dated own
      dated-own anchored =
          ap (file_dated f) step
          ∙ insert-dated history (held_at own begun) (on_all ambition) ins (stands-amid history begun (the_insert ins ∷ later) (all_within ambition own)) anchored

      There : List Edit → Type 0
      There all = is_kept_anchor f (lines_amid history begun + 1) (held_at all more).lines ≡ true

      there-own : There own
      there-own = ap (is_kept_anchor f (lines_amid history begun + 1)) step ∙ (anchors-stay history (held_at own begun) (on_all ambition) ins).1

-- what is kept after a commit is what is held when all its edits are done
commit-kept : (history : List Command) (base : ℕ) (choice : List Bool) (ambition : Formula ℕ) (ss : List Sided)
    → kept_of (history ++ commands.Commit base choice ambition ss ∷ []) ≡ (held_amid history (conditions ambition ss) (unsided ss) (unsided ss)).lines
commit-kept history base choice ambition ss =
    commit-lines history base choice ambition ss ∙ sym (lines-edits (length history + 1) (held_by history) (commit_changes (numbers_of history) ambition ss))

pub commit-held : (history : List Command) (base : ℕ) (choice : List Bool) (ambition : Formula ℕ) (es : List Edit)
    → kept_of (history ++ commands.Commit base choice ambition (meant_for_all es) ∷ []) ≡ (held_amid history (all_within ambition es) es es).lines
commit-held history base choice ambition es =
    commit-kept history base choice ambition (meant_for_all es) ∙ ap (λ fs. (held_amid history (all_within ambition es) fs fs).lines) (unsided-all es)

pub count-commit : (history : List Command) (base : ℕ) (choice : List Bool) (ambition : Formula ℕ) (es : List Edit)
    → line_count (history ++ commands.Commit base choice ambition (meant_for_all es) ∷ []) ≡ line_count history + length (anchors_of (line_count history) es)
count-commit history base choice ambition es =
    ap (λ ns. length ns.addresses) (numbers_from-append no_numbers history (commands.Commit base choice ambition (meant_for_all es) ∷ []))
    ∙ length-with_lines (numbers_of history).addresses (anchors_of (line_count history) (unsided (meant_for_all es)))
    ∙ ap (λ fs. line_count history + length (anchors_of (line_count history) fs)) (unsided-all es)
