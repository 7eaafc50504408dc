-- The file of an import, commit by commit.
use Rattle.std.proofs.Common.{◌≡◌, ℕ, ◌+◌, ◌<◌, ◌≤◌, ◌||◌, Bool, true, false, nat_eq, List, [], ◌∷◌, ◌++◌, length, length-append, map, append_assoc, append-nil, Option, Some, None, is_some, if◌then◌else◌, refl, sym, ap, subst, ◌∙◌, arith}
use Rattle.std.specs.List.{filter, list_any, AllByRecursion}
use Rattle.std.proofs.Math.Seq.{take-length}
use Rattle.std.proofs.lemmas.Bool.Decides.{nat_tests}
use Rattle.std.proofs.lemmas.List.{map-append}
use Rattle.std.proofs.lemmas.Simd.{map-map}
use Rattle.cov_base.specs.Rows.{has_node}
use Rattle.cov_base.specs.declared.number.NodeRef.TheVariants as nodes
use Rattle.cov_base.specs.declared.number.LineRef.TheVariants as lines
use Rattle.cov_base.specs.declared.number.Kind.TheVariants as kinds
use Rattle.cov_base.proofs.CallerLemmas.{all-map, any-map}
use Rattle.cov_expr.specs.Formula.{Formula, True}
use Rattle.cov_expr.specs.Validity.{is_valid}
use Rattle.cov_edit.specs.declared.edit.Edit.{Edit}
use Rattle.cov_edit.specs.declared.edit.Edit.TheVariants as edits
use Rattle.cov_edit.specs.declared.command.Command.{Command}
use Rattle.cov_edit.specs.declared.command.Command.TheVariants as commands
use Rattle.cov_edit.specs.History.{option_count, is_valid_in}
use Rattle.cov_edit.specs.Numbering.{numbers_of, line_count, node_number}
use Rattle.cov_edit.specs.Replay.{replay}
use Rattle.cov_edit.specs.Variant.{Line, lines_of}
use Rattle.cov_history.specs.FileNodes.{files_of}
use Rattle.cov_history.specs.Files.{DatedLine, dated, dated_number, file_dated, as_shown}
use Rattle.cov_history.specs.Kept.{Kept, kept_of, file_kept, is_kept_anchor}
use Rattle.cov_history.specs.Laws.{text_of}
use Rattle.cov_history.specs.Verdict.{IsLegal}
use Rattle.cov_history.proofs.CallerLemmas.{absent-high, file-shows, files-rise, legal-in_files}
use Rattle.cov_cond_text.specs.Conditional.{CondLine, projection, conjunction, runs_of, line_in, lines_in, AreGrouped}
use Rattle.cov_cond_text.specs.declared.run.Run.{Run}
use Rattle.cov_engine.specs.Meeting.{least_valid}
use Rattle.cov_cond.specs.Importing.{meant_for_all, chained, plain_in, plain_texts, making_edits, making_commit, anchor_at, with_commit, with_run, count_after, run_commits, imported}
use Rattle.cov_cond.proofs.Chains.{chain, chain-first, chain-last, last-there}
use Rattle.cov_cond.proofs.Chained.{new_lines, length-new, new-next, new-after, new-append, anchors-chained, chain-held, commit-held, count-commit, held_at}
use Rattle.cov_cond.proofs.Meant.{on_all, on_all-value}
use Rattle.cov_cond.proofs.Projecting.{told, told_texts, shown_text, within, none-meets, shown-told, told-new, texts-append, texts-within}
use Rattle.cov_cond_text.proofs.CallerLemmas.{conjunction-value, lines-runs, projection-append, run-projection}

filter-none : {X : Type 0} (p : X → Bool) (xs : List X) → AllByRecursion (λ x. p x ≡ false) xs → filter p xs ≡ []
filter-none p [] h = refl
filter-none p (x ∷ xs) h = ap (λ b. if b then x ∷ filter p xs else filter p xs) h.0 ∙ filter-none p xs h.1

-- a history has no lines in the file that is made next
pub none-yet : (history : List Command) → IsLegal history → file_dated ((numbers_of history).nodes + 1) (kept_of history) ≡ []
none-yet history legal =
    ap (map dated) (filter-none (λ k. nat_eq k.item.file file) (kept_of history)
    (all-map (λ k. has_node k.item.file files ≡ true) (λ k. nat_eq k.item.file file ≡ false) (λ k h. other k h (nat_eq k.item.file file) refl) (kept_of history) (legal-in_files history legal)))
  where
    file : ℕ
    file = (numbers_of history).nodes + 1

    files : List ℕ
    files = files_of history

    absent : has_node file files ≡ false
    absent =
        absent-high (numbers_of history).nodes file files (omega arith)
        (all-map (λ x. (0 < x) × (x ≤ (numbers_of history).nodes)) (λ x. x ≤ (numbers_of history).nodes) (λ x h. h.1) files (files-rise history).1)

    other : (k : Kept Line) → has_node k.item.file files ≡ true → (b : Bool) → nat_eq k.item.file file ≡ b → b ≡ false
    other k h true e =
        let same : k.item.file ≡ file = grind (arith, nat_tests, e) in
        let there : has_node file files ≡ true = subst (λ x. has_node x files ≡ true) same h in
        absurd (let none = absent in cc)
    other k h false e = refl

-- the texts of a run, each within its conditions, where some valid choice meets them
abbrev pub texts_kept : List Command → List (Formula ℕ) → List (List ℕ) → List (List ℕ × Formula ℕ)
texts_kept history [] texts = map (within (on_all True)) texts
texts_kept history (e ∷ es) texts = if is_some (least_valid history (conjunction (e ∷ es))) then map (within (on_all (conjunction (e ∷ es)))) texts else []

-- the texts of runs
abbrev pub all_kept : List Command → List Run → List (List ℕ × Formula ℕ)
all_kept history [] = []
all_kept history (r ∷ rs) = texts_kept history r.conditions r.texts ++ all_kept history rs

module _ (history : List Command) (legal : IsLegal history) (parent : ℕ) (name : List ℕ) (whole : List Run) (p : ℕ) where
  abbrev pub before : ℕ
  before = line_count history

  abbrev pub file : ℕ
  file = (numbers_of history).nodes + 1

  abbrev pub q : ℕ
  q = length history + 1

  abbrev pub plain : List (List ℕ)
  plain = plain_texts whole

  -- the history with the commit that makes the file
  abbrev pub begun : List Command
  begun = history ++ making_commit history parent name whole ∷ []

  -- after more commits the file has the first lines without conditions, and then these texts
  pub record Stands (done : List Command) (first : List (List ℕ)) (later : List (List ℕ × Formula ℕ)) : Type 0 where
    pub rest : List DatedLine
    pub lines : file_dated file (kept_of (begun ++ done)) ≡ new_lines before q (on_all True) first ++ rest
    pub told_rest : map (told p) rest ≡ later
    pub grown : before + length first ≤ line_count (begun ++ done)

  abbrev made : List Edit
  made = edits.New kinds.File (nodes.Old parent) name ∷ []

  same_file : node_number (numbers_of history).nodes (nodes.New 0) ≡ file
  same_file = omega arith

  making-lines : file_dated file (kept_of begun) ≡ new_lines before q (on_all True) plain
  making-lines =
      ap (file_dated file) (commit-held history (length history) _ True (making_edits parent name whole))
      ∙ subst (λ f. file_dated f (held_at history True (nodes.New 0) (making_edits parent name whole) (making_edits parent name whole)).lines
      ≡ chain dated_number 0 (new_lines (before + 0) q (on_all True) plain) (file_dated f (kept_of history))) same_file
      (chain-held history True (nodes.New 0) (making_edits parent name whole) made (lines.Old 0) 0 plain refl refl refl)
      ∙ ap (chain dated_number 0 (new_lines (before + 0) q (on_all True) plain)) (none-yet history legal)
      ∙ chain-first dated_number (new_lines (before + 0) q (on_all True) plain) [] (new-after 0 (before + 0) q (on_all True) plain (omega arith))
      ∙ append-nil (new_lines (before + 0) q (on_all True) plain)
      ∙ ap (λ n. new_lines n q (on_all True) plain) (let same : before + 0 ≡ before = omega arith in same)

  pub making-count : line_count begun ≡ before + length plain
  making-count =
      count-commit history (length history) _ True (making_edits parent name whole)
      ∙ ap (λ n. before + n) (anchors-chained before (nodes.New 0) (lines.Old 0) 0 plain)

  length-begun : length begun ≡ q
  length-begun = length-append history (making_commit history parent name whole ∷ [])

  -- a run with conditions that a valid choice meets
  stands-commit : (k : ℕ) (e : Formula ℕ) (choice : List Bool) (texts first : List (List ℕ)) (done : List Command) (later : List (List ℕ × Formula ℕ)) → k ≡ length first
      → q + length done + 1 ≤ p → Stands done first later
      → Stands (done ++ commands.Commit (length history + 1 + length done) choice e (meant_for_all (chained (nodes.Old file) (lines.Old (anchor_at before k)) 0 texts)) ∷ []) first (map (within (on_all e)) texts ++ later)
  stands-commit k e choice texts first done later is few s = record {
    rest = new ++ s.rest;
    lines = subst (λ h. file_dated file (kept_of h) ≡ new_lines before q (on_all True) first ++ (new ++ s.rest)) shape
        (ap (file_dated file) (commit-held now base choice e es)
        ∙ chain-held now e (nodes.Old file) es [] (lines.Old (anchor_at before k)) 0 texts refl refl anchored
        ∙ ap (λ n. chain dated_number (anchor_at before k) (new_lines n (length now + 1) (on_all e) texts) (file_dated file (kept_of now))) no_more
        ∙ ap (chain dated_number (anchor_at before k) new) s.lines
        ∙ chain-last dated_number before k (new_lines before q (on_all True) first) new s.rest (is ∙ sym (length-new before q (on_all True) first)) (new-next before q (on_all True) first)
        (new-after (before + k) (line_count now) (length now + 1) (on_all e) texts (omega (arith, s.grown, is))));
    told_rest = map-append (told p) new s.rest ∙ (λ i. told-new p (line_count now) (length now + 1) (on_all e) texts in_time i ++ s.told_rest i);
    grown = subst (λ h. before + length first ≤ line_count h) shape (omega (arith, s.grown, count-commit now base choice e es));
  }
    where
      now : List Command
      now = begun ++ done

      base : ℕ
      base = length history + 1 + length done

      es : List Edit
      es = chained (nodes.Old file) (lines.Old (anchor_at before k)) 0 texts

      new : List DatedLine
      new = new_lines (line_count now) (length now + 1) (on_all e) texts

      shape : now ++ commands.Commit base choice e (meant_for_all es) ∷ [] ≡ begun ++ (done ++ commands.Commit base choice e (meant_for_all es) ∷ [])
      shape = append_assoc begun done (commands.Commit base choice e (meant_for_all es) ∷ [])

      no_more : line_count now + 0 ≡ line_count now
      no_more = omega arith

      in_time : length now + 1 ≤ p
      in_time = omega (arith, few, length-append begun done, length-begun)

      anchored : is_kept_anchor file (anchor_at before k) (kept_of now) ≡ true
      anchored =
          ap (λ b. nat_eq (anchor_at before k) 0 || b)
          (sym (any-map (λ (d : DatedLine). nat_eq d.line (anchor_at before k)) dated (file_kept file (kept_of now)))
          ∙ ap (list_any (λ d. nat_eq d.line (anchor_at before k))) s.lines)
          ∙ last-there dated_number before k (new_lines before q (on_all True) first) s.rest (is ∙ sym (length-new before q (on_all True) first)) (new-next before q (on_all True) first)

  -- what holds of the runs after one holds with it
  abbrev pub Holds : ℕ → List Run → List (List ℕ) → Type 0
  Holds k rs first =
      first ++ plain_texts rs ≡ plain → k ≡ length first → q + length (run_commits history k rs) ≤ p → Stands (run_commits history k rs) first (all_kept history rs)

  stands-run : (k : ℕ) (conditions : List (Formula ℕ)) (texts first : List (List ℕ)) (rs : List Run) → ((j : ℕ) (others : List (List ℕ)) → Holds j rs others)
      → first ++ (plain_in conditions texts ++ plain_texts rs) ≡ plain → k ≡ length first
      → q + length (with_run history file (anchor_at before k) conditions texts (run_commits history (count_after k conditions texts) rs)) ≤ p
      → Stands (with_run history file (anchor_at before k) conditions texts (run_commits history (count_after k conditions texts) rs)) first
      (texts_kept history conditions texts ++ all_kept history rs)
  stands-run k [] texts first rs rest all is few =
      let s = rest (k + length texts) (first ++ texts) (append_assoc first texts (plain_texts rs) ∙ all) (omega (arith, is, length-append first texts)) few in
      record {
        rest = new_lines (before + length first) q (on_all True) texts ++ s.rest;
        lines = s.lines ∙ ap (λ ds. ds ++ s.rest) (new-append before q (on_all True) first texts) ∙ append_assoc (new_lines before q (on_all True) first) (new_lines (before + length first) q (on_all True) texts) s.rest;
        told_rest = map-append (told p) (new_lines (before + length first) q (on_all True) texts) s.rest ∙ (λ i. told-new p (before + length first) q (on_all True) texts (omega (arith, few)) i ++ s.told_rest i);
        grown = omega (arith, s.grown, length-append first texts);
      }
  stands-run k (e ∷ es) texts first rs rest all is few = at (least_valid history (conjunction (e ∷ es))) few
    where
      done : List Command
      done = run_commits history k rs

      at : (o : Option (List Bool)) → q + length (with_commit history file (anchor_at before k) (conjunction (e ∷ es)) texts done o) ≤ p
          → Stands (with_commit history file (anchor_at before k) (conjunction (e ∷ es)) texts done o) first ((if is_some o then map (within (on_all (conjunction (e ∷ es)))) texts else []) ++ all_kept history rs)
      at None low = rest k first all is low
      at (Some choice) low =
          let one = length-append done (commands.Commit (length history + 1 + length done) choice (conjunction (e ∷ es)) (meant_for_all (chained (nodes.Old file) (lines.Old (anchor_at before k)) 0 texts)) ∷ []) in
          stands-commit k (conjunction (e ∷ es)) choice texts first done (all_kept history rs) is (omega (arith, low, one)) (rest k first all is (omega (arith, low, one)))

  pub stands-runs : (rs : List Run) (k : ℕ) (first : List (List ℕ)) → Holds k rs first
  stands-runs [] k first all is few = record {
    rest = [];
    lines = ap (λ h. file_dated file (kept_of h)) (append-nil begun) ∙ making-lines
        ∙ ap (new_lines before q (on_all True)) (sym all ∙ append-nil first) ∙ sym (append-nil (new_lines before q (on_all True) first));
    told_rest = refl;
    grown =
        let every = ap length (sym (append-nil first) ∙ all) in
        let same = ap line_count (append-nil begun) in
        omega (arith, making-count, every, same);
  }
  stands-runs (r ∷ rs) k first all is few = stands-run k r.conditions r.texts first rs (λ j others. stands-runs rs j others) all is few

-- on a valid choice the texts that are kept are those of the conditional text
pub kept-projection : (history : List Command) (rs : List Run) (c : List Bool) → length c ≡ option_count history → is_valid_in history c ≡ true
    → told_texts c (all_kept history rs) ≡ projection (lines_in rs) c
kept-projection history [] c long valid = refl
kept-projection history (r ∷ rs) c long valid =
    texts-append c (texts_kept history r.conditions r.texts) (all_kept history rs)
    ∙ (λ i. at r.conditions i ++ kept-projection history rs c long valid i)
    ∙ ap (λ ls. ls ++ projection (lines_in rs) c) (sym (run-projection r c r.texts))
    ∙ sym (projection-append (map (line_in r) r.texts) (lines_in rs) c)
  where
    at : (conditions : List (Formula ℕ)) → told_texts c (texts_kept history conditions r.texts) ≡ (if is_valid conditions c then r.texts else [])
    at [] = texts-within c (on_all True) r.texts
    at (e ∷ es) = by (least_valid history (conjunction (e ∷ es))) refl
      where
        by : (o : Option (List Bool)) → least_valid history (conjunction (e ∷ es)) ≡ o
            → told_texts c (if is_some o then map (within (on_all (conjunction (e ∷ es)))) r.texts else []) ≡ (if is_valid (e ∷ es) c then r.texts else [])
        by (Some choice) is =
            texts-within c (on_all (conjunction (e ∷ es))) r.texts
            ∙ ap (λ b. if b then r.texts else []) (on_all-value (conjunction (e ∷ es)) c ∙ conjunction-value (e ∷ es) c)
        by None is = ap (λ b. if b then r.texts else []) (sym (none-meets history (conjunction (e ∷ es)) c is long valid) ∙ conjunction-value (e ∷ es) c)

pub import-gives : (history : List Command) (parent : ℕ) (name : List ℕ) (t : List CondLine) (c : List Bool) → IsLegal history → AreGrouped t
    → length c ≡ option_count history → is_valid_in history c ≡ true
    → map text_of (lines_of (replay c (history ++ imported history parent name t)) ((numbers_of history).nodes + 1)) ≡ projection t c
import-gives history parent name t c legal grouped long valid =
    sym (map-map shown_text as_shown (lines_of (replay c after) new_file))
    ∙ ap (λ h. map shown_text (map as_shown (lines_of (replay c h) new_file))) (sym (take-length after))
    ∙ ap (map shown_text) (sym (file-shows c (length after) new_file after))
    ∙ shown-told c (length after) (file_dated new_file (kept_of after))
    ∙ ap (λ h. told_texts c (map (told (length after)) (file_dated new_file (kept_of h)))) (sym shape)
    ∙ ap (λ ds. told_texts c (map (told (length after)) ds)) s.lines
    ∙ ap (told_texts c) s.told_rest
    ∙ kept-projection history (runs_of t) c long valid
    ∙ ap (λ ls. projection ls c) (lines-runs t grouped)
  where
    new_file : ℕ
    new_file = (numbers_of history).nodes + 1

    done : List Command
    done = run_commits history 0 (runs_of t)

    after : List Command
    after = history ++ imported history parent name t

    shape : begun history legal parent name (runs_of t) (length after) ++ done ≡ after
    shape = append_assoc history (making_commit history parent name (runs_of t) ∷ []) done

    few : length history + 1 + length done ≤ length after
    few = omega (arith, length-append history (imported history parent name t))

    s : Stands history legal parent name (runs_of t) (length after) done [] (all_kept history (runs_of t))
    s = stands-runs history legal parent name (runs_of t) (length after) (runs_of t) 0 [] refl refl few
