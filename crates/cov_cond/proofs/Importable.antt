-- An import is accepted whole where its first commit is and there is room.
use Rattle.std.proofs.Common.{◌≡◌, ℕ, ◌+◌, ◌≤◌, Bool, true, false, ◌&&◌, nat_eq, nat_le, List, [], ◌∷◌, ◌++◌, length, append_assoc, None, if◌then◌else◌, refl, sym, ap, subst, ◌∙◌, arith}
use Rattle.std.specs.List.{list_all, sum_by, AllByRecursion}
use Rattle.std.proofs.lemmas.Bool.{and_parts}
use Rattle.std.proofs.lemmas.Bool.Decides.{nat_tests}
use Rattle.std.proofs.lemmas.List.Sums.{sum_by-append, sum_by-cons}
use Rattle.cov_base.specs.Spelling.{is_line_text, is_name}
use Rattle.cov_base.specs.declared.limits.TheConstants.{CHOICE_WIDTH, MOST_PARTS}
use Rattle.cov_expr.specs.Formula.{Formula, part_count, reach}
use Rattle.cov_edit.specs.declared.command.Command.{Command}
use Rattle.cov_edit.specs.Fits.{fits_expr}
use Rattle.cov_edit.specs.History.{option_count}
use Rattle.cov_history.specs.Verdict.{IsLegal, verdict}
use Rattle.cov_cond_text.specs.Conditional.{CondLine, run_of, with_line, onto_runs, runs_of, conjunction, IsFitLine, IsCondText}
use Rattle.cov_cond_text.specs.declared.run.Run.{Run}
use Rattle.cov_cond.specs.Fitting.{cond_bytes, HasRoom}
use Rattle.cov_cond.specs.Importing.{plain_in, plain_texts, making_commit, run_commits, imported}
use Rattle.cov_cond.proofs.Spelt.{legal-names}
use Rattle.cov_cond.proofs.Legal.{limited_in, limited_texts, IsFitRun, ready-runs}

-- the runs of fit lines are fit
module _ (count : ℕ) (wide : count ≤ CHOICE_WIDTH) where
  bound-fit : (e : Formula ℕ) → part_count e ≤ MOST_PARTS → reach e ≤ count → fits_expr e ≡ true
  bound-fit e few declared = λ j. low MOST_PARTS (part_count e) few j && low CHOICE_WIDTH (reach e) (omega (arith, declared, wide)) j
    where
      low : (most n : ℕ) → n ≤ most → nat_le n most ≡ true
      low most n h = grind (arith, nat_tests, h)

  one-fit : (l : CondLine) → IsFitLine count l → IsFitRun count (run_of l)
  one-fit l h = record { some = omega arith; spelt = (λ j. h.spelt j && true); few = bound-fit (conjunction l.conditions) h.few h.declared; declared = h.declared }

  onto-fit : (l : CondLine) (rs : List Run) → IsFitLine count l → AllByRecursion (IsFitRun count) rs → AllByRecursion (IsFitRun count) (onto_runs l rs)
  onto-fit l [] h all = (one-fit l h, tt)
  onto-fit l (r ∷ rs) h all = at (nat_eq l.group r.group)
    where
      longer : IsFitRun count (with_line l r)
      longer = record { some = omega arith; spelt = (λ j. h.spelt j && all.0.spelt j); few = all.0.few; declared = all.0.declared }

      at : (b : Bool) → AllByRecursion (IsFitRun count) (if b then with_line l r ∷ rs else run_of l ∷ r ∷ rs)
      at true = (longer, all.1)
      at false = (one-fit l h, all)

  runs-fit : (t : List CondLine) → AllByRecursion (IsFitLine count) t → AllByRecursion (IsFitRun count) (runs_of t)
  runs-fit [] h = tt
  runs-fit (l ∷ ls) h = onto-fit l (runs_of ls) h.0 (runs-fit ls h.1)

-- what is measured of a text's lines is that of the texts of its runs
module _ (measure : List ℕ → ℕ) where
  abbrev pub of_texts : List (List ℕ) → ℕ
  of_texts texts = sum_by measure texts

  abbrev pub of_run : Run → ℕ
  of_run r = of_texts r.texts

  abbrev of_runs : List Run → ℕ
  of_runs rs = sum_by of_run rs

  onto-measure : (l : CondLine) (rs : List Run) → of_runs (onto_runs l rs) ≡ measure l.text + of_runs rs
  onto-measure l [] = omega arith
  onto-measure l (r ∷ rs) = at (nat_eq l.group r.group)
    where
      at : (b : Bool) → of_runs (if b then with_line l r ∷ rs else run_of l ∷ r ∷ rs) ≡ measure l.text + of_runs (r ∷ rs)
      at true =
          let e = sum_by-cons of_run (with_line l r) rs in
          let f = sum_by-cons of_run r rs in
          let g = sum_by-cons measure l.text r.texts in
          omega (arith, e, f, g)
      at false =
          let e = sum_by-cons of_run (run_of l) (r ∷ rs) in
          let f = sum_by-cons measure l.text [] in
          omega (arith, e, f)

  pub runs-measure : (t : List CondLine) → of_runs (runs_of t) ≡ sum_by (λ l. measure l.text) t
  runs-measure [] = refl
  runs-measure (l ∷ ls) = onto-measure l (runs_of ls) ∙ ap (λ n. measure l.text + n) (runs-measure ls) ∙ sym (sum_by-cons (λ (m : CondLine). measure m.text) l ls)

  -- each text stands without conditions or with some
  parts-measure : (rs : List Run) → of_texts (plain_texts rs) + of_texts (limited_texts rs) ≡ of_runs rs
  parts-measure [] = refl
  parts-measure (r ∷ rs) =
      let e = sum_by-append measure (plain_in r.conditions r.texts) (plain_texts rs) in
      let f = sum_by-append measure (limited_in r.conditions r.texts) (limited_texts rs) in
      let g = at r.conditions in
      let h = parts-measure rs in
      let i = sum_by-cons of_run r rs in
      omega (arith, e, f, g, h, i)
    where
      at : (conditions : List (Formula ℕ)) → of_texts (plain_in conditions r.texts) + of_texts (limited_in conditions r.texts) ≡ of_texts r.texts
      at [] = omega arith
      at (e ∷ es) = omega arith

-- how many there are
pub counted : {X : Type 0} (xs : List X) → sum_by (λ x. 1) xs ≡ length xs
counted [] = refl
counted {X} (x ∷ xs) = let e = counted xs in let f = sum_by-cons (λ (y : X). 1) x xs in omega (arith, e, f)

plain-spelt : (count : ℕ) (rs : List Run) → AllByRecursion (IsFitRun count) rs → list_all is_line_text (plain_texts rs) ≡ true
plain-spelt count [] h = refl
plain-spelt count (r ∷ rs) h = at (plain-spelt count rs h.1) r.conditions
  where
    both : list_all is_line_text (plain_texts rs) ≡ true → (texts : List (List ℕ)) → list_all is_line_text texts ≡ true → list_all is_line_text (texts ++ plain_texts rs) ≡ true
    both rest [] e = rest
    both rest (t ∷ ts) e = let parts = and_parts (is_line_text t) (list_all is_line_text ts) e in λ j. parts.0 j && both rest ts parts.1 j

    at : list_all is_line_text (plain_texts rs) ≡ true → (conditions : List (Formula ℕ)) → list_all is_line_text (plain_in conditions r.texts ++ plain_texts rs) ≡ true
    at rest [] = both rest r.texts h.0.spelt
    at rest (e ∷ es) = rest

pub import-legal : (history : List Command) (parent : ℕ) (name : List ℕ) (t : List CondLine) → IsLegal history → is_name name ≡ true → IsCondText (option_count history) t
    → HasRoom history parent name t → verdict history (making_commit history parent name (runs_of t)) ≡ None → IsLegal (history ++ imported history parent name t)
import-legal history parent name t legal spelt fit room sure =
    subst IsLegal (append_assoc history (making_commit history parent name rs ∷ []) (run_commits history 0 rs))
    (ready-runs history legal parent name rs p spelt (plain-spelt (option_count history) rs runs_fit) sure room.commands rs 0 [] runs_fit refl refl few (record {
      edits_few = let few = room.edits in omega (arith, few, counts);
      lines_few = let few = room.lines in omega (arith, few, counts);
      commit_few = let few = room.commit_bytes in omega (arith, few, bytes);
      bytes_few = let few = room.bytes in omega (arith, few, bytes);
    })).legal_now
  where
    rs : List Run
    rs = runs_of t

    p : ℕ
    p = length history + length (imported history parent name t)

    few : length history + 1 + length (run_commits history 0 rs) ≤ p
    few = omega arith

    runs_fit : AllByRecursion (IsFitRun (option_count history)) rs
    runs_fit = runs-fit (option_count history) (let most = (legal-names history legal).most in omega (arith, most)) t fit.lines

    counts : length (plain_texts rs) + length (limited_texts rs) ≡ length t
    counts =
        let e = parts-measure (λ text. 1) rs in
        let f = runs-measure (λ text. 1) t in
        let g = counted (plain_texts rs) in
        let h = counted (limited_texts rs) in
        let i = counted t in
        omega (arith, e, f, g, h, i)

    bytes : sum_by length (plain_texts rs) + sum_by length (limited_texts rs) ≡ cond_bytes t
    bytes = parts-measure length rs ∙ runs-measure length t
