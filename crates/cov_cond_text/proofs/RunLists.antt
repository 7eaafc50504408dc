-- Runs with one more behind them, and the runs of their lines.
use Rattle.std.proofs.Common.{◌≡◌, ℕ, ◌+◌, ◌<◌, ◌≤◌, true, false, nat_eq, List, [], ◌∷◌, ◌++◌, map, length, if◌then◌else◌, refl, ap, ◌∙◌, arith}
use Rattle.std.specs.List.{AllByRecursion}
use Rattle.std.proofs.lemmas.Bool.Decides.{nat_tests}
use Rattle.cov_base.proofs.CallerLemmas.{all-append, all-map}
use Rattle.cov_cond_text.specs.Conditional.{run_of, with_line, onto_runs, runs_of, line_in, lines_in, BeginBehind, AreRuns}
use Rattle.cov_cond_text.specs.declared.run.Run.{Run}

-- a run that has a line stands behind runs that stand behind fewer directives
pub run_behind : (next : ℕ) (rs : List Run) (r : Run) → AreRuns rs → AllByRecursion (λ s. s.group < next) rs → 0 < length r.texts → next ≤ r.group → AreRuns (rs ++ r ∷ [])
run_behind next [] r are below some behind = (some, tt, tt)
run_behind next (s ∷ []) r are below some behind = (are.0, (let less : s.group < next = below.0 in omega (arith, less, behind)), (some, tt, tt))
run_behind next (s ∷ t ∷ rs) r are below some behind = (are.0, are.1, run_behind next (t ∷ rs) r are.2 below.1 some behind)

pub all_behind : (next : ℕ) (rs : List Run) (r : Run) → AllByRecursion (λ s. s.group < next) rs → next ≤ r.group → AllByRecursion (λ s. s.group < r.group + 1) (rs ++ r ∷ [])
all_behind next rs r below behind =
    all-append (λ s. s.group < r.group + 1) rs (r ∷ []) (all-map (λ s. s.group < next) (λ s. s.group < r.group + 1) (λ s h. omega (arith, h, behind)) rs below) (omega arith, tt)

-- the runs of the lines of runs are these
pub runs_are : (rs : List Run) → AreRuns rs → runs_of (lines_in rs) ≡ rs
runs_are [] are = refl
runs_are (r ∷ rs) are = each (runs_are rs are.2) r.texts are.0
  where
    with_texts : List (List ℕ) → Run
    with_texts texts = record { group = r.group; conditions = r.conditions; texts = texts }

    apart : (t : List ℕ) (later : List Run) → BeginBehind r.group later → onto_runs (line_in r t) later ≡ with_texts (t ∷ []) ∷ later
    apart t [] h = refl
    apart t (s ∷ later) h =
        let less : r.group < s.group = h in
        let test : nat_eq r.group s.group ≡ false = grind (arith, nat_tests, less) in
        ap (λ b. if b then with_line (line_in r t) s ∷ later else run_of (line_in r t) ∷ s ∷ later) test

    same : nat_eq r.group r.group ≡ true
    same = grind (arith, nat_tests)

    each : runs_of (lines_in rs) ≡ rs → (texts : List (List ℕ)) → 0 < length texts → runs_of (map (line_in r) texts ++ lines_in rs) ≡ with_texts texts ∷ rs
    each rest [] some = absurd (omega (arith, some))
    each rest (t ∷ []) some = ap (onto_runs (line_in r t)) rest ∙ apart t rs are.1
    each rest (t ∷ u ∷ texts) some =
        ap (onto_runs (line_in r t)) (each rest (u ∷ texts) (omega arith))
        ∙ ap (λ b. if b then with_line (line_in r t) (with_texts (u ∷ texts)) ∷ rs else run_of (line_in r t) ∷ with_texts (u ∷ texts) ∷ rs) same
