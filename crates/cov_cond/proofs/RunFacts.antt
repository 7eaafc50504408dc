-- What is counted of runs.
use Rattle.std.proofs.Common.{◌≡◌, ℕ, suc, ◌+◌, ◌++◌, append_assoc, ◌<◌, ◌≤◌, Bool, true, false, nat_eq, List, [], ◌∷◌, length, length-append, map, get_or, Option, Some, None, if◌then◌else◌, refl, sym, ap, ◌∙◌, arith}
use Rattle.std.specs.List.{AllByRecursion}
use Rattle.std.proofs.lemmas.List.Sums.{sum_by-cons}
use Rattle.cov_base.specs.declared.limits.TheConstants.{LIMITS}
use Rattle.cov_base.proofs.CallerLemmas.{opened, rest_of}
use Rattle.cov_expr.specs.Formula.{Formula, True, reach, value}
use Rattle.cov_edit.specs.declared.command.Command.{Command}
use Rattle.cov_edit.specs.Numbering.{numbers_of, line_count}
use Rattle.cov_history.specs.Laws.{LeavesVariant}
use Rattle.cov_cond_text.specs.Conditional.{CondLine, conjunction, run_of, with_line, onto_runs, runs_of, AreRuns, HasOptionsBelow}
use Rattle.cov_cond_text.specs.declared.run.Run.{Run}
use Rattle.cov_engine.specs.Meeting.{least_valid}
use Rattle.cov_cond.specs.Committing.{texts_in, text_count, plain_count, bytes_in, run_bytes, run_choice, choice_for, counting, choice_count, run_commit}
use Rattle.cov_cond.specs.Importing.{plain_in, plain_texts, anchor_at, with_commit, with_run, count_after, run_commits}
use Rattle.cov_cond.proofs.Projecting.{none-meets}

module _ (r d : Run) (rs : List Run) (is : r ≡ get_or rs 0 d) (some : 1 ≤ length rs) where
  -- of the first run, and of the others
  pub first_texts : text_count rs ≡ texts_in r + text_count (rest_of rs)
  first_texts = ap text_count (opened r d rs is some) ∙ sum_by-cons texts_in r (rest_of rs)

  pub first_bytes : run_bytes rs ≡ bytes_in r + run_bytes (rest_of rs)
  first_bytes = ap run_bytes (opened r d rs is some) ∙ sum_by-cons bytes_in r (rest_of rs)

  pub first_plain : length (plain_texts rs) ≡ plain_count r + length (plain_texts (rest_of rs))
  first_plain = ap (λ l. length (plain_texts l)) (opened r d rs is some) ∙ length-append (plain_in r.conditions r.texts) (plain_texts (rest_of rs))

-- no more texts stand without conditions than there are
pub plain_few : (r : Run) → plain_count r ≤ texts_in r
plain_few r = at r.conditions
  where
    at : (conditions : List (Formula ℕ)) → length (plain_in conditions r.texts) ≤ length r.texts
    at [] = omega arith
    at (e ∷ es) = omega arith

-- each run has a text
pub few_runs : (rs : List Run) → AreRuns rs → length rs ≤ text_count rs
few_runs [] are = omega arith
few_runs (r ∷ rs) are =
    let some : 0 < length r.texts = are.0 in
    let rest = few_runs rs are.2 in
    let all = sum_by-cons texts_in r rs in
    omega (arith, some, rest, all)

-- the conditions of runs are those of their lines
onto-below : (count : ℕ) (l : CondLine) (rs : List Run) → reach (conjunction l.conditions) ≤ count → AllByRecursion (λ r. reach (conjunction r.conditions) ≤ count) rs
    → AllByRecursion (λ r. reach (conjunction r.conditions) ≤ count) (onto_runs l rs)
onto-below count l [] low all = (low, tt)
onto-below count l (r ∷ rs) low all = at (nat_eq l.group r.group)
  where
    at : (b : Bool) → AllByRecursion (λ r. reach (conjunction r.conditions) ≤ count) (if b then with_line l r ∷ rs else run_of l ∷ r ∷ rs)
    at true = all
    at false = (low, all)

pub runs_below : (count : ℕ) (t : List CondLine) → HasOptionsBelow count t → AllByRecursion (λ r. reach (conjunction r.conditions) ≤ count) (runs_of t)
runs_below count [] h = tt
runs_below count (l ∷ ls) h = onto-below count l (runs_of ls) h.0 (runs_below count ls h.1)

-- there are as many commits of runs as choices
pub commits_counted : (history : List Command) (k : ℕ) (rs : List Run) → length (run_commits history k rs) ≡ choice_count (map (run_choice history) rs)
commits_counted history k [] = refl
commits_counted history k (r ∷ rs) = at (λ j. commits_counted history j rs) r.conditions
  where
    file : ℕ
    file = (numbers_of history).nodes + 1

    anchor : ℕ
    anchor = anchor_at (line_count history) k

    at : ((j : ℕ) → length (run_commits history j rs) ≡ choice_count (map (run_choice history) rs)) → (conditions : List (Formula ℕ))
        → length (with_run history file anchor conditions r.texts (run_commits history (count_after k conditions r.texts) rs)) ≡ counting (choice_count (map (run_choice history) rs)) (choice_for history conditions)
    at rest [] = rest (k + length r.texts)
    at rest (e ∷ es) = by (least_valid history (conjunction (e ∷ es)))
      where
        by : (o : Option (List Bool)) → length (with_commit history file anchor (conjunction (e ∷ es)) r.texts (run_commits history k rs) o) ≡ counting (choice_count (map (run_choice history) rs)) o
        by None = rest k
        by (Some choice) =
            let done = run_commits history k rs in
            let all = length-append done (run_commit (length history + 1 + length done) file anchor (e ∷ es) r.texts choice ∷ []) in
            let count = rest k in
            omega (arith, all, count)

choices-few : (os : List (Option (List Bool))) → choice_count os ≤ length os
choices-few [] = omega arith
choices-few (o ∷ os) = at o (choices-few os)
  where
    at : (o : Option (List Bool)) → choice_count os ≤ length os → counting (choice_count os) o ≤ suc (length os)
    at None h = omega (arith, h)
    at (Some choice) h = omega (arith, h)

pub mapped : {X Y : Type 0} (f : X → Y) (xs : List X) → length (map f xs) ≡ length xs
mapped f [] = refl
mapped f (x ∷ xs) = let rest = mapped f xs in omega (arith, rest)

-- with the first one there are no more commits than edits in one
pub few_choices : (history : List Command) (rs : List Run) → AreRuns rs → text_count rs < LIMITS.edits → choice_count (map (run_choice history) rs) + 1 ≤ LIMITS.edits
few_choices history rs are few =
    let low = choices-few (map (run_choice history) rs) in
    let same = mapped (run_choice history) rs in
    let runs = few_runs rs are in
    omega (arith, low, same, runs, few)

-- an item of a mapped list more
pub mapped_on : {X Y : Type 0} (f : X → Y) (now new whole : List Y) (y : Y) (x d : X) (ahead : List X) → x ≡ get_or ahead 0 d → 1 ≤ length ahead → now ++ map f ahead ≡ whole → new ≡ now ++ y ∷ [] → y ≡ f x
    → new ++ map f (rest_of ahead) ≡ whole
mapped_on f now new whole y x d ahead is some h added one =
    ap (λ ys. ys ++ map f (rest_of ahead)) added
    ∙ append_assoc now (y ∷ []) (map f (rest_of ahead))
    ∙ ap (λ z. now ++ z ∷ map f (rest_of ahead)) one
    ∙ ap (λ xs. now ++ map f xs) (sym (opened x d ahead is some))
    ∙ h

-- some variant is left, so there is a first valid choice
pub some_choice : (history : List Command) → LeavesVariant history → least_valid history True ≡ None → ⊥
some_choice history left none = let never : value True left.0 ≡ false = none-meets history True left.0 none left.1 left.2 in absurd (cc)
