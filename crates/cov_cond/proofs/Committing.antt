-- The commits of runs, made from the last run to the first.
use Rattle.std.proofs.Common.{◌≡◌, ℕ, zero, suc, ◌+◌, ◌-◌, ◌<◌, ◌≤◌, Bool, get_or, List, [], ◌∷◌, ◌++◌, length, length-append, map, take, drop, append_assoc, append-nil, Option, Some, None, refl, sym, ap, subst, ◌∙◌, arith}
use Rattle.std.specs.Prelude.{slice_get}
use Rattle.std.specs.List.{AllByRecursion}
use Rattle.std.proofs.lemmas.List.Sums.{sum_by-cons}
use Rattle.cov_base.proofs.CallerLemmas.{drop-at}
use Rattle.cov_expr.specs.Formula.{Formula}
use Rattle.cov_edit.specs.declared.command.Command.{Command}
use Rattle.cov_edit.specs.Numbering.{line_count, node_count}
use Rattle.cov_cond_text.specs.Conditional.{conjunction}
use Rattle.cov_cond_text.specs.declared.run.Run.{Run}
use Rattle.cov_engine.specs.Meeting.{least_valid}
use Rattle.cov_cond.specs.Committing.{texts_in, text_count, plain_count, run_choice, choice_for, run_commit, commit_of}
use Rattle.cov_cond.specs.Importing.{plain_in, plain_texts, anchor_at, with_commit, with_run, count_after, run_commits}
use Rattle.cov_cond.proofs.RunFacts.{mapped, plain_few}

-- what holds of all items holds of the one at an index
pub all_at : {X : Type 0} (P : X → Type 0) (xs : List X) (i : ℕ) (x : X) → AllByRecursion P xs → slice_get xs i ≡ Some x → P x
all_at P [] i x h is = absurd (cc)
all_at P (y ∷ ys) zero x h is = let same : y ≡ x = cc in subst P same h.0
all_at P (y ∷ ys) (suc i) x h is = all_at P ys i x h.1 is

-- the item that is read within a list is there
pub read_at : {X : Type 0} (xs : List X) (i : ℕ) (x d : X) → i < length xs → x ≡ get_or xs i d → slice_get xs i ≡ Some x
read_at [] i x d low is = absurd (omega (arith, low))
read_at (y ∷ ys) zero x d low is = ap Some (sym is)
read_at (y ∷ ys) (suc i) x d low is = read_at ys i x d (omega (arith, low)) is

-- the item at an index of a mapped list is that of the one there
pub mapped_at : {X Y : Type 0} (f : X → Y) (xs : List X) (i : ℕ) (x : X) → slice_get xs i ≡ Some x → slice_get (map f xs) i ≡ Some (f x)
mapped_at f [] i x is = absurd (cc)
mapped_at f (y ∷ ys) zero x is = let same : y ≡ x = cc in ap (λ z. Some (f z)) same
mapped_at f (y ∷ ys) (suc i) x is = mapped_at f ys i x is

-- a run has no more texts than all
pub texts_at : (rs : List Run) (i : ℕ) (r : Run) → slice_get rs i ≡ Some r → texts_in r ≤ text_count rs
texts_at [] i r is = absurd (cc)
texts_at (s ∷ rs) zero r is =
    let same : s ≡ r = cc in
    let all = sum_by-cons texts_in s rs in
    let texts = ap texts_in same in
    omega (arith, all, texts)
texts_at (s ∷ rs) (suc i) r is =
    let rest = texts_at rs i r is in
    let all = sum_by-cons texts_in s rs in
    omega (arith, all, rest)

-- no more of the first texts stand without conditions than there are
pub plain_taken : (n : ℕ) (rs : List Run) → length (plain_texts (take n rs)) ≤ text_count rs
plain_taken zero rs = omega arith
plain_taken (suc n) [] = omega arith
plain_taken (suc n) (r ∷ rs) =
    let rest = plain_taken n rs in
    let all = sum_by-cons texts_in r rs in
    let one = plain_few r in
    omega (arith, rest, all, one, length-append (plain_in r.conditions r.texts) (plain_texts (take n rs)))

-- one run more
plain-next : (rs : List Run) (i : ℕ) (r : Run) → slice_get rs i ≡ Some r → length (plain_texts (take (suc i) rs)) ≡ length (plain_texts (take i rs)) + plain_count r
plain-next [] i r is = absurd (cc)
plain-next (s ∷ rs) zero r is =
    let same : s ≡ r = cc in
    let one = ap plain_count same in
    omega (arith, one, length-append (plain_in s.conditions s.texts) [])
plain-next (s ∷ rs) (suc i) r is =
    let rest = plain-next rs i r is in
    let first = plain_in s.conditions s.texts in
    omega (arith, rest, length-append first (plain_texts (take (suc i) rs)), length-append first (plain_texts (take i rs)))

pub plain_at : (rs : List Run) (i k : ℕ) (r : Run) → slice_get rs i ≡ Some r → k ≡ i + 1 → length (plain_texts (take k rs)) ≡ length (plain_texts (take i rs)) + plain_count r
plain_at rs i k r is e = let same : k ≡ suc i = omega (arith, e) in ap (λ n. length (plain_texts (take n rs))) same ∙ plain-next rs i r is

-- the last of the runs for which nothing was done yet
module _ (rs : List Run) (left : ℕ) (r : Run) (some : 0 < left) (within : left ≤ length rs) (is : r ≡ get_or rs (left - 1) r) where
  pub run_there : slice_get rs (left - 1) ≡ Some r
  run_there = read_at rs (left - 1) r r (omega (arith, some, within)) is

  pub plain_before : length (plain_texts (take left rs)) ≡ length (plain_texts (take (left - 1) rs)) + plain_count r
  plain_before = plain_at rs (left - 1) left r run_there (omega (arith, some))

  -- its choice
  pub choice_there : (f : Run → Option (List Bool)) (os : List (Option (List Bool))) (o : Option (List Bool)) → os ≡ map f rs → o ≡ get_or os (left - 1) o → o ≡ f r
  choice_there f os o all read =
      let low : left - 1 < length os = omega (arith, some, within, ap length all, mapped f rs) in
      let one : Some o ≡ Some (f r) = sym (read_at os (left - 1) o o low read) ∙ ap (λ ps. slice_get ps (left - 1)) all ∙ mapped_at f rs (left - 1) r run_there in
      cc

-- the commits of a run are one at most
pub one_commit : (base file anchor : ℕ) (r : Run) (o : Option (List Bool)) → length (commit_of base file anchor r o) ≤ 1
one_commit base file anchor r None = omega arith
one_commit base file anchor r (Some choice) = omega arith

module _ (history : List Command) where
  -- the lines without conditions before what follows a run
  after-count : (k : ℕ) (conditions : List (Formula ℕ)) (texts : List (List ℕ)) → count_after k conditions texts ≡ k + length (plain_in conditions texts)
  after-count k [] texts = refl
  after-count k (e ∷ es) texts = omega arith

  -- the commits with that of a run more
  run-more : (base anchor : ℕ) (r : Run) (done : List Command) → base ≡ length history + 1 + length done
      → with_run history (node_count history) anchor r.conditions r.texts done ≡ done ++ commit_of base (node_count history) anchor r (run_choice history r)
  run-more base anchor r done e = each r.conditions ∙ ap (λ cs. done ++ cs) (of_run (choice_for history r.conditions))
    where
      -- the commit of texts with conditions, if there is a choice
      commit : List (Formula ℕ) → Option (List Bool) → List Command
      commit conditions None = []
      commit conditions (Some choice) = run_commit base (node_count history) anchor conditions r.texts choice ∷ []

      of_run : (o : Option (List Bool)) → commit r.conditions o ≡ commit_of base (node_count history) anchor r o
      of_run None = refl
      of_run (Some choice) = refl

      by : (f : Formula ℕ) (fs : List (Formula ℕ)) (o : Option (List Bool)) → with_commit history (node_count history) anchor (conjunction (f ∷ fs)) r.texts done o ≡ done ++ commit (f ∷ fs) o
      by f fs None = sym (append-nil done)
      by f fs (Some choice) = ap (λ n. done ++ run_commit n (node_count history) anchor (f ∷ fs) r.texts choice ∷ []) (sym e)

      each : (conditions : List (Formula ℕ)) → with_run history (node_count history) anchor conditions r.texts done ≡ done ++ commit conditions (choice_for history conditions)
      each [] = sym (append-nil done)
      each (f ∷ fs) = by f fs (least_valid history (conjunction (f ∷ fs)))

  -- the commits from a run on, where those from the next one on were made
  pub run_committed : (start now new : List Command) (rs : List Run) (left next k j : ℕ) (r : Run) → length start ≡ 1 → slice_get rs left ≡ Some r → next ≡ left + 1 → j ≡ k + plain_count r
      → now ≡ start ++ run_commits history j (drop next rs)
      → new ≡ now ++ commit_of (length history + length now) (node_count history) (anchor_at (line_count history) k) r (run_choice history r)
      → new ≡ start ++ run_commits history k (drop left rs)
  run_committed start now new rs left next k j r one is e f h added =
      added
      ∙ ap (λ cs. cs ++ more) h
      ∙ append_assoc start done more
      ∙ ap (λ cs. start ++ cs) (sym (run-more (length history + length now) (anchor_at (line_count history) k) r done long))
      ∙ ap (λ n. start ++ with_run history (node_count history) (anchor_at (line_count history) k) r.conditions r.texts (run_commits history n (drop next rs))) (f ∙ sym (after-count k r.conditions r.texts))
      ∙ ap (λ l. start ++ run_commits history k l) (sym (drop-at rs left next r is e))
    where
      done : List Command
      done = run_commits history j (drop next rs)

      more : List Command
      more = commit_of (length history + length now) (node_count history) (anchor_at (line_count history) k) r (run_choice history r)

      long : length history + length now ≡ length history + 1 + length done
      long = let all = ap length h in omega (arith, one, all, length-append start done)
