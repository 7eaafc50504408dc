-- The texts of runs on a choice.
use Rattle.std.proofs.Common.{◌≡◌, ℕ, ◌≤◌, Bool, true, false, List, [], ◌∷◌, ◌++◌, map, length, get_or, append_assoc, if◌then◌else◌, refl, sym, ap, subst, ◌∙◌, arith}
use Rattle.std.specs.List.{AllByRecursion}
use Rattle.cov_base.proofs.CallerLemmas.{opened, rest_of}
use Rattle.cov_expr.specs.Formula.{Formula, And, reach}
use Rattle.cov_expr.specs.Validity.{is_valid}
use Rattle.cov_cond_text.specs.Conditional.{CondLine, projection, joined, conjunction, line_in, lines_in, HasOptionsBelow}
use Rattle.cov_cond_text.specs.declared.run.Run.{Run}
use Rattle.cov_cond_text.proofs.Runs.{projection-append, run-projection}

joined-reach : (n : ℕ) (e : Formula ℕ) (es : List (Formula ℕ)) → reach (joined e es) ≤ n → (reach e ≤ n) × AllByRecursion (λ f. reach f ≤ n) es
joined-reach n e [] h = (h, tt)
joined-reach n e (f ∷ fs) h =
    let rest = joined-reach n (And e f) fs h in
    let both : reach (And e f) ≤ n = rest.0 in
    ((omega (arith, both)), ((omega (arith, both)), rest.1))

conjunction-reach : (n : ℕ) (es : List (Formula ℕ)) → reach (conjunction es) ≤ n → AllByRecursion (λ f. reach f ≤ n) es
conjunction-reach n [] h = tt
conjunction-reach n (e ∷ es) h = let all = joined-reach n e es h in (all.0, all.1)

-- the conditions of a run with texts
pub run_conditions : (n : ℕ) (r : Run) → HasOptionsBelow n (map (line_in r) r.texts) → (length r.texts ≡ 0 → ⊥) → AllByRecursion (λ e. reach e ≤ n) r.conditions
run_conditions n r h some = at r.texts h some
  where
    at : (texts : List (List ℕ)) → HasOptionsBelow n (map (line_in r) texts) → (length texts ≡ 0 → ⊥) → AllByRecursion (λ e. reach e ≤ n) r.conditions
    at [] k none = absurd (none refl)
    at (t ∷ ts) k none = conjunction-reach n r.conditions k.0

pub run_shown : (r : Run) (c : List Bool) → is_valid r.conditions c ≡ true → projection (map (line_in r) r.texts) c ≡ r.texts
run_shown r c h = run-projection r c r.texts ∙ ap (λ b. if b then r.texts else []) h

pub run_hidden : (r : Run) (c : List Bool) → is_valid r.conditions c ≡ false → projection (map (line_in r) r.texts) c ≡ []
run_hidden r c h = run-projection r c r.texts ∙ ap (λ b. if b then r.texts else []) h

-- the first run and then the rest
pub runs-first : (r : Run) (rs : List Run) (c : List Bool) → projection (lines_in (r ∷ rs)) c ≡ projection (map (line_in r) r.texts) c ++ projection (lines_in rs) c
runs-first r rs c = projection-append (map (line_in r) r.texts) (lines_in rs) c

all-front : (P : CondLine → Type 0) (xs ys : List CondLine) → AllByRecursion P (xs ++ ys) → AllByRecursion P xs × AllByRecursion P ys
all-front P [] ys h = (tt, h)
all-front P (x ∷ xs) ys h = let rest = all-front P xs ys h.1 in ((h.0, rest.0), rest.1)

pub runs-below : (n : ℕ) (r : Run) (rs : List Run) → HasOptionsBelow n (lines_in (r ∷ rs)) → HasOptionsBelow n (map (line_in r) r.texts) × HasOptionsBelow n (lines_in rs)
runs-below n r rs h = all-front (λ l. reach (conjunction l.conditions) ≤ n) (map (line_in r) r.texts) (lines_in rs) h

-- a run more is appended
pub more-shown : (texts new whole : List (List ℕ)) (r d : Run) (rs : List Run) (c : List Bool) → r ≡ get_or rs 0 d → 1 ≤ length rs
    → (texts ++ projection (lines_in rs) c ≡ whole) × HasOptionsBelow (length c) (lines_in rs)
    → new ≡ texts ++ projection (map (line_in r) r.texts) c
    → (new ++ projection (lines_in (rest_of rs)) c ≡ whole) × HasOptionsBelow (length c) (lines_in (rest_of rs))
more-shown texts new whole r d rs c is some h added = (
  ap (λ ts. ts ++ projection (lines_in (rest_of rs)) c) added
      ∙ append_assoc texts (projection (map (line_in r) r.texts) c) (projection (lines_in (rest_of rs)) c)
      ∙ ap (λ ts. texts ++ ts) (sym (runs-first r (rest_of rs) c))
      ∙ ap (λ l. texts ++ projection (lines_in l) c) (sym whole_list)
      ∙ h.0,
  (runs-below (length c) r (rest_of rs) (subst (λ l. HasOptionsBelow (length c) (lines_in l)) whole_list h.1)).1,
)
  where
    whole_list : rs ≡ r ∷ rest_of rs
    whole_list = opened r d rs is some

pub first-below : (n : ℕ) (r d : Run) (rs : List Run) → r ≡ get_or rs 0 d → 1 ≤ length rs → HasOptionsBelow n (lines_in rs) → HasOptionsBelow n (map (line_in r) r.texts)
first-below n r d rs is some h = (runs-below n r (rest_of rs) (subst (λ l. HasOptionsBelow n (lines_in l)) (opened r d rs is some) h)).0
