-- What a choice shows of the lines of runs.
use Rattle.std.proofs.Common.{◌≡◌, ℕ, Bool, true, false, cond, ◌&&◌, nat_eq, List, [], ◌∷◌, ◌++◌, map, if◌then◌else◌, refl, sym, ap, subst, ◌∙◌, arith}
use Rattle.std.specs.List.{filter}
use Rattle.std.proofs.lemmas.Bool.Decides.{nat_tests}
use Rattle.std.proofs.lemmas.List.{map-append}
use Rattle.std.proofs.lemmas.List.Elements.{filter-append}
use Rattle.cov_expr.specs.Formula.{Formula, And, value}
use Rattle.cov_expr.specs.Validity.{is_valid}
use Rattle.cov_cond_text.specs.Conditional.{CondLine, text_in, is_in, projection, joined, conjunction, run_of, with_line, onto_runs, runs_of, line_in, lines_in, AreGrouped}
use Rattle.cov_cond_text.specs.declared.run.Run.{Run}

and_assoc : (a b c : Bool) → ((a && b) && c) ≡ (a && (b && c))
and_assoc true b c = refl
and_assoc false b c = refl

joined-value : (e : Formula ℕ) (es : List (Formula ℕ)) (c : List Bool) → value (joined e es) c ≡ (value e c && is_valid es c)
joined-value e [] c = last (value e c)
  where
    last : (b : Bool) → b ≡ (b && true)
    last true = refl
    last false = refl
joined-value e (f ∷ fs) c = joined-value (And e f) fs c ∙ and_assoc (value e c) (value f c) (is_valid fs c)

-- a conjunction is true where all its conditions are
pub conjunction-value : (es : List (Formula ℕ)) (c : List Bool) → value (conjunction es) c ≡ is_valid es c
conjunction-value [] c = refl
conjunction-value (e ∷ es) c = joined-value e es c

pub projection-append : (ls ms : List CondLine) (c : List Bool) → projection (ls ++ ms) c ≡ projection ls c ++ projection ms c
projection-append ls ms c = ap (map text_in) (filter-append (is_in c) ls ms) ∙ map-append text_in (filter (is_in c) ls) (filter (is_in c) ms)

-- the lines of a run are all seen where its conditions are true, and else none
pub run-projection : (r : Run) (c : List Bool) (texts : List (List ℕ)) → projection (map (line_in r) texts) c ≡ (if is_valid r.conditions c then texts else [])
run-projection r c texts = at (is_valid r.conditions c) refl
  where
    at : (b : Bool) → is_valid r.conditions c ≡ b → projection (map (line_in r) texts) c ≡ (if b then texts else [])
    at true h = all texts
      where
        all : (us : List (List ℕ)) → projection (map (line_in r) us) c ≡ us
        all [] = refl
        all (u ∷ us) = ap (λ b. map text_in (cond b (line_in r u ∷ filter (is_in c) (map (line_in r) us)) (filter (is_in c) (map (line_in r) us)))) h ∙ ap (λ l. u ∷ l) (all us)
    at false h = none texts
      where
        none : (us : List (List ℕ)) → projection (map (line_in r) us) c ≡ []
        none [] = refl
        none (u ∷ us) = ap (λ b. map text_in (cond b (line_in r u ∷ filter (is_in c) (map (line_in r) us)) (filter (is_in c) (map (line_in r) us)))) h ∙ none us

-- the first of the runs begins with the first line
abbrev BeginsWith : CondLine → List Run → Type 0
BeginsWith l rs = (r : Run) × (later : List Run) × (rs ≡ r ∷ later) × (r.group ≡ l.group) × (r.conditions ≡ l.conditions)

begins : (l : CondLine) (ls : List CondLine) → AreGrouped (l ∷ ls) → BeginsWith l (runs_of (l ∷ ls))
begins l [] h = (run_of l, [], refl, refl, refl)
begins l (m ∷ ls) h = from (begins m ls h.1)
  where
    at : (b : Bool) (r : Run) (later : List Run) → nat_eq l.group r.group ≡ b → r.group ≡ m.group → r.conditions ≡ m.conditions → BeginsWith l (if b then with_line l r ∷ later else run_of l ∷ r ∷ later)
    at true r later e g k =
        let same : l.group ≡ r.group = grind (arith, nat_tests, e) in
        (with_line l r, later, refl, sym same, k ∙ sym (h.0.same (same ∙ g)))
    at false r later e g k = (run_of l, r ∷ later, refl, refl, refl)

    from : BeginsWith m (runs_of (m ∷ ls)) → BeginsWith l (onto_runs l (runs_of (m ∷ ls)))
    from first = subst (λ rs. BeginsWith l (onto_runs l rs)) (sym first.2) (at (nat_eq l.group first.0.group) first.0 first.1 refl first.3 first.4)

-- the lines of the runs of a text are the text
pub lines-runs : (t : List CondLine) → AreGrouped t → lines_in (runs_of t) ≡ t
lines-runs [] h = refl
lines-runs (l ∷ []) h = refl
lines-runs (l ∷ m ∷ ls) h = from (lines-runs (m ∷ ls) h.1) (begins m ls h.1)
  where
    at : (b : Bool) (r : Run) (later : List Run) → nat_eq l.group r.group ≡ b → r.group ≡ m.group → r.conditions ≡ m.conditions → lines_in (if b then with_line l r ∷ later else run_of l ∷ r ∷ later) ≡ l ∷ lines_in (r ∷ later)
    at true r later e g k =
        let same : l.group ≡ r.group = grind (arith, nat_tests, e) in
        let conditions : r.conditions ≡ l.conditions = k ∙ sym (h.0.same (same ∙ g)) in
        λ i. record { conditions = conditions i; text = l.text; group = sym same i } ∷ lines_in (r ∷ later)
    at false r later e g k = refl

    from : lines_in (runs_of (m ∷ ls)) ≡ m ∷ ls → BeginsWith m (runs_of (m ∷ ls)) → lines_in (onto_runs l (runs_of (m ∷ ls))) ≡ l ∷ m ∷ ls
    from rest first =
        ap (λ rs. lines_in (onto_runs l rs)) first.2 ∙ at (nat_eq l.group first.0.group) first.0 first.1 refl first.3 first.4
        ∙ ap (λ rs. l ∷ lines_in rs) (sym first.2) ∙ ap (λ ms. l ∷ ms) rest
