-- Decision trees of tests, and the decisions in them.
use Rattle.std.proofs.Common.{◌≡◌, ◌≢◌, ℕ, zero, suc, ◌+◌, ◌<◌, ◌≤◌, Bool, true, false, cond, List, [], ◌∷◌, ◌++◌, length, true≢false, refl, sym, ap, ◌∙◌, subst, arith, append_assoc, append-nil}
use Rattle.std.specs.Prelude.{nat_eq, ◌&&◌}
use Rattle.std.specs.Bool.{Decides}
use Rattle.std.specs.Cmp.{booleans_Decides}
use Rattle.std.specs.List.{list_any, AllByRecursion}
use Rattle.std.proofs.lemmas.Bool.{and_parts, eqb-true, eq-eqb}
use Rattle.cov_base.specs.Choices.{is_on}
use Rattle.cov_base.proofs.CallerLemmas.{all-append}
use Rattle.cov_vis.specs.Decisions.{Decision, Leaf, Branch, same_decision, decision_by, decision_of, decisions}
use Rattle.cov_vis.proofs.Members.{IsMember, IsOnce, member_at, member_left, once-push}

pub same_decision-is : (x y : Decision) → same_decision x y ≡ true → x ≡ y
same_decision-is (Leaf a) (Leaf b) h = ap Leaf ((booleans_Decides a b).0 h)
same_decision-is (Leaf a) (Branch p c d) h = absurd (true≢false (sym h))
same_decision-is (Branch o a b) (Leaf c) h = absurd (true≢false (sym h))
same_decision-is (Branch o a b) (Branch p c d) h =
    let rest = (and_parts (nat_eq o p) _ h).1 in
    let option = eqb-true o p (and_parts _ _ h).0 in
    let off = same_decision-is a c (and_parts _ _ rest).0 in
    let on = same_decision-is b d (and_parts (same_decision a c) _ rest).1 in
    (λ j. Branch (option j) (off j) (on j))

pub same_decision-self : (x : Decision) → same_decision x x ≡ true
same_decision-self (Leaf a) = (booleans_Decides a a).1 refl
same_decision-self (Branch o a b) = (λ j. eq-eqb o o refl j && (same_decision-self a j && same_decision-self b j))

pub decision_tests : (x y : Decision) → Decides (same_decision x y) (x ≡ y)
decision_tests x y = (same_decision-is x y, λ h. subst (λ z. same_decision x z ≡ true) h (same_decision-self x))

-- options are below most, rise on each way from least, and none is needless
abbrev pub IsProper : ℕ → Decision → ℕ → Type 0
IsProper most (Leaf b) least = Unit {0}
IsProper most (Branch o off on) least = (least ≤ o) × (o < most) × (off ≢ on) × IsProper most off (o + 1) × IsProper most on (o + 1)

proper-from : (most : ℕ) (d : Decision) (least lower : ℕ) → lower ≤ least → IsProper most d least → IsProper most d lower
proper-from most (Leaf b) least lower low h = tt
proper-from most (Branch o off on) least lower low h = (omega (arith, low, h.0), h.1, h.2, h.3, h.4)

proper_by : (most o : ℕ) (off on : Decision) → o < most → IsProper most off (o + 1) → IsProper most on (o + 1) → IsProper most (decision_by o off on) o
proper_by most o off on few h k = by (same_decision off on) refl
  where
    by : (b : Bool) → same_decision off on ≡ b → IsProper most (cond b off (Branch o off on)) o
    by true e = proper-from most off (o + 1) o (omega arith) h
    by false e = (omega arith, few, λ is. true≢false (sym ((decision_tests off on).1 is) ∙ e), h, k)

pub proper_of : (n o most : ℕ) (test : List Bool → Bool) → o + n ≤ most → IsProper most (decision_of n o test) o
proper_of zero o most test few = tt
proper_of (suc n) o most test few =
    proper_by most o (decision_of n (o + 1) (λ c. test (false ∷ c))) (decision_of n (o + 1) (λ c. test (true ∷ c))) (omega (arith, few))
    (proper_of n (o + 1) most (λ c. test (false ∷ c)) (omega (arith, few)))
    (proper_of n (o + 1) most (λ c. test (true ∷ c)) (omega (arith, few)))

-- what a tree answers on a choice
abbrev pub decided_at : Decision → List Bool → Bool
decided_at (Leaf b) c = b
decided_at (Branch o off on) c = cond (is_on c o) (decided_at on c) (decided_at off c)

decided_by : (o : ℕ) (off on : Decision) (c : List Bool) → decided_at (decision_by o off on) c ≡ cond (is_on c o) (decided_at on c) (decided_at off c)
decided_by o off on c = by (same_decision off on) refl
  where
    either : (b x : Bool) → x ≡ cond b x x
    either true x = refl
    either false x = refl

    by : (b : Bool) → same_decision off on ≡ b → decided_at (cond b off (Branch o off on)) c ≡ cond (is_on c o) (decided_at on c) (decided_at off c)
    by true e = either (is_on c o) (decided_at off c) ∙ ap (λ d. cond (is_on c o) (decided_at d c) (decided_at off c)) ((decision_tests off on).0 e)
    by false e = refl

-- the tree of a test answers as the test, on each choice with the options from the first on
pub decided_of : (n o : ℕ) (test : List Bool → Bool) (whole c : List Bool) → length c ≡ n → ((i : ℕ) → i < n → is_on whole (o + i) ≡ is_on c i)
    → decided_at (decision_of n o test) whole ≡ test c
decided_of zero o test whole [] long at = refl
decided_of zero o test whole (b ∷ c) long at = absurd (omega (arith, long))
decided_of (suc n) o test whole [] long at = absurd (omega (arith, long))
decided_of (suc n) o test whole (b ∷ c) long at =
    decided_by o (decision_of n (o + 1) (λ c. test (false ∷ c))) (decision_of n (o + 1) (λ c. test (true ∷ c))) whole
    ∙ ap (λ x. cond x (decided_at (decision_of n (o + 1) (λ c. test (true ∷ c))) whole) (decided_at (decision_of n (o + 1) (λ c. test (false ∷ c))) whole)) first
    ∙ by b (decided_of n (o + 1) (λ c. test (true ∷ c)) whole c (omega (arith, long)) rest) (decided_of n (o + 1) (λ c. test (false ∷ c)) whole c (omega (arith, long)) rest)
  where
    first : is_on whole o ≡ b
    first = let same : o ≡ o + 0 = omega arith in ap (is_on whole) same ∙ at 0 (omega arith)

    rest : (i : ℕ) → i < n → is_on whole ((o + 1) + i) ≡ is_on c i
    rest i few = let same : (o + 1) + i ≡ o + suc i = omega arith in ap (is_on whole) same ∙ at (suc i) (omega (arith, few))

    by : (b : Bool) → decided_at (decision_of n (o + 1) (λ c. test (true ∷ c))) whole ≡ test (true ∷ c) → decided_at (decision_of n (o + 1) (λ c. test (false ∷ c))) whole ≡ test (false ∷ c)
        → cond b (decided_at (decision_of n (o + 1) (λ c. test (true ∷ c))) whole) (decided_at (decision_of n (o + 1) (λ c. test (false ∷ c))) whole) ≡ test (b ∷ c)
    by true x y = x
    by false x y = y

-- a leaf, or a decision that stands among others
abbrev pub IsThere : List Decision → Decision → Type 0
IsThere all (Leaf b) = Unit {0}
IsThere all (Branch o off on) = IsMember same_decision (Branch o off on) all

-- what is known of a decision that stands among others with what lies below it
pub record IsKept (most : ℕ) (all : List Decision) (o : ℕ) (off on : Decision) : Type 0 where
  pub few : o < most
  pub differ : off ≢ on
  pub off_proper : IsProper most off (o + 1)
  pub on_proper : IsProper most on (o + 1)
  pub off_there : IsThere all off
  pub on_there : IsThere all on

abbrev pub IsRooted : ℕ → List Decision → Decision → Type 0
IsRooted most all (Leaf b) = ⊥
IsRooted most all (Branch o off on) = IsKept most all o off on

-- the decisions met after others, and what is known of them in any list that goes on from there
abbrev IsMet : ℕ → List Decision → List Decision → Decision → Type 0
IsMet most met after d = (more : List Decision) × (after ≡ met ++ more) × ((all rest : List Decision) → all ≡ after ++ rest → IsThere all d × AllByRecursion (IsRooted most all) more)

module _ (most o : ℕ) (off on : Decision) (few : o < most) (differ : off ≢ on) (h : IsProper most off (o + 1)) (k : IsProper most on (o + 1)) (met : List Decision)
    (first : IsMet most (met ++ Branch o off on ∷ []) (decisions off (met ++ Branch o off on ∷ [])) off)
    (then : IsMet most (decisions off (met ++ Branch o off on ∷ [])) (decisions on (decisions off (met ++ Branch o off on ∷ []))) on) where
  abbrev this : Decision
  this = Branch o off on

  met_by : (b : Bool) → list_any (same_decision this) met ≡ b → IsMet most met (cond b met (decisions on (decisions off (met ++ this ∷ [])))) this
  met_by true e = ([], sym (append-nil met), λ all rest is. (ap (list_any (same_decision this)) is ∙ member_left same_decision decision_tests this met rest e, tt))
  met_by false e =
      let half : decisions off (met ++ this ∷ []) ≡ met ++ (this ∷ first.0) = first.1 ∙ append_assoc met (this ∷ []) first.0 in
      let whole : decisions on (decisions off (met ++ this ∷ [])) ≡ met ++ (this ∷ (first.0 ++ then.0)) = then.1 ∙ ap (λ l. l ++ then.0) half ∙ append_assoc met (this ∷ first.0) then.0 in (
        this ∷ (first.0 ++ then.0),
        whole,
        λ all rest is.
            let x = first.2 all (then.0 ++ rest) (is ∙ ap (λ l. l ++ rest) then.1 ∙ append_assoc (decisions off (met ++ this ∷ [])) then.0 rest) in
            let y = then.2 all rest is in
            let here : list_any (same_decision this) all ≡ true = ap (list_any (same_decision this)) (is ∙ ap (λ l. l ++ rest) whole ∙ append_assoc met (this ∷ (first.0 ++ then.0)) rest)
            ∙ member_at same_decision decision_tests this met ((first.0 ++ then.0) ++ rest) in
            (here, (record { few = few; differ = differ; off_proper = h; on_proper = k; off_there = x.0; on_there = y.0 }, all-append (IsRooted most all) first.0 then.0 x.1 y.1)),
      )

pub met_after : (most : ℕ) (d : Decision) (least : ℕ) → IsProper most d least → (met : List Decision) → IsMet most met (decisions d met) d
met_after most (Leaf b) least h met = ([], sym (append-nil met), λ all rest is. (tt, tt))
met_after most (Branch o off on) least h met =
    let whole = Branch o off on in
    met_by most o off on h.1 h.2 h.3 h.4 met (met_after most off (o + 1) h.3 (met ++ whole ∷ [])) (met_after most on (o + 1) h.4 (decisions off (met ++ whole ∷ [])))
    (list_any (same_decision whole) met) refl

-- no decision is met twice
pub once_after : (d : Decision) (met : List Decision) → IsOnce met → IsOnce (decisions d met)
once_after (Leaf b) met once = once
once_after (Branch o off on) met once =
    by (list_any (same_decision whole) met) refl
    (λ fresh. once_after on (decisions off (met ++ whole ∷ [])) (once_after off (met ++ whole ∷ []) (once-push same_decision decision_tests met whole once fresh)))
  where
    whole : Decision
    whole = Branch o off on

    by : (b : Bool) → list_any (same_decision whole) met ≡ b → (list_any (same_decision whole) met ≡ false → IsOnce (decisions on (decisions off (met ++ whole ∷ []))))
        → IsOnce (cond b met (decisions on (decisions off (met ++ whole ∷ []))))
    by true e rec = once
    by false e rec = rec e
