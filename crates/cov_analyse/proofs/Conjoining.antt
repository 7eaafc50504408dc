-- Nodes of parts of the constraints.
use Rattle.std.proofs.Common.{◌≡◌, ℕ, zero, suc, ◌+◌, ◌-◌, ◌<◌, ◌≤◌, max, Bool, true, ◌&&◌, List, [], ◌∷◌, ◌++◌, length, take, get_or, Some, refl, sym, ap, subst, ◌∙◌, arith}
use Rattle.std.specs.Prelude.{slice_get, find}
use Rattle.std.specs.List.{list_all}
use Rattle.std.proofs.lemmas.List.Folds.{list_all_more}
use Rattle.std.proofs.lemmas.Option.{get_or_from_slice_get}
use Rattle.cov_dd.specs.declared.triple.Triple.{Triple}
use Rattle.cov_dd.specs.Diagrams.{span, value_in, Extends, Stands}
use Rattle.cov_dd.proofs.CallerLemmas.{constant_stands, stands_later, stands_weaker}
use Rattle.cov_expr.specs.Formula.{Formula, True, value, reach}
use Rattle.cov_rules.specs.Installing.{reach_of}
use Rattle.cov_analyse.specs.Analysing.{IsMeeting, AreMeeting, meets_at}

pub find_same : {X : Type 0} (p q : X → Bool) (xs : List X) → ((x : X) → p x ≡ q x) → find p xs ≡ find q xs
find_same p q xs h = λ j. find (λ x. h x j) xs

pub reach_in : (es : List (Formula ℕ)) (i : ℕ) (e : Formula ℕ) → slice_get es i ≡ Some e → reach e ≤ reach_of es
reach_in [] i e at = absurd (cc)
reach_in (f ∷ es) zero e at = let same : f ≡ e = cc in subst (λ x. reach x ≤ reach_of (f ∷ es)) same (omega arith)
reach_in (f ∷ es) (suc i) e at = omega (arith, reach_in es i e at)

-- nodes keep their parts as the table grows
pub parts_later : (ts us : List Triple) (nodes : List ℕ) (es : List (Formula ℕ)) (order : List ℕ) → Extends ts us → AreMeeting ts nodes es order → AreMeeting us nodes es order
parts_later ts us nodes es order x each i node at = stands_later x (each i node at)

-- the node of the first constraints with the next
pub meets_more : (ts us : List Triple) (es : List (Formula ℕ)) (order : List ℕ) (i rule : ℕ) (e : Formula ℕ) (node r : ℕ) → i < length order → get_or order i 0 ≡ rule → slice_get es (rule - 1) ≡ Some e
    → IsMeeting ts node es (take i order) → Stands us r 0 (max (span ts node) (reach e)) (λ c. value_in ts node c && value e c) → IsMeeting us r es (take (i + 1) order)
meets_more ts us es order i rule e node r inside is at m s = record {
  within = s.within;
  above = omega arith;
  below = omega (arith, s.below, m.below, reach_in es (rule - 1) e at);
  value = λ c. s.value c
      ∙ (λ j. m.value c j && value (sym (get_or_from_slice_get es (rule - 1) e True at) j) c)
      ∙ (λ j. list_all (meets_at es c) (take i order) && meets_at es c (sym is j))
      ∙ sym (list_all_more (meets_at es c) order i 0 inside);
}

-- what each number at its place has, with one more
more : (nodes : List ℕ) (node : ℕ) (P : ℕ → ℕ → Type 0) → ((i n : ℕ) → slice_get nodes i ≡ Some n → P i n) → P (length nodes) node → (i n : ℕ) → slice_get (nodes ++ node ∷ []) i ≡ Some n → P i n
more [] node P each one zero m at = let same : node ≡ m = cc in subst (P 0) same one
more [] node P each one (suc i) m at = absurd (cc)
more (k ∷ ks) node P each one zero m at = each 0 m at
more (k ∷ ks) node P each one (suc i) m at = more ks node (λ i. P (suc i)) (λ i m at. each (suc i) m at) one i m at

-- the nodes with one more
pub parts_more : (ts : List Triple) (nodes : List ℕ) (node : ℕ) (es : List (Formula ℕ)) (order : List ℕ) → AreMeeting ts nodes es order → IsMeeting ts node es (take (length nodes) order) → AreMeeting ts (nodes ++ node ∷ []) es order
parts_more ts nodes node es order each one = more nodes node (λ i node. IsMeeting ts node es (take i order)) each one

-- TRUE stands for no constraint
pub none_meets : (ts : List Triple) (es : List (Formula ℕ)) → IsMeeting ts 1 es []
none_meets ts es = stands_weaker 0 (reach_of es) (λ c. true) (omega arith) (omega arith) (λ c. refl) (constant_stands ts 1 true (omega arith) refl)

pub length_more : {X : Type 0} (xs : List X) (x : X) → length (xs ++ x ∷ []) ≡ suc (length xs)
length_more [] x = refl
length_more (y ∷ xs) x = ap suc (length_more xs x)
