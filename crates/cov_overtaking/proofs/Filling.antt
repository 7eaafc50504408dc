-- Nodes for edits, run by run.
use Rattle.std.proofs.Common.{◌≡◌, ℕ, zero, suc, ◌+◌, ◌-◌, ◌<◌, ◌≤◌, Bool, true, false, cond, ◌&&◌, nat_le, nat_lt, max, List, [], ◌∷◌, ◌++◌, length, length-append, replicate, map, get_or, refl, sym, ap, subst, ◌∙◌, arith}
use Rattle.std.specs.List.{fold, AllByRecursion}
use Rattle.std.proofs.Math.Nat.{max-le, le-max_left, le-max_right}
use Rattle.std.proofs.lemmas.List.{length-replicate}
use Rattle.std.proofs.lemmas.Bool.Decides.{nat_tests}
use Rattle.cov_dd.specs.declared.triple.Triple.{Triple}
use Rattle.cov_dd.specs.Combinations.{first_option, joint_span}
use Rattle.cov_dd.specs.Diagrams.{diagram_size, span, value_in, Extends, Stands}
use Rattle.cov_expr.specs.Formula.{Formula, True, value, reach}
use Rattle.cov_edit.specs.Runs.{side_with, side_at, sided_from, run_first, RunsRise}
use Rattle.cov_edit.specs.declared.edit.Edit.{Edit}
use Rattle.cov_edit.specs.declared.edits.Run.{Run}
use Rattle.cov_edit.specs.Sides.{unsided}
use Rattle.cov_edit.specs.declared.sided.Sided.{Sided}
use Rattle.cov_edit.proofs.CallerLemmas.{rest_of, opened, unsided-length}
use Rattle.cov_overtaking.specs.EditConditions.{AllAt, IsCondition, HaveConditions, first_place}

all-filled : (P : ℕ → ℕ → Type 0) (i m n : ℕ) → ((k : ℕ) → i ≤ k → k < i + m → P k n) → AllAt P i (replicate m n)
all-filled P i zero n h = tt
all-filled P i (suc m) n h = (h i (omega arith) (omega arith), all-filled P (i + 1) m n (λ k low high. h k (omega (arith, low)) (omega (arith, high))))

pub all-behind : (P : ℕ → ℕ → Type 0) (i m n : ℕ) (xs : List ℕ) → AllAt P i xs → ((k : ℕ) → i + length xs ≤ k → k < i + length xs + m → P k n) → AllAt P i (xs ++ replicate m n)
all-behind P i m n [] all h = all-filled P i m n (λ k low high. h k (omega (arith, low)) (omega (arith, high)))
all-behind P i m n (x ∷ xs) all h = (all.0, all-behind P (i + 1) m n xs all.1 (λ k low high. h k (omega (arith, low)) (omega (arith, high))))

pub all-later : (P Q : ℕ → ℕ → Type 0) → ((i x : ℕ) → P i x → Q i x) → (i : ℕ) (xs : List ℕ) → AllAt P i xs → AllAt Q i xs
all-later P Q f i [] all = tt
all-later P Q f i (x ∷ xs) all = (f i x all.0, all-later P Q f (i + 1) xs all.1)

-- a node for each place is one for each edit
pub have-conditions : (old new : List Triple) (within : ℕ) (runs : List Run) (i : ℕ) (nodes : List ℕ) (es : List Edit) → length nodes ≡ length es
    → AllAt (λ k n. IsCondition old new within (side_at runs k) n) i nodes → HaveConditions old new within nodes (sided_from runs i es)
have-conditions old new within runs i [] [] count all = tt
have-conditions old new within runs i [] (e ∷ es) count all = absurd (omega (arith, count))
have-conditions old new within runs i (n ∷ nodes) [] count all = absurd (omega (arith, count))
have-conditions old new within runs i (n ∷ nodes) (e ∷ es) count all = (all.0, have-conditions old new within runs (i + 1) nodes es (omega (arith, count)) all.1)

-- a condition stays one as the table grows
pub condition-grown : (old new newer : List Triple) (within : ℕ) (side : Formula ℕ) (n : ℕ) → Extends new newer → IsCondition old new within side n → IsCondition old newer within side n
condition-grown old new newer within side n grown h = record {
  known = let own = h.known in let more = grown.count in omega (arith, own, more);
  below = let own = h.below in let same = grown.most n h.known in omega (arith, own, same);
  value = λ c. grown.value n h.known c ∙ h.value c;
}

-- a node itself is where it is and the side True
pub condition-everywhere : (ts : List Triple) (within : ℕ) → within < diagram_size ts → IsCondition ts ts within True within
condition-everywhere ts within known = record {
  known = known;
  below = le-max_left (span ts within) 0;
  value = λ c. own (value_in ts within c);
}
  where
    own : (b : Bool) → b ≡ (b && true)
    own true = refl
    own false = refl

-- a place before the first of runs that rise is in none of them
pub unseen : (count i : ℕ) (side : Formula ℕ) (runs : List Run) → RunsRise runs → i < first_place count runs → fold (side_with i) side runs ≡ side
unseen count i side [] rise less = refl
unseen count i side (run ∷ runs) rise less =
    let before : i < run.first = at (nat_lt run.first count) refl less in
    let later : nat_le run.first i ≡ false = grind (arith, nat_tests, before) in
    ap (λ b. fold (side_with i) (cond b run.side side) runs) later ∙ others before runs rise.0 side
  where
    at : (b : Bool) → nat_lt run.first count ≡ b → i < cond b run.first count → i < run.first
    at true e k = k
    at false e k = grind (arith, nat_tests, e, k)

    others : i < run.first → (rs : List Run) → AllByRecursion (λ n. run.first < n) (map run_first rs) → (s : Formula ℕ) → fold (side_with i) s rs ≡ s
    others before [] h s = refl
    others before (r ∷ rs) h s =
        let above = h.0 in
        let later : nat_le r.first i ≡ false = grind (arith, nat_tests, before, above) in
        ap (λ b. fold (side_with i) (cond b r.side s) rs) later ∙ others before rs h.1 s

-- from the first of the runs on, it doesn't matter which side was before
pub side-before_no-matter : (count i : ℕ) (side other : Formula ℕ) (runs : List Run) → first_place count runs ≤ i → i < count → fold (side_with i) side runs ≡ fold (side_with i) other runs
side-before_no-matter count i side other [] low high = absurd (omega (arith, low, high))
side-before_no-matter count i side other (run ∷ runs) low high =
    let there : nat_le run.first i ≡ true = at (nat_lt run.first count) refl low in
    ap (λ b. fold (side_with i) (cond b run.side side) runs) there ∙ sym (ap (λ b. fold (side_with i) (cond b run.side other) runs) there)
  where
    at : (b : Bool) → nat_lt run.first count ≡ b → cond b run.first count ≤ i → nat_le run.first i ≡ true
    at true e k = grind (arith, nat_tests, k)
    at false e k = absurd (omega (arith, k, high))

pub place-most : (count : ℕ) (runs : List Run) → first_place count runs ≤ count
place-most count [] = omega arith
place-most count (run ∷ runs) = at (nat_lt run.first count) refl
  where
    at : (b : Bool) → nat_lt run.first count ≡ b → cond b run.first count ≤ count
    at true e = let less : run.first < count = grind (arith, nat_tests, e) in omega (arith, less)
    at false e = omega arith

pub place-rises : (count : ℕ) (run : Run) (runs : List Run) → RunsRise (run ∷ runs) → first_place count (run ∷ runs) ≤ first_place count runs
place-rises count run [] rise = place-most count (run ∷ [])
place-rises count run (next ∷ runs) rise = at (nat_lt run.first count) (nat_lt next.first count) refl refl
  where
    at : (a b : Bool) → nat_lt run.first count ≡ a → nat_lt next.first count ≡ b → cond a run.first count ≤ cond b next.first count
    at true true e f = let above = rise.0.0 in omega (arith, above)
    at true false e f = let less : run.first < count = grind (arith, nat_tests, e) in omega (arith, less)
    at false true e f = let above = rise.0.0 in let less : next.first < count = grind (arith, nat_tests, f) in let most : count ≤ run.first = grind (arith, nat_tests, e) in omega (arith, above, less, most)
    at false false e f = omega arith

-- what the loop over runs keeps: from the first run ahead on, those ahead have the sides of all
abbrev pub GoOn : List Run → ℕ → List Run → Type 0
GoOn runs count ahead = (i : ℕ) (side : Formula ℕ) → first_place count ahead ≤ i → i < count → side_at runs i ≡ fold (side_with i) side ahead

module _ (old new newer : List Triple) (more : Extends new newer) (within node count : ℕ) (runs : List Run) (run d : Run) (ahead : List Run) (nodes now : List ℕ) (is : run ≡ get_or ahead 0 d) (some : 1 ≤ length ahead)
    (rise : RunsRise ahead) (on : GoOn runs count ahead) (reached : length nodes ≡ first_place count ahead)
    (all : AllAt (λ i n. IsCondition old new within (side_at runs i) n) 0 nodes) (own : IsCondition old newer within run.side node)
    (filled : now ≡ nodes ++ replicate (first_place count (rest_of ahead) - length nodes) node) where
  abbrev rest : List Run
  rest = rest_of ahead

  parts : ahead ≡ run ∷ rest
  parts = opened run d ahead is some

  rising : RunsRise (run ∷ rest)
  rising = subst RunsRise parts rise

  abbrev low : ℕ
  low = first_place count (run ∷ rest)

  at-low : length nodes ≡ low
  at-low = reached ∙ ap (first_place count) parts

  grows : low ≤ first_place count rest
  grows = place-rises count run rest rising

  pub rest-rise : RunsRise rest
  rest-rise = rising.1

  pub rest-reached : length now ≡ first_place count rest
  rest-reached =
      let long = ap length filled ∙ length-append nodes (replicate (first_place count rest - length nodes) node) in
      let added = length-replicate (first_place count rest - length nodes) node in
      let at = at-low in
      let more_there = grows in
      omega (arith, long, added, at, more_there)

  run-there : (i : ℕ) → low ≤ i → i < count → nat_le run.first i ≡ true
  run-there i le high = at (nat_lt run.first count) refl le
    where
      at : (b : Bool) → nat_lt run.first count ≡ b → cond b run.first count ≤ i → nat_le run.first i ≡ true
      at true e k = grind (arith, nat_tests, k)
      at false e k = absurd (omega (arith, k, high))

  side-of_run : (i : ℕ) → low ≤ i → i < count → side_at runs i ≡ fold (side_with i) run.side rest
  side-of_run i le high =
      on i True (subst (λ rs. first_place count rs ≤ i) (sym parts) le) high ∙ ap (fold (side_with i) True) parts
      ∙ ap (λ b. fold (side_with i) (cond b run.side True) rest) (run-there i le high)

  pub rest-on : GoOn runs count rest
  rest-on = λ i side le high. side-of_run i (let up = grows in omega (arith, up, le)) high ∙ side-before_no-matter count i run.side side rest le high

  pub rest-all : AllAt (λ i n. IsCondition old newer within (side_at runs i) n) 0 now
  rest-all =
      subst (AllAt (λ i n. IsCondition old newer within (side_at runs i) n) 0) (sym filled)
      (all-behind (λ i n. IsCondition old newer within (side_at runs i) n) 0 (first_place count rest - length nodes) node nodes
      (all-later (λ i n. IsCondition old new within (side_at runs i) n) (λ i n. IsCondition old newer within (side_at runs i) n)
      (λ i n h. condition-grown old new newer within (side_at runs i) n more h) 0 nodes all)
      (λ k le less.
      let at = at-low in
      let up = grows in
      let most = place-most count rest in
      let from : low ≤ k = omega (arith, le, at) in
      let before : k < first_place count rest = omega (arith, less, at, up, le) in
      let high : k < count = omega (arith, before, most) in
      subst (λ side. IsCondition old newer within side node) (sym (side-of_run k from high ∙ unseen count k run.side rest rest-rise before)) own))

-- the edits before the first run have the side True
pub first-all : (ts : List Triple) (within count : ℕ) (runs : List Run) (now : List ℕ) → within < diagram_size ts → RunsRise runs → now ≡ replicate (first_place count runs) within
    → AllAt (λ i n. IsCondition ts ts within (side_at runs i) n) 0 now
first-all ts within count runs now known rise filled =
    subst (AllAt (λ i n. IsCondition ts ts within (side_at runs i) n) 0) (sym filled)
    (all-filled (λ i n. IsCondition ts ts within (side_at runs i) n) 0 (first_place count runs) within
    (λ k le less. subst (λ side. IsCondition ts ts within side within) (sym (unseen count k True runs rise (omega (arith, less)))) (condition-everywhere ts within known)))

-- a condition of a longer table is one since the shorter
pub condition-since : (old new newer : List Triple) (within : ℕ) (side : Formula ℕ) (n : ℕ) → Extends old new → within < diagram_size old → IsCondition new newer within side n → IsCondition old newer within side n
condition-since old new newer within side n grown known h = record {
  known = h.known;
  below = subst (λ k. span newer n ≤ max k (reach side)) (grown.most within known) h.below;
  value = λ c. h.value c ∙ ap (λ b. b && value side c) (grown.value within known c);
}

-- the conjunction of a node and a side's
pub conjoined : (old mid new : List Triple) (within node n : ℕ) (side : Formula ℕ) → within < diagram_size old → Extends old mid → Stands mid node 0 (reach side) (value side)
    → Stands new n (first_option mid within node) (joint_span mid within node) (λ c. value_in mid within c && value_in mid node c) → IsCondition old new within side n
conjoined old mid new within node n side known grown stands both = record {
  known = both.within;
  below =
      let all : span new n ≤ max (span mid within) (span mid node) = both.below in
      let own = stands.below in
      let same = grown.most within known in
      let left = le-max_left (span old within) (reach side) in
      let right = le-max_right (span old within) (reach side) in
      let most : max (span mid within) (span mid node) ≤ max (span old within) (reach side) = max-le (omega (arith, same, left)) (omega (arith, own, right)) in
      omega (arith, all, most);
  value = λ c. both.value c ∙ (λ i. grown.value within known c i && stands.value c i);
}

pub replicate-to : (xs now : List ℕ) (node place k : ℕ) → place ≡ k → now ≡ xs ++ replicate (place - length xs) node → now ≡ xs ++ replicate (k - length xs) node
replicate-to xs now node place k same filled = filled ∙ ap (λ p. xs ++ replicate (p - length xs) node) same

pub first-filled : (xs now : List ℕ) (node place k : ℕ) → xs ≡ [] → place ≡ k → now ≡ xs ++ replicate (place - length xs) node → now ≡ replicate k node
first-filled xs now node place k none same filled =
    filled ∙ ap (λ ys. ys ++ replicate (place - length ys) node) none ∙ ap (λ p. replicate p node) (let all : place - 0 ≡ k = omega (arith, same) in all)

pub unsided-count : (ss : List Sided) → length (unsided ss) ≡ length ss
unsided-count ss = unsided-length ss
