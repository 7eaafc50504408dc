-- Whether touches that rise meet.
use Rattle.std.proofs.Common.{◌≡◌, ℕ, ◌<◌, ◌≤◌, Bool, true, false, cond, ◌&&◌, ◌||◌, nat_eq, nat_lt, List, [], ◌∷◌, map, drop, slice_get, Some, refl, sym, ap, subst, ◌∙◌, arith}
use Rattle.std.specs.List.{AllByRecursion}
use Rattle.std.proofs.lemmas.Bool.Decides.{nat_tests}
use Rattle.cov_dd.specs.declared.triple.Triple.{Triple}
use Rattle.cov_dd.specs.Diagrams.{diagram_size, value_in, Extends}
use Rattle.cov_overtaking.specs.Touches.{touch_node, is_touch_on, are_touches_on, RiseByNode, touches_from, is_first_on, AreOfTable, DoNotMeet, FirstMeetsNone}
use Rattle.cov_overtaking.specs.declared.touches.Touch.{Touch}
use Rattle.cov_overtaking.proofs.Walking.{first-parts}

-- tests of Booleans
either-false : (a b d : Bool) → ((a || b) && d) ≡ false → ((a && d) ≡ false) × ((b && d) ≡ false)
either-false true true d h = (h, h)
either-false true false d h = (h, refl)
either-false false b d h = (refl, h)

either-false_back : (a b d : Bool) → (a && d) ≡ false → (b && d) ≡ false → ((a || b) && d) ≡ false
either-false_back true b d h k = h
either-false_back false b d h k = k

module _ (ts : List Triple) (c : List Bool) where
  -- what rises above a number hasn't it
  none-above : (x : ℕ) (ys : List Touch) → AllByRecursion (λ n. x < n) (map touch_node ys) → are_touches_on ts ys x c ≡ false
  none-above x [] h = refl
  none-above x (y ∷ ys) h =
      let above = h.0 in
      let differs : nat_eq y.node x ≡ false = grind (arith, nat_tests, above) in
      ap (λ b. (b && value_in ts y.within c) || are_touches_on ts ys x c) differs ∙ none-above x ys h.1

  further : (x y : ℕ) (ns : List ℕ) → x ≤ y → AllByRecursion (λ n. y < n) ns → AllByRecursion (λ n. x < n) ns
  further x y [] le h = tt
  further x y (n ∷ ns) le h = (let above = h.0 in omega (arith, le, above), further x y ns le h.1)

  -- a node is among those from it on just where it is the first of them
  first-from : (x : ℕ) (ys : List Touch) → RiseByNode ys → are_touches_on ts ys x c ≡ is_first_on ts x c (touches_from x ys)
  first-from x [] h = refl
  first-from x (y ∷ ys) h = at (nat_lt y.node x) refl (first-from x ys h.1)
    where
      at : (b : Bool) → nat_lt y.node x ≡ b → are_touches_on ts ys x c ≡ is_first_on ts x c (touches_from x ys)
          → ((nat_eq y.node x && value_in ts y.within c) || are_touches_on ts ys x c) ≡ is_first_on ts x c (cond b (touches_from x ys) (y ∷ ys))
      at true e rest = let differs : nat_eq y.node x ≡ false = grind (arith, nat_tests, e) in ap (λ b. (b && value_in ts y.within c) || are_touches_on ts ys x c) differs ∙ rest
      at false e rest = by (nat_eq y.node x && value_in ts y.within c) (let low : x ≤ y.node = grind (arith, nat_tests, e) in none-behind low)
        where
          none-behind : x ≤ y.node → are_touches_on ts ys x c ≡ false
          none-behind low = none-above x ys (further x y.node (map touch_node ys) low h.0)

          by : (b : Bool) → are_touches_on ts ys x c ≡ false → (b || are_touches_on ts ys x c) ≡ b
          by true none = refl
          by false none = none

  -- greater nodes are among the same
  later-from : (x z : ℕ) (ys : List Touch) → x < z → are_touches_on ts ys z c ≡ are_touches_on ts (touches_from x ys) z c
  later-from x z [] less = refl
  later-from x z (y ∷ ys) less = at (nat_lt y.node x) refl (later-from x z ys less)
    where
      at : (b : Bool) → nat_lt y.node x ≡ b → are_touches_on ts ys z c ≡ are_touches_on ts (touches_from x ys) z c
          → ((nat_eq y.node z && value_in ts y.within c) || are_touches_on ts ys z c) ≡ are_touches_on ts (cond b (touches_from x ys) (y ∷ ys)) z c
      at true e rest = let differs : nat_eq y.node z ≡ false = grind (arith, nat_tests, e, less) in ap (λ b. (b && value_in ts y.within c) || are_touches_on ts ys z c) differs ∙ rest
      at false e rest = refl

-- touches from a node on rise
pub from-rise : (x : ℕ) (ys : List Touch) → RiseByNode ys → RiseByNode (touches_from x ys)
from-rise x [] h = tt
from-rise x (y ∷ ys) h = at (nat_lt y.node x) (from-rise x ys h.1)
  where
    at : (b : Bool) → RiseByNode (touches_from x ys) → RiseByNode (cond b (touches_from x ys) (y ∷ ys))
    at true rest = rest
    at false rest = h

module _ (ts : List Triple) (t : Touch) (left right : List Touch) (rising : RiseByNode (t ∷ left)) (right_rising : RiseByNode right) where
  abbrev from : List Touch
  from = touches_from t.node right

  own : nat_eq t.node t.node ≡ true
  own = grind (arith, nat_tests)

  -- so all meet none just where the first doesn't and the others don't
  pub meet-first : DoNotMeet ts (t ∷ left) right → FirstMeetsNone ts t from
  meet-first apart c long =
      ap (λ b. value_in ts t.within c && b) (sym (first-from ts c t.node right right_rising))
      ∙ (either-false (value_in ts t.within c) (are_touches_on ts left t.node c) (are_touches_on ts right t.node c)
      (ap (λ b. ((b && value_in ts t.within c) || are_touches_on ts left t.node c) && are_touches_on ts right t.node c) (sym own) ∙ apart t.node c long)).0

  pub meet-rest : DoNotMeet ts (t ∷ left) right → DoNotMeet ts left from
  meet-rest apart node c long =
      at (nat_lt t.node node) refl
      (either-false (is_touch_on ts node c t) (are_touches_on ts left node c) (are_touches_on ts right node c) (apart node c long)).1
    where
      at : (b : Bool) → nat_lt t.node node ≡ b → (are_touches_on ts left node c && are_touches_on ts right node c) ≡ false → (are_touches_on ts left node c && are_touches_on ts from node c) ≡ false
      at true e h = let less : t.node < node = grind (arith, nat_tests, e) in ap (λ b. are_touches_on ts left node c && b) (sym (later-from ts c t.node node right less)) ∙ h
      at false e h =
          let low : node ≤ t.node = grind (arith, nat_tests, e) in
          ap (λ b. b && are_touches_on ts from node c) (none-above ts c node left (further ts c node t.node (map touch_node left) low rising.0))

  pub meet-all : FirstMeetsNone ts t from → DoNotMeet ts left from → DoNotMeet ts (t ∷ left) right
  meet-all first rest node c long =
      either-false_back (is_touch_on ts node c t) (are_touches_on ts left node c) (are_touches_on ts right node c) (here (nat_eq t.node node) refl) (there (nat_lt t.node node) refl)
    where
      here : (b : Bool) → nat_eq t.node node ≡ b → ((b && value_in ts t.within c) && are_touches_on ts right node c) ≡ false
      here false e = refl
      here true e =
          let same : t.node ≡ node = grind (arith, nat_tests, e) in
          ap (λ n. value_in ts t.within c && are_touches_on ts right n c) (sym same)
          ∙ ap (λ b. value_in ts t.within c && b) (first-from ts c t.node right right_rising) ∙ first c long

      there : (b : Bool) → nat_lt t.node node ≡ b → (are_touches_on ts left node c && are_touches_on ts right node c) ≡ false
      there true e = let less : t.node < node = grind (arith, nat_tests, e) in ap (λ b. are_touches_on ts left node c && b) (later-from ts c t.node node right less) ∙ rest node c long
      there false e =
          let low : node ≤ t.node = grind (arith, nat_tests, e) in
          ap (λ b. b && are_touches_on ts right node c) (none-above ts c node left (further ts c node t.node (map touch_node left) low rising.0))

-- in a longer table, touches of a shorter one have the same choices
module _ (ts us : List Triple) (more : Extends ts us) where
  pub have-same : (touches : List Touch) → AreOfTable ts touches → (node : ℕ) (c : List Bool) → are_touches_on us touches node c ≡ are_touches_on ts touches node c
  have-same [] known node c = refl
  have-same (t ∷ touches) known node c = λ i. (nat_eq t.node node && more.value t.within known.0 c i) || have-same touches known.1 node c i

  pub first-same : (touches : List Touch) → AreOfTable ts touches → (node : ℕ) (c : List Bool) → is_first_on us node c touches ≡ is_first_on ts node c touches
  first-same [] known node c = refl
  first-same (t ∷ touches) known node c = λ i. nat_eq t.node node && more.value t.within known.0 c i

  pub of_table-grown : (touches : List Touch) → AreOfTable ts touches → AreOfTable us touches
  of_table-grown [] known = tt
  of_table-grown (t ∷ touches) known = (let own = known.0 in let grown = more.count in omega (arith, own, grown), of_table-grown touches known.1)

  pub first-old : (t : Touch) (others : List Touch) → t.within < diagram_size ts → AreOfTable ts others → FirstMeetsNone us t others → FirstMeetsNone ts t others
  first-old t others own known none c long = (λ i. sym (more.value t.within own c) i && sym (first-same others known t.node c) i) ∙ none c long

  pub first-new : (t : Touch) (others : List Touch) → t.within < diagram_size ts → AreOfTable ts others → FirstMeetsNone ts t others → FirstMeetsNone us t others
  first-new t others own known none c long = (λ i. more.value t.within own c i && first-same others known t.node c i) ∙ none c long

pub from-of_table : (ts : List Triple) (x : ℕ) (ys : List Touch) → AreOfTable ts ys → AreOfTable ts (touches_from x ys)
from-of_table ts x [] h = tt
from-of_table ts x (y ∷ ys) h = at (nat_lt y.node x) (from-of_table ts x ys h.1)
  where
    at : (b : Bool) → AreOfTable ts (touches_from x ys) → AreOfTable ts (cond b (touches_from x ys) (y ∷ ys))
    at true rest = rest
    at false rest = h

-- a step of the search, the first of the touches ahead being t
module _ (ts us : List Triple) (more : Extends ts us) (t : Touch) (ahead right rest now : List Touch) (is : Some t ≡ slice_get ahead 0) (left : rest ≡ drop 1 ahead) (here : now ≡ touches_from t.node right)
    (rises : RiseByNode ahead) (right_rises : RiseByNode right) (known : AreOfTable ts ahead) (right_known : AreOfTable ts right) where
  parts : ahead ≡ t ∷ rest
  parts = first-parts t ahead is ∙ ap (λ l. t ∷ l) (sym left)

  pub rest-rises : RiseByNode rest
  rest-rises = let all : RiseByNode (t ∷ rest) = subst RiseByNode parts rises in all.1

  pub rest-known : AreOfTable ts rest
  rest-known = let all : AreOfTable ts (t ∷ rest) = subst (AreOfTable ts) parts known in all.1

  pub now-rises : RiseByNode now
  now-rises = subst RiseByNode (sym here) (from-rise t.node right right_rises)

  pub now-known : AreOfTable ts now
  now-known = subst (AreOfTable ts) (sym here) (from-of_table ts t.node right right_known)

  pub own-known : t.within < diagram_size ts
  own-known = let all : AreOfTable ts (t ∷ rest) = subst (AreOfTable ts) parts known in all.0

  all-rises : RiseByNode (t ∷ rest)
  all-rises = subst RiseByNode parts rises

  -- where the first meets, all do
  pub first-meets : (FirstMeetsNone us t now → ⊥) → DoNotMeet ts ahead right → ⊥
  first-meets met apart =
      met (first-new ts us more t now own-known now-known
      (subst (FirstMeetsNone ts t) (sym here) (meet-first ts t rest right all-rises right_rises (subst (λ ys. DoNotMeet ts ys right) parts apart))))

  -- else the others decide
  pub others-meet : DoNotMeet ts ahead right → DoNotMeet ts rest now
  others-meet apart = subst (DoNotMeet ts rest) (sym here) (meet-rest ts t rest right all-rises right_rises (subst (λ ys. DoNotMeet ts ys right) parts apart))

  pub none-meet : FirstMeetsNone us t now → DoNotMeet ts rest now → DoNotMeet ts ahead right
  none-meet none apart =
      subst (λ ys. DoNotMeet ts ys right) (sym parts)
      (meet-all ts t rest right all-rises right_rises (subst (FirstMeetsNone ts t) here (first-old ts us more t now own-known now-known none)) (subst (DoNotMeet ts rest) here apart))
