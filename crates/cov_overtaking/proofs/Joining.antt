-- Diagrams of nodes as one of them is joined with another.
use Rattle.std.proofs.Common.{◌≡◌, ℕ, zero, suc, ◌<◌, Bool, true, false, ◌&&◌, ◌||◌, nat_eq, List, [], ◌∷◌, length, replicate, set, get_or, Some, refl, sym, ap, ◌∙◌, arith}
use Rattle.std.specs.List.{AllByRecursion}
use Rattle.std.proofs.lemmas.Bool.{and_right}
use Rattle.std.proofs.lemmas.Bool.Decides.{nat_tests}
use Rattle.cov_base.proofs.CallerLemmas.{all-map}
use Rattle.cov_dd.specs.declared.triple.Triple.{Triple}
use Rattle.cov_dd.specs.Diagrams.{diagram_size, value_in, Extends}
use Rattle.cov_dd.proofs.CallerLemmas.{some_nodes, value-constant}
use Rattle.cov_edit.specs.declared.edit.Edit.{Edit}
use Rattle.cov_edit.specs.Touched.{has_number, touched_by, is_number, touches}
use Rattle.cov_overtaking.specs.Touches.{have_node_on, IsPlaceIn, IsJoinedAt}

pub all-set : {X : Type 0} (P : X → Type 0) (xs : List X) (i : ℕ) (y : X) → AllByRecursion P xs → P y → AllByRecursion P (set xs i y)
all-set P [] i y all own = tt
all-set P (x ∷ xs) zero y all own = (own, all.1)
all-set P (x ∷ xs) (suc i) y all own = (all.0, all-set P xs i y all.1 own)

pub all-at : {X : Type 0} (P : X → Type 0) (xs : List X) (i : ℕ) (d : X) → AllByRecursion P xs → i < length xs → P (get_or xs i d)
all-at P [] i d all within = absurd (omega (arith, within))
all-at P (x ∷ xs) zero d all within = all.0
all-at P (x ∷ xs) (suc i) d all within = all-at P xs i d all.1 (omega (arith, within))

-- diagrams of a longer table have the same choices
pub have-later : (ts us : List Triple) → Extends ts us → (xs ns : List ℕ) → AllByRecursion (λ n. n < diagram_size ts) ns → (x : ℕ) (c : List Bool) → have_node_on us xs ns x c ≡ have_node_on ts xs ns x c
have-later ts us more [] ns known x c = refl
have-later ts us more (y ∷ xs) [] known x c = refl
have-later ts us more (y ∷ xs) (n ∷ ns) known x c = λ i. (nat_eq y x && more.value n known.0 c i) || have-later ts us more xs ns known.1 x c i

pub known-later : (ts us : List Triple) → Extends ts us → (ns : List ℕ) → AllByRecursion (λ n. n < diagram_size ts) ns → AllByRecursion (λ n. n < diagram_size us) ns
known-later ts us more ns known = all-map (λ n. n < diagram_size ts) (λ n. n < diagram_size us) (λ n low. let grown = more.count in omega (arith, low, grown)) ns known

-- nodes that are nowhere touched
pub have-none : (ts : List Triple) (xs : List ℕ) (x : ℕ) (c : List Bool) → have_node_on ts xs (replicate (length xs) 0) x c ≡ false
have-none ts [] x c = refl
have-none ts (y ∷ xs) x c = (λ i. (nat_eq y x && value-constant ts 0 c (omega arith) i) || have-none ts xs x c i) ∙ never (nat_eq y x)
  where
    never : (a : Bool) → ((a && false) || false) ≡ false
    never true = refl
    never false = refl

pub known-none : (ts : List Triple) (count : ℕ) → AllByRecursion (λ n. n < diagram_size ts) (replicate count 0)
known-none ts zero = tt
known-none ts (suc count) = (let some = some_nodes ts in omega (arith, some), known-none ts count)

module _ (ts us : List Triple) (more : Extends ts us) (other : ℕ) (x z : ℕ) (c : List Bool) where
  abbrev own : Bool
  own = nat_eq x z && value_in ts other c

  spread : (n p q r : Bool) → ((n && (p || q)) || r) ≡ (((n && p) || r) || (n && q))
  spread true true q r = refl
  spread true false true true = refl
  spread true false true false = refl
  spread true false false true = refl
  spread true false false false = refl
  spread false p q true = refl
  spread false p q false = refl

  behind : (p q r : Bool) → (p || (q || r)) ≡ ((p || q) || r)
  behind true q r = refl
  behind false q r = refl

  -- a node is there where it was, and where the other diagram is true at its place
  have-joined : (xs ns : List ℕ) (at node : ℕ) → AllByRecursion (λ n. n < diagram_size ts) ns → length ns ≡ length xs → at < length xs → get_or xs at 0 ≡ x
      → value_in us node c ≡ (value_in ts (get_or ns at 0) c || value_in ts other c)
      → have_node_on us xs (set ns at node) z c ≡ (have_node_on ts xs ns z c || own)
  have-joined [] ns at node known long within is value = absurd (omega (arith, within))
  have-joined (y ∷ xs) [] at node known long within is value = absurd (omega (arith, long))
  have-joined (y ∷ xs) (n ∷ ns) zero node known long within is value =
      (λ i. (nat_eq y z && value i) || have-later ts us more xs ns known.1 z c i)
      ∙ spread (nat_eq y z) (value_in ts n c) (value_in ts other c) (have_node_on ts xs ns z c)
      ∙ ap (λ k. ((nat_eq y z && value_in ts n c) || have_node_on ts xs ns z c) || (nat_eq k z && value_in ts other c)) is
  have-joined (y ∷ xs) (n ∷ ns) (suc at) node known long within is value =
      (λ i. (nat_eq y z && more.value n known.0 c i) || have-joined xs ns at node known.1 (omega (arith, long)) (omega (arith, within)) is value i)
      ∙ behind (nat_eq y z && value_in ts n c) (have_node_on ts xs ns z c) own

-- a number at a place is among the numbers
has-at : (xs : List ℕ) (at x : ℕ) → at < length xs → get_or xs at 0 ≡ x → has_number x xs ≡ true
has-at [] at x within is = absurd (omega (arith, within))
has-at (y ∷ xs) zero x within is = let own : nat_eq y x ≡ true = grind (arith, nat_tests, is) in ap (λ b. b || has_number x xs) own
has-at (y ∷ xs) (suc at) x within is = (λ i. nat_eq y x || has-at xs at x (omega (arith, within)) is i) ∙ either (nat_eq y x)
  where
    either : (a : Bool) → (a || true) ≡ true
    either true = refl
    either false = refl

-- so where an edit applies that touches a node
module _ (ts us : List Triple) (more : Extends ts us) (condition : ℕ) (e : Edit) (nodes each now : List ℕ) (known : AllByRecursion (λ n. n < diagram_size ts) each) (long : length each ≡ length nodes) where
  abbrev AreWith : List ℕ → Type 0
  AreWith ns = (z : ℕ) (c : List Bool) → have_node_on us nodes ns z c ≡ (have_node_on ts nodes each z c || (has_number z nodes && (touches z e && value_in ts condition c)))

  module _ (x : ℕ) (is : touched_by e ≡ Some x) where
    touches-is : (z : ℕ) → touches z e ≡ nat_eq x z
    touches-is z = ap (is_number z) is

    -- where the node is at a place
    pub joined-are : (at : ℕ) → IsPlaceIn nodes x (Some at) → IsJoinedAt ts us condition at each now → AreWith now
    joined-are at place joined z c =
        ap (λ ns. have_node_on us nodes ns z c) joined.is
        ∙ have-joined ts us more condition x z c nodes each at joined.node known long place.0 place.1 (joined.value c)
        ∙ ap (λ b. have_node_on ts nodes each z c || b) (within (nat_eq x z) refl ∙ ap (λ b. has_number z nodes && (b && value_in ts condition c)) (sym (touches-is z)))
      where
        within : (b : Bool) → nat_eq x z ≡ b → (nat_eq x z && value_in ts condition c) ≡ (has_number z nodes && (nat_eq x z && value_in ts condition c))
        within true h =
            let same : x ≡ z = grind (arith, nat_tests, h) in
            ap (λ b. b && (nat_eq x z && value_in ts condition c)) (sym (has-at nodes at z place.0 (place.1 ∙ same)))
        within false h = ap (λ b. b && value_in ts condition c) h ∙ sym (ap (λ b. has_number z nodes && (b && value_in ts condition c)) h ∙ and_right (has_number z nodes) false refl)
