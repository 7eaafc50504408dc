-- Nodes with their diagrams, walked through from the first on.
use Rattle.std.proofs.Common.{◌≡◌, ℕ, ◌<◌, Bool, true, false, cond, nat_lt, ◌==◌, List, [], ◌∷◌, length, map, drop, replicate, slice_get, Some, None, refl, sym, ap, subst, ◌∙◌, arith}
use Rattle.std.specs.List.{AllByRecursion}
use Rattle.std.specs.Ordering.{is_ge, nat_cmp}
use Rattle.std.specs.declared.cmp.Ordering.TheVariants.{Less, Equal, Greater}
use Rattle.cov_base.proofs.CallerLemmas.{drop-at, drop-end}
use Rattle.cov_dd.specs.declared.triple.Triple.{Triple}
use Rattle.cov_dd.specs.Diagrams.{diagram_size}
use Rattle.cov_edit.specs.Touched.{AreRising}
use Rattle.cov_overtaking.specs.Marks.{nodes_within}
use Rattle.cov_overtaking.specs.Touches.{touch, touch_node, touches_by, touches_within, touches_from, RiseByNode, AreOfTable}
use Rattle.cov_overtaking.specs.declared.touches.Touch.{Touch}

-- the nodes of touches are the nodes
pub nodes-are : (xs : List ℕ) (n : ℕ) (each : List ℕ) → map touch_node (touches_within xs n each) ≡ xs
nodes-are [] n each = refl
nodes-are (x ∷ xs) n [] = ap (λ l. x ∷ l) (nodes-are xs n [])
nodes-are (x ∷ xs) n (m ∷ each) = ap (λ l. x ∷ l) (nodes-are xs n each)

pub within-rises : (xs : List ℕ) (n : ℕ) (each : List ℕ) → AreRising xs → RiseByNode (touches_within xs n each)
within-rises xs n each h = subst AreRising (sym (nodes-are xs n each)) h

pub within-known : (ts : List Triple) (xs : List ℕ) (n : ℕ) (each : List ℕ) → n < diagram_size ts → AllByRecursion (λ k. k < diagram_size ts) each → AreOfTable ts (touches_within xs n each)
within-known ts [] n each own all = tt
within-known ts (x ∷ xs) n [] own all = (own, within-known ts xs n [] own all)
within-known ts (x ∷ xs) n (m ∷ each) own all = (all.0, within-known ts xs n each own all.1)

-- where there is a diagram for each node, each has that at its place
pub within-by : (xs : List ℕ) (n : ℕ) (each : List ℕ) → length (nodes_within (length xs) n each) ≡ length xs → touches_within xs n each ≡ touches_by xs (nodes_within (length xs) n each)
within-by xs n [] long = everywhere xs
  where
    everywhere : (ys : List ℕ) → touches_within ys n [] ≡ touches_by ys (replicate (length ys) n)
    everywhere [] = refl
    everywhere (y ∷ ys) = ap (λ l. touch y n ∷ l) (everywhere ys)
within-by xs n (m ∷ each) long = own xs (m ∷ each) long
  where
    own : (ys ns : List ℕ) → length ns ≡ length ys → touches_within ys n ns ≡ touches_by ys ns
    own [] ns e = refl
    own (y ∷ ys) [] e = absurd (omega (arith, e))
    own (y ∷ ys) (k ∷ ns) e = ap (λ l. touch y k ∷ l) (own ys ns (omega (arith, e)))

-- as many diagrams as nodes are those of the nodes
pub within-own : (count n : ℕ) (each : List ℕ) → length each ≡ count → nodes_within count n each ≡ each
within-own count n [] long = ap (λ k. replicate k n) (sym long)
within-own count n (m ∷ each) long = refl

-- the first touch and those behind it
pub first-parts : (t : Touch) (ys : List Touch) → Some t ≡ slice_get ys 0 → ys ≡ t ∷ drop 1 ys
first-parts t ys is = drop-at ys 0 1 t (sym is) refl

pub none-there : (ys : List Touch) → None ≡ slice_get ys 0 → ys ≡ []
none-there ys none = drop-end ys 0 (sym none)

-- a number that isn't less than another
not-less : (a b : ℕ) → is_ge (nat_cmp a b) ≡ true → nat_lt a b ≡ false
not-less a b h = at (nat_lt a b) h
  where
    at : (c : Bool) → is_ge (cond c Less (cond (a == b) Equal Greater)) ≡ true → c ≡ false
    at true k = absurd (cc)
    at false k = refl

-- touches from a node on are all where the first isn't one of a lower node
pub from-first : (x : ℕ) (t : Touch) (ys : List Touch) → Some t ≡ slice_get ys 0 → is_ge (nat_cmp t.node x) ≡ true → ys ≡ touches_from x ys
from-first x t ys is ge =
    first-parts t ys is ∙ sym (ap (touches_from x) (first-parts t ys is) ∙ ap (λ b. cond b (touches_from x (drop 1 ys)) (t ∷ drop 1 ys)) (not-less t.node x ge))

pub from-none : (x : ℕ) (ys : List Touch) → None ≡ slice_get ys 0 → ys ≡ touches_from x ys
from-none x ys none = none-there ys none ∙ sym (ap (touches_from x) (none-there ys none))

-- where all are touched alike, they are their nodes with the one diagram
pub everywhere-is : (xs : List ℕ) (n : ℕ) (each : List ℕ) (ys : List Touch) → length each < 1 → touches_within xs n each ≡ ys → ys ≡ touches_within (map touch_node ys) n []
everywhere-is xs n [] ys none is = sym is ∙ ap (λ l. touches_within l n []) (sym (nodes-are xs n []) ∙ ap (map touch_node) is)
everywhere-is xs n (m ∷ each) ys none is = absurd (omega (arith, none))
