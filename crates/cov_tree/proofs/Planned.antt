-- The nodes with those of a plan, one after another.
use Rattle.std.proofs.Common.{◌≡◌, ℕ, zero, suc, ◌<◌, Bool, true, false, cond, ◌||◌, nat_eq, List, [], ◌∷◌, ◌++◌, set, get_or, length, Option, Some, None, position, refl, sym, ap, subst, ◌∙◌, arith}
use Rattle.std.specs.Prelude.{Result, Ok, Err, IfOk, OnErr}
use Rattle.std.specs.List.{find}
use Rattle.std.proofs.lemmas.Bool.{or_parts, or_from, eqb-true}
use Rattle.std.proofs.lemmas.List.Quantifiers.{position-Some}
use Rattle.cov_base.specs.Rows.{has_node, AreDistinct}
use Rattle.cov_base.specs.declared.number.Kind.TheVariants as kinds
use Rattle.cov_base.proofs.CallerLemmas.{any-map, nat_eq-sym, none-placed}
use Rattle.cov_tree.specs.declared.entry.Place.{Place}
use Rattle.cov_tree.specs.declared.entry.Entry.{Entry}
use Rattle.cov_tree.specs.Entries.{nodes_of}
use Rattle.cov_tree.specs.Dated.{with_places_of, with_entry, planned}
use Rattle.cov_tree.specs.Planning.{with_places, IsPlannedAt}
use Rattle.cov_tree.proofs.Plans.{distinct_more}

-- a node that isn't there stands behind the others
pub with_new : (f : Entry) (es : List Entry) → has_node f.node (nodes_of es) ≡ false → with_entry f es ≡ es ++ f ∷ []
with_new f [] h = refl
with_new f (e ∷ es) h =
    ap (λ b. cond b (with_places_of f e ∷ es) (e ∷ with_entry f es)) (or_parts (nat_eq e.node f.node) (has_node f.node (nodes_of es)) h).0
    ∙ ap (λ xs. e ∷ xs) (with_new f es (or_parts (nat_eq e.node f.node) (has_node f.node (nodes_of es)) h).1)

-- and no number changes where it is there
pub nodes_kept : (f : Entry) (es : List Entry) → has_node f.node (nodes_of es) ≡ true → nodes_of (with_entry f es) ≡ nodes_of es
nodes_kept f [] h = absurd (cc)
nodes_kept f (e ∷ es) h = by (nat_eq e.node f.node) (nodes_kept f es) h
  where
    by : (b : Bool) → (has_node f.node (nodes_of es) ≡ true → nodes_of (with_entry f es) ≡ nodes_of es) → (b || has_node f.node (nodes_of es)) ≡ true
        → nodes_of (cond b (with_places_of f e ∷ es) (e ∷ with_entry f es)) ≡ e.node ∷ nodes_of es
    by true rest k = refl
    by false rest k = ap (λ ns. e.node ∷ ns) (rest k)

-- what is among the nodes with another
pub with_absent : (f : Entry) (n : ℕ) (es : List Entry) → nat_eq f.node n ≡ false → has_node n (nodes_of es) ≡ false → has_node n (nodes_of (with_entry f es)) ≡ false
with_absent f n [] g h = ap (λ b. b || false) g
with_absent f n (e ∷ es) g h = by (nat_eq e.node f.node) (with_absent f n es g parts.1)
  where
    parts : (nat_eq e.node n ≡ false) × (has_node n (nodes_of es) ≡ false)
    parts = or_parts (nat_eq e.node n) (has_node n (nodes_of es)) h

    by : (b : Bool) → has_node n (nodes_of (with_entry f es)) ≡ false → has_node n (nodes_of (cond b (with_places_of f e ∷ es) (e ∷ with_entry f es))) ≡ false
    by true rest = h
    by false rest = or_from (nat_eq e.node n) (has_node n (nodes_of (with_entry f es))) parts.0 rest

pub absent_with : (f : Entry) (n : ℕ) (es : List Entry) → has_node n (nodes_of (with_entry f es)) ≡ false → (nat_eq f.node n ≡ false) × (has_node n (nodes_of es) ≡ false)
absent_with f n [] h = ((or_parts (nat_eq f.node n) false h).0, refl)
absent_with f n (e ∷ es) h = by (nat_eq e.node f.node) refl (absent_with f n es) h
  where
    by : (b : Bool) → nat_eq e.node f.node ≡ b → (has_node n (nodes_of (with_entry f es)) ≡ false → (nat_eq f.node n ≡ false) × (has_node n (nodes_of es) ≡ false))
        → has_node n (nodes_of (cond b (with_places_of f e ∷ es) (e ∷ with_entry f es))) ≡ false → (nat_eq f.node n ≡ false) × (has_node n (nodes_of (e ∷ es)) ≡ false)
    by true same rest k =
        let is : e.node ≡ f.node = eqb-true e.node f.node same in
        (ap (λ x. nat_eq x n) (sym is) ∙ (or_parts (nat_eq e.node n) (has_node n (nodes_of es)) k).0, k)
    by false other rest k =
        let parts = or_parts (nat_eq e.node n) (has_node n (nodes_of (with_entry f es))) k in
        let both = rest parts.1 in
        (both.0, or_from (nat_eq e.node n) (has_node n (nodes_of es)) parts.0 both.1)

pub planned_absent : (plan : List Entry) (n : ℕ) (es : List Entry) → has_node n (nodes_of plan) ≡ false → has_node n (nodes_of es) ≡ false → has_node n (nodes_of (planned plan es)) ≡ false
planned_absent [] n es g h = h
planned_absent (f ∷ plan) n es g h =
    let parts = or_parts (nat_eq f.node n) (has_node n (nodes_of plan)) g in planned_absent plan n (with_entry f es) parts.1 (with_absent f n es parts.0 h)

pub absent_planned : (plan : List Entry) (n : ℕ) (es : List Entry) → has_node n (nodes_of (planned plan es)) ≡ false → (has_node n (nodes_of plan) ≡ false) × (has_node n (nodes_of es) ≡ false)
absent_planned [] n es h = (refl, h)
absent_planned (f ∷ plan) n es h =
    let rest = absent_planned plan n (with_entry f es) h in
    let own = absent_with f n es rest.1 in (or_from (nat_eq f.node n) (has_node n (nodes_of plan)) own.0 rest.0, own.1)

-- no node stands twice
pub distinct_behind : (es fs : List Entry) (f : Entry) → AreDistinct (0 ∷ nodes_of es) → has_node f.node (0 ∷ nodes_of es) ≡ false → fs ≡ es ++ f ∷ [] → AreDistinct (0 ∷ nodes_of fs)
distinct_behind es fs f h fresh is = subst (λ ns. AreDistinct (0 ∷ ns)) (sym (ap nodes_of is ∙ behind es)) (distinct_more (0 ∷ nodes_of es) f.node h fresh)
  where
    behind : (xs : List Entry) → nodes_of (xs ++ f ∷ []) ≡ nodes_of xs ++ f.node ∷ []
    behind [] = refl
    behind (x ∷ xs) = ap (λ ns. x.node ∷ ns) (behind xs)

with_distinct : (f : Entry) (es : List Entry) → nat_eq f.node 0 ≡ false → AreDistinct (0 ∷ nodes_of es) → AreDistinct (0 ∷ nodes_of (with_entry f es))
with_distinct f es inner h = by (has_node f.node (nodes_of es)) refl
  where
    by : (b : Bool) → has_node f.node (nodes_of es) ≡ b → AreDistinct (0 ∷ nodes_of (with_entry f es))
    by true is = subst (λ ns. AreDistinct (0 ∷ ns)) (sym (nodes_kept f es is)) h
    by false is =
        distinct_behind es (with_entry f es) f h (or_from (nat_eq 0 f.node) (has_node f.node (nodes_of es)) (nat_eq-sym 0 f.node ∙ inner) is) (with_new f es is)

pub planned_distinct : (plan es : List Entry) → AreDistinct (0 ∷ nodes_of plan) → AreDistinct (0 ∷ nodes_of es) → AreDistinct (0 ∷ nodes_of (planned plan es))
planned_distinct [] es g h = h
planned_distinct (f ∷ plan) es g h =
    let inner = or_parts (nat_eq f.node 0) (has_node 0 (nodes_of plan)) g.0 in
    planned_distinct plan (with_entry f es) (inner.1, g.1.1) (with_distinct f es inner.0 h)

-- one more of a plan
pub planned_more : (plan : List Entry) (f : Entry) (es : List Entry) → planned (plan ++ f ∷ []) es ≡ with_entry f (planned plan es)
planned_more [] f es = refl
planned_more (g ∷ plan) f es = planned_more plan f (with_entry g es)

-- a node that has no place isn't there
pub none_found : (n : ℕ) (es : List Entry) → position (λ e. nat_eq e.node n) es ≡ None → has_node n (nodes_of es) ≡ false
none_found n es is = any-map (λ m. nat_eq m n) (λ (e : Entry). e.node) es ∙ none-placed (λ (e : Entry). nat_eq e.node n) es is

-- a node that a plan makes stands behind the others
pub made_behind : (plan after : List Entry) (f : Entry) (es : List Entry) → after ≡ plan ++ f ∷ [] → has_node f.node (nodes_of (planned plan es)) ≡ false → planned after es ≡ planned plan es ++ f ∷ []
made_behind plan after f es is fresh = ap (λ xs. planned xs es) is ∙ planned_more plan f es ∙ with_new f (planned plan es) fresh

-- a node that a plan doesn't have is as before
find_with : (f : Entry) (n : ℕ) (es : List Entry) → nat_eq f.node n ≡ false → find (λ e. nat_eq e.node n) (with_entry f es) ≡ find (λ e. nat_eq e.node n) es
find_with f n [] h = ap (λ b. cond b (Some f) None) h
find_with f n (e ∷ es) h = by (nat_eq e.node f.node) refl (find_with f n es h)
  where
    by : (b : Bool) → nat_eq e.node f.node ≡ b → find (λ x. nat_eq x.node n) (with_entry f es) ≡ find (λ x. nat_eq x.node n) es
        → find (λ x. nat_eq x.node n) (cond b (with_places_of f e ∷ es) (e ∷ with_entry f es)) ≡ find (λ x. nat_eq x.node n) (e ∷ es)
    by true same rest =
        let is : e.node ≡ f.node = eqb-true e.node f.node same in
        let other : nat_eq e.node n ≡ false = ap (λ x. nat_eq x n) is ∙ h in
        ap (λ b. cond b (Some (with_places_of f e)) (find (λ x. nat_eq x.node n) es)) other ∙ sym (ap (λ b. cond b (Some e) (find (λ x. nat_eq x.node n) es)) other)
    by false other rest = ap (λ o. cond (nat_eq e.node n) (Some e) o) rest

find_planned : (plan : List Entry) (n : ℕ) (es : List Entry) → has_node n (nodes_of plan) ≡ false → find (λ e. nat_eq e.node n) (planned plan es) ≡ find (λ e. nat_eq e.node n) es
find_planned [] n es h = refl
find_planned (f ∷ plan) n es h =
    let parts = or_parts (nat_eq f.node n) (has_node n (nodes_of plan)) h in find_planned plan n (with_entry f es) parts.1 ∙ find_with f n es parts.0

same_with : (f : Entry) (es : List Entry) → find (λ e. nat_eq e.node f.node) es ≡ Some f → with_entry f es ≡ es
same_with f [] h = absurd (cc)
same_with f (e ∷ es) h = by (nat_eq e.node f.node) (same_with f es) h
  where
    by : (b : Bool) → (find (λ x. nat_eq x.node f.node) es ≡ Some f → with_entry f es ≡ es) → cond b (Some e) (find (λ x. nat_eq x.node f.node) es) ≡ Some f → cond b (with_places_of f e ∷ es) (e ∷ with_entry f es) ≡ e ∷ es
    by true rest k = let is : e ≡ f = cc in ap (λ (x : Entry). with_places_of x e ∷ es) (sym is)
    by false rest k = ap (λ xs. e ∷ xs) (rest k)

-- a plan that takes in a node as it is changes nothing
pub taken_in : (plan : List Entry) (f : Entry) (es : List Entry) → has_node f.node (nodes_of plan) ≡ false → find (λ e. nat_eq e.node f.node) es ≡ Some f → planned (plan ++ f ∷ []) es ≡ planned plan es
taken_in plan f es h is = planned_more plan f es ∙ same_with f (planned plan es) (find_planned plan f.node es h ∙ is)

-- where a node of a plan stands among all
pub record Split (f : Entry) (es : List Entry) : Type 0 where
  pub front : List Entry
  pub own : Entry
  pub rest : List Entry
  pub node : own.node ≡ f.node
  pub all : (ps : List Place) → with_entry (with_places ps f) es ≡ front ++ with_places ps own ∷ rest

pub split : (f : Entry) (es : List Entry) → Split f es
split f [] = record { front = []; own = f; rest = []; node = refl; all = λ ps. refl }
split f (e ∷ es) = by (nat_eq e.node f.node) refl (split f es)
  where
    by : (b : Bool) → nat_eq e.node f.node ≡ b → Split f es → Split f (e ∷ es)
    by true same s = record {
      front = [];
      own = e;
      rest = es;
      node = eqb-true e.node f.node same;
      all = λ ps. ap (λ b. cond b (with_places ps e ∷ es) (e ∷ with_entry (with_places ps f) es)) same;
    }
    by false other s = record {
      front = e ∷ s.front;
      own = s.own;
      rest = s.rest;
      node = s.node;
      all = λ ps. ap (λ b. cond b (with_places ps e ∷ es) (e ∷ with_entry (with_places ps f) es)) other ∙ ap (λ xs. e ∷ xs) (s.all ps);
    }

-- what else a plan has leaves it in its place
pub record Passes (n : ℕ) (after : Entry → List Entry) : Type 0 where
  pub front : List Entry
  pub rest : List Entry
  pub all : (b : Entry) → b.node ≡ n → after b ≡ front ++ b ∷ rest

passed : (g : Entry) (n : ℕ) (front rest : List Entry) → nat_eq n g.node ≡ false → Passes n (λ b. with_entry g (front ++ b ∷ rest))
passed g n [] rest h = record {
  front = [];
  rest = with_entry g rest;
  all = λ b is. ap (λ t. cond t (with_places_of g b ∷ rest) (b ∷ with_entry g rest)) (ap (λ x. nat_eq x g.node) is ∙ h);
}
passed g n (e ∷ front) rest h = by (nat_eq e.node g.node) refl (passed g n front rest h)
  where
    by : (t : Bool) → nat_eq e.node g.node ≡ t → Passes n (λ b. with_entry g (front ++ b ∷ rest)) → Passes n (λ b. with_entry g ((e ∷ front) ++ b ∷ rest))
    by true same s = record {
      front = with_places_of g e ∷ front;
      rest = rest;
      all = λ b is. ap (λ t. cond t (with_places_of g e ∷ (front ++ b ∷ rest)) (e ∷ with_entry g (front ++ b ∷ rest))) same;
    }
    by false other s = record {
      front = e ∷ s.front;
      rest = s.rest;
      all = λ b is. ap (λ t. cond t (with_places_of g e ∷ (front ++ b ∷ rest)) (e ∷ with_entry g (front ++ b ∷ rest))) other ∙ ap (λ xs. e ∷ xs) (s.all b is);
    }

pub all_passed : (plan : List Entry) (n : ℕ) (front rest : List Entry) → has_node n (nodes_of plan) ≡ false → Passes n (λ b. planned plan (front ++ b ∷ rest))
all_passed [] n front rest h = record { front = front; rest = rest; all = λ b is. refl }
all_passed (g ∷ plan) n front rest h =
    let parts = or_parts (nat_eq g.node n) (has_node n (nodes_of plan)) h in
    let first = passed g n front rest (nat_eq-sym n g.node ∙ parts.0) in
    let others = all_passed plan n first.front first.rest parts.1 in
    record { front = others.front; rest = others.rest; all = λ b is. ap (planned plan) (first.all b is) ∙ others.all b is }

pub record Stands (plan es : List Entry) (i : ℕ) (f : Entry) : Type 0 where
  pub front : List Entry
  pub own : Entry
  pub rest : List Entry
  pub node : own.node ≡ f.node
  pub now : planned plan es ≡ front ++ with_places f.places own ∷ rest
  pub later : (ps : List Place) → planned (set plan i (with_places ps f)) es ≡ front ++ with_places ps own ∷ rest

pub stands : (plan es : List Entry) (i : ℕ) (f : Entry) → AreDistinct (nodes_of plan) → i < length plan → f ≡ get_or plan i f → Stands plan es i f
stands [] es i f distinct here at = absurd (omega (arith, here))
stands (g ∷ plan) es zero f distinct here at = subst (λ x. Stands (g ∷ plan) es zero x) (sym at) first
  where
    first : Stands (g ∷ plan) es zero g
    first =
        let s = split g es in
        let p = all_passed plan g.node s.front s.rest distinct.0 in
        record {
          front = p.front;
          own = s.own;
          rest = p.rest;
          node = s.node;
          now = ap (planned plan) (s.all g.places) ∙ p.all (with_places g.places s.own) s.node;
          later = λ ps. ap (planned plan) (s.all ps) ∙ p.all (with_places ps s.own) s.node;
        }
stands (g ∷ plan) es (suc i) f distinct here at =
    let s = stands plan (with_entry g es) i f distinct.1 (omega (arith, here)) at in
    record { front = s.front; own = s.own; rest = s.rest; node = s.node; now = s.now; later = s.later }

-- the place of a node in a plan
pub planned_place : (n : ℕ) (plan : List Entry) (nodes : List ℕ) (i : ℕ) → position (λ e. nat_eq e.node n) plan ≡ Some i → IsPlannedAt n (Some i) plan nodes
planned_place n plan nodes i is = (
  (position-Some (λ (e : Entry). nat_eq e.node n) plan i (record { node = 0; kind = kinds.File; places = [] }) is).0,
  λ d. eqb-true (get_or plan i d).node n (position-Some (λ (e : Entry). nat_eq e.node n) plan i d is).1,
)

pub added_place : (n : ℕ) (plan new : List Entry) (e : Entry) (place : Option ℕ) (nodes : List ℕ) → e.node ≡ n → place ≡ Some (length plan) → new ≡ plan ++ e ∷ [] → IsPlannedAt n place new nodes
added_place n plan new e place nodes own at is =
    subst (λ o. IsPlannedAt n o new nodes) (sym at) (subst (λ xs. IsPlannedAt n (Some (length plan)) xs nodes) (sym is) (below plan, λ d. last plan d ∙ own))
  where
    below : (xs : List Entry) → length xs < length (xs ++ e ∷ [])
    below [] = omega arith
    below (x ∷ xs) = let rest = below xs in omega (arith, rest)

    last : (xs : List Entry) (d : Entry) → (get_or (xs ++ e ∷ []) (length xs) d).node ≡ e.node
    last [] d = refl
    last (x ∷ xs) d = last xs d

-- a node that is taken in, or for which memory is wanting
pub taken_either : {A E : Type 0} (r : Result A E) (P : A → Type 0) (plan new : List Entry) (e : Entry) (es : List Entry) → has_node e.node (nodes_of plan) ≡ false
    → find (λ f. nat_eq f.node e.node) es ≡ Some e → IfOk r (λ a. P a × (new ≡ plan ++ e ∷ [])) → OnErr r (new ≡ plan) → planned new es ≡ planned plan es
taken_either (Ok a) P plan new e es fresh found ok err = ap (λ xs. planned xs es) ok.1 ∙ taken_in plan e es fresh found
taken_either (Err a) P plan new e es fresh found ok err = ap (λ xs. planned xs es) err

pub place_at_is : (n : ℕ) (place : Option ℕ) (i : ℕ) (new mid : List Entry) (nodes : List ℕ) → IsPlannedAt n place new nodes → place ≡ Some i → mid ≡ new → IsPlannedAt n (Some i) mid nodes
place_at_is n place i new mid nodes h is same = subst (λ xs. IsPlannedAt n (Some i) xs nodes) (sym same) (subst (λ o. IsPlannedAt n o new nodes) is h)
