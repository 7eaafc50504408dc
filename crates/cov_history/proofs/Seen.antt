-- What is seen of kept items after a change of them.
use Rattle.std.proofs.Common.{◌≡◌, ℕ, ◌<◌, ◌≤◌, Bool, true, false, cond, ◌&&◌, not, nat_le, List, [], ◌∷◌, ◌++◌, map, refl, sym, ap, ◌∙◌, arith}
use Rattle.std.specs.List.{filter, AllByRecursion}
use Rattle.std.proofs.lemmas.Bool.Decides.{nat_tests}
use Rattle.cov_base.specs.Addresses.{stands_before, placed, AreInOrder}
use Rattle.cov_base.proofs.CallerLemmas.{filter-placed}
use Rattle.cov_expr.specs.Formula.{Formula, Not, And, value}
use Rattle.cov_history.specs.Kept.{Kept, seen_at, IsUpTo, is_seen, the_item, items_seen, new_item, hidden, taken_up, hidden_where, replaced_where}

-- the newest change is seen from its position on
changed_at : (q p : ℕ) (within : Formula ℕ) (changes : List (ℕ × Formula ℕ)) → q ≤ p → seen_at ((q, within) ∷ changes) p ≡ within
changed_at q p within changes h =
    let e : nat_le q p ≡ true = grind (arith, nat_tests, h) in
    ap (λ b. cond b within (seen_at changes p)) e

-- and not before
unchanged_at : (q p : ℕ) (within : Formula ℕ) (changes : List (ℕ × Formula ℕ)) → p < q → seen_at ((q, within) ∷ changes) p ≡ seen_at changes p
unchanged_at q p within changes h =
    let e : nat_le q p ≡ false = grind (arith, nat_tests, h) in
    ap (λ b. cond b within (seen_at changes p)) e

at_itself : (q : ℕ) → q ≤ q
at_itself q = omega arith

-- once nothing is newer, each position sees the same
seen_at-later : (p q : ℕ) (changes : List (ℕ × Formula ℕ)) → q ≤ p → IsUpTo q changes → seen_at changes p ≡ seen_at changes q
seen_at-later p q [] h dated = refl
seen_at-later p q (change ∷ changes) h dated =
    changed_at change.0 p change.1 changes (omega (arith, h, dated)) ∙ sym (changed_at change.0 q change.1 changes dated)

and_true : (a : Bool) → a ≡ (a && true)
and_true true = refl
and_true false = refl

module _ {X : Type 0} (c : List Bool) where
  pub seen-cons : (p : ℕ) (k : Kept X) (ks : List (Kept X)) → items_seen c p (k ∷ ks) ≡ cond (is_seen c p k) (k.item ∷ items_seen c p ks) (items_seen c p ks)
  seen-cons p k ks = at (is_seen c p k)
    where
      at : (b : Bool) → map the_item (cond b (k ∷ filter (is_seen c p) ks) (filter (is_seen c p) ks)) ≡ cond b (k.item ∷ items_seen c p ks) (items_seen c p ks)
      at true = refl
      at false = refl

  cons-by : (p : ℕ) (k : Kept X) (ks : List (Kept X)) (b : Bool) (x : X) (xs : List X) → is_seen c p k ≡ b → k.item ≡ x → items_seen c p ks ≡ xs
      → items_seen c p (k ∷ ks) ≡ cond b (x ∷ xs) xs
  cons-by p k ks b x xs e f h =
      seen-cons p k ks ∙ ap (λ t. cond t (k.item ∷ items_seen c p ks) (items_seen c p ks)) e
      ∙ ap (λ y. cond b (y ∷ items_seen c p ks) (items_seen c p ks)) f ∙ ap (λ l. cond b (x ∷ l) l) h

  pub new-seen : (q : ℕ) (within : Formula ℕ) (x : X) → is_seen c q (new_item q within x) ≡ value within c
  new-seen q within x = ap (λ e. value e c) (changed_at q q within [] (at_itself q))

  pub new-before : (p q : ℕ) (within : Formula ℕ) (x : X) → p < q → is_seen c p (new_item q within x) ≡ false
  new-before p q within x h = ap (λ e. value e c) (unchanged_at q p within [] h)

  hidden-seen : (q : ℕ) (within : Formula ℕ) (k : Kept X) → is_seen c q (hidden q within k) ≡ (is_seen c q k && not (value within c))
  hidden-seen q within k = ap (λ e. value e c) (changed_at q q (And (seen_at k.changes q) (Not within)) k.changes (at_itself q))

  hidden-before : (p q : ℕ) (within : Formula ℕ) (k : Kept X) → p < q → is_seen c p (hidden q within k) ≡ is_seen c p k
  hidden-before p q within k h = ap (λ e. value e c) (unchanged_at q p (And (seen_at k.changes q) (Not within)) k.changes h)

  taken-seen : (q : ℕ) (within : Formula ℕ) (other : X → X) (k : Kept X) → is_seen c q (taken_up q within other k) ≡ (is_seen c q k && value within c)
  taken-seen q within other k = ap (λ e. value e c) (changed_at q q (And (seen_at k.changes q) within) [] (at_itself q))

  taken-before : (p q : ℕ) (within : Formula ℕ) (other : X → X) (k : Kept X) → p < q → is_seen c p (taken_up q within other k) ≡ false
  taken-before p q within other k h = ap (λ e. value e c) (unchanged_at q p (And (seen_at k.changes q) within) [] h)

  pub seen-later : (p q : ℕ) (ks : List (Kept X)) → q ≤ p → AllByRecursion (λ k. IsUpTo q k.changes) ks → items_seen c p ks ≡ items_seen c q ks
  seen-later p q [] h dated = refl
  seen-later p q (k ∷ ks) h dated =
      cons-by p k ks (is_seen c q k) k.item (items_seen c q ks) (ap (λ e. value e c) (seen_at-later p q k.changes h dated.0)) refl (seen-later p q ks h dated.1)
      ∙ sym (seen-cons q k ks)

  -- an item at the end
  pub append-seen : (q : ℕ) (within : Formula ℕ) (x : X) (ks : List (Kept X))
      → items_seen c q (ks ++ new_item q within x ∷ []) ≡ cond (value within c) (items_seen c q ks ++ x ∷ []) (items_seen c q ks)
  append-seen q within x [] = cons-by q (new_item q within x) [] (value within c) x [] (new-seen q within x) refl refl
  append-seen q within x (k ∷ ks) =
      cons-by q k (ks ++ new_item q within x ∷ []) (is_seen c q k) k.item (cond (value within c) (items_seen c q ks ++ x ∷ []) (items_seen c q ks)) refl refl (append-seen q within x ks)
      ∙ table (value within c) (is_seen c q k) (items_seen c q ks)
      ∙ sym (ap (λ l. cond (value within c) (l ++ x ∷ []) l) (seen-cons q k ks))
    where
      table : (v s : Bool) (ls : List X) → cond s (k.item ∷ cond v (ls ++ x ∷ []) ls) (cond v (ls ++ x ∷ []) ls) ≡ cond v (cond s (k.item ∷ ls) ls ++ x ∷ []) (cond s (k.item ∷ ls) ls)
      table true true ls = refl
      table true false ls = refl
      table false true ls = refl
      table false false ls = refl

  pub append-before : (p q : ℕ) (within : Formula ℕ) (x : X) (ks : List (Kept X)) → p < q → items_seen c p (ks ++ new_item q within x ∷ []) ≡ items_seen c p ks
  append-before p q within x [] h = cons-by p (new_item q within x) [] false x [] (new-before p q within x h) refl refl
  append-before p q within x (k ∷ ks) h =
      cons-by p k (ks ++ new_item q within x ∷ []) (is_seen c p k) k.item (items_seen c p ks) refl refl (append-before p q within x ks h) ∙ sym (seen-cons p k ks)

  -- items hidden by a test
  hidden_where-seen : (test : X → Bool) (q : ℕ) (within : Formula ℕ) (k : Kept X)
      → is_seen c q (hidden_where test q within k) ≡ (is_seen c q k && not (test k.item && value within c))
  hidden_where-seen test q within k = at (test k.item)
    where
      at : (b : Bool) → is_seen c q (cond b (hidden q within k) k) ≡ (is_seen c q k && not (b && value within c))
      at true = hidden-seen q within k
      at false = and_true (is_seen c q k)

  hidden_where-item : (test : X → Bool) (q : ℕ) (within : Formula ℕ) (k : Kept X) → (hidden_where test q within k).item ≡ k.item
  hidden_where-item test q within k = at (test k.item)
    where
      at : (b : Bool) → (cond b (hidden q within k) k).item ≡ k.item
      at true = refl
      at false = refl

  hidden_where-before : (test : X → Bool) (p q : ℕ) (within : Formula ℕ) (k : Kept X) → p < q → is_seen c p (hidden_where test q within k) ≡ is_seen c p k
  hidden_where-before test p q within k h = at (test k.item)
    where
      at : (b : Bool) → is_seen c p (cond b (hidden q within k) k) ≡ is_seen c p k
      at true = hidden-before p q within k h
      at false = refl

  pub hide-seen : (test : X → Bool) (q : ℕ) (within : Formula ℕ) (ks : List (Kept X))
      → items_seen c q (map (hidden_where test q within) ks) ≡ cond (value within c) (filter (λ x. not (test x)) (items_seen c q ks)) (items_seen c q ks)
  hide-seen test q within [] = at (value within c)
    where
      at : (v : Bool) → [] ≡ cond v (filter (λ x. not (test x)) []) []
      at true = refl
      at false = refl
  hide-seen test q within (k ∷ ks) =
      cons-by q (hidden_where test q within k) (map (hidden_where test q within) ks) (is_seen c q k && not (test k.item && value within c)) k.item
      (cond (value within c) (filter (λ x. not (test x)) (items_seen c q ks)) (items_seen c q ks))
      (hidden_where-seen test q within k) (hidden_where-item test q within k) (hide-seen test q within ks)
      ∙ table (value within c) (is_seen c q k) (test k.item) refl (items_seen c q ks)
      ∙ sym (ap (λ l. cond (value within c) (filter (λ x. not (test x)) l) l) (seen-cons q k ks))
    where
      left : List X → List X
      left ls = filter (λ x. not (test x)) ls

      table : (v s t : Bool) → test k.item ≡ t → (ls : List X)
          → cond (s && not (t && v)) (k.item ∷ cond v (left ls) ls) (cond v (left ls) ls) ≡ cond v (left (cond s (k.item ∷ ls) ls)) (cond s (k.item ∷ ls) ls)
      table true true true e ls = sym (ap (λ b. cond (not b) (k.item ∷ left ls) (left ls)) e)
      table true true false e ls = sym (ap (λ b. cond (not b) (k.item ∷ left ls) (left ls)) e)
      table true false t e ls = refl
      table false true true e ls = refl
      table false true false e ls = refl
      table false false t e ls = refl

  pub hide-before : (test : X → Bool) (p q : ℕ) (within : Formula ℕ) (ks : List (Kept X)) → p < q → items_seen c p (map (hidden_where test q within) ks) ≡ items_seen c p ks
  hide-before test p q within [] h = refl
  hide-before test p q within (k ∷ ks) h =
      cons-by p (hidden_where test q within k) (map (hidden_where test q within) ks) (is_seen c p k) k.item (items_seen c p ks)
      (hidden_where-before test p q within k h) (hidden_where-item test q within k) (hide-before test p q within ks h)
      ∙ sym (seen-cons p k ks)

  -- items with others in their places
  pub replace-seen : (test : X → Bool) (other : X → X) → ((x : X) → test x ≡ false → other x ≡ x) → (q : ℕ) (within : Formula ℕ) (ks : List (Kept X))
      → items_seen c q (replaced_where test other q within ks) ≡ cond (value within c) (map other (items_seen c q ks)) (items_seen c q ks)
  replace-seen test other same q within [] = at (value within c)
    where
      at : (v : Bool) → [] ≡ cond v (map other []) []
      at true = refl
      at false = refl
  replace-seen test other same q within (k ∷ ks) =
      at (test k.item) refl (replace-seen test other same q within ks) ∙ sym (ap (λ l. cond v (map other l) l) (seen-cons q k ks))
    where
      v : Bool
      v = value within c

      later : List (Kept X)
      later = replaced_where test other q within ks

      both : (v s : Bool) (ls : List X)
          → cond (s && not v) (k.item ∷ cond (s && v) (other k.item ∷ cond v (map other ls) ls) (cond v (map other ls) ls)) (cond (s && v) (other k.item ∷ cond v (map other ls) ls) (cond v (map other ls) ls))
          ≡ cond v (map other (cond s (k.item ∷ ls) ls)) (cond s (k.item ∷ ls) ls)
      both true true ls = refl
      both true false ls = refl
      both false true ls = refl
      both false false ls = refl

      one : (v s : Bool) (ls : List X) → other k.item ≡ k.item
          → cond s (k.item ∷ cond v (map other ls) ls) (cond v (map other ls) ls) ≡ cond v (map other (cond s (k.item ∷ ls) ls)) (cond s (k.item ∷ ls) ls)
      one true true ls e = ap (λ x. x ∷ map other ls) (sym e)
      one true false ls e = refl
      one false true ls e = refl
      one false false ls e = refl

      at : (b : Bool) → test k.item ≡ b → items_seen c q later ≡ cond v (map other (items_seen c q ks)) (items_seen c q ks)
          → items_seen c q (cond b (hidden q within k ∷ taken_up q within other k ∷ later) (k ∷ later))
          ≡ cond v (map other (cond (is_seen c q k) (k.item ∷ items_seen c q ks) (items_seen c q ks))) (cond (is_seen c q k) (k.item ∷ items_seen c q ks) (items_seen c q ks))
      at true e rest =
          cons-by q (hidden q within k) (taken_up q within other k ∷ later) (is_seen c q k && not v) k.item
          (cond (is_seen c q k && v) (other k.item ∷ cond v (map other (items_seen c q ks)) (items_seen c q ks)) (cond v (map other (items_seen c q ks)) (items_seen c q ks)))
          (hidden-seen q within k) refl
          (cons-by q (taken_up q within other k) later (is_seen c q k && v) (other k.item) (cond v (map other (items_seen c q ks)) (items_seen c q ks)) (taken-seen q within other k) refl rest)
          ∙ both v (is_seen c q k) (items_seen c q ks)
      at false e rest =
          cons-by q k later (is_seen c q k) k.item (cond v (map other (items_seen c q ks)) (items_seen c q ks)) refl refl rest
          ∙ one v (is_seen c q k) (items_seen c q ks) (same k.item e)

  pub replace-before : (test : X → Bool) (other : X → X) (p q : ℕ) (within : Formula ℕ) (ks : List (Kept X)) → p < q
      → items_seen c p (replaced_where test other q within ks) ≡ items_seen c p ks
  replace-before test other p q within [] h = refl
  replace-before test other p q within (k ∷ ks) h = at (test k.item) (replace-before test other p q within ks h) ∙ sym (seen-cons p k ks)
    where
      later : List (Kept X)
      later = replaced_where test other q within ks

      at : (b : Bool) → items_seen c p later ≡ items_seen c p ks
          → items_seen c p (cond b (hidden q within k ∷ taken_up q within other k ∷ later) (k ∷ later)) ≡ cond (is_seen c p k) (k.item ∷ items_seen c p ks) (items_seen c p ks)
      at true rest =
          cons-by p (hidden q within k) (taken_up q within other k ∷ later) (is_seen c p k) k.item (items_seen c p ks) (hidden-before p q within k h) refl
          (cons-by p (taken_up q within other k) later false (other k.item) (items_seen c p ks) (taken-before p q within other k h) refl rest)
      at false rest = cons-by p k later (is_seen c p k) k.item (items_seen c p ks) refl refl rest

  module _ (address : X → List ℕ) where
    map-placed : (k : Kept X) (ks : List (Kept X)) → map the_item (placed (λ j. address (the_item j)) k ks) ≡ placed address k.item (map the_item ks)
    map-placed k [] = refl
    map-placed k (j ∷ ks) = at (stands_before (address k.item) (address j.item)) (map-placed k ks)
      where
        at : (b : Bool) → map the_item (placed (λ i. address (the_item i)) k ks) ≡ placed address k.item (map the_item ks)
            → map the_item (cond b (k ∷ j ∷ ks) (j ∷ placed (λ i. address (the_item i)) k ks)) ≡ cond b (k.item ∷ j.item ∷ map the_item ks) (j.item ∷ placed address k.item (map the_item ks))
        at true rest = refl
        at false rest = ap (λ l. j.item ∷ l) rest

    -- an item in its place
    pub place-seen : (q : ℕ) (within : Formula ℕ) (x : X) (ks : List (Kept X)) → AreInOrder (λ j. address (the_item j)) ks
        → items_seen c q (placed (λ j. address (the_item j)) (new_item q within x) ks) ≡ cond (value within c) (placed address x (items_seen c q ks)) (items_seen c q ks)
    place-seen q within x ks o =
        ap (map the_item) (filter-placed (λ j. address (the_item j)) (is_seen c q) (new_item q within x) ks o ∙ ap (λ b. cond b (placed (λ j. address (the_item j)) (new_item q within x) (filter (is_seen c q) ks)) (filter (is_seen c q) ks)) (new-seen q within x))
        ∙ at (value within c)
      where
        at : (b : Bool) → map the_item (cond b (placed (λ j. address (the_item j)) (new_item q within x) (filter (is_seen c q) ks)) (filter (is_seen c q) ks))
            ≡ cond b (placed address x (items_seen c q ks)) (items_seen c q ks)
        at true = map-placed (new_item q within x) (filter (is_seen c q) ks)
        at false = refl

  module _ (address : Kept X → List ℕ) where
    pub place-before : (p q : ℕ) (within : Formula ℕ) (x : X) (ks : List (Kept X)) → p < q → items_seen c p (placed address (new_item q within x) ks) ≡ items_seen c p ks
    place-before p q within x [] h = cons-by p (new_item q within x) [] false x [] (new-before p q within x h) refl refl
    place-before p q within x (k ∷ ks) h = at (stands_before (address (new_item q within x)) (address k)) (place-before p q within x ks h)
      where
        at : (b : Bool) → items_seen c p (placed address (new_item q within x) ks) ≡ items_seen c p ks
            → items_seen c p (cond b (new_item q within x ∷ k ∷ ks) (k ∷ placed address (new_item q within x) ks)) ≡ items_seen c p (k ∷ ks)
        at true rest = cons-by p (new_item q within x) (k ∷ ks) false x (items_seen c p (k ∷ ks)) (new-before p q within x h) refl refl
        at false rest = cons-by p k (placed address (new_item q within x) ks) (is_seen c p k) k.item (items_seen c p ks) refl refl rest ∙ sym (seen-cons p k ks)
