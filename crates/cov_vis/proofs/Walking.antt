-- Counting the entries met is keeping the list of them.
use Rattle.std.proofs.Common.{◌≡◌, ◌≢◌, ℕ, zero, suc, ◌+◌, ◌-◌, ◌≤◌, Bool, true, false, cond, List, [], ◌∷◌, ◌++◌, length, Option, Some, None, refl, sym, ap, ◌∙◌, inl, inr, subst, arith, append_assoc, append-nil}
use Rattle.std.specs.Prelude.{slice_get, nat_eq, nat_lt, ◌||◌, ◌&&◌}
use Rattle.std.specs.Cmp.Lexicographic.{pointwise}
use Rattle.std.specs.List.{list_any, list_all, range_with_len}
use Rattle.std.proofs.lemmas.Bool.{eqb-true, eqb-false, eq-eqb, ltb-true, ltb-false, lt-ltb, le-ltb}
use Rattle.std.proofs.lemmas.Slice.Eq.{bytes_eq-Decides}
use Rattle.cov_base.proofs.CallerLemmas.{any-push, both_ways}
use Rattle.cov_base.specs.declared.limits.TheConstants.{CHOICE_WIDTH}
use Rattle.cov_vis.specs.declared.listing.Child.{Child}
use Rattle.cov_vis.specs.declared.listing.Child.TheVariants.{F, T, At}
use Rattle.cov_vis.specs.declared.listing.ListingEntry.{ListingEntry}
use Rattle.cov_vis.specs.Listings.{ListingValue, walk, walked_entry, is_in_range, is_in_walk_order, is_ordered, is_reduced, are_distinct}
use Rattle.cov_vis.specs.Counting.{count_walk, counted_on, counted_entry}
use Rattle.cov_vis.proofs.Places.{get_left, get_at, get_push}

-- the numbers below n, from 0 on
abbrev pub numbers_below : ℕ → List ℕ
numbers_below zero = []
numbers_below (suc n) = numbers_below n ++ n ∷ []

range_more : (a n k : ℕ) → a + n ≡ k → range_with_len a (suc n) ≡ range_with_len a n ++ k ∷ []
range_more a zero k h = let same : a ≡ k = omega (arith, h) in ap (λ x. x ∷ []) same
range_more a (suc n) k h = ap (λ xs. a ∷ xs) (range_more (a + 1) n k (omega (arith, h)))

range_below : (n : ℕ) → numbers_below n ≡ range_with_len 0 n
range_below zero = refl
range_below (suc n) = ap (λ xs. xs ++ n ∷ []) (range_below n) ∙ sym (range_more 0 n n (omega arith))

pub length-below : (n : ℕ) → length (numbers_below n) ≡ n
length-below zero = refl
length-below (suc n) = push (numbers_below n) ∙ ap suc (length-below n)
  where
    push : (xs : List ℕ) → length (xs ++ n ∷ []) ≡ suc (length xs)
    push [] = refl
    push (x ∷ xs) = ap suc (push xs)

pub below-get : (n j i : ℕ) → slice_get (numbers_below n) j ≡ Some i → i ≡ j
below-get zero j i h = absurd (cc)
below-get (suc n) j i h = elim (get_push (numbers_below n) n j i h) [ inl g ↦ below-get n j i g | inr g ↦ sym g.1 ∙ sym (length-below n) ∙ sym g.0 ]

below_more : (i k : ℕ) → (nat_lt i k || nat_eq i k) ≡ nat_lt i (suc k)
below_more i k = by (nat_lt i k) (nat_eq i k) refl refl
  where
    by : (a b : Bool) → nat_lt i k ≡ a → nat_eq i k ≡ b → (a || b) ≡ nat_lt i (suc k)
    by true b x y = sym (lt-ltb i (suc k) (omega (arith, ltb-true i k x)))
    by false true x y = sym (lt-ltb i (suc k) (omega (arith, eqb-true i k y)))
    by false false x y = let ne : i ≢ k = eqb-false i k y in sym (le-ltb i (suc k) (omega (arith, ne, ltb-false i k x)))

pub any_below : (i k : ℕ) → list_any (nat_eq i) (numbers_below k) ≡ nat_lt i k
any_below i zero = sym (le-ltb i 0 (omega arith))
any_below i (suc k) = any-push (nat_eq i) (numbers_below k) k ∙ ap (λ b. b || nat_eq i k) (any_below i k) ∙ below_more i k

-- what was met: the numbers below the count, or a list that isn't 0, 1, 2 and so on
abbrev Meets : List ℕ → Option ℕ → Type 0
Meets w (Some n) = w ≡ numbers_below n
Meets w None = (j : ℕ) × (i : ℕ) × (slice_get w j ≡ Some i) × (i ≢ j)

module _ (es : List ListingEntry) where
  -- a walk keeps what it has met
  pub walk_more : (s : ℕ) (x : Child) (met : List ℕ) → (more : List ℕ) × (walk es s x met ≡ met ++ more)
  walk_more s F met = ([], sym (append-nil met))
  walk_more s T met = ([], sym (append-nil met))
  walk_more zero (At i) met = ([], sym (append-nil met))
  walk_more (suc s) (At i) met = by (list_any (nat_eq i) met) (slice_get es i) (walk_more s)
    where
      by : (b : Bool) (o : Option ListingEntry) → ((x : Child) (met : List ℕ) → (more : List ℕ) × (walk es s x met ≡ met ++ more))
          → (more : List ℕ) × (cond b met (walked_entry (walk es s) i met o) ≡ met ++ more)
      by true o rec = ([], sym (append-nil met))
      by false None rec = ([], sym (append-nil met))
      by false (Some e) rec =
          let a = rec e.off (met ++ i ∷ []) in
          let b = rec e.on (walk es s e.off (met ++ i ∷ [])) in
          (i ∷ (a.0 ++ b.0), b.1 ∙ ap (λ w. w ++ b.0) a.1 ∙ append_assoc (met ++ i ∷ []) a.0 b.0 ∙ append_assoc met (i ∷ []) (a.0 ++ b.0))

  astray_stays : (s : ℕ) (x : Child) (w : List ℕ) → Meets w None → Meets (walk es s x w) None
  astray_stays s x w h =
      let m = walk_more s x w in
      (h.0, h.1, ap (λ l. slice_get l h.0) m.1 ∙ get_left w m.0 h.0 h.1 h.2, h.3)

  module _ (s : ℕ) (rec : (x : Child) (k : ℕ) (met : List ℕ) → met ≡ numbers_below k → Meets (walk es s x met) (count_walk es s x k))
      (i k : ℕ) (met : List ℕ) (h : met ≡ numbers_below k) where
    on_from : (e : ListingEntry) (w : List ℕ) (r : Option ℕ) → Meets w r → Meets (walk es s e.on w) (counted_on (count_walk es s e.on) r)
    on_from e w (Some n) m = rec e.on n w m
    on_from e w None m = astray_stays s e.on w m

    next : (e : ListingEntry) (b : Bool) → nat_eq i k ≡ b → Meets (walk es s e.on (walk es s e.off (met ++ i ∷ []))) (cond b (counted_on (count_walk es s e.on) (count_walk es s e.off (k + 1))) None)
    next e true y =
        let at : met ++ i ∷ [] ≡ numbers_below (suc k) = (λ j. h j ++ eqb-true i k y j ∷ []) in
        let more : suc k ≡ k + 1 = omega arith in
        on_from e (walk es s e.off (met ++ i ∷ [])) (count_walk es s e.off (k + 1)) (rec e.off (k + 1) (met ++ i ∷ []) (at ∙ ap numbers_below more))
    next e false y =
        let ne : i ≢ k = eqb-false i k y in
        let here : slice_get (met ++ i ∷ []) k ≡ Some i = ap (slice_get (met ++ i ∷ [])) (sym (length-below k) ∙ ap length (sym h)) ∙ get_at met [] i in
        astray_stays s e.on _ (astray_stays s e.off (met ++ i ∷ []) (k, i, here, ne))

    known : list_any (nat_eq i) met ≡ nat_lt i k
    known = ap (list_any (nat_eq i)) h ∙ any_below i k

    by : (b : Bool) (o : Option ListingEntry) → Meets (cond b met (walked_entry (walk es s) i met o)) (cond b (Some k) (counted_entry (count_walk es s) i k o))
    by true o = h
    by false None = h
    by false (Some e) = next e (nat_eq i k) refl

    met_at : Meets (walk es (suc s) (At i) met) (count_walk es (suc s) (At i) k)
    met_at = subst (λ b. Meets (cond b met (walked_entry (walk es s) i met (slice_get es i))) (count_walk es (suc s) (At i) k)) (sym known) (by (nat_lt i k) (slice_get es i))

  pub meets : (s : ℕ) (x : Child) (k : ℕ) (met : List ℕ) → met ≡ numbers_below k → Meets (walk es s x met) (count_walk es s x k)
  meets s F k met h = h
  meets s T k met h = h
  meets zero (At i) k met h = h
  meets (suc s) (At i) k met h = met_at s (meets s) i k met h

abbrev pub is_count : Option ℕ → ℕ → Bool
is_count None n = false
is_count (Some m) n = nat_eq m n

-- a walk has met exactly the numbers below n where the count ends with n
pub meets_below : (w : List ℕ) (r : Option ℕ) (n : ℕ) → Meets w r → is_count r n ≡ pointwise nat_eq w (numbers_below n)
meets_below w None n m = both_ways _ _ (λ h. absurd (cc)) (λ h.
    let is = (bytes_eq-Decides w (numbers_below n)).0 h in
    absurd (m.3 (below-get n m.0 m.1 (ap (λ l. slice_get l m.0) (sym is) ∙ m.2))))
meets_below w (Some k) n m = both_ways _ _
    (λ h. (bytes_eq-Decides w (numbers_below n)).1 (m ∙ ap numbers_below (eqb-true k n h)))
    (λ h.
    let is = (bytes_eq-Decides w (numbers_below n)).0 h in
    let same : k ≡ n = sym (length-below k) ∙ ap length (sym m ∙ is) ∙ length-below n in
    ap (nat_eq k) (sym same) ∙ eq-eqb k k refl)

pub walk_by_count : (l : ListingValue) → is_count (count_walk l.entries CHOICE_WIDTH l.root 0) (length l.entries) ≡ is_in_walk_order l
walk_by_count l =
    meets_below (walk l.entries CHOICE_WIDTH l.root []) (count_walk l.entries CHOICE_WIDTH l.root 0) (length l.entries) (meets l.entries CHOICE_WIDTH l.root 0 [] refl)
    ∙ ap (pointwise nat_eq (walk l.entries CHOICE_WIDTH l.root [])) (range_below (length l.entries))

-- a step of the count at an entry that is next
pub count_next : (es : List ListingEntry) (s : ℕ) (x : Child) (i met : ℕ) (e : ListingEntry) (r : Option ℕ) → x ≡ At i → (s ≡ 0 → ⊥) → met ≤ i
    → slice_get es i ≡ Some e → i ≡ met → r ≡ counted_on (count_walk es (s - 1) e.on) (count_walk es (s - 1) e.off (met + 1)) → r ≡ count_walk es s x met
count_next es zero x i met e r is some new at level h = absurd (some refl)
count_next es (suc s) x i met e r is some new at level h =
    let one : suc s - 1 ≡ s = omega arith in
    h
    ∙ (λ j. counted_on (count_walk es (one j) e.on) (count_walk es (one j) e.off (met + 1)))
    ∙ (λ j. cond (sym (eq-eqb i met level) j) (counted_on (count_walk es s e.on) (count_walk es s e.off (met + 1))) None)
    ∙ ap (counted_entry (count_walk es s) i met) (sym at)
    ∙ (λ j. cond (sym (le-ltb i met (omega (arith, level))) j) (Some met) (counted_entry (count_walk es s) i met (slice_get es i)))
    ∙ ap (λ y. count_walk es (suc s) y met) (sym is)

-- all four parts of being reduced, where the first three hold
pub all_parts : (l : ListingValue) (a b d w : Bool) → a ≡ is_in_range l.entries l.root → b ≡ list_all (is_ordered l.entries) l.entries → d ≡ are_distinct l.entries
    → w ≡ is_in_walk_order l → a ≡ true → b ≡ true → d ≡ true → w ≡ is_reduced l
all_parts l a b d w x y z v h i j = v ∙ (λ k. (sym h ∙ x) k && ((sym i ∙ y) k && ((sym j ∙ z) k && is_in_walk_order l)))
