-- Reduced listings that read the same are equal.
use Rattle.std.proofs.Common.{◌≡◌, ℕ, zero, suc, ◌+◌, ◌<◌, ◌≤◌, Bool, true, false, cond, List, [], ◌∷◌, length, replicate, Option, Some, None, true≢false, refl, sym, ap, ◌∙◌, subst, arith}
use Rattle.std.specs.Prelude.{slice_get, nat_eq, nat_lt, ◌&&◌}
use Rattle.std.specs.List.{list_all}
use Rattle.std.proofs.lemmas.Bool.{and_parts, eqb-true, ltb-true}
use Rattle.std.proofs.lemmas.Option.{slice_get_within}
use Rattle.cov_base.specs.Choices.{with_option}
use Rattle.cov_base.proofs.CallerLemmas.{is_on-same, length-with_option}
use Rattle.cov_dd.proofs.CallerLemmas.{Order, above, below, level, ordered}
use Rattle.cov_base.specs.declared.limits.TheConstants.{CHOICE_WIDTH}
use Rattle.cov_vis.specs.declared.listing.Child.{Child}
use Rattle.cov_vis.specs.declared.listing.Child.TheVariants.{F, T, At}
use Rattle.cov_vis.specs.declared.listing.ListingEntry.{ListingEntry}
use Rattle.cov_vis.specs.Listings.{has_options_below, ListingValue, reads, reads_from, is_in_range, is_ordered, are_distinct, is_reduced, is_in_walk_order}
use Rattle.cov_vis.specs.Counting.{count_walk, counted_on, counted_entry}
use Rattle.cov_vis.proofs.Places.{get_some, some-same}
use Rattle.cov_vis.proofs.Walking.{is_count, walk_by_count}
use Rattle.cov_vis.proofs.Reading.{rank, rank_at, AreAbove, rank-most, unread, at_entry, above_from, distinct_at}

-- what is read of a child, with steps for each listing
abbrev reads_at : List ListingEntry → Child → List Bool → Bool
reads_at es x c = reads_from es (CHOICE_WIDTH + length es) x c

-- two children of two listings read the same
abbrev Agree : List ListingEntry → List ListingEntry → Child → Child → Type 0
Agree es fs x y = (c : List Bool) → length c ≡ CHOICE_WIDTH → reads_at es x c ≡ reads_at fs y c

-- one listing at one of its entries
module _ (es : List ListingEntry) (o : AreAbove es) (i : ℕ) (e : ListingEntry) (at : slice_get es i ≡ Some e) (c : List Bool) (long : length c ≡ CHOICE_WIDTH) where
  own : e.option < length c
  own = omega (arith, long, (o i e at).small)

  side_read : (on : Bool) → reads_at es (At i) (with_option c e.option on) ≡ reads_at es (cond on e.on e.off) c
  side_read on =
      at_entry es o (CHOICE_WIDTH + length es) i e (with_option c e.option on) (omega arith) at
      ∙ ap (λ b. cond b (reads_at es e.on (with_option c e.option on)) (reads_at es e.off (with_option c e.option on))) (is_on-same c e.option on own)
      ∙ by on
    where
      by : (b : Bool) → cond b (reads_at es e.on (with_option c e.option b)) (reads_at es e.off (with_option c e.option b)) ≡ reads_at es (cond b e.on e.off) c
      by true = unread es o (CHOICE_WIDTH + length es) e.on e.option true c (o i e at).on_below
      by false = unread es o (CHOICE_WIDTH + length es) e.off e.option false c (o i e at).off_below

module _ (es fs : List ListingEntry) (o : AreAbove es) (p : AreAbove fs) where
  -- an entry doesn't agree with a child that doesn't read the entry's option
  apart : (i : ℕ) (e : ListingEntry) (y : Child) → slice_get es i ≡ Some e → Agree es fs (At i) y → suc e.option < rank fs y → Agree es es e.off e.on
  apart i e y at agree low c long =
      sym (side_read es o i e at c long false)
      ∙ agree (with_option c e.option false) (length-with_option c e.option false ∙ long)
      ∙ unread fs p (CHOICE_WIDTH + length fs) y e.option false c low
      ∙ sym (unread fs p (CHOICE_WIDTH + length fs) y e.option true c low)
      ∙ sym (agree (with_option c e.option true) (length-with_option c e.option true ∙ long))
      ∙ side_read es o i e at c long true

  -- entries with one option that agree have children that agree
  side_agree : (i j : ℕ) (e f : ListingEntry) → slice_get es i ≡ Some e → slice_get fs j ≡ Some f → e.option ≡ f.option → Agree es fs (At i) (At j)
      → (on : Bool) → Agree es fs (cond on e.on e.off) (cond on f.on f.off)
  side_agree i j e f at to same agree on c long =
      sym (side_read es o i e at c long on)
      ∙ agree (with_option c e.option on) (length-with_option c e.option on ∙ long)
      ∙ ap (λ n. reads_at fs (At j) (with_option c n on)) same
      ∙ side_read fs p j f to c long on

  turned : (x y : Child) → Agree es fs x y → Agree fs es y x
  turned x y agree c long = sym (agree c long)

  constants : Agree es fs F T → ⊥
  constants agree = true≢false (sym (agree (replicate CHOICE_WIDTH false) refl))

  constants_turned : Agree es fs T F → ⊥
  constants_turned agree = true≢false (agree (replicate CHOICE_WIDTH false) refl)

entry_of : (es : List ListingEntry) (i : ℕ) → 0 < rank es (At i) → (e : ListingEntry) × (slice_get es i ≡ Some e)
entry_of es i h = by (slice_get es i) refl h
  where
    by : (r : Option ListingEntry) → slice_get es i ≡ r → 0 < rank_at r → (e : ListingEntry) × (slice_get es i ≡ Some e)
    by None at h = absurd (omega (arith, h))
    by (Some e) at h = (e, at)

-- within one listing children that read the same are the same
abbrev OneBelow : List ListingEntry → ℕ → Type 0
OneBelow es s = (x y : Child) → 0 < rank es x → 0 < rank es y → suc (suc CHOICE_WIDTH) ≤ s + rank es x → suc (suc CHOICE_WIDTH) ≤ s + rank es y → Agree es es x y → x ≡ y

module _ (es : List ListingEntry) (o : AreAbove es) (d : are_distinct es ≡ true) (s : ℕ) (rec : OneBelow es s) where
  -- an entry's children don't agree
  needed : (i : ℕ) (e : ListingEntry) → slice_get es i ≡ Some e → suc (suc CHOICE_WIDTH) ≤ suc s + rank_at (Some e) → Agree es es e.off e.on → ⊥
  needed i e at h agree =
      let a = o i e at in
      a.differ (rec e.off e.on (omega (arith, a.off_below)) (omega (arith, a.on_below)) (omega (arith, h, a.off_below)) (omega (arith, h, a.on_below)) agree)

  lower : (i : ℕ) (y : Child) (e : ListingEntry) → slice_get es i ≡ Some e → suc (suc CHOICE_WIDTH) ≤ suc s + rank es (At i) → suc e.option < rank es y → Agree es es (At i) y → ⊥
  lower i y e at h low agree = needed i e at (subst (λ r. suc (suc CHOICE_WIDTH) ≤ suc s + rank_at r) at h) (apart es es o o i e y at agree low)

  entry_constant : (i : ℕ) (y : Child) → 0 < rank es (At i) → suc (suc CHOICE_WIDTH) ≤ suc s + rank es (At i) → suc CHOICE_WIDTH ≤ rank es y → Agree es es (At i) y → ⊥
  entry_constant i y a h top agree = let e = entry_of es i a in lower i y e.0 e.1 h (omega (arith, top, (o i e.0 e.1).small)) agree

  entries : (i j : ℕ) → 0 < rank es (At i) → 0 < rank es (At j) → suc (suc CHOICE_WIDTH) ≤ suc s + rank es (At i) → suc (suc CHOICE_WIDTH) ≤ suc s + rank es (At j) → Agree es es (At i) (At j) → At i ≡ At j
  entries i j a b h k agree = by (ordered e.0.option f.0.option)
    where
      e : (e : ListingEntry) × (slice_get es i ≡ Some e)
      e = entry_of es i a

      f : (f : ListingEntry) × (slice_get es j ≡ Some f)
      f = entry_of es j b

      by : Order e.0.option f.0.option → At i ≡ At j
      by (below l) = absurd (lower i (At j) e.0 e.1 h (omega (arith, l, ap rank_at f.1)) agree)
      by (above l) = absurd (lower j (At i) f.0 f.1 k (omega (arith, l, ap rank_at e.1)) (turned es es o o (At i) (At j) agree))
      by (level l) =
          let x = o i e.0 e.1 in
          let y = o j f.0 f.1 in
          let hi : suc (suc CHOICE_WIDTH) ≤ suc s + suc e.0.option = subst (λ r. suc (suc CHOICE_WIDTH) ≤ suc s + rank_at r) e.1 h in
          let hj : suc (suc CHOICE_WIDTH) ≤ suc s + suc f.0.option = subst (λ r. suc (suc CHOICE_WIDTH) ≤ suc s + rank_at r) f.1 k in
          let off : e.0.off ≡ f.0.off = rec e.0.off f.0.off (omega (arith, x.off_below)) (omega (arith, y.off_below)) (omega (arith, hi, x.off_below)) (omega (arith, hj, y.off_below))
          (side_agree es es o o i j e.0 f.0 e.1 f.1 l agree false) in
          let on : e.0.on ≡ f.0.on = rec e.0.on f.0.on (omega (arith, x.on_below)) (omega (arith, y.on_below)) (omega (arith, hi, x.on_below)) (omega (arith, hj, y.on_below))
          (side_agree es es o o i j e.0 f.0 e.1 f.1 l agree true) in
          let same : f.0 ≡ e.0 = (λ q. record { option = sym l q; off = sym off q; on = sym on q }) in
          ap At (distinct_at es i j e.0 d e.1 (f.1 ∙ ap Some same))

module _ (es : List ListingEntry) (o : AreAbove es) (d : are_distinct es ≡ true) where
  one_below : (s : ℕ) → OneBelow es s
  one_below zero x y a b h k agree = absurd (omega (arith, h, rank-most es o x))
  one_below (suc s) F F a b h k agree = refl
  one_below (suc s) T T a b h k agree = refl
  one_below (suc s) F T a b h k agree = absurd (constants es es o o agree)
  one_below (suc s) T F a b h k agree = absurd (constants_turned es es o o agree)
  one_below (suc s) F (At j) a b h k agree = absurd (entry_constant es o d s (one_below s) j F b k (omega arith) (turned es es o o F (At j) agree))
  one_below (suc s) T (At j) a b h k agree = absurd (entry_constant es o d s (one_below s) j T b k (omega arith) (turned es es o o T (At j) agree))
  one_below (suc s) (At i) F a b h k agree = absurd (entry_constant es o d s (one_below s) i F a h (omega arith) agree)
  one_below (suc s) (At i) T a b h k agree = absurd (entry_constant es o d s (one_below s) i T a h (omega arith) agree)
  one_below (suc s) (At i) (At j) a b h k agree = entries es o d s (one_below s) i j a b h k agree

  pub one_child : (x y : Child) → 0 < rank es x → 0 < rank es y → Agree es es x y → x ≡ y
  one_child x y a b = one_below (suc (suc CHOICE_WIDTH)) x y a b (omega arith) (omega arith)

  -- an entry's children don't agree
  differ : (i : ℕ) (e : ListingEntry) → slice_get es i ≡ Some e → Agree es es e.off e.on → ⊥
  differ i e at agree = let a = o i e at in a.differ (one_child e.off e.on (omega (arith, a.off_below)) (omega (arith, a.on_below)) agree)

-- two listings at children that read the same
module _ (es fs : List ListingEntry) (o : AreAbove es) (p : AreAbove fs) (d : are_distinct es ≡ true) (g : are_distinct fs ≡ true) where
  no_constant : (i : ℕ) (y : Child) → 0 < rank es (At i) → suc CHOICE_WIDTH ≤ rank fs y → Agree es fs (At i) y → ⊥
  no_constant i y a top agree =
      let e = entry_of es i a in
      differ es o d i e.0 e.1 (apart es fs o p i e.0 y e.1 agree (omega (arith, top, (o i e.0 e.1).small)))

  no_later : (i j : ℕ) (e f : ListingEntry) → slice_get es i ≡ Some e → slice_get fs j ≡ Some f → Agree es fs (At i) (At j) → e.option < f.option → ⊥
  no_later i j e f at to agree l = differ es o d i e at (apart es fs o p i e (At j) at agree (omega (arith, l, ap rank_at to)))

-- the entries below a number are there and read the same in both
record AreAlike (es fs : List ListingEntry) (k : ℕ) : Type 0 where
  left : (i : ℕ) → i < k → 0 < rank es (At i)
  right : (i : ℕ) → i < k → 0 < rank fs (At i)
  agree : (i : ℕ) → i < k → Agree es fs (At i) (At i)

counted_parts : (go : ℕ → Option ℕ) (r : Option ℕ) (m : ℕ) → counted_on go r ≡ Some m → (k : ℕ) × (r ≡ Some k) × (go k ≡ Some m)
counted_parts go None m h = absurd (cc)
counted_parts go (Some k) m h = (k, refl, h)

module _ (es fs : List ListingEntry) (o : AreAbove es) (p : AreAbove fs) (d : are_distinct es ≡ true) (g : are_distinct fs ≡ true) where
  one_option : (i j : ℕ) (e f : ListingEntry) → slice_get es i ≡ Some e → slice_get fs j ≡ Some f → Agree es fs (At i) (At j) → e.option ≡ f.option
  one_option i j e f at to agree = by (ordered e.option f.option)
    where
      by : Order e.option f.option → e.option ≡ f.option
      by (below l) = absurd (no_later es fs o p d g i j e f at to agree l)
      by (level l) = l
      by (above l) = absurd (no_later fs es p o g d j i f e to at (turned es fs o p (At i) (At j) agree) l)

  abbrev Walks : ℕ → Type 0
  Walks s = (x y : Child) (k m n : ℕ) → 0 < rank es x → 0 < rank fs y → suc CHOICE_WIDTH ≤ s + rank es x → AreAlike es fs k → Agree es fs x y
      → count_walk es s x k ≡ Some m → count_walk fs s y k ≡ Some n → (m ≡ n) × AreAlike es fs m

  both_end : (k m n : ℕ) → AreAlike es fs k → Some k ≡ Some m → Some k ≡ Some n → (m ≡ n) × AreAlike es fs m
  both_end k m n a h l = (sym (some-same h) ∙ some-same l, subst (AreAlike es fs) (some-same h) a)

  module _ (s : ℕ) (rec : Walks s) (i j k m n : ℕ) (a : 0 < rank es (At i)) (b : 0 < rank fs (At j)) (high : suc CHOICE_WIDTH ≤ suc s + rank es (At i)) (alike : AreAlike es fs k) (agree : Agree es fs (At i) (At j)) where
    -- an entry met before is met before in both
    known_left : i < k → i ≡ j
    known_left l = at-same (one_child fs p g (At i) (At j) (alike.right i l) b (λ c long. sym (alike.agree i l c long) ∙ agree c long))
      where
        at-same : At i ≡ At j → i ≡ j
        at-same h = cc

    known_right : j < k → i ≡ j
    known_right l = at-same (one_child es o d (At i) (At j) a (alike.left j l) (λ c long. agree c long ∙ sym (alike.agree j l c long)))
      where
        at-same : At i ≡ At j → i ≡ j
        at-same h = cc

    module _ (e f : ListingEntry) (at : slice_get es i ≡ Some e) (to : slice_get fs j ≡ Some f) where
      both_new : i ≡ k → j ≡ k → counted_on (count_walk es s e.on) (count_walk es s e.off (k + 1)) ≡ Some m → counted_on (count_walk fs s f.on) (count_walk fs s f.off (k + 1)) ≡ Some n
          → (m ≡ n) × AreAlike es fs m
      both_new ik jk h l =
          let x = counted_parts (count_walk es s e.on) (count_walk es s e.off (k + 1)) m h in
          let y = counted_parts (count_walk fs s f.on) (count_walk fs s f.off (k + 1)) n l in
          let same : e.option ≡ f.option = one_option i j e f at to agree in
          let u = o i e at in
          let v = p j f to in
          let tall : suc CHOICE_WIDTH ≤ suc s + suc e.option = subst (λ r. suc CHOICE_WIDTH ≤ suc s + rank_at r) at high in
          let first = rec e.off f.off (k + 1) x.0 y.0 (omega (arith, u.off_below)) (omega (arith, v.off_below)) (omega (arith, tall, u.off_below)) (one_more ik jk)
          (side_agree es fs o p i j e f at to same agree false) x.1 y.1 in
          rec e.on f.on x.0 m n (omega (arith, u.on_below)) (omega (arith, v.on_below)) (omega (arith, tall, u.on_below)) first.1
          (side_agree es fs o p i j e f at to same agree true) x.2 (ap (count_walk fs s f.on) first.0 ∙ y.2)
        where
          one_more : i ≡ k → j ≡ k → AreAlike es fs (k + 1)
          one_more ik jk = record {
            left = λ q l. left_at q (ordered q k) l;
            right = λ q l. right_at q (ordered q k) l;
            agree = λ q l. agree_at q (ordered q k) l;
          }
            where
              left_at : (q : ℕ) → Order q k → q < k + 1 → 0 < rank es (At q)
              left_at q (below w) l = alike.left q w
              left_at q (level w) l = subst (λ r. 0 < rank es (At r)) (ik ∙ sym w) a
              left_at q (above w) l = absurd (omega (arith, w, l))

              right_at : (q : ℕ) → Order q k → q < k + 1 → 0 < rank fs (At q)
              right_at q (below w) l = alike.right q w
              right_at q (level w) l = subst (λ r. 0 < rank fs (At r)) (jk ∙ sym w) b
              right_at q (above w) l = absurd (omega (arith, w, l))

              agree_at : (q : ℕ) → Order q k → q < k + 1 → Agree es fs (At q) (At q)
              agree_at q (below w) l = alike.agree q w
              agree_at q (level w) l = subst (λ (r : ℕ × ℕ). Agree es fs (At r.0) (At r.1)) (λ z. ((ik ∙ sym w) z, (jk ∙ sym w) z)) agree
              agree_at q (above w) l = absurd (omega (arith, w, l))

      by_numbers : (x y : Bool) → nat_eq i k ≡ x → nat_eq j k ≡ y
          → cond x (counted_on (count_walk es s e.on) (count_walk es s e.off (k + 1))) None ≡ Some m
          → cond y (counted_on (count_walk fs s f.on) (count_walk fs s f.off (k + 1))) None ≡ Some n → (m ≡ n) × AreAlike es fs m
      by_numbers true true x y h l = both_new (eqb-true i k x) (eqb-true j k y) h l
      by_numbers false y q r h l = absurd (cc)
      by_numbers true false q r h l = absurd (cc)

      by_met : (x y : Bool) → nat_lt i k ≡ x → nat_lt j k ≡ y
          → cond x (Some k) (cond (nat_eq i k) (counted_on (count_walk es s e.on) (count_walk es s e.off (k + 1))) None) ≡ Some m
          → cond y (Some k) (cond (nat_eq j k) (counted_on (count_walk fs s f.on) (count_walk fs s f.off (k + 1))) None) ≡ Some n → (m ≡ n) × AreAlike es fs m
      by_met true true x y h l = both_end k m n alike h l
      by_met false false x y h l = by_numbers (nat_eq i k) (nat_eq j k) refl refl h l
      by_met true false x y h l =
          let q : i ≡ j = known_left (ltb-true i k x) in
          absurd (true≢false (sym (ap (λ r. nat_lt r k) (sym q) ∙ x) ∙ y))
      by_met false true x y h l =
          let q : i ≡ j = known_right (ltb-true j k y) in
          absurd (true≢false (sym (ap (λ r. nat_lt r k) q ∙ y) ∙ x))

    at_both : count_walk es (suc s) (At i) k ≡ Some m → count_walk fs (suc s) (At j) k ≡ Some n → (m ≡ n) × AreAlike es fs m
    at_both h l =
        let e = entry_of es i a in
        let f = entry_of fs j b in
        by_met e.0 f.0 e.1 f.1 (nat_lt i k) (nat_lt j k) refl refl
        (ap (λ r. cond (nat_lt i k) (Some k) (counted_entry (count_walk es s) i k r)) (sym e.1) ∙ h)
        (ap (λ r. cond (nat_lt j k) (Some k) (counted_entry (count_walk fs s) j k r)) (sym f.1) ∙ l)

  -- walks of two listings from children that read the same meet entries that read the same
  walk_alike : (s : ℕ) → Walks s
  walk_alike s F F k m n a b h alike agree x y = both_end k m n alike x y
  walk_alike s T T k m n a b h alike agree x y = both_end k m n alike x y
  walk_alike s F T k m n a b h alike agree x y = absurd (constants es fs o p agree)
  walk_alike s T F k m n a b h alike agree x y = absurd (constants_turned es fs o p agree)
  walk_alike s F (At j) k m n a b h alike agree x y = absurd (no_constant fs es p o g d j F b (omega arith) (turned es fs o p F (At j) agree))
  walk_alike s T (At j) k m n a b h alike agree x y = absurd (no_constant fs es p o g d j T b (omega arith) (turned es fs o p T (At j) agree))
  walk_alike s (At i) F k m n a b h alike agree x y = absurd (no_constant es fs o p d g i F a (omega arith) agree)
  walk_alike s (At i) T k m n a b h alike agree x y = absurd (no_constant es fs o p d g i T a (omega arith) agree)
  walk_alike zero (At i) (At j) k m n a b h alike agree x y = let e = entry_of es i a in absurd (omega (arith, h, ap rank_at e.1, (o i e.0 e.1).small))
  walk_alike (suc s) (At i) (At j) k m n a b h alike agree x y = at_both s (walk_alike s) i j k m n a b h alike agree x y

  -- children that read the same are the same, where all entries read the same
  module _ (alike : AreAlike es fs (length es)) where
    one_for_both : (x y : Child) → 0 < rank es x → 0 < rank fs y → Agree es fs x y → x ≡ y
    one_for_both F F a b agree = refl
    one_for_both T T a b agree = refl
    one_for_both F T a b agree = absurd (constants es fs o p agree)
    one_for_both T F a b agree = absurd (constants_turned es fs o p agree)
    one_for_both F (At j) a b agree = absurd (no_constant fs es p o g d j F b (omega arith) (turned es fs o p F (At j) agree))
    one_for_both T (At j) a b agree = absurd (no_constant fs es p o g d j T b (omega arith) (turned es fs o p T (At j) agree))
    one_for_both (At i) F a b agree = absurd (no_constant es fs o p d g i F a (omega arith) agree)
    one_for_both (At i) T a b agree = absurd (no_constant es fs o p d g i T a (omega arith) agree)
    one_for_both (At i) (At j) a b agree =
        let e = entry_of es i a in
        let within : i < length es = slice_get_within es i e.0 e.1 in
        one_child fs p g (At i) (At j) (alike.right i within) b (λ c long. sym (alike.agree i within c long) ∙ agree c long)

    one_entry : (i : ℕ) → i < length es → slice_get es i ≡ slice_get fs i
    one_entry i within =
        let e = entry_of es i (alike.left i within) in
        let f = entry_of fs i (alike.right i within) in
        let u = o i e.0 e.1 in
        let v = p i f.0 f.1 in
        let agree = alike.agree i within in
        let same : e.0.option ≡ f.0.option = one_option i i e.0 f.0 e.1 f.1 agree in
        let off : e.0.off ≡ f.0.off = one_for_both e.0.off f.0.off (omega (arith, u.off_below)) (omega (arith, v.off_below)) (side_agree es fs o p i i e.0 f.0 e.1 f.1 same agree false) in
        let on : e.0.on ≡ f.0.on = one_for_both e.0.on f.0.on (omega (arith, u.on_below)) (omega (arith, v.on_below)) (side_agree es fs o p i i e.0 f.0 e.1 f.1 same agree true) in
        let is : e.0 ≡ f.0 = (λ q. record { option = same q; off = off q; on = on q }) in
        e.1 ∙ ap Some is ∙ sym f.1

same_items : {A : Type 0} (xs ys : List A) → length xs ≡ length ys → ((i : ℕ) → i < length xs → slice_get xs i ≡ slice_get ys i) → xs ≡ ys
same_items [] [] h at = refl
same_items [] (y ∷ ys) h at = absurd (omega (arith, h))
same_items (x ∷ xs) [] h at = absurd (omega (arith, h))
same_items (x ∷ xs) (y ∷ ys) h at =
    (λ j. some-same (at 0 (omega arith)) j ∷ same_items xs ys (omega (arith, h)) (λ i l. at (suc i) (omega (arith, l))) j)

-- what is known of a reduced listing
record IsKnown (l : ListingValue) : Type 0 where
  ranked : 0 < rank l.entries l.root
  above : AreAbove l.entries
  distinct : are_distinct l.entries ≡ true
  walked : count_walk l.entries CHOICE_WIDTH l.root 0 ≡ Some (length l.entries)

known : (l : ListingValue) → has_options_below CHOICE_WIDTH l ≡ true → is_reduced l ≡ true → IsKnown l
known l small h = record {
  ranked = root l.root (and_parts _ _ h).0;
  above = above_from l.entries small (and_parts _ _ rest).0;
  distinct = (and_parts _ _ (and_parts _ _ rest).1).0;
  walked = counted (count_walk l.entries CHOICE_WIDTH l.root 0) (walk_by_count l ∙ (and_parts _ _ (and_parts _ _ rest).1).1);
}
  where
    rest : (list_all (is_ordered l.entries) l.entries && (are_distinct l.entries && is_in_walk_order l)) ≡ true
    rest = (and_parts (is_in_range l.entries l.root) _ h).1

    root : (x : Child) → is_in_range l.entries x ≡ true → 0 < rank l.entries x
    root F h = omega arith
    root T h = omega arith
    root (At i) h = let e = get_some l.entries i (ltb-true i (length l.entries) h) in omega (arith, ap rank_at e.1)

    counted : (r : Option ℕ) → is_count r (length l.entries) ≡ true → r ≡ Some (length l.entries)
    counted None h = absurd (true≢false (sym h))
    counted (Some m) h = ap Some (eqb-true m (length l.entries) h)

pub one_listing : (l m : ListingValue) → has_options_below CHOICE_WIDTH l ≡ true → has_options_below CHOICE_WIDTH m ≡ true → is_reduced l ≡ true → is_reduced m ≡ true
    → ((c : List Bool) → length c ≡ CHOICE_WIDTH → reads l c ≡ reads m c) → l ≡ m
one_listing l m small few h k agree =
    let a = known l small h in
    let b = known m few k in
    let both = walk_alike l.entries m.entries a.above b.above a.distinct b.distinct CHOICE_WIDTH l.root m.root 0 (length l.entries) (length m.entries) a.ranked b.ranked (omega (arith, a.ranked))
    (record { left = λ i z. absurd (omega (arith, z)); right = λ i z. absurd (omega (arith, z)); agree = λ i z. absurd (omega (arith, z)) }) agree a.walked b.walked in
    let root : l.root ≡ m.root = one_for_both l.entries m.entries a.above b.above a.distinct b.distinct both.1 l.root m.root a.ranked b.ranked agree in
    let entries : l.entries ≡ m.entries = same_items l.entries m.entries both.0 (one_entry l.entries m.entries a.above b.above a.distinct b.distinct both.1) in
    (λ j. record { root = root j; entries = entries j })
