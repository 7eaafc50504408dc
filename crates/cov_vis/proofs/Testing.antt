-- The listing of a test is reduced, and reads as the test.
use Rattle.std.proofs.Common.{◌≡◌, ◌↔◌, ℕ, zero, suc, ◌+◌, ◌-◌, ◌<◌, ◌≤◌, Bool, true, false, cond, List, [], ◌∷◌, ◌++◌, length, Some, refl, sym, ap, ◌∙◌, subst, arith, append_assoc, append-nil}
use Rattle.std.specs.Prelude.{slice_get, nat_eq, nat_lt}
use Rattle.std.specs.List.{list_any, list_all, AllByRecursion, position, flat_map}
use Rattle.std.proofs.lemmas.Bool.{and_from, eq-eqb, lt-ltb}
use Rattle.std.proofs.lemmas.Option.{slice_get_within}
use Rattle.cov_base.specs.Choices.{is_on}
use Rattle.cov_base.specs.declared.limits.TheConstants.{CHOICE_WIDTH}
use Rattle.cov_vis.specs.declared.listing.Child.TheVariants.{F, T, At}
use Rattle.cov_vis.specs.declared.listing.ListingEntry.{ListingEntry}
use Rattle.cov_vis.specs.Laws.{IsListingOf}
use Rattle.cov_vis.specs.Listings.{ListingValue, has_options_below, reads, reads_from, followed, is_reduced, is_in_range, is_below, option_above, is_ordered, are_distinct, is_in_walk_order}
use Rattle.cov_vis.specs.Counting.{count_walk, counted_entry}
use Rattle.cov_vis.specs.Decisions.{Decision, Leaf, Branch, same_decision, decision_by, decision_of, decisions, child_at, child_among, entry_among, listing_of_decision, listing_of}
use Rattle.cov_vis.proofs.Places.{get_at, get_some, some-same}
use Rattle.cov_vis.proofs.Walking.{is_count, walk_by_count, count_next}
use Rattle.cov_vis.proofs.Reading.{same_child-is}
use Rattle.cov_vis.proofs.Entries.{not_both, all_from, distinct_from, counted_two, length-push}
use Rattle.cov_vis.proofs.Below.{one_listing_below}
use Rattle.cov_vis.proofs.Members.{IsOnce, all_get, position_in, position_new}
use Rattle.cov_vis.proofs.Branching.{decision_tests, IsProper, proper_of, decided_at, decided_of, IsThere, IsKept, IsRooted, met_after, once_after}

module _ (most : ℕ) (all : List Decision) where
  -- each decision has its entry at its place
  entries-length : (ds : List Decision) → AllByRecursion (IsRooted most all) ds → length (flat_map (entry_among all) ds) ≡ length ds
  entries-length [] h = refl
  entries-length (Leaf b ∷ ds) h = absurd h.0
  entries-length (Branch o off on ∷ ds) h = ap suc (entries-length ds h.1)

  entries-get : (ds : List Decision) → AllByRecursion (IsRooted most all) ds → (i : ℕ) (d : Decision) → slice_get ds i ≡ Some d
      → slice_get (flat_map (entry_among all) ds) i ≡ slice_get (entry_among all d) 0
  entries-get [] h i d at = absurd (cc)
  entries-get (Leaf b ∷ ds) h i d at = absurd h.0
  entries-get (Branch o off on ∷ ds) h zero d at = let is : Branch o off on ≡ d = cc in ap (λ x. slice_get (entry_among all x) 0) is
  entries-get (Branch o off on ∷ ds) h (suc i) d at = entries-get ds h.1 i d at

abbrev items : List Decision → List ListingEntry
items all = flat_map (entry_among all) all

abbrev entry : List Decision → ℕ → Decision → Decision → ListingEntry
entry all o off on = record { option = o; off = child_among all off; on = child_among all on }

module _ (most : ℕ) (all : List Decision) (rooted : AllByRecursion (IsRooted most all) all) where
  -- an entry is that of a decision
  record IsOf (i : ℕ) (e : ListingEntry) : Type 0 where
    option : ℕ
    off : Decision
    on : Decision
    stands : slice_get all i ≡ Some (Branch option off on)
    kept : IsKept most all option off on
    is : e ≡ entry all option off on

  of_entry : (i : ℕ) (e : ListingEntry) → slice_get (items all) i ≡ Some e → IsOf i e
  of_entry i e h =
      let within : i < length all = omega (arith, slice_get_within (items all) i e h, entries-length most all all rooted) in
      let d = get_some all i within in
      by d.0 d.1 (all_get (IsRooted most all) all i d.0 rooted d.1) (sym h ∙ entries-get most all all rooted i d.0 d.1)
    where
      by : (d : Decision) → slice_get all i ≡ Some d → IsRooted most all d → Some e ≡ slice_get (entry_among all d) 0 → IsOf i e
      by (Leaf b) at r is = absurd r
      by (Branch o off on) at r is = record { option = o; off = off; on = on; stands = at; kept = r; is = cc }

  -- where a decision stands, with its entry
  record IsPlaced (o : ℕ) (off on : Decision) : Type 0 where
    place : ℕ
    within : place < length all
    child : child_among all (Branch o off on) ≡ At place
    stands : slice_get all place ≡ Some (Branch o off on)
    listed : slice_get (items all) place ≡ Some (entry all o off on)
    kept : IsKept most all o off on

  placed : (o : ℕ) (off on : Decision) → IsThere all (Branch o off on) → IsPlaced o off on
  placed o off on h =
      let p = position_in same_decision decision_tests (Branch o off on) all [] h in
      let whole : position (same_decision (Branch o off on)) all ≡ Some p.0 = ap (position (same_decision (Branch o off on))) (sym (append-nil all)) ∙ p.1 in record {
        place = p.0;
        within = p.2;
        child = ap child_at whole;
        stands = p.3;
        listed = entries-get most all all rooted p.0 (Branch o off on) p.3;
        kept = all_get (IsRooted most all) all p.0 (Branch o off on) rooted p.3;
      }

  -- children are the same only of the same trees
  one_child : (a b : Decision) → IsThere all a → IsThere all b → child_among all a ≡ child_among all b → a ≡ b
  one_child (Leaf false) (Leaf false) h k is = refl
  one_child (Leaf true) (Leaf true) h k is = refl
  one_child (Leaf false) (Leaf true) h k is = absurd (cc)
  one_child (Leaf true) (Leaf false) h k is = absurd (cc)
  one_child (Leaf false) (Branch p c d) h k is = let e : F ≡ At (placed p c d k).place = is ∙ (placed p c d k).child in absurd (cc)
  one_child (Leaf true) (Branch p c d) h k is = let e : T ≡ At (placed p c d k).place = is ∙ (placed p c d k).child in absurd (cc)
  one_child (Branch o a b) (Leaf false) h k is = let e : At (placed o a b h).place ≡ F = sym (placed o a b h).child ∙ is in absurd (cc)
  one_child (Branch o a b) (Leaf true) h k is = let e : At (placed o a b h).place ≡ T = sym (placed o a b h).child ∙ is in absurd (cc)
  one_child (Branch o a b) (Branch p c d) h k is =
      let x = placed o a b h in
      let y = placed p c d k in
      let places : At x.place ≡ At y.place = sym x.child ∙ is ∙ y.child in
      let same : x.place ≡ y.place = cc in
      some-same (sym x.stands ∙ ap (slice_get all) same ∙ y.stands)

  below_child : (o : ℕ) (d : Decision) → IsProper most d (o + 1) → IsThere all d → is_below (items all) o (child_among all d) ≡ true
  below_child o (Leaf false) h k = refl
  below_child o (Leaf true) h k = refl
  below_child o (Branch p c d) h k = let x = placed p c d k in ap (is_below (items all) o) x.child ∙ ap (option_above o) x.listed ∙ lt-ltb o p (omega (arith, h.0))

  ordered_entries : list_all (is_ordered (items all)) (items all) ≡ true
  ordered_entries = all_from (is_ordered (items all)) (items all) one
    where
      one : (i : ℕ) (e : ListingEntry) → slice_get (items all) i ≡ Some e → is_ordered (items all) e ≡ true
      one i e h =
          let x = of_entry i e h in
          let k = x.kept in
          ap (is_ordered (items all)) x.is
          ∙ and_from _ _ (below_child x.option x.off k.off_proper k.off_there)
          (and_from _ _ (below_child x.option x.on k.on_proper k.on_there)
          (not_both _ (λ same. k.differ (one_child x.off x.on k.off_there k.on_there (same_child-is _ _ same)))))

  distinct_entries : IsOnce all → are_distinct (items all) ≡ true
  distinct_entries once = distinct_from (items all) one
    where
      one : (i j : ℕ) (e : ListingEntry) → slice_get (items all) i ≡ Some e → slice_get (items all) j ≡ Some e → i ≡ j
      one i j e h k =
          let x = of_entry i e h in
          let y = of_entry j e k in
          let same = sym x.is ∙ y.is in
          let option : x.option ≡ y.option = ap (λ (e : ListingEntry). e.option) same in
          let off : x.off ≡ y.off = one_child x.off y.off x.kept.off_there y.kept.off_there (ap (λ (e : ListingEntry). e.off) same) in
          let on : x.on ≡ y.on = one_child x.on y.on x.kept.on_there y.kept.on_there (ap (λ (e : ListingEntry). e.on) same) in
          once i j (Branch x.option x.off x.on) x.stands (y.stands ∙ (λ q. Some (Branch (sym option q) (sym off q) (sym on q))))

module _ (most : ℕ) (few : most ≤ CHOICE_WIDTH) (all : List Decision) (rooted : AllByRecursion (IsRooted most all) all) where
  -- the listing reads as the tree
  reads_tree : (d : Decision) (least s : ℕ) (c : List Bool) → IsProper most d least → IsThere all d → CHOICE_WIDTH ≤ s + least → reads_from (items all) s (child_among all d) c ≡ decided_at d c
  reads_tree (Leaf false) least s c h k high = refl
  reads_tree (Leaf true) least s c h k high = refl
  reads_tree (Branch o off on) least zero c h k high = absurd (omega (arith, high, h.0, h.1, few))
  reads_tree (Branch o off on) least (suc s) c h k high =
      let x = placed most all rooted o off on k in
      ap (λ y. reads_from (items all) (suc s) y c) x.child
      ∙ ap (followed c (λ y. reads_from (items all) s y c)) x.listed
      ∙ (λ j. cond (is_on c o) (reads_tree on (o + 1) s c x.kept.on_proper x.kept.on_there (omega (arith, high, h.0)) j) (reads_tree off (o + 1) s c x.kept.off_proper x.kept.off_there (omega (arith, high, h.0)) j))

  count_met : (s i k : ℕ) → i < k → count_walk (items all) s (At i) k ≡ Some k
  count_met zero i k h = refl
  count_met (suc s) i k h = ap (λ b. cond b (Some k) (counted_entry (count_walk (items all) s) i k (slice_get (items all) i))) (lt-ltb i k h)

  -- the count over the listing goes as the walk over the tree
  abbrev Counts : Decision → ℕ → Type 0
  Counts d least = (s : ℕ) (met rest : List Decision) → all ≡ decisions d met ++ rest → CHOICE_WIDTH ≤ s + least → count_walk (items all) s (child_among all d) (length met) ≡ Some (length (decisions d met))

  module _ (o : ℕ) (off on : Decision) (least : ℕ) (h : IsProper most (Branch o off on) least) (first : Counts off (o + 1)) (then : Counts on (o + 1)) (s : ℕ) (met rest : List Decision)
      (high : CHOICE_WIDTH ≤ s + least) where
    abbrev this : Decision
    this = Branch o off on

    abbrev half : List Decision
    half = decisions off (met ++ this ∷ [])

    count_by : (b : Bool) → list_any (same_decision this) met ≡ b → all ≡ cond b met (decisions on half) ++ rest
        → count_walk (items all) s (child_among all this) (length met) ≡ Some (length (cond b met (decisions on half)))
    count_by true e is =
        let p = position_in same_decision decision_tests this met rest e in
        ap (λ r. count_walk (items all) s (child_at r) (length met)) (ap (position (same_decision this)) is ∙ p.1) ∙ count_met s p.0 (length met) p.2
    count_by false e is =
        let u = met_after most off (o + 1) h.3 (met ++ this ∷ []) in
        let v = met_after most on (o + 1) h.4 half in
        let begins : half ≡ met ++ (this ∷ u.0) = u.1 ∙ append_assoc met (this ∷ []) u.0 in
        let through : all ≡ half ++ (v.0 ++ rest) = is ∙ ap (λ l. l ++ rest) v.1 ∙ append_assoc half v.0 rest in
        let whole : all ≡ met ++ (this ∷ (u.0 ++ (v.0 ++ rest))) = through ∙ ap (λ l. l ++ (v.0 ++ rest)) begins ∙ append_assoc met (this ∷ u.0) (v.0 ++ rest) in
        let stands : slice_get all (length met) ≡ Some this = ap (λ l. slice_get l (length met)) whole ∙ get_at met (u.0 ++ (v.0 ++ rest)) this in
        let listed : slice_get (items all) (length met) ≡ Some (entry all o off on) = entries-get most all all rooted (length met) this stands in
        let child : child_among all this ≡ At (length met) = ap child_at (ap (position (same_decision this)) whole ∙ position_new same_decision decision_tests this met (u.0 ++ (v.0 ++ rest)) e) in
        let level : CHOICE_WIDTH ≤ (s - 1) + (o + 1) = omega (arith, high, h.0, h.1, few) in
        sym (count_next (items all) s (child_among all this) (length met) (length met) (entry all o off on) (Some (length (decisions on half))) child
        (λ none. omega (arith, none, high, h.0, h.1, few)) (omega arith) listed refl
        (sym (counted_two (count_walk (items all) (s - 1) (child_among all on)) (count_walk (items all) (s - 1) (child_among all off) (length met + 1)) (length half) (length (decisions on half))
        (ap (count_walk (items all) (s - 1) (child_among all off)) (sym (length-push met this)) ∙ first (s - 1) (met ++ this ∷ []) (v.0 ++ rest) through level)
        (then (s - 1) half rest is level))))

  count_tree : (d : Decision) (least : ℕ) → IsProper most d least → Counts d least
  count_tree (Leaf false) least h s met rest is high = refl
  count_tree (Leaf true) least h s met rest is high = refl
  count_tree (Branch o off on) least h s met rest is high =
      count_by o off on least h (count_tree off (o + 1) h.3) (count_tree on (o + 1) h.4) s met rest high (list_any (same_decision (Branch o off on)) met) refl is

-- the listing of a tree
module _ (most : ℕ) (d : Decision) (proper : IsProper most d 0) where
  abbrev these : List Decision
  these = decisions d []

  known_decisions : IsThere these d × AllByRecursion (IsRooted most these) these
  known_decisions =
      let m = met_after most d 0 proper [] in
      let k = m.2 these [] (sym (append-nil these)) in
      (k.0, subst (AllByRecursion (IsRooted most these)) (sym m.1) k.1)

  root_in_range : (x : Decision) → IsThere these x → is_in_range (items these) (child_among these x) ≡ true
  root_in_range (Leaf false) h = refl
  root_in_range (Leaf true) h = refl
  root_in_range (Branch o off on) h =
      let x = placed most these known_decisions.1 o off on h in
      ap (is_in_range (items these)) x.child ∙ lt-ltb _ _ (omega (arith, x.within, entries-length most these these known_decisions.1))

  in_order : most ≤ CHOICE_WIDTH → is_in_walk_order (listing_of_decision d) ≡ true
  in_order few =
      sym (walk_by_count (listing_of_decision d))
      ∙ ap (λ r. is_count r (length (items these))) (count_tree most few these known_decisions.1 d 0 proper CHOICE_WIDTH [] [] (sym (append-nil these)) (omega arith))
      ∙ ap (nat_eq (length these)) (entries-length most these these known_decisions.1) ∙ eq-eqb (length these) (length these) refl

  pub tree_reduced : most ≤ CHOICE_WIDTH → is_reduced (listing_of_decision d) ≡ true
  tree_reduced few =
      and_from _ _ (root_in_range d known_decisions.0)
      (and_from _ _ (ordered_entries most these known_decisions.1)
      (and_from _ _ (distinct_entries most these known_decisions.1 (once_after d [] (λ i j x h k. absurd (cc)))) (in_order few)))

  pub tree_reads : most ≤ CHOICE_WIDTH → (c : List Bool) → reads (listing_of_decision d) c ≡ decided_at d c
  tree_reads few c = reads_tree most few these known_decisions.1 d 0 (CHOICE_WIDTH + length (items these)) c proper known_decisions.0 (omega arith)

  pub tree_below : has_options_below most (listing_of_decision d) ≡ true
  tree_below = all_from (λ e. nat_lt e.option most) (items these) one
    where
      one : (i : ℕ) (e : ListingEntry) → slice_get (items these) i ≡ Some e → nat_lt e.option most ≡ true
      one i e h =
          let x = of_entry most these known_decisions.1 i e h in
          ap (λ (e : ListingEntry). nat_lt e.option most) x.is ∙ lt-ltb x.option most x.kept.few

decision_of-same : (n o : ℕ) (p q : List Bool → Bool) → ((c : List Bool) → length c ≡ n → p c ≡ q c) → decision_of n o p ≡ decision_of n o q
decision_of-same zero o p q h = ap Leaf (h [] refl)
decision_of-same (suc n) o p q h =
    (λ j. decision_by o
    (decision_of-same n (o + 1) (λ c. p (false ∷ c)) (λ c. q (false ∷ c)) (λ c long. h (false ∷ c) (ap suc long)) j)
    (decision_of-same n (o + 1) (λ c. p (true ∷ c)) (λ c. q (true ∷ c)) (λ c long. h (true ∷ c) (ap suc long)) j))

-- tests that agree on the choices of n options have one listing
pub listing_of-same : (n : ℕ) (p q : List Bool → Bool) → ((c : List Bool) → length c ≡ n → p c ≡ q c) → listing_of n p ≡ listing_of n q
listing_of-same n p q h = ap listing_of_decision (decision_of-same n 0 p q h)

module _ (n : ℕ) (test : List Bool → Bool) where
  proper : IsProper n (decision_of n 0 test) 0
  proper = proper_of n 0 n test (omega arith)

  pub listing_of-below : has_options_below n (listing_of n test) ≡ true
  listing_of-below = tree_below n (decision_of n 0 test) proper

  module _ (few : n ≤ CHOICE_WIDTH) where
    pub listing_of-reduced : is_reduced (listing_of n test) ≡ true
    listing_of-reduced = tree_reduced n (decision_of n 0 test) proper few

    pub listing_of-reads : (c : List Bool) → length c ≡ n → reads (listing_of n test) c ≡ test c
    listing_of-reads c long =
        tree_reads n (decision_of n 0 test) proper few c
        ∙ decided_of n 0 test c c long (λ i h. let from : 0 + i ≡ i = omega arith in ap (is_on c) from)

    listing_of-is : IsListingOf n test (listing_of n test)
    listing_of-is = record { reduced = listing_of-reduced; options = listing_of-below; values = listing_of-reads }

    -- the listing of a test is reduced and reads as it, and no other listing does
    pub one_listing_of : (l : ListingValue) → IsListingOf n test l ↔ (l ≡ listing_of n test)
    one_listing_of l = (
      λ is. one_listing_below n few l (listing_of n test) is.options listing_of-below is.reduced listing_of-reduced (λ c long. is.values c long ∙ sym (listing_of-reads c long)),
      λ is. subst (IsListingOf n test) (sym is) listing_of-is,
    )
