-- The listing of a node is that of its test.
use Rattle.std.proofs.Common.{◌≡◌, ℕ, zero, suc, ◌+◌, ◌<◌, ◌≤◌, ◌||◌, ◌==◌, Bool, true, false, not, cond, nat_eq, nat_lt, max, subst, List, [], ◌∷◌, ◌++◌, map, length, Option, Some, None, refl, sym, ap, ◌∙◌, arith, append_assoc}
use Rattle.std.specs.List.{list_any, AllByRecursion, position, position_or_len, flat_map}
use Rattle.std.proofs.lemmas.List.{length-map, map-append}
use Rattle.std.proofs.lemmas.Bool.{eqb-true, eq-eqb, ne_eqb}
use Rattle.cov_base.specs.Choices.{is_on}
use Rattle.cov_base.specs.declared.limits.TheConstants.{CHOICE_WIDTH}
use Rattle.cov_base.proofs.CallerLemmas.{both_ways, is_on-middle}
use Rattle.cov_dd.specs.declared.triple.Triple.{Triple}
use Rattle.cov_dd.specs.Diagrams.{diagram_size, entry_in, top, span, value_in, IsDiagram, IsEntry}
use Rattle.cov_dd.proofs.CallerLemmas.{Order, above, below, level, ordered, canonical, entry_facts, top-most, value-constant}
use Rattle.cov_vis.specs.Decisions.{Decision, Leaf, Branch, same_decision, decision_by, decision_of, decisions, child_at, child_among, entry_among, listing_among, listing_of_decision, listing_of}
use Rattle.cov_vis.specs.Listings.{ListingValue, has_options_below, is_reduced, reads}
use Rattle.cov_vis.specs.Visiting.{Visits, constant, known, further, child_in, listed, listing_of_nodes}
use Rattle.cov_vis.proofs.Branching.{IsProper, decided_at, proper_of, same_decision-is, same_decision-self}
use Rattle.cov_vis.proofs.Testing.{listing_of-below, listing_of-reduced, tree_reads}
use Rattle.cov_vis.proofs.Visited.{constant_small}
use Rattle.cov_vis.proofs.Entries.{length-push}

decision_by-same : (o : ℕ) (t : Decision) → decision_by o t t ≡ t
decision_by-same o t = ap (λ b. cond b t (Branch o t t)) (same_decision-self t)

-- the tree of a node
abbrev decision_in : List Triple → ℕ → Decision
decision_in [] a = Leaf (a == 1)
decision_in (t ∷ ts) a = cond (a == diagram_size ts) (Branch t.option (decision_in ts t.off) (decision_in ts t.on)) (decision_in ts a)

decision_in-reads : (ts : List Triple) (a : ℕ) (c : List Bool) → value_in ts a c ≡ decided_at (decision_in ts a) c
decision_in-reads [] a c = refl
decision_in-reads (t ∷ ts) a c = by (a == diagram_size ts) (decision_in-reads ts a c) (decision_in-reads ts t.on c) (decision_in-reads ts t.off c)
  where
    by : (b : Bool) → value_in ts a c ≡ decided_at (decision_in ts a) c → value_in ts t.on c ≡ decided_at (decision_in ts t.on) c → value_in ts t.off c ≡ decided_at (decision_in ts t.off) c
        → cond b (cond (is_on c t.option) (value_in ts t.on c) (value_in ts t.off c)) (value_in ts a c)
        ≡ decided_at (cond b (Branch t.option (decision_in ts t.off) (decision_in ts t.on)) (decision_in ts a)) c
    by true here on off = λ j. cond (is_on c t.option) (on j) (off j)
    by false here on off = here

decision_in-older : (t : Triple) (ts : List Triple) (a : ℕ) → a < diagram_size ts → decision_in (t ∷ ts) a ≡ decision_in ts a
decision_in-older t ts a h = ap (λ b. cond b (Branch t.option (decision_in ts t.off) (decision_in ts t.on)) (decision_in ts a)) (ne_eqb a (diagram_size ts) (λ e. omega (arith, h, e)))

-- an entry's tree is a decision
decision_in-entry : (ts : List Triple) → IsDiagram ts → (a : ℕ) (t : Triple) → entry_in ts a ≡ Some t → decision_in ts a ≡ Branch t.option (decision_in ts t.off) (decision_in ts t.on)
decision_in-entry [] d a t h = absurd (cc)
decision_in-entry (u ∷ ts) d a t h = by (a == diagram_size ts) h (decision_in-entry ts d.0 a t)
  where
    older : t.off < diagram_size ts → t.on < diagram_size ts → Branch t.option (decision_in ts t.off) (decision_in ts t.on) ≡ Branch t.option (decision_in (u ∷ ts) t.off) (decision_in (u ∷ ts) t.on)
    older off on = λ j. Branch t.option (sym (decision_in-older u ts t.off off) j) (sym (decision_in-older u ts t.on on) j)

    by : (b : Bool) → cond b (Some u) (entry_in ts a) ≡ Some t → (entry_in ts a ≡ Some t → decision_in ts a ≡ Branch t.option (decision_in ts t.off) (decision_in ts t.on))
        → cond b (Branch u.option (decision_in ts u.off) (decision_in ts u.on)) (decision_in ts a) ≡ Branch t.option (decision_in (u ∷ ts) t.off) (decision_in (u ∷ ts) t.on)
    by true is rest =
        let same : u ≡ t = cc in
        let off : u.off ≡ t.off = ap (λ v. v.off) same in
        let on : u.on ≡ t.on = ap (λ v. v.on) same in
        (λ j. Branch (same j).option (decision_in ts (same j).off) (decision_in ts (same j).on)) ∙ older (omega (arith, off, d.1.off_within)) (omega (arith, on, d.1.on_within))
    by false is rest =
        let e : IsEntry ts a t = entry_facts ts d.0 a t is in
        rest is ∙ older (omega (arith, e.off_before, e.within)) (omega (arith, e.on_before, e.within))

-- that of any other node is none
decision_in-none : (ts : List Triple) (a : ℕ) → entry_in ts a ≡ None → decision_in ts a ≡ Leaf (a == 1)
decision_in-none [] a h = refl
decision_in-none (t ∷ ts) a h = by (a == diagram_size ts) h (decision_in-none ts a)
  where
    by : (b : Bool) → cond b (Some t) (entry_in ts a) ≡ None → (entry_in ts a ≡ None → decision_in ts a ≡ Leaf (a == 1))
        → cond b (Branch t.option (decision_in ts t.off) (decision_in ts t.on)) (decision_in ts a) ≡ Leaf (a == 1)
    by true is rest = absurd (cc)
    by false is rest = rest is

decision_of-constant : (n o : ℕ) (test : List Bool → Bool) (b : Bool) → ((c : List Bool) → test c ≡ b) → decision_of n o test ≡ Leaf b
decision_of-constant zero o test b h = ap Leaf (h [])
decision_of-constant (suc n) o test b h =
    (λ j. decision_by o (decision_of-constant n (o + 1) (λ c. test (false ∷ c)) b (λ c. h (false ∷ c)) j) (decision_of-constant n (o + 1) (λ c. test (true ∷ c)) b (λ c. h (true ∷ c)) j))
    ∙ decision_by-same o (Leaf b)

-- no node has an option at or above the width of a choice
span-most : (ts : List Triple) (a : ℕ) → IsDiagram ts → span ts a ≤ CHOICE_WIDTH
span-most [] a d = omega arith
span-most (t ∷ ts) a d = by (a == diagram_size ts) (span-most ts a d.0) (span-most ts t.off d.0) (span-most ts t.on d.0)
  where
    by : (b : Bool) → span ts a ≤ CHOICE_WIDTH → span ts t.off ≤ CHOICE_WIDTH → span ts t.on ≤ CHOICE_WIDTH → cond b (max (t.option + 1) (max (span ts t.off) (span ts t.on))) (span ts a) ≤ CHOICE_WIDTH
    by true h off on = omega (arith, off, on, d.1.off_above, top-most ts t.off d.0)
    by false h off on = h

module _ (ts : List Triple) (d : IsDiagram ts) where
  one_decision : (a b : ℕ) → a < diagram_size ts → b < diagram_size ts → decision_in ts a ≡ decision_in ts b → a ≡ b
  one_decision a b x y h = canonical ts d a b x y (λ c long. decision_in-reads ts a c ∙ ap (λ t. decided_at t c) h ∙ sym (decision_in-reads ts b c))

  same_as_node : (a b : ℕ) → a < diagram_size ts → b < diagram_size ts → same_decision (decision_in ts a) (decision_in ts b) ≡ nat_eq a b
  same_as_node a b x y = both_ways _ _
      (λ h. eq-eqb a b (one_decision a b x y (same_decision-is _ _ h)))
      (λ h. ap (λ n. same_decision (decision_in ts a) (decision_in ts n)) (sym (eqb-true a b h)) ∙ same_decision-self (decision_in ts a))

  -- a node with no option before o, behind so many values
  abbrev IsDecision : ℕ → Type 0
  IsDecision n = (o a : ℕ) (before : List Bool) → a < diagram_size ts → length before ≡ o → o ≤ top ts a → span ts a ≤ o + n → decision_in ts a ≡ decision_of n o (λ c. value_in ts a (before ++ c))

  constant_decision : (n o a : ℕ) (before : List Bool) → a < diagram_size ts → entry_in ts a ≡ None → decision_in ts a ≡ decision_of n o (λ c. value_in ts a (before ++ c))
  constant_decision n o a before within is =
      decision_in-none ts a is ∙ sym (decision_of-constant n o (λ c. value_in ts a (before ++ c)) (a == 1) (λ c. value-constant ts a (before ++ c) (constant_small ts d a within is)))

  module _ (n : ℕ) (rec : IsDecision n) (o a : ℕ) (before : List Bool) (within : a < diagram_size ts) (long : length before ≡ o) (most : span ts a ≤ o + suc n) where
    -- a node that doesn't read the option has the same tree on both sides
    skipped : (b : Bool) → o + 1 ≤ top ts a → decision_in ts a ≡ decision_of n (o + 1) (λ c. value_in ts a (before ++ b ∷ c))
    skipped b low =
        rec (o + 1) a (before ++ b ∷ []) within (omega (arith, long, length-push before b)) low (omega (arith, most))
        ∙ (λ j. decision_of n (o + 1) (λ c. value_in ts a (append_assoc before (b ∷ []) c j)))

    module _ (t : Triple) (e : IsEntry ts a t) (at : t.option ≡ o) where
      abbrev child : Bool → ℕ
      child b = cond b t.on t.off

      read : (b : Bool) (c : List Bool) → value_in ts (child b) (before ++ b ∷ c) ≡ value_in ts a (before ++ b ∷ c)
      read b c = sym (e.value (before ++ b ∷ c) ∙ ap (λ x. cond x (value_in ts t.on (before ++ b ∷ c)) (value_in ts t.off (before ++ b ∷ c))) (ap (is_on (before ++ b ∷ c)) (at ∙ sym long) ∙ is_on-middle before c b) ∙ by b)
        where
          by : (x : Bool) → cond x (value_in ts t.on (before ++ b ∷ c)) (value_in ts t.off (before ++ b ∷ c)) ≡ value_in ts (child x) (before ++ b ∷ c)
          by true = refl
          by false = refl

      side : (b : Bool) → child b < diagram_size ts → o + 1 ≤ top ts (child b) → span ts (child b) ≤ (o + 1) + n → decision_in ts (child b) ≡ decision_of n (o + 1) (λ c. value_in ts a (before ++ b ∷ c))
      side b inside low narrow =
          rec (o + 1) (child b) (before ++ b ∷ []) inside (omega (arith, long, length-push before b)) low narrow
          ∙ (λ j. decision_of n (o + 1) (λ c. (ap (value_in ts (child b)) (append_assoc before (b ∷ []) c) ∙ read b c) j))

      decided : decision_in ts a ≡ Branch t.option (decision_in ts t.off) (decision_in ts t.on) → decision_in ts a ≡ decision_of (suc n) o (λ c. value_in ts a (before ++ c))
      decided is =
          let off : t.off < diagram_size ts = omega (arith, e.off_before, within) in
          let on : t.on < diagram_size ts = omega (arith, e.on_before, within) in
          let differ : same_decision (decision_in ts t.off) (decision_in ts t.on) ≡ false = same_as_node t.off t.on off on ∙ ne_eqb t.off t.on e.differ in
          is
          ∙ ap (λ b. cond b (decision_in ts t.off) (Branch t.option (decision_in ts t.off) (decision_in ts t.on))) (sym differ)
          ∙ (λ j. decision_by (at j)
          (side false off (omega (arith, at, e.off_above)) (omega (arith, most, e.spans)) j)
          (side true on (omega (arith, at, e.on_above)) (omega (arith, most, e.spans)) j))

    by_order : o ≤ top ts a → (t : Triple) → entry_in ts a ≡ Some t → Order o t.option → decision_in ts a ≡ decision_of (suc n) o (λ c. value_in ts a (before ++ c))
    by_order low t is (below h) =
        let e = entry_facts ts d a t is in
        sym (decision_by-same o (decision_in ts a)) ∙ (λ j. decision_by o (skipped false (omega (arith, h, e.option)) j) (skipped true (omega (arith, h, e.option)) j))
    by_order low t is (level h) = decided t (entry_facts ts d a t is) (sym h) (decision_in-entry ts d a t is)
    by_order low t is (above h) = let e = entry_facts ts d a t is in absurd (omega (arith, h, low, e.option))

    by_entry : o ≤ top ts a → (r : Option Triple) → entry_in ts a ≡ r → decision_in ts a ≡ decision_of (suc n) o (λ c. value_in ts a (before ++ c))
    by_entry low None is = constant_decision (suc n) o a before within is
    by_entry low (Some t) is = by_order low t is (ordered o t.option)

  decision_of-node : (n : ℕ) → IsDecision n
  decision_of-node zero o a before within long low most = by (entry_in ts a) refl
    where
      by : (r : Option Triple) → entry_in ts a ≡ r → decision_in ts a ≡ decision_of zero o (λ c. value_in ts a (before ++ c))
      by None is = constant_decision zero o a before within is
      by (Some t) is = let e = entry_facts ts d a t is in absurd (omega (arith, low, most, e.option, e.spans))
  decision_of-node (suc n) o a before within long low most = by_entry n (decision_of-node n) o a before within long most low (entry_in ts a) refl

  abbrev AreWithin : List ℕ → Type 0
  AreWithin ns = AllByRecursion (λ n. n < diagram_size ts) ns

  within_push : (ns : List ℕ) (a : ℕ) → AreWithin ns → a < diagram_size ts → AreWithin (ns ++ a ∷ [])
  within_push [] a h x = (x, tt)
  within_push (n ∷ ns) a h x = (h.0, within_push ns a h.1 x)

  any_same : (a : ℕ) → a < diagram_size ts → (ns : List ℕ) → AreWithin ns → list_any (same_decision (decision_in ts a)) (map (decision_in ts) ns) ≡ list_any (nat_eq a) ns
  any_same a x [] h = refl
  any_same a x (n ∷ ns) h = (λ j. same_as_node a n x h.0 j || any_same a x ns h.1 j)

  place_same : (a : ℕ) → a < diagram_size ts → (ns : List ℕ) → AreWithin ns → position_or_len (same_decision (decision_in ts a)) (map (decision_in ts) ns) ≡ position_or_len (nat_eq a) ns
  place_same a x [] h = refl
  place_same a x (n ∷ ns) h = (λ j. cond (not (same_as_node a n x h.0 j)) (1 + place_same a x ns h.1 j) 0)

  position_same : (a : ℕ) → a < diagram_size ts → (ns : List ℕ) → AreWithin ns → position (same_decision (decision_in ts a)) (map (decision_in ts) ns) ≡ position (nat_eq a) ns
  position_same a x ns h = (λ j. cond (nat_lt (place_same a x ns h j) (length-map ns (decision_in ts) j)) (Some (place_same a x ns h j)) None)

  -- the decisions of a node's tree are the trees of the nodes that a walk meets
  decisions_met : {ns ks : List ℕ} {a : ℕ} → Visits ts ns a ks → a < diagram_size ts → AreWithin ns → (decisions (decision_in ts a) (map (decision_in ts) ns) ≡ map (decision_in ts) ks) × AreWithin ks
  decisions_met (constant {ns = ns} {a = a} is) x h = (ap (λ t. decisions t (map (decision_in ts) ns)) (decision_in-none ts a is), h)
  decisions_met (known {ns = ns} {a = a} there) x h = (by (entry_in ts a) refl, h)
    where
      by : (r : Option Triple) → entry_in ts a ≡ r → decisions (decision_in ts a) (map (decision_in ts) ns) ≡ map (decision_in ts) ns
      by None is = ap (λ t. decisions t (map (decision_in ts) ns)) (decision_in-none ts a is)
      by (Some t) is =
          let tree = decision_in-entry ts d a t is in
          ap (λ t. decisions t (map (decision_in ts) ns)) tree
          ∙ ap (λ b. cond b (map (decision_in ts) ns) (decisions (decision_in ts t.on) (decisions (decision_in ts t.off) (map (decision_in ts) ns ++ Branch t.option (decision_in ts t.off) (decision_in ts t.on) ∷ []))))
          (ap (λ t. list_any (same_decision t) (map (decision_in ts) ns)) (sym tree) ∙ any_same a x ns h ∙ there)
  decisions_met (further {ns = ns} {ms = ms} {ks = ks} {a = a} {t = t} is new off on) x h =
      let e = entry_facts ts d a t is in
      let tree = decision_in-entry ts d a t is in
      let u = decisions_met off (omega (arith, e.off_before, x)) (within_push ns a h x) in
      let v = decisions_met on (omega (arith, e.on_before, x)) u.1 in (
        ap (λ t. decisions t (map (decision_in ts) ns)) tree
            ∙ ap (λ b. cond b (map (decision_in ts) ns) (decisions (decision_in ts t.on) (decisions (decision_in ts t.off) (map (decision_in ts) ns ++ Branch t.option (decision_in ts t.off) (decision_in ts t.on) ∷ []))))
            (ap (λ t. list_any (same_decision t) (map (decision_in ts) ns)) (sym tree) ∙ any_same a x ns h ∙ new)
            ∙ ap (λ r. decisions (decision_in ts t.on) (decisions (decision_in ts t.off) (map (decision_in ts) ns ++ r ∷ []))) (sym tree)
            ∙ ap (λ l. decisions (decision_in ts t.on) (decisions (decision_in ts t.off) l)) (sym (map-append (decision_in ts) ns (a ∷ [])))
            ∙ ap (decisions (decision_in ts t.on)) u.0
            ∙ v.0,
        v.1,
      )

  child_same : (ns : List ℕ) → AreWithin ns → (a : ℕ) → a < diagram_size ts → child_among (map (decision_in ts) ns) (decision_in ts a) ≡ child_in ns a
  child_same ns h a x = by a x (entry_in ts a) refl
    where
      by : (a : ℕ) → a < diagram_size ts → (r : Option Triple) → entry_in ts a ≡ r → child_among (map (decision_in ts) ns) (decision_in ts a) ≡ child_in ns a
      by zero x None is = ap (child_among (map (decision_in ts) ns)) (decision_in-none ts 0 is)
      by (suc zero) x None is = ap (child_among (map (decision_in ts) ns)) (decision_in-none ts 1 is)
      by (suc (suc a)) x None is = let small = constant_small ts d (suc (suc a)) x is in absurd (omega (arith, small))
      by zero x (Some t) is = let e = entry_facts ts d 0 t is in absurd (omega (arith, e.inner))
      by (suc zero) x (Some t) is = let e = entry_facts ts d 1 t is in absurd (omega (arith, e.inner))
      by (suc (suc a)) x (Some t) is =
          let tree = decision_in-entry ts d (suc (suc a)) t is in
          ap (child_among (map (decision_in ts) ns)) tree
          ∙ ap (λ t. child_at (position (same_decision t) (map (decision_in ts) ns))) (sym tree)
          ∙ ap child_at (position_same (suc (suc a)) x ns h)

  entries_same : (all : List ℕ) → AreWithin all → (ns : List ℕ) → AreWithin ns → flat_map (entry_among (map (decision_in ts) all)) (map (decision_in ts) ns) ≡ flat_map (λ n. listed all (entry_in ts n)) ns
  entries_same all h [] k = refl
  entries_same all h (n ∷ ns) k = (λ j. by (entry_in ts n) refl j ++ entries_same all h ns k.1 j)
    where
      by : (r : Option Triple) → entry_in ts n ≡ r → entry_among (map (decision_in ts) all) (decision_in ts n) ≡ listed all r
      by None is = ap (entry_among (map (decision_in ts) all)) (decision_in-none ts n is)
      by (Some t) is =
          let e = entry_facts ts d n t is in
          ap (entry_among (map (decision_in ts) all)) (decision_in-entry ts d n t is)
          ∙ (λ j. record {
            option = t.option;
            off = child_same all h t.off (omega (arith, e.off_before, k.0)) j;
            on = child_same all h t.on (omega (arith, e.on_before, k.0)) j;
          } ∷ [])

  -- the listing of the nodes that a walk meets is that of the tree of the first
  nodes_as_tree : (a : ℕ) → a < diagram_size ts → (ns : List ℕ) → Visits ts [] a ns → listing_of_nodes ts ns a ≡ listing_of_decision (decision_in ts a)
  nodes_as_tree a x ns v =
      let all = decisions_met v x tt in
      sym ((λ j. listing_among (all.0 j) (decision_in ts a)) ∙ (λ j. record { root = child_same ns all.1 a x j; entries = entries_same ns all.1 ns all.1 j }))

  node_tree : (a most : ℕ) → a < diagram_size ts → span ts a ≤ most → decision_in ts a ≡ decision_of most 0 (value_in ts a)
  node_tree a most x narrow = decision_of-node most 0 a [] x refl (omega arith) (omega (arith, narrow))

  module _ (a : ℕ) (x : a < diagram_size ts) (ns : List ℕ) (v : Visits ts [] a ns) (l : ListingValue) (h : l ≡ listing_of_nodes ts ns a) where
    pub as_one : (most : ℕ) → span ts a ≤ most → l ≡ listing_of most (value_in ts a)
    as_one most narrow = h ∙ nodes_as_tree a x ns v ∙ ap listing_of_decision (node_tree a most x narrow)

    pub as_low : (most : ℕ) → span ts a ≤ most → has_options_below most l ≡ true
    as_low most narrow = ap (has_options_below most) (as_one most narrow) ∙ listing_of-below most (value_in ts a)

    pub as_reduced : is_reduced l ≡ true
    as_reduced = ap is_reduced (as_one CHOICE_WIDTH (span-most ts a d)) ∙ listing_of-reduced CHOICE_WIDTH (value_in ts a) (omega arith)

    pub as_read : (c : List Bool) → reads l c ≡ value_in ts a c
    as_read c =
        ap (λ m. reads m c) (h ∙ nodes_as_tree a x ns v)
        ∙ tree_reads CHOICE_WIDTH (decision_in ts a) (subst (λ t. IsProper CHOICE_WIDTH t 0) (sym (node_tree a CHOICE_WIDTH x (span-most ts a d))) (proper_of CHOICE_WIDTH 0 CHOICE_WIDTH (value_in ts a) (omega arith))) (omega arith) c
        ∙ sym (decision_in-reads ts a c)
