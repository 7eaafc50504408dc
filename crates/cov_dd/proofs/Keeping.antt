-- Entries kept one after another, from the oldest on.
use Rattle.std.proofs.Common.{◌≡◌, inl, inr, ℕ, zero, suc, ◌+◌, ◌-◌, ◌<◌, ◌≤◌, ◌==◌, ◌||◌, Bool, true, false, cond, List, [], ◌∷◌, ◌++◌, length, map, take, drop, set, get_or, slice_get, slice_index, Some, None, refl, sym, ap, ◌∙◌, subst, arith, length-append, length-take-le, get_or-drop, take_all}
use Rattle.std.specs.List.{list_any, AllByRecursion}
use Rattle.std.proofs.lemmas.Bool.{eqb-true, eqb-false}
use Rattle.std.proofs.lemmas.List.{append-nil, nil_from_length, length-map, take-append-drop, drop_all, get_or-append_right, get_or_default}
use Rattle.std.proofs.lemmas.List.Edits.{map_over_more}
use Rattle.cov_dd.specs.declared.triple.Triple.{Triple}
use Rattle.cov_dd.specs.Diagrams.{diagram_size, entry_in, IsDiagram, Placed}
use Rattle.cov_dd.specs.Reached.{count_below, reaches}
use Rattle.cov_dd.specs.Marks.{is_marked, IsClosed, AreMarked, KeptValue, AreKept, passing, numbers_below, kept_of, renumbered}
use Rattle.cov_dd.specs.Sweeps.{IsRenumbered, AreRenumbered, AreReached}
use Rattle.cov_dd.proofs.Nodes.{node_count-append}
use Rattle.cov_dd.proofs.Passing.{count-most, counted, diagram-tail, closed-tail, size-passing, new-passing, diagram-passing, kept-none, length-numbers, number-at, entry-beyond, renumbered_node, reaches-passing, image}

there-within : (ys : List ℕ) (i x : ℕ) → slice_get ys i ≡ Some x → i < length ys
there-within [] i x h = absurd (cc)
there-within (y ∷ ys) zero x h = omega arith
there-within (y ∷ ys) (suc i) x h = let rest = there-within ys i x h in omega (arith, rest)

there-read : (ys : List ℕ) (i x : ℕ) → slice_get ys i ≡ Some x → x ≡ get_or ys i x
there-read [] i x h = refl
there-read (y ∷ ys) zero x h = let same : y ≡ x = cc in sym same
there-read (y ∷ ys) (suc i) x h = there-read ys i x h

none-past : (ys : List ℕ) (i : ℕ) → slice_get ys i ≡ None → length ys ≤ i
none-past [] i h = omega arith
none-past (y ∷ ys) zero h = absurd (cc)
none-past (y ∷ ys) (suc i) h = let rest = none-past ys i h in omega (arith, rest)

all-at : (P : ℕ → Type 0) (xs : List ℕ) (i : ℕ) → i < length xs → AllByRecursion P xs → P (get_or xs i 0)
all-at P [] i h all = absurd (omega (arith, h))
all-at P (x ∷ xs) zero h all = all.0
all-at P (x ∷ xs) (suc i) h all = all-at P xs i (omega (arith, h)) all.1

-- nodes below an index have their numbers, and the others are as they were
module _ (f : ℕ → ℕ) (xs ys : List ℕ) (i : ℕ) (low : i ≤ length xs) (is : ys ≡ map f (take i xs) ++ drop i xs) where
  length-mapped : length ys ≡ length xs
  length-mapped =
      ap length is ∙ length-append (map f (take i xs)) (drop i xs)
      ∙ (λ j. length-map (take i xs) f j + length (drop i xs)) ∙ sym (length-append (take i xs) (drop i xs)) ∙ ap length (take-append-drop i xs)

  module _ (x : ℕ) (there : slice_get ys i ≡ Some x) where
    pub mapped-within : i < length xs
    mapped-within = let within = there-within ys i x there in omega (arith, within, length-mapped)

    pub mapped-more : set ys i (f x) ≡ map f (take (i + 1) xs) ++ drop (i + 1) xs
    mapped-more = map_over_more f xs ys i x mapped-within is (there-read ys i x there)

    pub mapped-item : (P : ℕ → Type 0) → AllByRecursion P xs → P x
    mapped-item P all =
        subst P (sym (get_or-drop-at ∙ get_or_default xs i x 0 mapped-within)) (all-at P xs i mapped-within all)
      where
        get_or-drop-at : x ≡ get_or xs i x
        get_or-drop-at =
            there-read ys i x there ∙ ap (λ l. get_or l i x) is
            ∙ get_or-append_right (map f (take i xs)) (drop i xs) i i x (length-map (take i xs) f ∙ length-take-le i xs low) (omega arith)
            ∙ get_or-drop i xs (i - i) x ∙ (let none : i + (i - i) ≡ i = omega arith in ap (λ k. get_or xs k x) none)

  pub mapped-all : slice_get ys i ≡ None → ys ≡ map f xs
  mapped-all none =
      let past = none-past ys i none in
      is ∙ (λ j. map f (take_all i xs (omega (arith, past, length-mapped)) j) ++ drop_all i xs (omega (arith, past, length-mapped)) j) ∙ append-nil (map f xs)

-- the entry of the first node that wasn't met
next-met : (more met : List Triple) (t : Triple) → entry_in (more ++ met) (diagram_size met) ≡ Some t → (front : List Triple) × (more ++ met ≡ front ++ t ∷ met)
next-met [] met t h = let none = entry-beyond met (diagram_size met) (omega arith) in absurd (cc)
next-met (s ∷ more) met t h = by (diagram_size met == diagram_size (more ++ met)) refl h (next-met more met t)
  where
    by : (b : Bool) → (diagram_size met == diagram_size (more ++ met)) ≡ b → cond b (Some s) (entry_in (more ++ met) (diagram_size met)) ≡ Some t
        → (entry_in (more ++ met) (diagram_size met) ≡ Some t → (front : List Triple) × (more ++ met ≡ front ++ t ∷ met)) → (front : List Triple) × (s ∷ more ++ met ≡ front ++ t ∷ met)
    by true e is rest =
        let same : s ≡ t = cc in
        let size = eqb-true (diagram_size met) (diagram_size (more ++ met)) e in
        let none : more ≡ [] = nil_from_length more (omega (arith, size, node_count-append more met)) in
        ([], λ j. same j ∷ (none j ++ met))
    by false e is rest = let r = rest is in (s ∷ r.0, ap (λ l. s ∷ l) r.1)

-- where there is no such entry all were met
all-met : (more met : List Triple) → entry_in (more ++ met) (diagram_size met) ≡ None → more ++ met ≡ met
all-met [] met h = refl
all-met (s ∷ more) met h = by (diagram_size met == diagram_size (more ++ met)) refl h (all-met more met)
  where
    by : (b : Bool) → (diagram_size met == diagram_size (more ++ met)) ≡ b → cond b (Some s) (entry_in (more ++ met) (diagram_size met)) ≡ None
        → (entry_in (more ++ met) (diagram_size met) ≡ None → more ++ met ≡ met) → s ∷ more ++ met ≡ met
    by true e is rest = absurd (cc)
    by false e is rest = absurd (eqb-false (diagram_size met) (diagram_size (more ++ met)) e (sym (ap diagram_size (rest is))))

pub kept-long : (p : ℕ → Bool) (ts : List Triple) (node : ℕ) (kept : KeptValue) → AreKept p ts node kept → length kept.numbers ≡ node
kept-long p ts node kept k = ap (λ (v : KeptValue). length v.numbers) k.kept ∙ length-numbers p (diagram_size k.met) ∙ k.at

module _ (p : ℕ → Bool) (constants : (n : ℕ) → n < 2 → p n ≡ true) (ts : List Triple) where
  pub kept-start : (kept : KeptValue) → kept.entries ≡ [] → kept.numbers ≡ 0 ∷ 1 ∷ [] → AreKept p ts 2 kept
  kept-start kept entries numbers = record {
    more = ts;
    met = [];
    is = sym (append-nil ts);
    at = refl;
    kept = (λ j. record { entries = entries j; numbers = numbers j }) ∙ sym (kept-none p constants);
  }

  pub kept-end : (node : ℕ) (kept : KeptValue) → AreKept p ts node kept → entry_in ts node ≡ None → kept ≡ kept_of p ts
  kept-end node kept k none =
      let whole : k.more ++ k.met ≡ k.met = all-met k.more k.met (subst (λ (q : List Triple × ℕ). entry_in q.0 q.1 ≡ None) (λ i. (k.is i, sym k.at i)) none) in
      k.kept ∙ ap (kept_of p) (sym whole ∙ sym k.is)

  -- one entry more is met
  module _ (d : IsDiagram ts) (c : IsClosed p ts) (node : ℕ) (old new : KeptValue) (t : Triple) (so_far : AreKept p ts node old) (is : entry_in ts node ≡ Some t)
      (numbers : new.numbers ≡ old.numbers ++ diagram_size old.entries ∷ [])
      (put : p node ≡ true → (r : ℕ) × Placed old.entries new.entries (renumbered old.numbers t) r) (left : p node ≡ false → new.entries ≡ old.entries) where
    further : (front : List Triple) × (so_far.more ++ so_far.met ≡ front ++ t ∷ so_far.met)
    further = next-met so_far.more so_far.met t (subst (λ (q : List Triple × ℕ). entry_in q.0 q.1 ≡ Some t) (λ i. (so_far.is i, sym so_far.at i)) is)

    whole : ts ≡ further.0 ++ t ∷ so_far.met
    whole = so_far.is ∙ further.1

    diagram : IsDiagram (t ∷ so_far.met)
    diagram = diagram-tail further.0 (t ∷ so_far.met) (subst IsDiagram whole d)

    closed : IsClosed p (t ∷ so_far.met)
    closed = closed-tail p further.0 (t ∷ so_far.met) (subst (IsClosed p) whole c)

    entries_were : old.entries ≡ passing p so_far.met
    entries_were = ap (λ (v : KeptValue). v.entries) so_far.kept

    numbers_were : old.numbers ≡ numbers_below p (diagram_size so_far.met)
    numbers_were = ap (λ (v : KeptValue). v.numbers) so_far.kept

    numbers_are : new.numbers ≡ numbers_below p (suc (diagram_size so_far.met))
    numbers_are = numbers ∙ (λ j. numbers_were j ++ (ap diagram_size entries_were ∙ size-passing p constants so_far.met) j ∷ [])

    triple_is : renumbered old.numbers t ≡ image p constants t
    triple_is =
        (λ j. renumbered (numbers_were j) t)
        ∙ (λ j. record { option = t.option; off = number-at p (diagram_size so_far.met) t.off diagram.1.off_within j; on = number-at p (diagram_size so_far.met) t.on diagram.1.on_within j })

    -- it was put, since it wasn't there
    was_put : p (diagram_size so_far.met) ≡ true → (r : ℕ) → Placed (passing p so_far.met) new.entries (image p constants t) r → new.entries ≡ image p constants t ∷ passing p so_far.met
    was_put passes r placed = elim placed.grown [
      | inl same ↦ absurd ((new-passing p constants t so_far.met diagram.0 closed.0 diagram.1 (closed.1 passes).0 (closed.1 passes).1).absent r (ap (λ l. entry_in l r) (sym same) ∙ placed.entry))
      | inr grown ↦ grown.0
    ]

    entries_are : new.entries ≡ passing p (t ∷ so_far.met)
    entries_are = by (p (diagram_size so_far.met)) refl
      where
        by : (b : Bool) → p (diagram_size so_far.met) ≡ b → new.entries ≡ cond b (image p constants t ∷ passing p so_far.met) (passing p so_far.met)
        by true e =
            let r = put (ap p (sym so_far.at) ∙ e) in
            was_put e r.0 (subst (λ (q : List Triple × Triple). Placed q.0 new.entries q.1 r.0) (λ j. (entries_were j, triple_is j)) r.1)
        by false e = left (ap p (sym so_far.at) ∙ e) ∙ entries_were

    pub kept-step : (after : ℕ) → after ≡ node + 1 → AreKept p ts after new
    kept-step after at = record {
      more = further.0;
      met = t ∷ so_far.met;
      is = whole;
      at = omega (arith, so_far.at, at);
      kept = λ j. record { entries = entries_are j; numbers = numbers_are j };
    }

  -- what a sweep leaves
  module _ (d : IsDiagram ts) (c : IsClosed p ts) where
    numbers_by : (roots : List ℕ) → AllByRecursion (λ r. r < diagram_size ts) roots → map (slice_index (numbers_below p (diagram_size ts))) roots ≡ map (count_below p) roots
    numbers_by [] within = refl
    numbers_by (r ∷ roots) within = λ j. number-at p (diagram_size ts) r within.0 j ∷ numbers_by roots within.1 j

    each_renumbered : (roots : List ℕ) → AllByRecursion (λ r. r < diagram_size ts) roots → AllByRecursion (λ r. p r ≡ true) roots
        → AllByRecursion (λ r. IsRenumbered ts (passing p ts) r (count_below p r)) roots
    each_renumbered [] within pass = tt
    each_renumbered (r ∷ roots) within pass = (renumbered_node p constants ts d c r within.0 pass.0, each_renumbered roots within.1 pass.1)

    pub are_renumbered : (roots : List ℕ) → AllByRecursion (λ r. r < diagram_size ts) roots → AllByRecursion (λ r. p r ≡ true) roots
        → AreRenumbered ts (passing p ts) roots (map (slice_index (numbers_below p (diagram_size ts))) roots)
    are_renumbered roots within pass = record { by = count_below p; is = numbers_by roots within; each = each_renumbered roots within pass }

    any-renumbered : (a : ℕ) → p a ≡ true → (roots : List ℕ) → AllByRecursion (λ r. r < diagram_size ts) roots → AllByRecursion (λ r. p r ≡ true) roots
        → list_any (λ r. reaches (passing p ts) r (count_below p a)) (map (count_below p) roots) ≡ list_any (λ r. reaches ts r a) roots
    any-renumbered a passes [] within pass = refl
    any-renumbered a passes (r ∷ roots) within pass = λ j. reaches-passing p constants ts d c r within.0 pass.0 a passes j || any-renumbered a passes roots within.1 pass.1 j

    pub reached_entries : (roots : List ℕ) → AllByRecursion (λ r. r < diagram_size ts) roots → AllByRecursion (λ r. p r ≡ true) roots
        → ((n : ℕ) → 1 < n → p n ≡ true → list_any (λ r. reaches ts r n) roots ≡ true)
        → AreReached (passing p ts) (map (slice_index (numbers_below p (diagram_size ts))) roots)
    reached_entries roots within pass reached n inner lt =
        let a = counted p (diagram_size ts) n (omega (arith, lt, size-passing p constants ts)) in
        let most = count-most p a.0 in
        let inside : 1 < a.0 = omega (arith, most, a.3, inner) in
        ap (λ l. list_any (λ r. reaches (passing p ts) r n) l) (numbers_by roots within)
        ∙ ap (λ m. list_any (λ r. reaches (passing p ts) r m) (map (count_below p) roots)) (sym a.3)
        ∙ any-renumbered a.0 a.2 roots within pass
        ∙ reached a.0 inside a.2

    pub fewer_entries : diagram_size (passing p ts) ≤ diagram_size ts
    fewer_entries = let most = count-most p (diagram_size ts) in omega (arith, most, size-passing p constants ts)

-- what marks and the numbers by them leave
module _ (ts : List Triple) (d : IsDiagram ts) (roots : List ℕ) (within : AllByRecursion (λ r. r < diagram_size ts) roots) (marks : List Bool) (m : AreMarked ts roots marks)
    (kept : KeptValue) (is : kept ≡ kept_of (is_marked marks) ts) where
  entries_left : kept.entries ≡ passing (is_marked marks) ts
  entries_left = ap (λ (v : KeptValue). v.entries) is

  pub swept_diagram : IsDiagram kept.entries
  swept_diagram = subst IsDiagram (sym entries_left) (diagram-passing (is_marked marks) m.constants ts d m.closed)

  pub swept_fewer : diagram_size kept.entries ≤ diagram_size ts
  swept_fewer = let fewer = fewer_entries (is_marked marks) m.constants ts d m.closed in omega (arith, fewer, ap diagram_size entries_left)

  long : length kept.numbers ≡ diagram_size ts
  long = ap (λ (v : KeptValue). length v.numbers) is ∙ length-numbers (is_marked marks) (diagram_size ts)

  pub swept_within : AllByRecursion (λ r. r < length kept.numbers) roots
  swept_within = subst (λ k. AllByRecursion (λ r. r < k) roots) (sym long) within

  module _ (renumbered : List ℕ) (by : renumbered ≡ map (slice_index kept.numbers) roots) where
    roots_are : renumbered ≡ map (slice_index (numbers_below (is_marked marks) (diagram_size ts))) roots
    roots_are = by ∙ ap (λ (v : KeptValue). map (slice_index v.numbers) roots) is

    pub swept_roots : AreRenumbered ts kept.entries roots renumbered
    swept_roots =
        subst (λ (q : List Triple × List ℕ). AreRenumbered ts q.0 roots q.1) (λ j. (sym entries_left j, sym roots_are j))
        (are_renumbered (is_marked marks) m.constants ts d m.closed roots within m.roots)

    pub swept_reached : AreReached kept.entries renumbered
    swept_reached =
        subst (λ (q : List Triple × List ℕ). AreReached q.0 q.1) (λ j. (sym entries_left j, sym roots_are j))
        (reached_entries (is_marked marks) m.constants ts d m.closed roots within m.roots m.reached)
