-- The changes of a line before its newest, by the number where they end, and how they stay when a change is put behind.
use Rattle.std.proofs.Common.{◌≡◌, ℕ, zero, suc, ◌+◌, ◌-◌, ◌<◌, ◌≤◌, Bool, true, false, cond, nat_eq, List, [], ◌∷◌, ◌++◌, length, map, set, reverse, Option, Some, None, slice_get, unwrap_or, refl, sym, ap, subst, ◌∙◌, arith}
use Rattle.std.specs.List.{AllByRecursion}
use Rattle.std.specs.Option.{IfSome, option_map, option_map_or}
use Rattle.std.proofs.lemmas.Bool.{eqb-true}
use Rattle.std.proofs.lemmas.Bool.Decides.{nat_tests}
use Rattle.std.proofs.lemmas.Grind.{reverse_onto}
use Rattle.std.proofs.lemmas.List.{length-reverse, length_push, map-set, map_push, reverse-append, reverse-reverse}
use Rattle.std.proofs.lemmas.Option.{none-some, same_Some, slice_get-get_or, slice_get-map, slice_get_within}
use Rattle.cov_base.proofs.CallerLemmas.{all-map}
use Rattle.cov_file.specs.declared.changes.Change.{Change}
use Rattle.cov_file.specs.Kept.{changes_before, changes_of, lists_of, AreLinked, AreChanges, changes_at, is_at, with_node}

get_before : {X : Type 0} (xs : List X) (y : X) (i : ℕ) → i < length xs → slice_get (xs ++ y ∷ []) i ≡ slice_get xs i
get_before [] y i h = absurd (omega (arith, h))
get_before (x ∷ xs) y zero h = refl
get_before (x ∷ xs) y (suc i) h = get_before xs y i (omega (arith, h))

get_last : {X : Type 0} (xs : List X) (y : X) → slice_get (xs ++ y ∷ []) (length xs) ≡ Some y
get_last [] y = refl
get_last (x ∷ xs) y = get_last xs y

beyond : (n m : ℕ) → n ≤ m → nat_eq n (suc m) ≡ false
beyond n m h = grind (arith, nat_tests, h)

itself : (n m : ℕ) → n ≡ m → nat_eq n m ≡ true
itself n m e = grind (arith, nat_tests, e)

-- a line's first change has none before it
pub none_before : (cs : List Change) → changes_before cs 0 ≡ []
none_before [] = refl
none_before (c ∷ cs) = ap (λ b. cond b (changes_of cs c) (changes_before cs 0)) (beyond 0 (length cs) (omega arith)) ∙ none_before cs

-- a change behind the others isn't before those that there were
before_push : (c : Change) (cs : List Change) (n : ℕ) → n ≤ length cs → changes_before (c ∷ cs) n ≡ changes_before cs n
before_push c cs n h = ap (λ b. cond b (changes_of cs c) (changes_before cs n)) (beyond n (length cs) h)

-- its number leads to it
before_last : (c : Change) (cs : List Change) (n : ℕ) → n ≡ suc (length cs) → changes_before (c ∷ cs) n ≡ changes_of cs c
before_last c cs n e = ap (λ b. cond b (changes_of cs c) (changes_before cs n)) (itself n (suc (length cs)) e)

-- a change that leads to one of those that there were has the changes that it had
of_push : (c : Change) (cs : List Change) (d : Change) → d.before ≤ length cs → changes_of (c ∷ cs) d ≡ changes_of cs d
of_push c cs d h = ap (λ l. (d.from, d.node) ∷ l) (before_push c cs d.before h)

-- a number leads to the last of so many changes and to those before it
before_step : (cs : List Change) (i : ℕ) (c : Change) → AreLinked cs → slice_get (reverse cs) i ≡ Some c → (changes_before cs (suc i) ≡ changes_of cs c) × (c.before ≤ i)
before_step [] i c linked found = absurd (cc)
before_step (d ∷ ds) i c linked found = by (nat_eq i (length ds)) refl (before_step ds i c linked.1)
  where
    there : slice_get (reverse ds ++ d ∷ []) i ≡ Some c
    there = ap (λ l. slice_get l i) (sym (reverse_onto ds d [])) ∙ found

    long : length (reverse ds) ≡ length ds
    long = length-reverse ds

    here : i ≡ length ds → (changes_before (d ∷ ds) (suc i) ≡ changes_of (d ∷ ds) c) × (c.before ≤ i)
    here e =
        let index : length (reverse ds) ≡ i = omega (arith, e, long) in
        let last : slice_get (reverse ds ++ d ∷ []) i ≡ Some d = ap (slice_get (reverse ds ++ d ∷ [])) (sym index) ∙ get_last (reverse ds) d in
        let same : d ≡ c = same_Some d c (sym last ∙ there) in
        subst (λ x. (changes_before (d ∷ ds) (suc i) ≡ changes_of (d ∷ ds) x) × (x.before ≤ i)) same
        (before_last d ds (suc i) (ap suc e) ∙ sym (of_push d ds d linked.0), omega (arith, linked.0, e))

    earlier : i < length ds → (slice_get (reverse ds) i ≡ Some c → (changes_before ds (suc i) ≡ changes_of ds c) × (c.before ≤ i)) → (changes_before (d ∷ ds) (suc i) ≡ changes_of (d ∷ ds) c) × (c.before ≤ i)
    earlier h rest =
        let step : (changes_before ds (suc i) ≡ changes_of ds c) × (c.before ≤ i) = rest (sym (get_before (reverse ds) d i (omega (arith, h, long))) ∙ there) in
        (before_push d ds (suc i) (omega (arith, h)) ∙ step.0 ∙ sym (of_push d ds c (omega (arith, h, step.1))), step.1)

    within : i < suc (length ds)
    within = let inside = slice_get_within (reverse ds ++ d ∷ []) i c there in omega (arith, inside, length_push (reverse ds) d, long)

    by : (b : Bool) → nat_eq i (length ds) ≡ b → (slice_get (reverse ds) i ≡ Some c → (changes_before ds (suc i) ≡ changes_of ds c) × (c.before ≤ i)) → (changes_before (d ∷ ds) (suc i) ≡ changes_of (d ∷ ds) c) × (c.before ≤ i)
    by true e rest = here (eqb-true i (length ds) e)
    by false e rest = earlier (grind (arith, nat_tests, e, within)) rest

-- what a number reads of the earlier changes in order
pub before_read : (cs : List Change) (n : ℕ) (o : Option Change) → AreLinked (reverse cs) → 0 < n → n ≤ length cs → o ≡ slice_get cs (n - 1)
    → (changes_before (reverse cs) n ≡ option_map_or (changes_of (reverse cs)) o []) × IfSome o (λ c. c.before < n)
before_read cs zero o linked some within is = absurd (omega (arith, some))
before_read cs (suc i) None linked some within is =
    let there = slice_get-get_or cs i (record { node = 0; from = 0; before = 0 }) (omega (arith, within)) in
    let less : suc i - 1 ≡ i = omega arith in
    absurd (none-some _ (is ∙ ap (slice_get cs) less ∙ there))
before_read cs (suc i) (Some c) linked some within is =
    let less : suc i - 1 ≡ i = omega arith in
    let step = before_step (reverse cs) i c linked (ap (λ l. slice_get l i) (reverse-reverse cs) ∙ ap (slice_get cs) (sym less) ∙ sym is) in
    (step.0, omega (arith, step.1))

-- the lists of lines whose changes lead to those that there were
of_all : (c : Change) (cs : List Change) (newest : List Change) → AllByRecursion (λ d. d.before ≤ length cs) newest → map (changes_of (c ∷ cs)) newest ≡ map (changes_of cs) newest
of_all c cs [] h = refl
of_all c cs (d ∷ ds) h = λ j. of_push c cs d h.0 j ∷ of_all c cs ds h.1 j

all_set : {X : Type 0} (P : X → Type 0) (xs : List X) (i : ℕ) (x : X) → AllByRecursion P xs → P x → AllByRecursion P (set xs i x)
all_set P [] i x h k = tt
all_set P (y ∷ ys) zero x h k = (k, h.1)
all_set P (y ∷ ys) (suc i) x h k = (h.0, all_set P ys i x h.1 k)

all_there : {X : Type 0} (P : X → Type 0) (xs : List X) (i : ℕ) (x : X) → AllByRecursion P xs → slice_get xs i ≡ Some x → P x
all_there P [] i x h found = absurd (none-some x found)
all_there P (y ∷ ys) zero x h found = subst P (same_Some y x found) h.0
all_there P (y ∷ ys) (suc i) x h found = all_there P ys i x h.1 found

-- the changes of the line at an index are those of its newest
at_index : (newest earlier : List Change) (i : ℕ) (c : Change) → slice_get newest i ≡ Some c → slice_get (lists_of newest earlier) i ≡ Some (changes_of (reverse earlier) c)
at_index newest earlier i c found = slice_get-map (changes_of (reverse earlier)) newest i ∙ ap (option_map (changes_of (reverse earlier))) found

-- a line more
pub pushed : (newest earlier : List Change) (c : Change) → c.before ≡ 0 → lists_of (newest ++ c ∷ []) earlier ≡ lists_of newest earlier ++ ((c.from, c.node) ∷ []) ∷ []
pushed newest earlier c first =
    map_push (changes_of (reverse earlier)) newest c
    ∙ ap (λ l. lists_of newest earlier ++ ((c.from, c.node) ∷ l) ∷ []) (ap (changes_before (reverse earlier)) first ∙ none_before (reverse earlier))

module _ (at : ℕ) (newest earlier : List Change) (kept : AreChanges at newest earlier) where
  module _ (i : ℕ) (old : Change) (found : slice_get newest i ≡ Some old) (node : ℕ) where
    ends_within : old.before ≤ length earlier
    ends_within = all_there (λ d. d.before ≤ length earlier) newest i old kept.ends found

    old_list : changes_at (lists_of newest earlier) i ≡ changes_of (reverse earlier) old
    old_list = ap (λ o. unwrap_or o []) (at_index newest earlier i old found)

    -- whether the line's newest change is at a position
    pub newest_at : (p : ℕ) → is_at p (changes_at (lists_of newest earlier) i) ≡ nat_eq old.from p
    newest_at p = ap (is_at p) old_list

    -- another node in the place of the newest
    pub replaced : (c : Change) → c.from ≡ at → c.node ≡ node → c.before ≡ old.before → nat_eq old.from at ≡ true
        → lists_of (set newest i c) earlier ≡ set (lists_of newest earlier) i (with_node at node (changes_at (lists_of newest earlier) i))
    replaced c from is before same =
        map-set (changes_of (reverse earlier)) newest i c
        ∙ ap (set (lists_of newest earlier) i)
        ((λ j. (from j, is j) ∷ changes_before (reverse earlier) (before j))
        ∙ ap (λ b. cond b ((at, node) ∷ changes_before (reverse earlier) old.before) ((at, node) ∷ changes_of (reverse earlier) old)) (sym same)
        ∙ ap (with_node at node) (sym old_list))

    back : reverse (earlier ++ old ∷ []) ≡ old ∷ reverse earlier
    back = reverse-append earlier (old ∷ [])

    long : length (reverse earlier) ≡ length earlier
    long = length-reverse earlier

    all_within : AllByRecursion (λ d. d.before ≤ length (reverse earlier)) newest
    all_within = subst (λ n. AllByRecursion (λ d. d.before ≤ n) newest) (sym long) kept.ends

    -- another change behind the newest
    pub followed : (c : Change) → c.from ≡ at → c.node ≡ node → c.before ≡ length earlier + 1 → nat_eq old.from at ≡ false
        → lists_of (set newest i c) (earlier ++ old ∷ []) ≡ set (lists_of newest earlier) i (with_node at node (changes_at (lists_of newest earlier) i))
    followed c from is before other =
        ap (λ cs. map (changes_of cs) (set newest i c)) back
        ∙ map-set (changes_of (old ∷ reverse earlier)) newest i c
        ∙ (λ j. set (of_all old (reverse earlier) newest all_within j) i ((from j, is j) ∷ before_last old (reverse earlier) c.before (omega (arith, before, long)) j))
        ∙ ap (set (lists_of newest earlier) i)
        (ap (λ b. cond b ((at, node) ∷ changes_before (reverse earlier) old.before) ((at, node) ∷ changes_of (reverse earlier) old)) (sym other)
        ∙ ap (with_node at node) (sym old_list))

    pub followed_kept : (c : Change) → c.from ≡ at → c.before ≡ length earlier + 1 → AreChanges at (set newest i c) (earlier ++ old ∷ [])
    followed_kept c from before = record {
      linked = subst AreLinked (sym back) (omega (arith, ends_within, long), kept.linked);
      ends = all_set (λ d. d.before ≤ length (earlier ++ old ∷ [])) newest i c
          (all-map (λ d. d.before ≤ length earlier) (λ d. d.before ≤ length (earlier ++ old ∷ [])) (λ d h. omega (arith, h, length_push earlier old)) newest kept.ends)
          (omega (arith, before, length_push earlier old));
      latest = all_set (λ d. d.from ≤ at) newest i c kept.latest (omega (arith, from));
    }
