-- The lines of two sides, merged, are those kept that are on one of them.
use Rattle.std.proofs.Common.{◌≡◌, ℕ, Bool, true, false, cond, ◌||◌, List, [], ◌∷◌, map, refl, sym, ap, subst, ◌∙◌}
use Rattle.std.specs.List.{filter, list_any, AllByRecursion}
use Rattle.std.specs.Str.{bytes_eq}
use Rattle.std.proofs.lemmas.Slice.Eq.{bytes_eq-Decides}
use Rattle.cov_base.specs.Addresses.{stands_before, placed, AreInOrder}
use Rattle.cov_base.proofs.CallerLemmas.{all-both, all-filter, all-map, any-map, before-itself, before-not, placed-first}
use Rattle.cov_edit.specs.Variant.{Line, line_address}
use Rattle.cov_history.specs.Kept.{Kept, the_item, kept_address}
use Rattle.cov_history.proofs.CallerLemmas.{all-mapped, any-none}
use Rattle.cov_alt.specs.Sides.{has_address, merged}

-- an address that stands before another isn't the same
not_same : (a b : List ℕ) → stands_before a b ≡ true → a ≡ b → ⊥
not_same a b h same = let first : stands_before a a ≡ true = subst (λ x. stands_before a x ≡ true) (sym same) h in let never = before-itself a in cc

unequal : (a b : List ℕ) → (a ≡ b → ⊥) → bytes_eq a b ≡ false
unequal a b other = at (bytes_eq a b) refl
  where
    at : (t : Bool) → bytes_eq a b ≡ t → t ≡ false
    at true e = absurd (other ((bytes_eq-Decides a b).0 e))
    at false e = refl

-- so the two are different, in either order
different : (a b : List ℕ) → stands_before a b ≡ true → bytes_eq a b ≡ false
different a b h = unequal a b (not_same a b h)

different_back : (a b : List ℕ) → stands_before a b ≡ true → bytes_eq b a ≡ false
different_back a b h = unequal b a (λ same. not_same a b h (sym same))

-- an address stands before those of all these lines
abbrev IsBeforeAll : List ℕ → List (Kept Line) → Type 0
IsBeforeAll a ks = AllByRecursion (λ k. stands_before a (kept_address k) ≡ true) ks

none_there : (a : List ℕ) (ks : List (Kept Line)) → IsBeforeAll a ks → has_address (map the_item ks) a ≡ false
none_there a [] h = refl
none_there a (k ∷ ks) h = ap (λ b. b || has_address (map the_item ks) a) (different_back a (kept_address k) h.0) ∙ none_there a ks h.1

-- a line that stands before all of the first list comes first
merged_front : (x : Kept Line) (ls ms : List (Kept Line)) → IsBeforeAll (kept_address x) ls
    → merged (map the_item ls) (x.item ∷ map the_item ms) ≡ x.item ∷ merged (map the_item ls) (map the_item ms)
merged_front x [] ms h = refl
merged_front x (l ∷ ls) ms h =
    ap (λ b. cond (b || has_address (map the_item ms) (kept_address l)) more (placed line_address l.item more)) (different (kept_address x) (kept_address l) h.0)
    ∙ ap (λ r. cond (has_address (map the_item ms) (kept_address l)) r (placed line_address l.item r)) (merged_front x ls ms h.1)
    ∙ at (has_address (map the_item ms) (kept_address l))
  where
    more : List Line
    more = merged (map the_item ls) (x.item ∷ map the_item ms)

    rest : List Line
    rest = merged (map the_item ls) (map the_item ms)

    at : (b : Bool) → cond b (x.item ∷ rest) (placed line_address l.item (x.item ∷ rest)) ≡ x.item ∷ cond b rest (placed line_address l.item rest)
    at true = refl
    at false = ap (λ b. cond b (l.item ∷ x.item ∷ rest) (x.item ∷ placed line_address l.item rest)) (before-not (kept_address l) (kept_address x) h.0)

-- of lines in order, those that pass one of two tests are those that pass the first merged with those that pass the second
pub merged_kept : (p q : Kept Line → Bool) (ks : List (Kept Line)) → AreInOrder kept_address ks
    → merged (map the_item (filter p ks)) (map the_item (filter q ks)) ≡ map the_item (filter (λ k. p k || q k) ks)
merged_kept p q [] o = refl
merged_kept p q (k ∷ ks) o = at (p k) (q k) (merged_kept p q ks o.1)
  where
    on : List Line
    on = map the_item (filter p ks)

    off : List Line
    off = map the_item (filter q ks)

    either : List (Kept Line)
    either = filter (λ j. p j || q j) ks

    behind : (t : Kept Line → Bool) → IsBeforeAll (kept_address k) (filter t ks)
    behind t = all-filter (λ j. stands_before (kept_address k) (kept_address j) ≡ true) t ks o.0

    own : bytes_eq (kept_address k) (kept_address k) ≡ true
    own = (bytes_eq-Decides (kept_address k) (kept_address k)).1 refl

    first : placed line_address k.item (map the_item either) ≡ k.item ∷ map the_item either
    first =
        placed-first line_address k.item (map the_item either)
        (all-mapped (λ j. stands_before (kept_address k) (kept_address j) ≡ true) (λ l. stands_before (kept_address k) (line_address l) ≡ true) the_item (λ j h. h) either (behind (λ j. p j || q j)))

    at : (s t : Bool) → merged on off ≡ map the_item either
        → merged (map the_item (cond s (k ∷ filter p ks) (filter p ks))) (map the_item (cond t (k ∷ filter q ks) (filter q ks)))
        ≡ map the_item (cond (s || t) (k ∷ either) either)
    at true true rest =
        ap (λ b. cond (b || has_address off (kept_address k)) (merged on (k.item ∷ off)) (placed line_address k.item (merged on (k.item ∷ off)))) own
        ∙ merged_front k (filter p ks) (filter q ks) (behind p)
        ∙ ap (λ r. k.item ∷ r) rest
    at true false rest =
        ap (λ b. cond b (merged on off) (placed line_address k.item (merged on off))) (none_there (kept_address k) (filter q ks) (behind q))
        ∙ ap (placed line_address k.item) rest
        ∙ first
    at false true rest = merged_front k (filter p ks) (filter q ks) (behind p) ∙ ap (λ r. k.item ∷ r) rest
    at false false rest = rest

-- items of which none is the same as another
abbrev pub AreApart : {X : Type 0} → (X → X → Bool) → List X → Type 0
AreApart same [] = Unit {0}
AreApart same (x ∷ xs) = AllByRecursion (λ y. (same x y ≡ false) × (same y x ≡ false)) xs × AreApart same xs

-- so the same as an item is among those that pass a test exactly where it passes itself
pub any_same : {X : Type 0} (same : X → X → Bool) (p : X → Bool) → ((x : X) → same x x ≡ true) → (xs : List X) → AreApart same xs
    → AllByRecursion (λ x. list_any (λ y. same y x) (filter p xs) ≡ p x) xs
any_same same p itself [] apart = tt
any_same same p itself (x ∷ xs) apart = (
  first (p x),
  all-both (λ y. (same x y ≡ false) × (same y x ≡ false)) (λ y. list_any (λ z. same z y) (filter p xs) ≡ p y) (λ y. list_any (λ z. same z y) (filter p (x ∷ xs)) ≡ p y)
      (λ y other rest. later y (p x) other.0 rest) xs apart.0 (any_same same p itself xs apart.1),
)
  where
    first : (s : Bool) → list_any (λ z. same z x) (cond s (x ∷ filter p xs) (filter p xs)) ≡ s
    first true = ap (λ b. b || list_any (λ z. same z x) (filter p xs)) (itself x)
    first false =
        any-none (λ z. same z x) (filter p xs)
        (all-filter (λ y. same y x ≡ false) p xs (all-map (λ y. (same x y ≡ false) × (same y x ≡ false)) (λ y. same y x ≡ false) (λ y other. other.1) xs apart.0))

    later : (y : _) (s : Bool) → same x y ≡ false → list_any (λ z. same z y) (filter p xs) ≡ p y → list_any (λ z. same z y) (cond s (x ∷ filter p xs) (filter p xs)) ≡ p y
    later y true other rest = ap (λ b. b || list_any (λ z. same z y) (filter p xs)) other ∙ rest
    later y false other rest = rest

-- lines in order have different addresses
addresses_apart : (ks : List (Kept Line)) → AreInOrder kept_address ks → AreApart (λ j k. bytes_eq (kept_address j) (kept_address k)) ks
addresses_apart [] o = tt
addresses_apart (k ∷ ks) o = (
  all-map (λ j. stands_before (kept_address k) (kept_address j) ≡ true)
      (λ j. (bytes_eq (kept_address k) (kept_address j) ≡ false) × (bytes_eq (kept_address j) (kept_address k) ≡ false))
      (λ j h. (different (kept_address k) (kept_address j) h, different_back (kept_address k) (kept_address j) h)) ks o.0,
  addresses_apart ks o.1,
)

-- the address of a kept line is among those of the lines that pass a test exactly where the line does
pub has_kept : (p : Kept Line → Bool) (ks : List (Kept Line)) → AreInOrder kept_address ks
    → AllByRecursion (λ k. has_address (map the_item (filter p ks)) (kept_address k) ≡ p k) ks
has_kept p ks o =
    all-map (λ k. list_any (λ j. bytes_eq (kept_address j) (kept_address k)) (filter p ks) ≡ p k) (λ k. has_address (map the_item (filter p ks)) (kept_address k) ≡ p k)
    (λ k h. any-map (λ l. bytes_eq l.address (kept_address k)) the_item (filter p ks) ∙ h) ks
    (any_same (λ j k. bytes_eq (kept_address j) (kept_address k)) p (λ k. (bytes_eq-Decides (kept_address k) (kept_address k)).1 refl) ks (addresses_apart ks o))
