-- Where numbers stand among rising ones.
use Rattle.std.proofs.Common.{◌≡◌, ℕ, zero, suc, ◌<◌, ◌≤◌, Bool, true, false, cond, ◌||◌, nat_eq, nat_lt, List, [], ◌∷◌, ◌++◌, length, map, get_or, slice_get, Option, Some, None, true≢false, refl, sym, ap, subst, ◌∙◌, arith}
use Rattle.std.specs.List.{AllByRecursion}
use Rattle.std.proofs.lemmas.Bool.Decides.{nat_tests}
use Rattle.cov_base.specs.Rows.{has_node}
use Rattle.cov_edit.specs.Touched.{AreRising}
use Rattle.cov_visible.specs.declared.file_part.FilePart.{FilePart}
use Rattle.cov_visible.specs.Parts.{part_node, part_of, is_at, count_below, IsPlaceOf}
use Rattle.cov_visible.proofs.StoredFiles.{equal, all-get, above-absent}

-- a number below one stands before the first that isn't
pub below-least : (x i : ℕ) (xs : List ℕ) (y : ℕ) → AreRising xs → slice_get xs i ≡ Some y → y < x → suc i ≤ count_below x xs
below-least x i [] y rising h less = absurd (cc)
below-least x zero (z ∷ xs) y rising h less =
    let same : z ≡ y = cc in
    let below : nat_lt z x ≡ true = grind (arith, nat_tests, same, less) in
    subst (λ b. 1 ≤ cond b (suc (count_below x xs)) 0) (sym below) (omega arith)
below-least x (suc i) (z ∷ xs) y rising h less =
    let above : z < y = all-get (λ n. z < n) xs i y h rising.0 in
    let below : nat_lt z x ≡ true = grind (arith, nat_tests, above, less) in
    let rest = below-least x i xs y rising.1 h less in
    subst (λ b. suc (suc i) ≤ cond b (suc (count_below x xs)) 0) (sym below) (omega (arith, rest))

-- and one that isn't stands not before it
pub above-most : (x i : ℕ) (xs : List ℕ) (y : ℕ) → slice_get xs i ≡ Some y → x ≤ y → count_below x xs ≤ i
above-most x i [] y h le = absurd (cc)
above-most x zero (z ∷ xs) y h le =
    let same : z ≡ y = cc in
    let above : nat_lt z x ≡ false = grind (arith, nat_tests, same, le) in
    subst (λ b. cond b (suc (count_below x xs)) 0 ≤ 0) (sym above) (omega arith)
above-most x (suc i) (z ∷ xs) y h le = at (nat_lt z x) (above-most x i xs y h le)
  where
    at : (b : Bool) → count_below x xs ≤ i → cond b (suc (count_below x xs)) 0 ≤ suc i
    at true rest = omega (arith, rest)
    at false rest = omega arith

pub count-most : (x : ℕ) (xs : List ℕ) → count_below x xs ≤ length xs
count-most x [] = omega arith
count-most x (z ∷ xs) = at (nat_lt z x) (count-most x xs)
  where
    at : (b : Bool) → count_below x xs ≤ length xs → cond b (suc (count_below x xs)) 0 ≤ suc (length xs)
    at true rest = omega (arith, rest)
    at false rest = omega arith

-- where the first number that isn't below one isn't it, it is none of them
pub absent-there : (x : ℕ) (xs : List ℕ) → AreRising xs → (slice_get xs (count_below x xs) ≡ Some x → ⊥) → has_node x xs ≡ false
absent-there x [] rising never = refl
absent-there x (z ∷ xs) rising never = by (nat_lt z x) refl never (absent-there x xs rising.1)
  where
    same : (b : Bool) → nat_eq z x ≡ b → nat_lt z x ≡ false → (Some z ≡ Some x → ⊥) → (nat_eq z x || has_node x xs) ≡ false
    same true e above none = absurd (none (ap (λ k. Some k) (equal z x e)))
    same false e above none = ap (λ b. b || has_node x xs) e ∙ above-absent x z xs (grind (arith, nat_tests, above)) rising.0

    by : (b : Bool) → nat_lt z x ≡ b → (slice_get (z ∷ xs) (cond b (suc (count_below x xs)) 0) ≡ Some x → ⊥) → ((slice_get xs (count_below x xs) ≡ Some x → ⊥) → has_node x xs ≡ false) → (nat_eq z x || has_node x xs) ≡ false
    by true e none rest =
        let differs : nat_eq z x ≡ false = grind (arith, nat_tests, e) in
        ap (λ b. b || has_node x xs) differs ∙ rest none
    by false e none rest = same (nat_eq z x) refl e none

pub node-at : (es : List FilePart) (i : ℕ) (d : FilePart) → i < length es → slice_get (map part_node es) i ≡ Some (get_or es i d).node
node-at [] i d h = absurd (omega (arith, h))
node-at (e ∷ es) zero d h = refl
node-at (e ∷ es) (suc i) d h = node-at es i d (omega (arith, h))

-- the file at a place has a node just where the node is at the place
pub place-there : (es : List FilePart) (i node : ℕ) → is_at (slice_get es i) node ≡ true → slice_get (map part_node es) i ≡ Some node
place-there [] i node h = absurd (cc)
place-there (e ∷ es) zero node h = ap (λ k. Some k) (equal e.node node h)
place-there (e ∷ es) (suc i) node h = place-there es i node h

at-there : (es : List FilePart) (i node : ℕ) → slice_get (map part_node es) i ≡ Some node → is_at (slice_get es i) node ≡ true
at-there [] i node h = absurd (cc)
at-there (e ∷ es) zero node h = let same : e.node ≡ node = cc in grind (arith, nat_tests, same)
at-there (e ∷ es) (suc i) node h = at-there es i node h

pub place-none : (es : List FilePart) (node at : ℕ) → AreRising (map part_node es) → at ≡ count_below node (map part_node es) → is_at (slice_get es at) node ≡ false → has_node node (map part_node es) ≡ false
place-none es node at rising is h = absent-there node (map part_node es) rising (λ there. true≢false (sym (at-there es (count_below node (map part_node es)) node there) ∙ (λ j. is_at (slice_get es (sym is j)) node) ∙ h))

-- the file at the place of a node is the node's
pub part-there : (es : List FilePart) (i node : ℕ) → AreRising (map part_node es) → slice_get (map part_node es) i ≡ Some node → part_of es node ≡ slice_get es i
part-there [] i node rising h = absurd (cc)
part-there (e ∷ es) zero node rising h =
    let same : e.node ≡ node = cc in
    let own : nat_eq e.node node ≡ true = grind (arith, nat_tests, same) in
    ap (λ b. cond b (Some e) (part_of es node)) own
part-there (e ∷ es) (suc i) node rising h =
    let above : e.node < node = all-get (λ y. e.node < y) (map part_node es) i node h rising.0 in
    let differs : nat_eq e.node node ≡ false = grind (arith, nat_tests, above) in
    ap (λ b. cond b (Some e) (part_of es node)) differs ∙ part-there es i node rising.1 h

-- a node that no file has
pub part-absent : (es : List FilePart) (node : ℕ) → has_node node (map part_node es) ≡ false → part_of es node ≡ None
part-absent [] node h = refl
part-absent (e ∷ es) node h = at (nat_eq e.node node) h (part-absent es node)
  where
    at : (b : Bool) → (b || has_node node (map part_node es)) ≡ false → (has_node node (map part_node es) ≡ false → part_of es node ≡ None) → cond b (Some e) (part_of es node) ≡ None
    at true k rest = absurd (cc)
    at false k rest = rest k

-- what is true of all files is so of the file with a node
pub part-some : (P : FilePart → Type 0) (es : List FilePart) (node : ℕ) (e : FilePart) → AllByRecursion P es → part_of es node ≡ Some e → (e.node ≡ node) × P e
part-some P [] node e all h = absurd (cc)
part-some P (f ∷ es) node e all h = at (nat_eq f.node node) refl h (part-some P es node e all.1)
  where
    at : (b : Bool) → nat_eq f.node node ≡ b → cond b (Some f) (part_of es node) ≡ Some e → (part_of es node ≡ Some e → (e.node ≡ node) × P e) → (e.node ≡ node) × P e
    at true is k rest = let same : f ≡ e = cc in subst (λ g. (g.node ≡ node) × P g) same (equal f.node node is, all.0)
    at false is k rest = rest k

-- each node of files has its file
pub part-has : (es : List FilePart) (node : ℕ) → has_node node (map part_node es) ≡ true → (e : FilePart) × (part_of es node ≡ Some e)
part-has [] node h = absurd (cc)
part-has (e ∷ es) node h = at (nat_eq e.node node) h (part-has es node)
  where
    at : (b : Bool) → (b || has_node node (map part_node es)) ≡ true → (has_node node (map part_node es) ≡ true → (f : FilePart) × (part_of es node ≡ Some f)) → (f : FilePart) × (cond b (Some e) (part_of es node) ≡ Some f)
    at true k rest = (e, refl)
    at false k rest = rest k

-- the numbers below one are all that come before greater ones
pub count-front : (x : ℕ) (xs ys : List ℕ) → AllByRecursion (λ y. y < x) xs → AllByRecursion (λ y. x ≤ y) ys → count_below x (xs ++ ys) ≡ length xs
count-front x [] [] low high = refl
count-front x [] (y ∷ ys) low high =
    let above : x ≤ y = high.0 in
    let is : nat_lt y x ≡ false = grind (arith, nat_tests, above) in
    ap (λ b. cond b (suc (count_below x ys)) 0) is
count-front x (z ∷ xs) ys low high =
    let below : z < x = low.0 in
    let is : nat_lt z x ≡ true = grind (arith, nat_tests, below) in
    ap (λ b. cond b (suc (count_below x (xs ++ ys))) 0) is ∙ ap suc (count-front x xs ys low.1 high)

-- the first of rising numbers rise
pub rising-front : (xs ys : List ℕ) → AreRising (xs ++ ys) → AreRising xs
rising-front [] ys h = tt
rising-front (x ∷ xs) ys h = (front xs ys h.0, rising-front xs ys h.1)
  where
    front : (zs ws : List ℕ) → AllByRecursion (λ y. x < y) (zs ++ ws) → AllByRecursion (λ y. x < y) zs
    front [] ws g = tt
    front (z ∷ zs) ws g = (g.0, front zs ws g.1)

-- the place that was found, or that there is none
pub found-place : (xs : List ℕ) (x at : ℕ) (o : Option ℕ) → IsPlaceOf xs x o → o ≡ Some at → slice_get xs at ≡ Some x
found-place xs x at o place is = subst (IsPlaceOf xs x) is place

pub no-place : (xs : List ℕ) (x : ℕ) (o : Option ℕ) → IsPlaceOf xs x o → o ≡ None → has_node x xs ≡ false
no-place xs x o place is = subst (IsPlaceOf xs x) is place
