-- Rows in the order of a listing, in which each list of rows can stand in one way alone.
use Rattle.std.proofs.Common.{◌≡◌, ℕ, suc, ◌+◌, ◌<◌, ◌≤◌, Bool, true, false, cond, List, [], ◌∷◌, length, slice_index_or, IsPermutation, refl, sym, ap, subst, ◌∙◌, arith}
use Rattle.std.proofs.lemmas.Cmp.{nat_list_cmp_total, nat_cmp_total, on_total, then_total, tied_itself}
use Rattle.std.proofs.lemmas.List.Sorted.{ranks_by, sorted_far, sum_by-IsPermutation}
use Rattle.std.proofs.lemmas.List.Sums.{sum_by-cons}
use Rattle.std.proofs.lemmas.Map.Lookups.{exact_bytes, exact_unsigned}
use Rattle.std.specs.Cmp.{IsTotalOrder, IsStrictWeakOrder}
use Rattle.std.specs.Cmp.Lexicographic.{slice_cmp}
use Rattle.std.specs.List.{AllByRecursion, sum_by}
use Rattle.std.specs.List.Sorted.{IsSortedBy}
use Rattle.std.specs.Ordering.{nat_cmp, is_eq, is_lt, ordering_reverse, ordering_then}
use Rattle.std.specs.declared.cmp.Ordering.{Ordering}
use Rattle.std.specs.declared.cmp.Ordering.TheVariants.{Less, Equal, Greater}
use Rattle.cov_base.specs.declared.number.Kind.{Kind}
use Rattle.cov_base.specs.declared.number.Kind.TheVariants as kinds
use Rattle.cov_view.specs.Listing.{comes_before, in_listing_order, kind_rank, listing_order, with_listed}
use Rattle.cov_view.specs.declared.listing.DirRow.{DirRow}

pub total : IsTotalOrder listing_order
total = then_total (on_total (λ (r : DirRow). r.name) nat_list_cmp_total) (on_total (λ (r : DirRow). kind_rank r.kind) nat_cmp_total)

pub weak : IsStrictWeakOrder comes_before
weak = ranks_by total (λ r. r)

both-equal : (o p : Ordering) → ordering_then o p ≡ Equal → (o ≡ Equal) × (p ≡ Equal)
both-equal Less p h = absurd (cc)
both-equal Equal p h = (refl, h)
both-equal Greater p h = absurd (cc)

same-kind : (k l : Kind) → kind_rank k ≡ kind_rank l → k ≡ l
same-kind kinds.File kinds.File h = refl
same-kind kinds.File kinds.Dir h = absurd (omega (arith, h))
same-kind kinds.Dir kinds.File h = absurd (omega (arith, h))
same-kind kinds.Dir kinds.Dir h = refl

exact : (x y : DirRow) → listing_order x y ≡ Equal → x ≡ y
exact x y h =
    let parts = both-equal (slice_cmp nat_cmp x.name y.name) (nat_cmp (kind_rank x.kind) (kind_rank y.kind)) h in
    let name : x.name ≡ y.name = exact_bytes x.name y.name parts.0 in
    let kind : x.kind ≡ y.kind = same-kind x.kind y.kind (exact_unsigned (kind_rank x.kind) (kind_rank y.kind) parts.1) in
    λ i. record { kind = kind i; name = name i }

-- rows of which neither comes before the other are the same
neither : (x y : DirRow) → comes_before x y ≡ false → comes_before y x ≡ false → x ≡ y
neither x y a b = exact x y (at (listing_order x y) (listing_order y x) (total.antisymm x y) a b)
  where
    at : (o p : Ordering) → o ≡ ordering_reverse p → is_lt o ≡ false → is_lt p ≡ false → o ≡ Equal
    at Less p e a b = absurd (cc)
    at Equal p e a b = refl
    at Greater Less e a b = absurd (cc)
    at Greater Equal e a b = absurd (cc)
    at Greater Greater e a b = absurd (cc)

is-equal : (o : Ordering) → is_eq o ≡ true → o ≡ Equal
is-equal Less h = absurd (cc)
is-equal Equal h = refl
is-equal Greater h = absurd (cc)

abbrev one : DirRow → DirRow → ℕ
one z x = cond (is_eq (listing_order z x)) 1 0

own-one : (z : DirRow) → one z z ≡ 1
own-one z = ap (λ o. cond (is_eq o) 1 0) (tied_itself total z)

own-before : (z : DirRow) → comes_before z z ≡ false
own-before z = ap is_lt (tied_itself total z)

-- how often a row is among rows
abbrev times : DirRow → List DirRow → ℕ
times z [] = 0
times z (x ∷ xs) = one z x + times z xs

times-sum : (z : DirRow) (xs : List DirRow) → sum_by (one z) xs ≡ times z xs
times-sum z [] = refl
times-sum z (x ∷ xs) = sum_by-cons (one z) x xs ∙ ap (λ n. one z x + n) (times-sum z xs)

-- none of the rows comes before a row
abbrev Above : DirRow → List DirRow → Type 0
Above x ys = AllByRecursion (λ y. comes_before y x ≡ false) ys

-- none comes before one that stands before it
abbrev Up : List DirRow → Type 0
Up [] = Unit {0}
Up (x ∷ xs) = Above x xs × Up xs

above-of : (x : DirRow) (xs : List DirRow) → ((k : ℕ) → k < length xs → comes_before (slice_index_or xs k x) x ≡ false) → Above x xs
above-of x [] h = tt
above-of x (y ∷ ys) h = (h 0 (omega arith), above-of x ys (λ k p. h (suc k) (omega (arith, p))))

up-of : (xs : List DirRow) → ((i j : ℕ) (d : DirRow) → i ≤ j → j < length xs → comes_before (slice_index_or xs j d) (slice_index_or xs i d) ≡ false) → Up xs
up-of [] h = tt
up-of (x ∷ xs) h = (above-of x xs (λ k p. h 0 (suc k) x (omega arith) (omega (arith, p))), up-of xs (λ i j d p q. h (suc i) (suc j) d (omega (arith, p)) (omega (arith, q))))

-- a row among rows, none of which comes before another row, doesn't either
among : (z y : DirRow) (xs : List DirRow) → 0 < times z xs → Above y xs → comes_before z y ≡ false
among z y [] h above = absurd (omega (arith, h))
among z y (x ∷ xs) h above = at (is_eq (listing_order z x)) refl h (λ k. among z y xs k above.1)
  where
    at : (b : Bool) → is_eq (listing_order z x) ≡ b → 0 < cond b 1 0 + times z xs → (0 < times z xs → comes_before z y ≡ false) → comes_before z y ≡ false
    at true e k rest = subst (λ w. comes_before w y ≡ false) (sym (exact z x (is-equal (listing_order z x) e))) above.0
    at false e k rest = rest (omega (arith, k))

-- rows in order with the same rows are the same
unique : (xs ys : List DirRow) → Up xs → Up ys → ((z : DirRow) → times z xs ≡ times z ys) → xs ≡ ys
unique [] [] a b same = refl
unique [] (y ∷ ys) a b same = absurd (let n = same y in let own = own-one y in omega (arith, n, own))
unique (x ∷ xs) [] a b same = absurd (let n = same x in let own = own-one x in omega (arith, n, own))
unique (x ∷ xs) (y ∷ ys) a b same =
    let x-there = same x in
    let y-there = same y in
    let x-own = own-one x in
    let y-own = own-one y in
    let first : x ≡ y = neither x y (among x y (y ∷ ys) (omega (arith, x-there, x-own)) (own-before y, b.0)) (among y x (x ∷ xs) (omega (arith, y-there, y-own)) (own-before x, a.0)) in
    let rest = unique xs ys a.1 b.1 (λ z. let n = same z in let m : one z x ≡ one z y = ap (one z) first in omega (arith, n, m)) in
    λ i. first i ∷ rest i

above-with : (y x : DirRow) (ys : List DirRow) → comes_before x y ≡ false → Above y ys → Above y (with_listed x ys)
above-with y x [] h above = (h, tt)
above-with y x (w ∷ ys) h above = at (comes_before w x) (above-with y x ys h above.1)
  where
    at : (b : Bool) → Above y (with_listed x ys) → Above y (cond b (w ∷ with_listed x ys) (x ∷ w ∷ ys))
    at true rest = (above.0, rest)
    at false rest = (h, above)

above-chain : (x y : DirRow) (ys : List DirRow) → comes_before y x ≡ false → Above y ys → Above x ys
above-chain x y [] h above = tt
above-chain x y (w ∷ ys) h above = (weak.chain w y x above.0 h, above-chain x y ys h above.1)

up-with : (x : DirRow) (ys : List DirRow) → Up ys → Up (with_listed x ys)
up-with x [] up = (tt, tt)
up-with x (y ∷ ys) up = at (comes_before y x) refl (up-with x ys up.1)
  where
    at : (b : Bool) → comes_before y x ≡ b → Up (with_listed x ys) → Up (cond b (y ∷ with_listed x ys) (x ∷ y ∷ ys))
    at true e rest = (above-with y x ys (weak.one_way y x e) up.0, rest)
    at false e rest = ((e, above-chain x y ys e up.0), up)

up-order : (xs : List DirRow) → Up (in_listing_order xs)
up-order [] = tt
up-order (x ∷ xs) = up-with x (in_listing_order xs) (up-order xs)

times-with : (z x : DirRow) (ys : List DirRow) → times z (with_listed x ys) ≡ one z x + times z ys
times-with z x [] = refl
times-with z x (y ∷ ys) = at (comes_before y x) (times-with z x ys)
  where
    at : (b : Bool) → times z (with_listed x ys) ≡ one z x + times z ys → times z (cond b (y ∷ with_listed x ys) (x ∷ y ∷ ys)) ≡ one z x + (one z y + times z ys)
    at true rest = omega (arith, rest)
    at false rest = refl

times-order : (z : DirRow) (xs : List DirRow) → times z (in_listing_order xs) ≡ times z xs
times-order z [] = refl
times-order z (x ∷ xs) = times-with z x (in_listing_order xs) ∙ ap (λ n. one z x + n) (times-order z xs)

-- rows that a sort leaves in order stand as the definition has them
pub sorted-is : (xs ys : List DirRow) → IsPermutation xs ys → IsSortedBy comes_before ys → ys ≡ in_listing_order xs
sorted-is xs ys same sorted =
    unique ys (in_listing_order xs) (up-of ys (sorted_far comes_before weak ys sorted)) (up-order xs)
    (λ z. sym (times-sum z ys) ∙ sum_by-IsPermutation (one z) xs ys same ∙ times-sum z xs ∙ sym (times-order z xs))
