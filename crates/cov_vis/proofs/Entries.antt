-- From each entry to the tests of a whole listing.
use Rattle.std.proofs.Common.{◌≡◌, ℕ, suc, ◌+◌, Bool, true, false, List, [], ◌∷◌, ◌++◌, length, Option, Some, true≢false, refl, sym, ap, ◌∙◌, arith}
use Rattle.std.specs.Prelude.{slice_get, nat_eq, ◌||◌, not}
use Rattle.std.specs.List.{list_any, list_all}
use Rattle.std.proofs.lemmas.Bool.{and_parts, and_from, eqb-true}
use Rattle.cov_vis.specs.declared.listing.ListingEntry.{ListingEntry}
use Rattle.cov_vis.specs.Listings.{same_child, same_entry, are_distinct}
use Rattle.cov_vis.specs.Counting.{counted_on}
use Rattle.cov_vis.proofs.Reading.{same_child-is}

pub not_both : (b : Bool) → (b ≡ true → ⊥) → not b ≡ true
not_both false h = refl
not_both true h = absurd (h refl)

pub all_from : (p : ListingEntry → Bool) (es : List ListingEntry) → ((i : ℕ) (e : ListingEntry) → slice_get es i ≡ Some e → p e ≡ true) → list_all p es ≡ true
all_from p [] h = refl
all_from p (e ∷ es) h = and_from (p e) (list_all p es) (h 0 e refl) (all_from p es (λ i f. h (suc i) f))

same_entry-is : (e f : ListingEntry) → same_entry e f ≡ true → e ≡ f
same_entry-is e f h =
    let o = eqb-true e.option f.option (and_parts _ _ h).0 in
    let r = (and_parts (nat_eq e.option f.option) _ h).1 in
    let off = same_child-is e.off f.off (and_parts _ _ r).0 in
    let on = same_child-is e.on f.on (and_parts (same_child e.off f.off) _ r).1 in
    (λ j. record { option = o j; off = off j; on = on j })

any_get : (e : ListingEntry) (es : List ListingEntry) → list_any (same_entry e) es ≡ true → (i : ℕ) × (slice_get es i ≡ Some e)
any_get e [] h = absurd (true≢false (sym h))
any_get e (f ∷ es) h = by (same_entry e f) refl h (any_get e es)
  where
    by : (b : Bool) → same_entry e f ≡ b → (b || list_any (same_entry e) es) ≡ true → (list_any (same_entry e) es ≡ true → (i : ℕ) × (slice_get es i ≡ Some e)) → (i : ℕ) × (slice_get (f ∷ es) i ≡ Some e)
    by true s h rec = (0, ap Some (sym (same_entry-is e f s)))
    by false s h rec = let r = rec h in (suc r.0, r.1)

pub distinct_from : (es : List ListingEntry) → ((i j : ℕ) (e : ListingEntry) → slice_get es i ≡ Some e → slice_get es j ≡ Some e → i ≡ j) → are_distinct es ≡ true
distinct_from [] h = refl
distinct_from (e ∷ es) h =
    and_from _ _ (not_both _ (λ k. let r = any_get e es k in let same : 0 ≡ suc r.0 = h 0 (suc r.0) e refl r.1 in absurd (omega (arith, same))))
    (distinct_from es (λ i j f x y. let same : suc i ≡ suc j = h (suc i) (suc j) f x y in omega (arith, same)))

pub counted_two : (go : ℕ → Option ℕ) (r : Option ℕ) (m n : ℕ) → r ≡ Some m → go m ≡ Some n → counted_on go r ≡ Some n
counted_two go r m n h k = ap (counted_on go) h ∙ k

pub length-push : {A : Type 0} (xs : List A) (x : A) → length (xs ++ x ∷ []) ≡ length xs + 1
length-push [] x = omega arith
length-push (y ∷ xs) x = omega (arith, length-push xs x)
