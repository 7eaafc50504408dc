-- Items whose numbers are those of a list.
use Rattle.std.proofs.Common.{◌≡◌, ℕ, zero, suc, ◌+◌, ◌<◌, ◌≤◌, List, [], ◌∷◌, ◌++◌, length, map, take, drop, get_or, set, refl, sym, ap, ◌∙◌, arith, length-take-le, append_assoc}
use Rattle.std.proofs.lemmas.List.{get_or_at, set_at, drop_more}
use Rattle.cov_base.specs.Replacing.{having}

-- two lists that are joined, and two of the same lengths
pub parted : (ks bs cs ds : List ℕ) → length ks ≡ length cs → ks ++ bs ≡ cs ++ ds → (ks ≡ cs) × (bs ≡ ds)
parted [] bs [] ds long is = (refl, is)
parted [] bs (c ∷ cs) ds long is = absurd (omega (arith, long))
parted (a ∷ ks) bs [] ds long is = absurd (omega (arith, long))
parted (a ∷ ks) bs (c ∷ cs) ds long is =
    let first : a ≡ c = cc in
    let rest : ks ++ bs ≡ cs ++ ds = cc in
    let parts = parted ks bs cs ds (omega (arith, long)) rest in
    ((λ j. first j ∷ parts.0 j), parts.1)

module _ {X : Type 0} (put : ℕ → X → X) where
  pub length-having : (xs : List X) (ns : List ℕ) → length (having put xs ns) ≡ length xs
  length-having [] ns = refl
  length-having (x ∷ xs) [] = refl
  length-having (x ∷ xs) (n ∷ ns) = ap suc (length-having xs ns)

  -- one item more has its number
  having-more : (xs : List X) (ns : List ℕ) (i : ℕ) (d : X) → i < length xs → i < length ns
      → having put (take (suc i) xs) ns ≡ having put (take i xs) ns ++ put (get_or ns i 0) (get_or xs i d) ∷ []
  having-more [] ns i d h k = absurd (omega (arith, h))
  having-more (x ∷ xs) [] i d h k = absurd (omega (arith, k))
  having-more (x ∷ xs) (n ∷ ns) zero d h k = refl
  having-more (x ∷ xs) (n ∷ ns) (suc i) d h k = ap (λ l. put n x ∷ l) (having-more xs ns i d (omega (arith, h)) (omega (arith, k)))

  -- the items before an index have their numbers, and then the one there
  pub having-step : (xs now : List X) (ns : List ℕ) (i k : ℕ) (d : X) → i < length xs → i < length ns → k ≡ i + 1 → now ≡ having put (take i xs) ns ++ drop i xs
      → set now i (put (get_or ns i 0) (get_or now i d)) ≡ having put (take k xs) ns ++ drop k xs
  having-step xs now ns i k d h room at is =
      let long : length (having put (take i xs) ns) ≡ i = length-having (take i xs) ns ∙ length-take-le i xs (omega (arith, h)) in
      let split : now ≡ having put (take i xs) ns ++ get_or xs i d ∷ drop (i + 1) xs = is ∙ ap (λ l. having put (take i xs) ns ++ l) (drop_more xs i d h) in
      let here : get_or now i d ≡ get_or xs i d = ap (λ l. get_or l i d) split ∙ get_or_at (having put (take i xs) ns) (get_or xs i d) (drop (i + 1) xs) d i long in
      let next : suc i ≡ k = omega (arith, at) in
      (λ j. set (split j) i (put (get_or ns i 0) (here j)))
      ∙ set_at (having put (take i xs) ns) (get_or xs i d) (drop (i + 1) xs) (put (get_or ns i 0) (get_or xs i d)) i long
      ∙ sym (append_assoc (having put (take i xs) ns) (put (get_or ns i 0) (get_or xs i d) ∷ []) (drop (i + 1) xs))
      ∙ (λ j. sym (having-more xs ns i d h room) j ++ drop (sym at j) xs)
      ∙ ap (λ m. having put (take m xs) ns ++ drop k xs) next

  -- what doesn't depend on the numbers is as it was
  pub having-rest : {Y : Type 0} (of : X → Y) → ((n : ℕ) (x : X) → of (put n x) ≡ of x) → (xs : List X) (ns : List ℕ) → map of (having put xs ns) ≡ map of xs
  having-rest of same [] ns = refl
  having-rest of same (x ∷ xs) [] = refl
  having-rest of same (x ∷ xs) (n ∷ ns) = λ j. same n x j ∷ having-rest of same xs ns j

  module _ (number : X → ℕ) (own : (n : ℕ) (x : X) → number (put n x) ≡ n) where
    -- the numbers are then those of the list
    pub having-numbers : (xs : List X) (ns : List ℕ) → length xs ≤ length ns → map number (having put xs ns) ≡ take (length xs) ns
    having-numbers [] ns h = refl
    having-numbers (x ∷ xs) [] h = absurd (omega (arith, h))
    having-numbers (x ∷ xs) (n ∷ ns) h = λ j. own n x j ∷ having-numbers xs ns (omega (arith, h)) j

    -- where they are a function of those before, so are the items
    pub having-by : (by : ℕ → ℕ) (xs : List X) (ns : List ℕ) → length xs ≤ length ns → map number (having put xs ns) ≡ map by (map number xs)
        → having put xs ns ≡ map (λ x. put (by (number x)) x) xs
    having-by by [] ns h is = refl
    having-by by (x ∷ xs) [] h is = absurd (omega (arith, h))
    having-by by (x ∷ xs) (n ∷ ns) h is =
        let first : number (put n x) ≡ by (number x) = cc in
        let here : n ≡ by (number x) = sym (own n x) ∙ first in
        let rest : map number (having put xs ns) ≡ map by (map number xs) = cc in
        λ j. put (here j) x ∷ having-by by xs ns (omega (arith, h)) rest j
