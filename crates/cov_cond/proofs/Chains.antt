-- Items put one after the other into a list.
use Rattle.std.proofs.Common.{◌≡◌, ℕ, zero, suc, ◌+◌, ◌<◌, ◌≤◌, true, false, cond, ◌||◌, nat_eq, List, [], ◌∷◌, ◌++◌, length, append_assoc, refl, sym, ap, subst, ◌∙◌, arith}
use Rattle.std.specs.List.{list_any, AllByRecursion}
use Rattle.std.proofs.lemmas.Bool.{or_right}
use Rattle.std.proofs.lemmas.Bool.Decides.{nat_tests}
use Rattle.cov_base.specs.Addresses.{after_item, after_anchor_by}
use Rattle.cov_base.proofs.CallerLemmas.{all-append, all-map}
use Rattle.cov_cond.specs.Importing.{anchor_at}

module _ {X : Type 0} (number : X → ℕ) where
  -- the list with items one after the other, the first directly after an anchor
  abbrev pub chain : ℕ → List X → List X → List X
  chain anchor [] ds = ds
  chain anchor (x ∷ xs) ds = chain (number x) xs (after_anchor_by number anchor x ds)

  -- the numbers rise from one on
  abbrev pub AreAfter : ℕ → List X → Type 0
  AreAfter n [] = Unit {0}
  AreAfter n (x ∷ xs) = (n < number x) × AreAfter (number x) xs

  pub after-less : (m n : ℕ) (xs : List X) → m ≤ n → AreAfter n xs → AreAfter m xs
  after-less m n [] h r = tt
  after-less m n (x ∷ xs) h r = ((let more : n < number x = r.0 in omega (arith, h, more)), r.1)

  -- an item goes behind the first with the anchor's number
  behind-item : (anchor : ℕ) (x y : X) (f rest : List X) → AllByRecursion (λ z. number z < anchor) f → number y ≡ anchor
      → after_item number anchor x (f ++ y ∷ rest) ≡ f ++ y ∷ x ∷ rest
  behind-item anchor x y [] rest below same =
      let test : nat_eq (number y) anchor ≡ true = grind (arith, nat_tests, same) in
      ap (λ b. cond b (y ∷ x ∷ rest) (y ∷ after_item number anchor x rest)) test
  behind-item anchor x y (z ∷ f) rest below same =
      let less : number z < anchor = below.0 in
      let test : nat_eq (number z) anchor ≡ false = grind (arith, nat_tests, less) in
      ap (λ b. cond b (z ∷ x ∷ (f ++ y ∷ rest)) (z ∷ after_item number anchor x (f ++ y ∷ rest))) test
      ∙ ap (λ l. z ∷ l) (behind-item anchor x y f rest below.1 same)

  behind-anchor : (anchor : ℕ) (x y : X) (f rest : List X) → 0 < anchor → AllByRecursion (λ z. number z < anchor) f → number y ≡ anchor
      → after_anchor_by number anchor x (f ++ y ∷ rest) ≡ f ++ y ∷ x ∷ rest
  behind-anchor zero x y f rest some below same = absurd (omega (arith, some))
  behind-anchor (suc anchor) x y f rest some below same = behind-item (suc anchor) x y f rest below same

  -- rising items go behind the item with the anchor's number, in order
  pub chain-behind : (anchor : ℕ) (f : List X) (y : X) (xs rest : List X) → 0 < anchor → number y ≡ anchor → AllByRecursion (λ z. number z < anchor) f → AreAfter anchor xs
      → chain anchor xs (f ++ y ∷ rest) ≡ f ++ y ∷ (xs ++ rest)
  chain-behind anchor f y [] rest some same below rise = refl
  chain-behind anchor f y (x ∷ xs) rest some same below rise =
      let more : anchor < number x = rise.0 in
      let all : AllByRecursion (λ z. number z < number x) (f ++ y ∷ []) =
      all-append (λ z. number z < number x) f (y ∷ []) (all-map (λ z. number z < anchor) (λ z. number z < number x) (λ z h. omega (arith, h, more)) f below) (omega (arith, same, more), tt) in
      ap (chain (number x) xs) (behind-anchor anchor x y f rest some below same ∙ sym (append_assoc f (y ∷ []) (x ∷ rest)))
      ∙ chain-behind (number x) (f ++ y ∷ []) x xs rest (omega (arith, more)) refl all rise.1
      ∙ append_assoc f (y ∷ []) (x ∷ (xs ++ rest))

  -- at the head they come first
  pub chain-first : (xs rest : List X) → AreAfter 0 xs → chain 0 xs rest ≡ xs ++ rest
  chain-first [] rest rise = refl
  chain-first (x ∷ xs) rest rise = chain-behind (number x) [] x xs rest rise.0 refl tt rise.1

  -- items are numbered on, from the number after a given one
  abbrev pub AreNext : ℕ → List X → Type 0
  AreNext n [] = Unit {0}
  AreNext n (x ∷ xs) = (number x ≡ n + 1) × AreNext (n + 1) xs

  -- items go behind the last of those numbered on from an item
  behind-last : (a b : ℕ) (f : List X) (y : X) (front xs rest : List X) → b ≡ a + length front → 0 < a → number y ≡ a → AllByRecursion (λ z. number z < a) f → AreNext a front → AreAfter b xs
      → chain b xs (f ++ y ∷ (front ++ rest)) ≡ f ++ y ∷ (front ++ (xs ++ rest))
  behind-last a b f y [] xs rest e some same below next rise =
      let here : a ≡ b = omega (arith, e) in
      subst (λ n. chain n xs (f ++ y ∷ rest) ≡ f ++ y ∷ (xs ++ rest)) here
      (chain-behind a f y xs rest some same below (after-less a b xs (omega (arith, here)) rise))
  behind-last a b f y (z ∷ front) xs rest e some same below next rise =
      let all : AllByRecursion (λ w. number w < a + 1) (f ++ y ∷ []) =
      all-append (λ w. number w < a + 1) f (y ∷ []) (all-map (λ w. number w < a) (λ w. number w < a + 1) (λ w h. omega (arith, h)) f below) (omega (arith, same), tt) in
      ap (chain b xs) (sym (append_assoc f (y ∷ []) (z ∷ (front ++ rest))))
      ∙ behind-last (a + 1) b (f ++ y ∷ []) z front xs rest (omega (arith, e)) (omega arith) next.0 all next.1 rise
      ∙ append_assoc f (y ∷ []) (z ∷ (front ++ (xs ++ rest)))

  -- items go behind the last of those numbered on from a number, or to the head where there is none
  pub chain-last : (n k : ℕ) (front xs rest : List X) → k ≡ length front → AreNext n front → AreAfter (n + k) xs
      → chain (anchor_at n k) xs (front ++ rest) ≡ front ++ (xs ++ rest)
  chain-last n k [] xs rest e next rise =
      let none : 0 ≡ k = omega (arith, e) in
      subst (λ j. chain (anchor_at n j) xs rest ≡ xs ++ rest) none (chain-first xs rest (after-less 0 (n + k) xs (omega arith) rise))
  chain-last n k (y ∷ front) xs rest e next rise =
      let some : suc (length front) ≡ k = omega (arith, e) in
      subst (λ j. chain (anchor_at n j) xs (y ∷ (front ++ rest)) ≡ y ∷ (front ++ (xs ++ rest))) some
      (behind-last (n + 1) (n + suc (length front)) [] y front xs rest (omega arith) (omega arith) next.0 tt next.1
      (after-less (n + suc (length front)) (n + k) xs (omega (arith, some)) rise))

  -- and then some item has the number of that anchor
  pub last-there : (n k : ℕ) (front rest : List X) → k ≡ length front → AreNext n front → (nat_eq (anchor_at n k) 0 || list_any (λ z. nat_eq (number z) (anchor_at n k)) (front ++ rest)) ≡ true
  last-there n k [] rest e next =
      let none : 0 ≡ k = omega (arith, e) in
      subst (λ j. (nat_eq (anchor_at n j) 0 || list_any (λ z. nat_eq (number z) (anchor_at n j)) rest) ≡ true) none refl
  last-there n k (y ∷ front) rest e next =
      let some : suc (length front) ≡ k = omega (arith, e) in
      or_right (nat_eq (anchor_at n k) 0) (list_any (λ z. nat_eq (number z) (anchor_at n k)) (y ∷ (front ++ rest)))
      (subst (λ j. list_any (λ z. nat_eq (number z) (anchor_at n j)) (y ∷ (front ++ rest)) ≡ true) some (along n (n + suc (length front)) y front (omega arith) next))
    where
      along : (m a : ℕ) (z : X) (zs : List X) → a ≡ m + suc (length zs) → AreNext m (z ∷ zs) → list_any (λ w. nat_eq (number w) a) (z ∷ (zs ++ rest)) ≡ true
      along m a z [] e next =
          let same : nat_eq (number z) a ≡ true = grind (arith, nat_tests, next.0, e) in
          ap (λ b. b || list_any (λ w. nat_eq (number w) a) rest) same
      along m a z (w ∷ zs) e next =
          or_right (nat_eq (number z) a) (list_any (λ v. nat_eq (number v) a) (w ∷ (zs ++ rest))) (along (m + 1) a w zs (omega (arith, e)) next.1)
