-- The first node that passes, found among some nodes.
use Rattle.std.proofs.Common.{◌≡◌, ℕ, zero, suc, ◌<◌, Bool, true, false, cond, ◌&&◌, ◌||◌, nat_eq, min, List, [], ◌∷◌, ◌++◌, map, get_or, length, Option, Some, None, position, refl, sym, ap, ◌∙◌, arith}
use Rattle.std.specs.List.{AllByRecursion}
use Rattle.std.specs.Option.{option_map}
use Rattle.std.proofs.lemmas.Bool.{or_parts, eqb-true}
use Rattle.cov_base.specs.Rows.{has_node, AreDistinct}
use Rattle.cov_base.proofs.CallerLemmas.{any-push, nat_eq-sym}
use Rattle.cov_tree.specs.declared.dated.DatedEntry.{DatedEntry}
use Rattle.cov_tree.specs.Dated.{newest_entry}
use Rattle.cov_tree.specs.Entries.{nodes_of}
use Rattle.cov_tree.specs.Installing.{IsPlaceOf}
use Rattle.cov_tree.specs.Looking.{earlier}
use Rattle.cov_tree.proofs.Indexing.{place_first}
use Rattle.cov_tree.proofs.Installing.{others}

module _ {X : Type 0} where
  pub place_never : (xs : List X) → position (λ x. false) xs ≡ None
  place_never [] = refl
  place_never (x ∷ xs) = place_first (λ y. false) x xs ∙ ap (option_map suc) (place_never xs)

  -- the first item that passes one of two tests
  place_either : (f g : X → Bool) (xs : List X) → position (λ x. f x || g x) xs ≡ earlier (position f xs) (position g xs)
  place_either f g [] = refl
  place_either f g (x ∷ xs) =
      place_first (λ y. f y || g y) x xs
      ∙ ap (λ o. cond (f x || g x) (Some 0) (option_map suc o)) (place_either f g xs)
      ∙ by (f x) (g x) (position f xs) (position g xs)
      ∙ (λ j. earlier (sym (place_first f x xs) j) (sym (place_first g x xs) j))
    where
      both : (p q : Option ℕ) → option_map suc (earlier p q) ≡ earlier (option_map suc p) (option_map suc q)
      both None q = refl
      both (Some i) None = refl
      both (Some i) (Some k) = let least : suc (min i k) ≡ min (suc i) (suc k) = omega arith in ap Some least

      by : (a b : Bool) (p q : Option ℕ) → cond (a || b) (Some 0) (option_map suc (earlier p q)) ≡ earlier (cond a (Some 0) (option_map suc p)) (cond b (Some 0) (option_map suc q))
      by true true p q = let least : 0 ≡ min 0 0 = omega arith in ap Some least
      by true false p None = refl
      by true false p (Some k) = let least : 0 ≡ min 0 (suc k) = omega arith in ap Some least
      by false true None q = refl
      by false true (Some i) q = let least : 0 ≡ min (suc i) 0 = omega arith in ap Some least
      by false false p q = both p q

  place_same : (f g : X → Bool) (xs : List X) → AllByRecursion (λ x. f x ≡ g x) xs → position f xs ≡ position g xs
  place_same f g [] h = refl
  place_same f g (x ∷ xs) h = place_first f x xs ∙ (λ j. cond (h.0 j) (Some 0) (option_map suc (place_same f g xs h.1 j))) ∙ sym (place_first g x xs)

module _ (t : DatedEntry → Bool) where
  -- of one node, where it stands
  pub one_absent : (n : ℕ) (es : List DatedEntry) → IsPlaceOf n es None → None ≡ position (λ e. nat_eq e.node n && t e) es
  one_absent n [] h = refl
  one_absent n (e ∷ es) h =
      let parts = or_parts (nat_eq e.node n) (has_node n (nodes_of (map newest_entry es))) h in
      sym
      (place_first (λ x. nat_eq x.node n && t x) e es
      ∙ ap (λ b. cond (b && t e) (Some 0) (option_map suc (position (λ x. nat_eq x.node n && t x) es))) parts.0
      ∙ ap (option_map suc) (sym (one_absent n es parts.1)))

  at_place : (n : ℕ) (es : List DatedEntry) (i : ℕ) (d : DatedEntry) → AreDistinct (nodes_of (map newest_entry es)) → i < length es → nat_eq (get_or es i d).node n ≡ true
      → position (λ e. nat_eq e.node n && t e) es ≡ cond (t (get_or es i d)) (Some i) None
  at_place n [] i d once here is = absurd (omega (arith, here))
  at_place n (e ∷ es) zero d once here is =
      place_first (λ x. nat_eq x.node n && t x) e es
      ∙ ap (λ b. cond (b && t e) (Some 0) (option_map suc (position (λ x. nat_eq x.node n && t x) es))) is
      ∙ ap (λ o. cond (t e) (Some 0) (option_map suc o)) (sym (one_absent n es (ap (λ m. has_node m (nodes_of (map newest_entry es))) (sym own) ∙ once.0)))
    where
      own : e.node ≡ n
      own = eqb-true e.node n is
  at_place n (e ∷ es) (suc i) d once here is =
      place_first (λ x. nat_eq x.node n && t x) e es
      ∙ ap (λ b. cond (b && t e) (Some 0) (option_map suc (position (λ x. nat_eq x.node n && t x) es))) (others n e es i d (omega (arith, here)) is once.0)
      ∙ ap (option_map suc) (at_place n es i d once.1 (omega (arith, here)) is)
      ∙ by (t (get_or es i d))
    where
      by : (b : Bool) → option_map suc (cond b (Some i) None) ≡ cond b (Some (suc i)) None
      by true = refl
      by false = refl

  pub one_there : (n : ℕ) (es : List DatedEntry) (i : ℕ) (e : DatedEntry) (b : Bool) → AreDistinct (nodes_of (map newest_entry es)) → IsPlaceOf n es (Some i) → e ≡ get_or es i e → t e ≡ b
      → cond b (Some i) None ≡ position (λ x. nat_eq x.node n && t x) es
  one_there n es i e b once there at is = sym (at_place n es i e once there.0 (there.1 e) ∙ ap (λ c. cond c (Some i) None) (ap t (sym at) ∙ is))

  -- of some nodes, with one more
  pub one_more : (done : List ℕ) (n : ℕ) (es : List DatedEntry) → earlier (position (λ e. has_node e.node done && t e) es) (position (λ e. nat_eq e.node n && t e) es)
      ≡ position (λ e. has_node e.node (done ++ n ∷ []) && t e) es
  one_more done n es =
      sym (place_either (λ e. has_node e.node done && t e) (λ e. nat_eq e.node n && t e) es)
      ∙ ap (λ (f : DatedEntry → Bool). position f es) (λ j e. same e j)
    where
      by : (a b c : Bool) → ((a && c) || (b && c)) ≡ ((a || b) && c)
      by true true true = refl
      by true true false = refl
      by true false true = refl
      by true false false = refl
      by false b c = refl

      same : (e : DatedEntry) → ((has_node e.node done && t e) || (nat_eq e.node n && t e)) ≡ (has_node e.node (done ++ n ∷ []) && t e)
      same e =
          by (has_node e.node done) (nat_eq e.node n) (t e)
          ∙ ap (λ b. (has_node e.node done || b) && t e) (nat_eq-sym e.node n)
          ∙ ap (λ b. b && t e) (sym (any-push (λ m. nat_eq m e.node) done n))

  -- and of all that pass
  pub all_searched : (nodes : List ℕ) (es : List DatedEntry) → AllByRecursion (λ e. t e ≡ true → has_node e.node nodes ≡ true) es → position (λ e. has_node e.node nodes && t e) es ≡ position t es
  all_searched nodes es h = place_same (λ e. has_node e.node nodes && t e) t es (all es h)
    where
      by : (a b : Bool) → (b ≡ true → a ≡ true) → (a && b) ≡ b
      by true b k = refl
      by false true k = k refl
      by false false k = refl

      all : (xs : List DatedEntry) → AllByRecursion (λ e. t e ≡ true → has_node e.node nodes ≡ true) xs → AllByRecursion (λ e. (has_node e.node nodes && t e) ≡ t e) xs
      all [] k = tt
      all (x ∷ xs) k = (by (has_node x.node nodes) (t x) k.0, all xs k.1)
