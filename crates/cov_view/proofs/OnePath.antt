-- Nodes of a sound variant have different paths.
use Rattle.std.proofs.Common.{◌≡◌, ℕ, zero, suc, ◌<◌, true, false, List, [], ◌∷◌, ◌++◌, length, nat_eq, Option, Some, None, true≢false, refl, sym, ap, ◌∙◌, subst, arith}
use Rattle.std.specs.List.{list_any}
use Rattle.std.proofs.lemmas.Bool.{eq-eqb, or_parts}
use Rattle.std.proofs.lemmas.List.{same_from_push}
use Rattle.cov_base.specs.Rows.{Row, row_of}
use Rattle.cov_base.specs.Faults.{is_reached, from_parent}
use Rattle.cov_view.specs.Tree.{joined, climbed, path_to}

-- a name isn't empty and has no slash
pub record IsPart (name : List ℕ) : Type 0 where
  pub some : 0 < length name
  pub plain : list_any (nat_eq 47) name ≡ false

-- the names from the root to a node
pub data Under (rows : List Row) : ℕ → List (List ℕ) → Type 0 where
  root : {node : ℕ} {names : List (List ℕ)} → node ≡ 0 → names ≡ [] → Under rows node names
  below : {node : ℕ} {names all : List (List ℕ)} {r : Row} → row_of rows node ≡ Some r → Under rows r.parent names → all ≡ names ++ r.name ∷ [] → Under rows node all

abbrev path_join : List (List ℕ) → List ℕ → List ℕ
path_join [] path = path
path_join (n ∷ ns) path = joined n (path_join ns path)

join-push : (ns : List (List ℕ)) (n path : List ℕ) → path_join (ns ++ n ∷ []) path ≡ path_join ns (joined n path)
join-push [] n path = refl
join-push (m ∷ ns) n path = ap (joined m) (join-push ns n path)

cons-head : (a b : ℕ) (xs ys : List ℕ) → a ∷ xs ≡ b ∷ ys → a ≡ b
cons-head a b xs ys h = cc

cons-tail : (a b : ℕ) (xs ys : List ℕ) → a ∷ xs ≡ b ∷ ys → xs ≡ ys
cons-tail a b xs ys h = cc

nil-cons : {X : Type 0} (x : X) (xs : List X) → [] ≡ x ∷ xs → ⊥
nil-cons x xs h = absurd (cc)

-- a name without a slash isn't one with more behind a slash
no-slash : (n m path : List ℕ) → list_any (nat_eq 47) n ≡ false → n ≡ m ++ 47 ∷ path → ⊥
no-slash [] [] path plain h = nil-cons 47 path h
no-slash [] (x ∷ m) path plain h = nil-cons x (m ++ 47 ∷ path) h
no-slash (a ∷ n) [] path plain h = true≢false (sym (eq-eqb 47 a (sym (cons-head a 47 n path h))) ∙ (or_parts (nat_eq 47 a) (list_any (nat_eq 47) n) plain).0)
no-slash (a ∷ n) (x ∷ m) path plain h = no-slash n m path (or_parts (nat_eq 47 a) (list_any (nat_eq 47) n) plain).1 (cons-tail a x n (m ++ 47 ∷ path) h)

same-split : (n m p q : List ℕ) → list_any (nat_eq 47) n ≡ false → list_any (nat_eq 47) m ≡ false → n ++ 47 ∷ p ≡ m ++ 47 ∷ q → (n ≡ m) × (p ≡ q)
same-split [] [] p q u v h = (refl, cons-tail 47 47 p q h)
same-split [] (x ∷ m) p q u v h = absurd (true≢false (sym (eq-eqb 47 x (cons-head 47 x p (m ++ 47 ∷ q) h)) ∙ (or_parts (nat_eq 47 x) (list_any (nat_eq 47) m) v).0))
same-split (a ∷ n) [] p q u v h = absurd (true≢false (sym (eq-eqb 47 a (sym (cons-head a 47 (n ++ 47 ∷ p) q h))) ∙ (or_parts (nat_eq 47 a) (list_any (nat_eq 47) n) u).0))
same-split (a ∷ n) (x ∷ m) p q u v h =
    let rest = same-split n m p q (or_parts (nat_eq 47 a) (list_any (nat_eq 47) n) u).1 (or_parts (nat_eq 47 x) (list_any (nat_eq 47) m) v).1 (cons-tail a x (n ++ 47 ∷ p) (m ++ 47 ∷ q) h) in
    ((λ j. cons-head a x (n ++ 47 ∷ p) (m ++ 47 ∷ q) h j ∷ rest.0 j), rest.1)

same-joined : (n m p q : List ℕ) → IsPart n → IsPart m → joined n p ≡ joined m q → (n ≡ m) × (p ≡ q)
same-joined n m [] [] u v h = (h, refl)
same-joined n m [] (y ∷ q) u v h = absurd (no-slash n m (y ∷ q) u.plain h)
same-joined n m (x ∷ p) [] u v h = absurd (no-slash m n (x ∷ p) v.plain (sym h))
same-joined n m (x ∷ p) (y ∷ q) u v h = same-split n m (x ∷ p) (y ∷ q) u.plain v.plain h

joined-some : (n p : List ℕ) → IsPart n → joined n p ≡ [] → ⊥
joined-some [] p u h = omega (arith, u.some)
joined-some (a ∷ n) [] u h = nil-cons a n (sym h)
joined-some (a ∷ n) (x ∷ p) u h = nil-cons a (n ++ 47 ∷ x ∷ p) (sym h)

abbrev Parts : List (List ℕ) → Type 0
Parts [] = Unit {0}
Parts (n ∷ ns) = IsPart n × Parts ns

same-names : (ns ms : List (List ℕ)) → Parts ns → Parts ms → path_join ns [] ≡ path_join ms [] → ns ≡ ms
same-names [] [] u v h = refl
same-names [] (m ∷ ms) u v h = absurd (joined-some m (path_join ms []) v.0 (sym h))
same-names (n ∷ ns) [] u v h = absurd (joined-some n (path_join ns []) u.0 h)
same-names (n ∷ ns) (m ∷ ms) u v h =
    let both = same-joined n m (path_join ns []) (path_join ms []) u.0 v.0 h in
    let rest = same-names ns ms u.1 v.1 both.1 in
    (λ j. both.0 j ∷ rest j)

parts-push : (ns : List (List ℕ)) (n : List ℕ) → Parts ns → IsPart n → Parts (ns ++ n ∷ [])
parts-push [] n h k = (k, tt)
parts-push (m ∷ ns) n h k = (h.0, parts-push ns n h.1 k)

module _ (rows : List Row) (no_root : row_of rows 0 ≡ None) (named : (node : ℕ) (r : Row) → row_of rows node ≡ Some r → IsPart r.name)
    (apart : (a b : ℕ) (r s : Row) → row_of rows a ≡ Some r → row_of rows b ≡ Some s → r.parent ≡ s.parent → r.name ≡ s.name → a ≡ b) where
  parts-under : {node : ℕ} {names : List (List ℕ)} → Under rows node names → Parts names
  parts-under (root at is) = subst Parts (sym is) tt
  parts-under (below {names = names} {r = r} at up is) = subst Parts (sym is) (parts-push names r.name (parts-under up) (named _ r at))

  path-root : (steps : ℕ) (path : List ℕ) → path_to rows steps 0 path ≡ path
  path-root zero path = refl
  path-root (suc steps) path = ap (λ o. climbed o (path_to rows steps) path) no_root

  -- a node from which the root is reached has its path
  under : (steps node : ℕ) → is_reached rows steps node ≡ true → (names : List (List ℕ)) × Under rows node names × ((path : List ℕ) → path_to rows steps node path ≡ path_join names path)
  under steps zero h = ([], root refl refl, path-root steps)
  under zero (suc node) h = absurd (true≢false (sym h))
  under (suc steps) (suc node) h = by (row_of rows (suc node)) refl h (under steps)
    where
      by : (o : Option Row) → row_of rows (suc node) ≡ o → from_parent o (is_reached rows steps) ≡ true
          → ((node : ℕ) → is_reached rows steps node ≡ true → (names : List (List ℕ)) × Under rows node names × ((path : List ℕ) → path_to rows steps node path ≡ path_join names path))
          → (names : List (List ℕ)) × Under rows (suc node) names × ((path : List ℕ) → climbed o (path_to rows steps) path ≡ path_join names path)
      by None at h rec = absurd (true≢false (sym h))
      by (Some r) at h rec =
          let u = rec r.parent h in
          (u.0 ++ r.name ∷ [], below at u.1 refl, λ path. u.2 (joined r.name path) ∙ sym (join-push u.0 r.name path))

  nil-push : (xs : List (List ℕ)) (x : List ℕ) → [] ≡ xs ++ x ∷ [] → ⊥
  nil-push [] x h = nil-cons x [] h
  nil-push (y ∷ xs) x h = nil-cons y (xs ++ x ∷ []) h

  one_under : {a b : ℕ} {ns ms : List (List ℕ)} → Under rows a ns → Under rows b ms → ns ≡ ms → a ≡ b
  one_under (root x u) (root y v) h = x ∙ sym y
  one_under (root x u) (below {names = names} {r = r} at up is) h = absurd (nil-push names r.name (sym u ∙ h ∙ is))
  one_under (below {names = names} {r = r} at up is) (root x u) h = absurd (nil-push names r.name (sym u ∙ sym h ∙ is))
  one_under (below {names = names} {r = r} at up is) (below {names = others} {r = s} to on ends) h =
      let both = same_from_push names others r.name s.name (sym is ∙ h ∙ ends) in
      apart _ _ r s at to (one_under up on both.0) both.1

  -- nodes with one path are one
  pub one_path : (steps a b : ℕ) → is_reached rows steps a ≡ true → is_reached rows steps b ≡ true → path_to rows steps a [] ≡ path_to rows steps b [] → a ≡ b
  one_path steps a b h k same =
      let x = under steps a h in
      let y = under steps b k in
      one_under x.1 y.1 (same-names x.0 y.0 (parts-under x.1) (parts-under y.1) (sym (x.2 []) ∙ same ∙ y.2 []))
