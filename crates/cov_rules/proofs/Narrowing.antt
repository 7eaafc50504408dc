-- What nodes say of lists of choices.
use Rattle.std.proofs.Common.{◌≡◌, ℕ, zero, suc, ◌+◌, ◌<◌, ◌≤◌, ◌==◌, max, Bool, true, false, cond, ◌&&◌, ◌||◌, List, [], ◌∷◌, ◌++◌, map, length, take, get_or, refl, sym, ap, subst, ◌∙◌, arith}
use Rattle.std.specs.List.{list_any, filter, AllByRecursion}
use Rattle.std.proofs.lemmas.List.{take_more, map-append}
use Rattle.cov_base.specs.Choices.{is_on}
use Rattle.cov_dd.specs.declared.triple.Triple.{Triple}
use Rattle.cov_dd.specs.Diagrams.{diagram_size, span, value_in, Extends}
use Rattle.cov_dd.proofs.CallerLemmas.{stands_later}
use Rattle.cov_expr.specs.Formula.{Formula, reach}
use Rattle.cov_rules.specs.Completion.{has_any, or_else, keep, keep_all}
use Rattle.cov_rules.specs.Installing.{expressions, reach_of, IsNodeOf, AllStand}
use Rattle.cov_rules.specs.declared.rules.Installed.{Installed}

-- a node has the same value on choices that have the same values of its options
pub value_in_same : (ts : List Triple) (a : ℕ) (c d : List Bool) → ((o : ℕ) → o < span ts a → is_on c o ≡ is_on d o) → value_in ts a c ≡ value_in ts a d
value_in_same [] a c d h = refl
value_in_same (t ∷ ts) a c d h = by (a == diagram_size ts) h (value_in_same ts a c d) (value_in_same ts t.on c d) (value_in_same ts t.off c d)
  where
    by : (b : Bool) → ((o : ℕ) → o < cond b (max (t.option + 1) (max (span ts t.off) (span ts t.on))) (span ts a) → is_on c o ≡ is_on d o)
        → (((o : ℕ) → o < span ts a → is_on c o ≡ is_on d o) → value_in ts a c ≡ value_in ts a d)
        → (((o : ℕ) → o < span ts t.on → is_on c o ≡ is_on d o) → value_in ts t.on c ≡ value_in ts t.on d)
        → (((o : ℕ) → o < span ts t.off → is_on c o ≡ is_on d o) → value_in ts t.off c ≡ value_in ts t.off d)
        → cond b (cond (is_on c t.option) (value_in ts t.on c) (value_in ts t.off c)) (value_in ts a c)
        ≡ cond b (cond (is_on d t.option) (value_in ts t.on d) (value_in ts t.off d)) (value_in ts a d)
    by true h here on off = λ j. cond (h t.option (omega arith) j) (on (λ o lt. h o (omega (arith, lt))) j) (off (λ o lt. h o (omega (arith, lt))) j)
    by false h here on off = here h

module _ {X : Type 0} where
  pub any_filter : (p : X → Bool) (xs : List X) → list_any p xs ≡ has_any (filter p xs)
  any_filter p [] = refl
  any_filter p (x ∷ xs) = by (p x) (any_filter p xs)
    where
      by : (b : Bool) → list_any p xs ≡ has_any (filter p xs) → (b || list_any p xs) ≡ has_any (cond b (x ∷ filter p xs) (filter p xs))
      by true h = refl
      by false h = h

  -- of what passes one test, that which passes another too
  pub filter_filter : (p t : X → Bool) (xs : List X) → filter t (filter p xs) ≡ filter (λ x. p x && t x) xs
  filter_filter p t [] = refl
  filter_filter p t (x ∷ xs) = by (p x) (filter_filter p t xs)
    where
      by : (b : Bool) → filter t (filter p xs) ≡ filter (λ y. p y && t y) xs → filter t (cond b (x ∷ filter p xs) (filter p xs)) ≡ cond (b && t x) (x ∷ filter (λ y. p y && t y) xs) (filter (λ y. p y && t y) xs)
      by true h = ap (λ ys. cond (t x) (x ∷ ys) ys) h
      by false h = h

  pub or_else_some : (ds cs : List X) → has_any ds ≡ true → ds ≡ or_else ds cs
  or_else_some [] cs h = absurd (cc)
  or_else_some (d ∷ ds) cs h = refl

  pub or_else_none : (ds cs : List X) → has_any ds ≡ false → cs ≡ or_else ds cs
  or_else_none [] cs h = refl
  or_else_none (d ∷ ds) cs h = absurd (cc)

-- a wish after others
pub keep_all-more : (cs : List (List Bool)) (es : List (Formula ℕ)) (e : Formula ℕ) → keep_all cs (es ++ e ∷ []) ≡ keep (keep_all cs es) e
keep_all-more cs [] e = refl
keep_all-more cs (d ∷ es) e = keep_all-more (keep cs d) es e

all_at : {X : Type 0} (P : X → Type 0) (xs : List X) (i : ℕ) (d : X) → AllByRecursion P xs → i < length xs → P (get_or xs i d)
all_at P [] i d h lt = absurd (omega (arith, lt))
all_at P (x ∷ xs) zero d h lt = h.0
all_at P (x ∷ xs) (suc i) d h lt = all_at P xs i d h.1 (omega (arith, lt))

-- the node of a rule, in a table that has grown
pub next_stands : (ts us : List Triple) → Extends ts us → (rs : List Installed) (i : ℕ) (r : Installed) → AllStand ts rs → i < length rs → r ≡ get_or rs i r → IsNodeOf us r.node r.expr
next_stands ts us grown rs i r h lt at =
    stands_later grown (subst (λ (q : Installed). IsNodeOf ts q.node q.expr) (sym at) (all_at (λ (q : Installed). IsNodeOf ts q.node q.expr) rs i r h lt))

-- the expressions of the first elements and one more
pub stated_more : {X : Type 0} (f : X → Formula ℕ) (xs : List X) (i : ℕ) (x : X) → i < length xs → x ≡ get_or xs i x → map f (take (i + 1) xs) ≡ map f (take i xs) ++ f x ∷ []
stated_more f xs i x here at = ap (map f) (take_more xs i x here ∙ ap (λ y. take i xs ++ y ∷ []) (sym at)) ∙ map-append f (take i xs) (x ∷ [])

-- an expression is among those that have no other options than these
pub reach_at : (rs : List Installed) (i : ℕ) (r : Installed) → i < length rs → r ≡ get_or rs i r → reach r.expr ≤ reach_of (expressions rs)
reach_at rs i r lt at = subst (λ (q : Installed). reach q.expr ≤ reach_of (expressions rs)) (sym at) (among rs i r lt)
  where
    among : (rs : List Installed) (i : ℕ) (d : Installed) → i < length rs → reach (get_or rs i d).expr ≤ reach_of (expressions rs)
    among [] i d h = absurd (omega (arith, h))
    among (r ∷ rs) zero d h = omega arith
    among (r ∷ rs) (suc i) d h = omega (arith, among rs i d (omega (arith, h)))
