-- Values of nodes, one more and one fewer, and those before and after nodes take the places of others.
use Rattle.std.proofs.Common.{◌≡◌, ◌<◌, ◌≤◌, ℕ, Bool, false, cond, nat_eq, List, [], ◌∷◌, ◌++◌, length, slice_index_or, Option, None, Some, refl, ap, sym, subst, ◌∙◌, arith}
use Rattle.std.specs.List.{AllByRecursion}
use Rattle.std.specs.Option.{option_map_or}
use Rattle.cov_base.proofs.CallerLemmas.{nat_eq-sym, rest-is, rest_of}
use Rattle.cov_values.specs.Replaced.{found_by, IsReplacedTo, IsValuedBefore}
use Rattle.cov_values.specs.Values.{Agrees, HaveValues, IsNotValued, IsOther}
use Rattle.cov_values.specs.declared.replacing.Replaced.{Replaced}
use Rattle.cov_values.specs.declared.values.Evaluated.{Evaluated}
use Rattle.cov_values.proofs.Taking.{same_number}

-- a node that isn't valued gets any value
module _ (node : ℕ) (value : Bool) (f : ℕ → Bool) where
  -- the values with one more
  abbrev with_value : ℕ → Bool
  with_value n = cond (nat_eq n node) value (f n)

  more : (es : List Evaluated) → AllByRecursion (IsOther node) es → AllByRecursion (λ e. f e.node ≡ e.value) es
      → AllByRecursion (λ e. with_value e.node ≡ e.value) (es ++ record { node = node; value = value } ∷ [])
  more [] others h = (ap (λ b. cond b value (f node)) (same_number node), tt)
  more (e ∷ es) others h = (ap (λ b. cond b value (f e.node)) others.0 ∙ h.0, more es others.1 h.1)

  pub valued_more : (es : List Evaluated) → IsNotValued es node → Agrees f es → HaveValues (es ++ record { node = node; value = value } ∷ [])
  valued_more es new h = (with_value, (ap (λ b. cond b value (f 0)) (nat_eq-sym 0 node ∙ new.0) ∙ h.0, more es new.1 h.1))

-- values before, from those after
module _ (rs : List Replaced) (f h : ℕ → Bool) where
  abbrev before : ℕ → Bool
  before n = option_map_or f (found_by rs n) (h n)

  each : (es : List Evaluated) → AllByRecursion (λ e. h e.node ≡ e.value) es → AllByRecursion (IsReplacedTo rs f) es → AllByRecursion (λ e. before e.node ≡ e.value) es
  each [] k to = tt
  each (e ∷ es) k to = (by (found_by rs e.node) refl, each es k.1 to.1)
    where
      by : (o : Option ℕ) → found_by rs e.node ≡ o → option_map_or f o (h e.node) ≡ e.value
      by None is = k.0
      by (Some m) is = to.0 m is

  pub valued_before : (es : List Evaluated) → f 0 ≡ false → Agrees h es → AllByRecursion (IsReplacedTo rs f) es → IsValuedBefore rs f es
  valued_before es none agrees to = (before, ((none, each es agrees.1 to), λ n m is. ap (λ o. option_map_or f o (h n)) is))

-- of values that agree, that of the first node, of the last, and those before the last
pub first_value : (f : ℕ → Bool) (es : List Evaluated) (e : Evaluated) (n : ℕ) → 1 ≤ length es → Agrees f es → (slice_index_or es 0 e).node ≡ n → f n ≡ (slice_index_or es 0 e).value
first_value f [] e n some agrees is = absurd (omega (arith, some))
first_value f (x ∷ xs) e n some agrees is = ap f (sym is) ∙ agrees.1.0

of_last : (f : ℕ → Bool) (es : List Evaluated) (e : Evaluated) → AllByRecursion (λ d. f d.node ≡ d.value) (es ++ e ∷ []) → AllByRecursion (λ d. f d.node ≡ d.value) es × (f e.node ≡ e.value)
of_last f [] e h = (tt, h.0)
of_last f (x ∷ xs) e h = let rest = of_last f xs e h.1 in ((h.0, rest.0), rest.1)

pub last_value : (f : ℕ → Bool) (es : List Evaluated) (e : Evaluated) → Agrees f (es ++ e ∷ []) → f e.node ≡ e.value
last_value f es e h = (of_last f es e h.1).1

pub before_last : (f : ℕ → Bool) (es : List Evaluated) (e : Evaluated) → Agrees f (es ++ e ∷ []) → Agrees f es
before_last f es e h = (h.0, (of_last f es e h.1).0)

-- values that agree with these and with one more
with_last : (f : ℕ → Bool) (es : List Evaluated) (e : Evaluated) → f e.node ≡ e.value → AllByRecursion (λ d. f d.node ≡ d.value) es → AllByRecursion (λ d. f d.node ≡ d.value) (es ++ e ∷ [])
with_last f [] e is h = (is, tt)
with_last f (x ∷ xs) e is h = (h.0, with_last f xs e is h.1)

pub agrees_more : (f : ℕ → Bool) (es : List Evaluated) (e : Evaluated) → f e.node ≡ e.value → Agrees f es → Agrees f (es ++ e ∷ [])
agrees_more f es e is h = (h.0, with_last f es e is h.1)

-- what holds of the first and of all others holds of all
pub all-with : {X : Type 0} (P : X → Type 0) (xs : List X) (d : X) → 1 ≤ length xs → P (slice_index_or xs 0 d) → AllByRecursion P (rest_of xs) → AllByRecursion P xs
all-with P [] d some first rest = absurd (omega (arith, some))
all-with P (x ∷ xs) d some first rest = (first, subst (AllByRecursion P) (rest-is x xs) rest)

-- of nothing all holds
pub all-none : {X : Type 0} (P : X → Type 0) (xs : List X) → length xs < 1 → AllByRecursion P xs
all-none P [] none = tt
all-none P (x ∷ xs) none = absurd (omega (arith, none))
