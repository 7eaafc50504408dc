-- The expression of a listing has its values.
use Rattle.std.proofs.Common.{◌≡◌, ℕ, zero, suc, ◌+◌, ◌<◌, ◌≤◌, Bool, true, false, ◌&&◌, ◌||◌, not, nat_lt, List, [], ◌∷◌, length, slice_get, Option, Some, None, if◌then◌else◌, refl, sym, ◌∙◌, arith}
use Rattle.std.specs.List.{list_all}
use Rattle.std.proofs.lemmas.Bool.{and_parts}
use Rattle.std.proofs.lemmas.Bool.Decides.{nat_tests}
use Rattle.cov_base.specs.Choices.{is_on}
use Rattle.cov_base.specs.declared.limits.TheConstants.{CHOICE_WIDTH}
use Rattle.cov_expr.specs.Formula.{Formula, value, reach}
use Rattle.cov_vis.specs.declared.listing.Child.{Child}
use Rattle.cov_vis.specs.declared.listing.Child.TheVariants.{F, T, At}
use Rattle.cov_vis.specs.declared.listing.ListingEntry.{ListingEntry}
use Rattle.cov_vis.specs.Listings.{ListingValue, followed, reads, reads_from, has_options_below}
use Rattle.cov_cond.specs.Exporting.{entry_expression, expression_at, child_expression, expression_of}

-- what each form of an entry is where the option is on and where it is off
on_only : (b x y : Bool) → y ≡ false → (b && x) ≡ (if b then x else y)
on_only true x y h = refl
on_only false x y h = sym h

off_only : (b x y : Bool) → x ≡ false → (not b && y) ≡ (if b then x else y)
off_only true x y h = sym h
off_only false x y h = refl

on_or : (b x y : Bool) → x ≡ true → (b || y) ≡ (if b then x else y)
on_or true x y h = sym h
on_or false x y h = refl

off_or : (b x y : Bool) → y ≡ true → (not b || x) ≡ (if b then x else y)
off_or true x y h = refl
off_or false x y h = sym h

on_itself : (b x y : Bool) → x ≡ true → y ≡ false → b ≡ (if b then x else y)
on_itself true x y h k = sym h
on_itself false x y h k = sym k

off_itself : (b x y : Bool) → x ≡ false → y ≡ true → not b ≡ (if b then x else y)
off_itself true x y h k = sym h
off_itself false x y h k = sym k

by_both : (b x y : Bool) → ((b && x) || (not b && y)) ≡ (if b then x else y)
by_both true true y = refl
by_both true false y = refl
by_both false x y = refl

module _ (c : List Bool) (ex : Child → Formula ℕ) (never : value (ex F) c ≡ false) (always : value (ex T) c ≡ true) (o : ℕ) where
  entry-value : (off on : Child) → value (entry_expression ex o off on) c ≡ (if is_on c o then value (ex on) c else value (ex off) c)
  entry-value F F = on_only (is_on c o) (value (ex F) c) (value (ex F) c) never
  entry-value F T = on_itself (is_on c o) (value (ex T) c) (value (ex F) c) always never
  entry-value F (At i) = on_only (is_on c o) (value (ex (At i)) c) (value (ex F) c) never
  entry-value T F = off_itself (is_on c o) (value (ex F) c) (value (ex T) c) never always
  entry-value T T = off_or (is_on c o) (value (ex T) c) (value (ex T) c) always
  entry-value T (At i) = off_or (is_on c o) (value (ex (At i)) c) (value (ex T) c) always
  entry-value (At i) F = off_only (is_on c o) (value (ex F) c) (value (ex (At i)) c) never
  entry-value (At i) T = on_or (is_on c o) (value (ex T) c) (value (ex (At i)) c) always
  entry-value (At i) (At j) = by_both (is_on c o) (value (ex (At j)) c) (value (ex (At i)) c)

child-value : (c : List Bool) (entries : List ListingEntry) (steps : ℕ) (x : Child) → value (child_expression entries steps x) c ≡ reads_from entries steps x c
child-value c entries steps F = refl
child-value c entries steps T = refl
child-value c entries zero (At i) = refl
child-value c entries (suc steps) (At i) = at (λ x. child-value c entries steps x) (slice_get entries i)
  where
    at : ((x : Child) → value (child_expression entries steps x) c ≡ reads_from entries steps x c) → (o : Option ListingEntry) → value (expression_at (child_expression entries steps) o) c ≡ followed c (λ x. reads_from entries steps x c) o
    at each None = refl
    at each (Some e) =
        entry-value c (child_expression entries steps) refl refl e.option e.off e.on
        ∙ (λ j. if is_on c e.option then each e.on j else each e.off j)

-- the expression of a listing is true where the listing reads true
pub expression-value : (l : ListingValue) (c : List Bool) → value (expression_of l) c ≡ reads l c
expression-value l c = child-value c l.entries (CHOICE_WIDTH + length l.entries) l.root

-- and it has only options of its entries
module _ (n : ℕ) (ex : Child → Formula ℕ) (low : (x : Child) → reach (ex x) ≤ n) (o : ℕ) (below : o < n) where
  entry-reach : (off on : Child) → reach (entry_expression ex o off on) ≤ n
  entry-reach F F = omega (arith, below, low F)
  entry-reach F T = omega (arith, below)
  entry-reach F (At i) = omega (arith, below, low (At i))
  entry-reach T F = omega (arith, below)
  entry-reach T T = omega (arith, below, low T)
  entry-reach T (At i) = omega (arith, below, low (At i))
  entry-reach (At i) F = omega (arith, below, low (At i))
  entry-reach (At i) T = omega (arith, below, low (At i))
  entry-reach (At i) (At j) = omega (arith, below, low (At i), low (At j))

child-reach : (n : ℕ) (entries : List ListingEntry) (steps : ℕ) (x : Child) → list_all (λ e. nat_lt e.option n) entries ≡ true → reach (child_expression entries steps x) ≤ n
child-reach n entries steps F h = omega arith
child-reach n entries steps T h = omega arith
child-reach n entries zero (At i) h = omega arith
child-reach n entries (suc steps) (At i) h = at (λ x. child-reach n entries steps x h) (slice_get entries i) (found entries i h)
  where
    IsLow : Option ListingEntry → Type 0
    IsLow None = Unit {0}
    IsLow (Some e) = e.option < n

    found : (es : List ListingEntry) (k : ℕ) → list_all (λ e. nat_lt e.option n) es ≡ true → IsLow (slice_get es k)
    found [] k all = tt
    found (e ∷ es) zero all =
        let own : nat_lt e.option n ≡ true = (and_parts (nat_lt e.option n) (list_all (λ d. nat_lt d.option n) es) all).0 in
        grind (arith, nat_tests, own)
    found (e ∷ es) (suc k) all = found es k (and_parts (nat_lt e.option n) (list_all (λ d. nat_lt d.option n) es) all).1

    at : ((x : Child) → reach (child_expression entries steps x) ≤ n) → (o : Option ListingEntry) → IsLow o → reach (expression_at (child_expression entries steps) o) ≤ n
    at each None low = omega arith
    at each (Some e) low = entry-reach n (child_expression entries steps) each e.option low e.off e.on

pub expression-reach : (n : ℕ) (l : ListingValue) → has_options_below n l ≡ true → reach (expression_of l) ≤ n
expression-reach n l h = child-reach n l.entries (CHOICE_WIDTH + length l.entries) l.root h
