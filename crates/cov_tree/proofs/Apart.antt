-- Places of which no two have one directory and one name.
use Rattle.std.proofs.Common.{◌≡◌, ◌&&◌, ◌||◌, ℕ, zero, suc, Bool, true, false, nat_eq, List, [], ◌∷◌, ◌++◌, set, get_or, None, position, refl, sym, ap, ◌∙◌, arith}
use Rattle.std.specs.Str.{bytes_eq}
use Rattle.std.proofs.lemmas.Bool.Decides.{nat_tests}
use Rattle.std.proofs.lemmas.Slice.Eq.{bytes_eq-Decides}
use Rattle.std.proofs.lemmas.Bool.{or_parts}
use Rattle.cov_base.proofs.CallerLemmas.{both_ways, none-placed}
use Rattle.cov_tree.specs.declared.entry.Place.{Place}
use Rattle.cov_tree.specs.Entries.{is_one_place, has_place, AreApart}
use Rattle.cov_tree.specs.Shifts.{place_at}

pub one_parts : (p : ℕ) (n : List ℕ) (q : ℕ) (m : List ℕ) → is_one_place p n q m ≡ true → (p ≡ q) × (n ≡ m)
one_parts p n q m h = at (nat_eq p q) refl h
  where
    at : (b : Bool) → nat_eq p q ≡ b → (b && bytes_eq n m) ≡ true → (p ≡ q) × (n ≡ m)
    at true e k = (grind (arith, nat_tests, e), (bytes_eq-Decides n m).0 k)
    at false e k = absurd (cc)

pub one_of : (p : ℕ) (n : List ℕ) (q : ℕ) (m : List ℕ) → p ≡ q → n ≡ m → is_one_place p n q m ≡ true
one_of p n q m e f =
    let parent : nat_eq p q ≡ true = grind (arith, nat_tests, e) in
    λ j. parent j && (bytes_eq-Decides n m).1 f j

one_sym : (p : ℕ) (n : List ℕ) (q : ℕ) (m : List ℕ) → is_one_place p n q m ≡ is_one_place q m p n
one_sym p n q m =
    both_ways (is_one_place p n q m) (is_one_place q m p n)
    (λ e. let x = one_parts p n q m e in one_of q m p n (sym x.0) (sym x.1)) (λ e. let x = one_parts q m p n e in one_of p n q m (sym x.0) (sym x.1))

-- a place of another directory or name behind them
has_behind : (p : ℕ) (n : List ℕ) (ps : List Place) (q : Place) → has_place p n ps ≡ false → is_one_place p n q.parent q.name ≡ false → has_place p n (ps ++ q ∷ []) ≡ false
has_behind p n [] q h e = ap (λ b. b || false) e
has_behind p n (r ∷ ps) q h e =
    ap (λ b. b || has_place p n (ps ++ q ∷ [])) (or_parts (is_one_place p n r.parent r.name) (has_place p n ps) h).0
    ∙ has_behind p n ps q (or_parts (is_one_place p n r.parent r.name) (has_place p n ps) h).1 e

pub apart_behind : (ps : List Place) (q : Place) → AreApart ps → has_place q.parent q.name ps ≡ false → AreApart (ps ++ q ∷ [])
apart_behind [] q d h = (refl, tt)
apart_behind (p ∷ ps) q d h = (
  has_behind p.parent p.name ps q d.0 (one_sym p.parent p.name q.parent q.name ∙ (or_parts (is_one_place q.parent q.name p.parent p.name) (has_place q.parent q.name ps) h).0),
  apart_behind ps q d.1 (or_parts (is_one_place q.parent q.name p.parent p.name) (has_place q.parent q.name ps) h).1,
)

-- other choices of a place
has_set : (p : ℕ) (n : List ℕ) (ps : List Place) (i : ℕ) (d : Place) (vis : ℕ) → has_place p n (set ps i (place_at (get_or ps i d).parent (get_or ps i d).name vis)) ≡ has_place p n ps
has_set p n [] i d vis = refl
has_set p n (q ∷ ps) zero d vis = refl
has_set p n (q ∷ ps) (suc i) d vis = ap (λ b. is_one_place p n q.parent q.name || b) (has_set p n ps i d vis)

pub apart_set : (ps : List Place) (i : ℕ) (d : Place) (vis : ℕ) → AreApart ps → AreApart (set ps i (place_at (get_or ps i d).parent (get_or ps i d).name vis))
apart_set [] i d vis h = tt
apart_set (p ∷ ps) zero d vis h = h
apart_set (p ∷ ps) (suc i) d vis h = (has_set p.parent p.name ps i d vis ∙ h.0, apart_set ps i d vis h.1)

-- where none is found, there is none
pub none_there : (p : ℕ) (n : List ℕ) (ps : List Place) → position (λ q. is_one_place p n q.parent q.name) ps ≡ None → has_place p n ps ≡ false
none_there p n ps h = none-placed (λ (q : Place). is_one_place p n q.parent q.name) ps h
