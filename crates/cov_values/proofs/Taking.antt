-- One more node that takes the place of another.
use Rattle.std.proofs.Common.{◌≡◌, ℕ, Bool, true, false, cond, nat_eq, List, [], ◌∷◌, ◌++◌, None, Some, ap, sym, arith}
use Rattle.std.proofs.lemmas.Bool.Decides.{nat_tests}
use Rattle.std.proofs.lemmas.Option.{none-some}
use Rattle.cov_values.specs.Replaced.{found_by, found_in, IsReplacedStill}
use Rattle.cov_values.specs.declared.replacing.Replaced.{Replaced}

pub same_number : (n : ℕ) → nat_eq n n ≡ true
same_number n = grind (arith, nat_tests)

-- one node more is replaced
module _ (node to : ℕ) where
  abbrev last : List Replaced → List Replaced
  last rs = rs ++ record { node = node; by = to } ∷ []

  found_still : (rs : List Replaced) (n m : ℕ) → found_in rs n ≡ Some m → found_in (last rs) n ≡ Some m
  found_still [] n m h = absurd (none-some m h)
  found_still (r ∷ rs) n m h = by (nat_eq r.node n) h (found_still rs n m)
    where
      by : (b : Bool) → cond b (Some r.by) (found_in rs n) ≡ Some m → (found_in rs n ≡ Some m → found_in (last rs) n ≡ Some m) → cond b (Some r.by) (found_in (last rs) n) ≡ Some m
      by true is rest = is
      by false is rest = rest is

  pub added_still : (rs : List Replaced) → IsReplacedStill rs (last rs)
  added_still rs n m h = by (nat_eq n 0) h
    where
      by : (b : Bool) → cond b (Some 0) (found_in rs n) ≡ Some m → cond b (Some 0) (found_in (last rs) n) ≡ Some m
      by true is = is
      by false is = found_still rs n m is

  found_last : (rs : List Replaced) → found_in rs node ≡ None → found_in (last rs) node ≡ Some to
  found_last [] h = ap (λ b. cond b (Some to) None) (same_number node)
  found_last (r ∷ rs) h = by (nat_eq r.node node) h (found_last rs)
    where
      by : (b : Bool) → cond b (Some r.by) (found_in rs node) ≡ None → (found_in rs node ≡ None → found_in (last rs) node ≡ Some to) → cond b (Some r.by) (found_in (last rs) node) ≡ Some to
      by true is rest = absurd (none-some r.by (sym is))
      by false is rest = rest is

  pub added_there : (rs : List Replaced) → found_by rs node ≡ None → found_by (last rs) node ≡ Some to
  added_there rs h = by (nat_eq node 0) h
    where
      by : (b : Bool) → cond b (Some 0) (found_in rs node) ≡ None → cond b (Some 0) (found_in (last rs) node) ≡ Some to
      by true is = absurd (none-some 0 (sym is))
      by false is = found_last rs is
