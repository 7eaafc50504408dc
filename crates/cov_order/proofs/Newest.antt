-- The newest line stands directly after its anchor.
use Rattle.std.proofs.Common.{◌≡◌, ℕ, zero, suc, ◌<◌, ◌≤◌, true, false, List, [], ◌∷◌, length, refl, sym, ap, subst, arith}
use Rattle.std.specs.List.{AllByRecursion}
use Rattle.cov_base.specs.Addresses.{stands_before, address_in, IsTable, placed, AreInOrder, after_anchor, itself}
use Rattle.cov_base.proofs.CallerLemmas.{all-map, placed-in_order, new_after, placed-after_line, placed-at_head, inside}
use Rattle.cov_order.specs.Laws.{IsNewest, filled, AreRising}

module _ (t : List (List ℕ)) (table : IsTable t) where
  -- the address of a line below another isn't empty, and its numbers are below the other
  below_newest : (line : ℕ) → line ≤ length t → (k : ℕ) → (0 < k) × (k < line) → (0 < length (address_in t k)) × AllByRecursion (λ m. m < line) (address_in t k)
  below_newest line known zero h = absurd (omega (arith, h.0))
  below_newest line known (suc k) h =
      let less : suc k < line = h.1 in
      let own = inside t (suc k) (address_in t (suc k)) table (omega (arith, less, known)) (k, (omega arith), refl) in
      (own.0, all-map (λ m. m < suc (suc k)) (λ m. m < line) (λ m j. omega (arith, j, less)) (address_in t (suc k)) own.1)

  -- by address the newest line stands after its anchor
  pub newest : (anchor line : ℕ) (lines : List ℕ) → AreInOrder (address_in t) lines → IsNewest t anchor line lines → placed (address_in t) line lines ≡ after_anchor anchor line lines
  newest zero line lines o new =
      placed-at_head (address_in t) itself line line lines new.address
      (all-map (λ k. (0 < k) × (k < line)) (λ k. (0 < length (address_in t k)) × AllByRecursion (λ m. m < line) (address_in t k)) (λ k h. below_newest line new.known k h) lines new.greatest)
  newest (suc anchor) line lines o new =
      placed-after_line (address_in t) itself line (suc anchor) (address_in t (suc anchor)) lines new.address o
      (all-map (λ k. (0 < k) × (k < line)) (λ k. AllByRecursion (λ m. m < line) (address_in t k)) (λ k h. (below_newest line new.known k h).1) lines new.greatest)
      (every lines)
      new.anchored
    where
      every : (ls : List ℕ) → AllByRecursion (λ k. k ≡ suc anchor → address_in t k ≡ address_in t (suc anchor)) ls
      every [] = tt
      every (k ∷ ls) = ((λ e. ap (address_in t) e), every ls)

  pub newest_in_order : (anchor line : ℕ) (lines : List ℕ) → AreInOrder (address_in t) lines → IsNewest t anchor line lines → AreInOrder (address_in t) (after_anchor anchor line lines)
  newest_in_order anchor line lines o new =
      subst (AreInOrder (address_in t)) (newest anchor line lines o new)
      (placed-in_order (address_in t) line lines o
      (all-map (λ k. (0 < k) × (k < line)) (λ k. stands_before (address_in t line) (address_in t k) ≡ false → stands_before (address_in t k) (address_in t line) ≡ true)
      (λ k h. behind k (below_newest line new.known k h).1) lines new.greatest))
    where
      behind : (k : ℕ) → AllByRecursion (λ m. m < line) (address_in t k) → stands_before (address_in t line) (address_in t k) ≡ false → stands_before (address_in t k) (address_in t line) ≡ true
      behind k small =
          subst (λ a. stands_before a (address_in t k) ≡ false → stands_before (address_in t k) a ≡ true) (sym new.address)
          (λ e. new_after line (address_in t anchor) (address_in t k) small e)

  pub filled-in_order : (lines : List ℕ) (inserts : List (ℕ × ℕ)) → AreInOrder (address_in t) lines → AreRising t lines inserts → AreInOrder (address_in t) (filled lines inserts)
  filled-in_order lines [] o rising = o
  filled-in_order lines (insert ∷ inserts) o rising =
      filled-in_order (after_anchor insert.0 insert.1 lines) inserts (newest_in_order insert.0 insert.1 lines o rising.0) rising.1
