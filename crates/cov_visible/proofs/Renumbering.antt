-- Files that get other nodes one after another.
use Rattle.std.proofs.Common.{◌≡◌, ℕ, zero, suc, ◌+◌, ◌<◌, ◌≤◌, List, [], ◌∷◌, length, take, get_or, set, take_all, subst, arith}
use Rattle.cov_visible.specs.declared.file_part.FilePart.{FilePart}
use Rattle.cov_visible.specs.Renumbered.{ArePartsRenumbered, IsRenumberedPart}

-- one file more has others
pub zip-next : (xs now : List FilePart) (i : ℕ) (d y : FilePart) → i < length xs → length now ≡ length xs → ArePartsRenumbered (take i xs) (take i now) → IsRenumberedPart (get_or xs i d) y
    → ArePartsRenumbered (take (suc i) xs) (take (suc i) (set now i y))
zip-next [] now i d y h long z own = absurd (omega (arith, h))
zip-next (x ∷ xs) [] i d y h long z own = absurd (omega (arith, long))
zip-next (x ∷ xs) (n ∷ now) zero d y h long z own = (own, tt)
zip-next (x ∷ xs) (n ∷ now) (suc i) d y h long z own = (z.0, zip-next xs now i d y (omega (arith, h)) (omega (arith, long)) z.1 own)

pub zip-step : (xs now : List FilePart) (i k : ℕ) (d y : FilePart) → k ≡ i + 1 → i < length xs → length now ≡ length xs → ArePartsRenumbered (take i xs) (take i now) → IsRenumberedPart (get_or xs i d) y
    → ArePartsRenumbered (take k xs) (take k (set now i y))
zip-step xs now i k d y at h long z own =
    let same : suc i ≡ k = omega (arith, at) in
    subst (λ m. ArePartsRenumbered (take m xs) (take m (set now i y))) same (zip-next xs now i d y h long z own)

-- at the end all have
pub zip-all : (xs now : List FilePart) (i : ℕ) → length xs ≤ i → length now ≡ length xs → ArePartsRenumbered (take i xs) (take i now) → ArePartsRenumbered xs now
zip-all xs now i h long z =
    subst (λ (q : List FilePart × List FilePart). ArePartsRenumbered q.0 q.1)
    (λ j. (take_all i xs h j, take_all i now (let low : length now ≤ i = omega (arith, h, long) in low) j)) z
