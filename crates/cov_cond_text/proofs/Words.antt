-- Comparing bytes with a word.
use Rattle.std.proofs.Common.{◌≡◌, ℕ, Bool, true, false, ◌&&◌, nat_eq, List, [], ◌∷◌, ◌++◌, take, drop, length, refl, ap, ◌∙◌}
use Rattle.std.specs.Str.{bytes_eq}

and_assoc : (a b c : Bool) → (a && (b && c)) ≡ ((a && b) && c)
and_assoc true b c = refl
and_assoc false b c = refl

-- bytes are a word of two parts where their front is the first part and the rest is the second
pub in_two : (front back bytes : List ℕ) → bytes_eq bytes (front ++ back) ≡ (bytes_eq (take (length front) bytes) front && bytes_eq (drop (length front) bytes) back)
in_two [] back bytes = refl
in_two (f ∷ front) back [] = refl
in_two (f ∷ front) back (b ∷ bytes) = ap (λ t. nat_eq b f && t) (in_two front back bytes) ∙ and_assoc (nat_eq b f) (bytes_eq (take (length front) bytes) front) (bytes_eq (drop (length front) bytes) back)
