-- Bytes that are drawn into an image, one after another.
use Rattle.std.proofs.Common.{◌≡◌, refl, ℕ, zero, suc, ◌+◌, ◌-◌, ◌<◌, ◌≤◌, List, [], ◌∷◌, ◌++◌, length, get_or, take, drop, arith, ap, sym, ◌∙◌, append_assoc, append-nil, length-append, length-take, take-append-drop}
use Rattle.std.proofs.lemmas.List.{drop_more}
use Rattle.std.proofs.Math.ListN.{set}
use Rattle.std.proofs.Math.Seq.{set-append_seam}
use Rattle.cov_disk.specs.Generated.{next_state, byte_of, state_after, bytes_from, tearing}

pub length-bytes_from : (n x : ℕ) → length (bytes_from n x) ≡ n
length-bytes_from zero x = refl
length-bytes_from (suc n) x = omega (arith, length-append (bytes_from n x) (byte_of (next_state (state_after n x)) ∷ []), length-bytes_from n x)

-- one place further
further : (at i : ℕ) → at ≤ i → i + 1 - at ≡ suc (i - at)
further at i le = omega (arith, le)

pub next_after : (at i x : ℕ) → at ≤ i → next_state (state_after (i - at) x) ≡ state_after (i + 1 - at) x
next_after at i x le = ap (λ k. state_after k x) (sym (further at i le))

pub pushed : (front : List ℕ) (at i x : ℕ) → at ≤ i → front ++ bytes_from (i - at) x ++ byte_of (next_state (state_after (i - at) x)) ∷ [] ≡ front ++ bytes_from (i + 1 - at) x
pushed front at i x le = append_assoc front (bytes_from (i - at) x) (byte_of (next_state (state_after (i - at) x)) ∷ []) ∙ ap (λ k. front ++ bytes_from k x) (sym (further at i le))

-- none are drawn yet
pub none_after : (at x : ℕ) → x ≡ state_after (at - at) x
none_after at x = let zero_is : at - at ≡ 0 = omega arith in ap (λ k. state_after k x) (sym zero_is)

pub none_drawn : (at x : ℕ) (old : List ℕ) → old ≡ take at old ++ bytes_from (at - at) x ++ drop (at + (at - at)) old
none_drawn at x old =
    let zero_is : at - at ≡ 0 = omega arith in
    let here : at + (at - at) ≡ at = omega arith in
    sym (take-append-drop at old) ∙ ap (λ l. l ++ drop at old) (sym (append-nil (take at old)) ∙ ap (λ k. take at old ++ bytes_from k x) (sym zero_is))
    ∙ ap (λ k. take at old ++ bytes_from (at - at) x ++ drop k old) (sym here)

pub none_pushed : (front : List ℕ) (n x : ℕ) → n ≡ length front → front ≡ front ++ bytes_from (n - length front) x
none_pushed front n x is =
    let zero_is : n - length front ≡ 0 = omega (arith, is) in
    sym (append-nil front) ∙ ap (λ k. front ++ bytes_from k x) (sym zero_is)

-- a byte is set where the next one comes
pub set_next : (at i x : ℕ) (old image : List ℕ) → at ≤ i → i < length old → image ≡ take at old ++ bytes_from (i - at) x ++ drop (at + (i - at)) old
    → set image i (byte_of (next_state (state_after (i - at) x))) ≡ take at old ++ bytes_from (i + 1 - at) x ++ drop (at + (i + 1 - at)) old
set_next at i x old image le small is =
    let front = take at old ++ bytes_from (i - at) x in
    let byte = byte_of (next_state (state_after (i - at) x)) in
    let here : at + (i - at) ≡ i = omega (arith, le) in
    let next : at + (i + 1 - at) ≡ i + 1 = omega (arith, le) in
    let size : length front ≡ i = omega (arith, length-append (take at old) (bytes_from (i - at) x), length-take at old, length-bytes_from (i - at) x, le, small) in
    let parts : image ≡ front ++ get_or old i 0 ∷ drop (i + 1) old = is ∙ ap (λ k. front ++ drop k old) here ∙ ap (λ l. front ++ l) (drop_more old i 0 small) in
    ap (λ l. set l i byte) parts ∙ ap (λ k. set (front ++ get_or old i 0 ∷ drop (i + 1) old) k byte) (sym size)
    ∙ set-append_seam front (get_or old i 0) (drop (i + 1) old) byte
    ∙ sym (append_assoc front (byte ∷ []) (drop (i + 1) old))
    ∙ ap (λ l. l ++ drop (i + 1) old) (pushed (take at old) at i x le)
    ∙ ap (λ k. take at old ++ bytes_from (i + 1 - at) x ++ drop k old) (sym next)

pub same_tearing : (a b : List ℕ) (m n x y : ℕ) → a ≡ b → m ≡ n → x ≡ y → tearing a m x ≡ tearing b n y
same_tearing a b m n x y images reaches states = λ k. tearing (images k) (reaches k) (states k)
