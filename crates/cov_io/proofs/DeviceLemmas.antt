-- What is read from the front of a text, and written in parts.
use Rattle.std.proofs.Common.{◌≡◌, ℕ, ◌+◌, ◌-◌, ◌≤◌, List, ◌++◌, length, take, drop, Option, Some, None, sym, ◌∙◌, ap, arith, append_assoc, length-take, length-drop}
use Rattle.std.specs.Io.KnownBytes.{Appends}
use Rattle.std.proofs.lemmas.List.{take-append-le, take-append-drop, take_all, take_rest}
use Rattle.std.proofs.lemmas.List.Folds.{drop_split}
use Rattle.cov_io.specs.Devices.{AppendsAll}

-- a buffer whose front was overwritten by the front of what is left
pub front_read : (bytes into : List ℕ) (at n : ℕ) → at + n ≤ length bytes
    → drop at bytes ≡ take n (take (at + n - at) (drop at bytes) ++ drop n into) ++ drop (at + n) bytes
front_read bytes into at n fits =
    let part : List ℕ = take (at + n - at) (drop at bytes) in
    let size : length part ≡ n = omega (arith, length-take (at + n - at) (drop at bytes), length-drop at bytes) in
    let front : take n (part ++ drop n into) ≡ part = take-append-le n part (drop n into) (omega arith) ∙ take_all n part (omega arith) in
    drop_split bytes at (at + n) (omega arith) ∙ ap (λ t. t ++ drop (at + n) bytes) (sym front)

-- what was written, and more
pub appends_more : (first more : List ℕ) (old mid new : Option (List ℕ)) → AppendsAll first old mid → Appends mid new more → AppendsAll (first ++ more) old new
appends_more first more None mid new all appends = tt
appends_more first more (Some old) None new all appends = absurd (cc)
appends_more first more (Some old) (Some mid) None all appends = absurd appends
appends_more first more (Some old) (Some mid) (Some new) all appends =
    let same : mid ≡ old ++ first = cc in
    ap (λ t. Some t) (appends ∙ ap (λ t. t ++ more) same ∙ append_assoc old first more)

-- the parts of all, with n bytes more in the first of them
pub parts_more : (all first rest : List ℕ) (n : ℕ) → all ≡ first ++ rest → all ≡ (first ++ take n rest) ++ take (length rest - n) (drop n rest)
parts_more all first rest n parts =
    rw (append_assoc, take_rest, take-append-drop) parts
