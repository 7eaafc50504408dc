-- Whole records at the front of bytes.
use Rattle.std.proofs.Common.{◌≡◌, inl, inr, ℕ, ◌+◌, List, ◌∷◌, ◌++◌, length, take, refl, sym, ◌∙◌, ap, arith, append_assoc, length-append}
use Rattle.std.specs.Int.{w32, to_be_bytes, from_be_bytes}
use Rattle.std.proofs.lemmas.List.{take_at}
use Rattle.std.proofs.lemmas.Nat.{from_be_bytes-to_be_bytes_4}
use Rattle.cov_journal.specs.Journal.{body}
use Rattle.cov_journal.specs.Reading.{IsCut, record_length}
use Rattle.cov_journal.proofs.CallerLemmas.{counted_one, length-body}
use Rattle.cov_store.specs.Damages.{Begins}

-- a record by its parts, with what stands behind it
flat : (digest p behind : List ℕ) → body digest p ++ behind ≡ to_be_bytes w32 (length p) ++ (p ++ (digest ++ behind))
flat digest p behind = append_assoc (to_be_bytes w32 (length p)) (p ++ digest) behind ∙ ap (λ l. to_be_bytes w32 (length p) ++ l) (append_assoc p digest behind)

-- bytes begin with one whole record at most
pub begins_one : (behind p d q e : List ℕ) → Begins behind p d → Begins behind q e → (p ≡ q) × (d ≡ e)
begins_one behind p d q e a b =
    let r = a.gate ∷ a.rest in
    let s = b.gate ∷ b.rest in
    let parts = counted_one p q (d ++ r) (e ++ s) a.short b.short (sym (flat d p r) ∙ sym a.bytes ∙ b.bytes ∙ flat e q s) in
    (parts.0, sym (take_at d r 32 a.size) ∙ ap (take 32) parts.1 ∙ take_at e s 32 b.size)

-- and then they aren't cut
pub begins_whole : (behind p d : List ℕ) → Begins behind p d → IsCut behind → ⊥
begins_whole behind p d b cut =
    let r = b.gate ∷ b.rest in
    let size : length behind ≡ length p + 36 + length r = ap length b.bytes ∙ length-append (body d p) r ∙ ap (λ n. n + length r) (length-body d p b.size) in
    let front : take 4 behind ≡ to_be_bytes w32 (length p) = ap (take 4) (b.bytes ∙ flat d p r) ∙ take_at (to_be_bytes w32 (length p)) (p ++ (d ++ r)) 4 refl in
    let count : record_length behind ≡ length p = ap (from_be_bytes w32) front ∙ from_be_bytes-to_be_bytes_4 (length p) b.short in
    elim cut [ inl few ↦ absurd (omega (arith, few, size)) | inr few ↦ absurd (omega (arith, few, size, count)) ]
