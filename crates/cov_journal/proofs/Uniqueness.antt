-- An image holds one list of payloads at most.
use Rattle.std.proofs.Common.{◌≡◌, ◌≢◌, inl, inr, refl, ℕ, ◌<◌, ◌^◌, List, [], ◌∷◌, ◌++◌, length, take, drop, get_or, sym, ◌∙◌, ap, append_assoc}
use Rattle.std.specs.Int.{w32, to_be_bytes, from_be_bytes}
use Rattle.std.proofs.lemmas.List.{append_cancel_left, take_at, drop_at}
use Rattle.std.proofs.lemmas.Nat.{from_be_bytes-to_be_bytes_4}
use Rattle.cov_journal.specs.Journal.{header, no_digest, next_digest, body, records, IsWritten}
use Rattle.cov_journal.specs.Laws.{AreShort, OneJournal}
use Rattle.cov_journal.proofs.Anew.{holds_none}

-- a length and so many bytes are one payload
pub counted_one : (p q r s : List ℕ) → length p < 2 ^ 32 → length q < 2 ^ 32 → to_be_bytes w32 (length p) ++ (p ++ r) ≡ to_be_bytes w32 (length q) ++ (q ++ s) → (p ≡ q) × (r ≡ s)
counted_one p q r s short_p short_q same =
    let counts : to_be_bytes w32 (length p) ≡ to_be_bytes w32 (length q) =
    sym (take_at (to_be_bytes w32 (length p)) (p ++ r) 4 refl) ∙ ap (take 4) same ∙ take_at (to_be_bytes w32 (length q)) (q ++ s) 4 refl in
    let count : length p ≡ length q =
    sym (from_be_bytes-to_be_bytes_4 (length p) short_p) ∙ ap (from_be_bytes w32) counts ∙ from_be_bytes-to_be_bytes_4 (length q) short_q in
    let behind : p ++ r ≡ q ++ s =
    sym (drop_at (to_be_bytes w32 (length p)) (p ++ r) 4 refl) ∙ ap (drop 4) same ∙ drop_at (to_be_bytes w32 (length q)) (q ++ s) 4 refl in (
      sym (take_at p r (length p) refl) ∙ ap (take (length p)) behind ∙ take_at q s (length p) (sym count),
      sym (drop_at p r (length p) refl) ∙ ap (drop (length p)) behind ∙ drop_at q s (length p) (sym count),
    )

-- a record by its parts, with what stands behind it
flat : (digest p rest behind : List ℕ) → (body digest p ++ rest) ++ behind ≡ to_be_bytes w32 (length p) ++ (p ++ (digest ++ (rest ++ behind)))
flat digest p rest behind =
    append_assoc (body digest p) rest behind ∙ append_assoc (to_be_bytes w32 (length p)) (p ++ digest) (rest ++ behind)
    ∙ ap (λ l. to_be_bytes w32 (length p) ++ l) (append_assoc p digest (rest ++ behind))

one_list : (before : List ℕ) (ps qs : List (List ℕ)) (gate end : ℕ) (r s : List ℕ) → AreShort ps → AreShort qs → gate ≢ 1 → end ≢ 1
    → records before ps ++ gate ∷ r ≡ records before qs ++ end ∷ s → ps ≡ qs
one_list before [] [] gate end r s short_ps short_qs shut_p shut_q same = refl
one_list before [] (q ∷ qs) gate end r s short_ps short_qs shut_p shut_q same = absurd (shut_p (ap (λ l. get_or l 0 0) same))
one_list before (p ∷ ps) [] gate end r s short_ps short_qs shut_p shut_q same = absurd (shut_q (sym (ap (λ l. get_or l 0 0) same)))
one_list before (p ∷ ps) (q ∷ qs) gate end r s short_ps short_qs shut_p shut_q same =
    let dp = next_digest before p in
    let dq = next_digest before q in
    let parts = counted_one p q (dp ++ (records dp ps ++ gate ∷ r)) (dq ++ (records dq qs ++ end ∷ s)) short_ps.0 short_qs.0
    (sym (flat dp p (records dp ps) (gate ∷ r)) ∙ ap (drop 1) same ∙ flat dq q (records dq qs) (end ∷ s)) in
    let behind : records dp ps ++ gate ∷ r ≡ records dp qs ++ end ∷ s =
    append_cancel_left dp (records dp ps ++ gate ∷ r) (records dp qs ++ end ∷ s)
    (parts.1 ∙ ap (λ x. next_digest before x ++ (records (next_digest before x) qs ++ end ∷ s)) (sym parts.0)) in
    let rest = one_list dp ps qs gate end r s short_ps.1 short_qs.1 shut_p shut_q behind in
    λ i. parts.0 i ∷ rest i

one_written : (image : List ℕ) (ps qs : List (List ℕ)) → AreShort ps → AreShort qs → IsWritten image ps → IsWritten image qs → ps ≡ qs
one_written image ps qs short_ps short_qs w v =
    one_list no_digest ps qs w.gate v.gate w.rest v.rest short_ps short_qs w.is_closed v.is_closed
    (append_cancel_left header (records no_digest ps ++ w.gate ∷ w.rest) (records no_digest qs ++ v.gate ∷ v.rest) (sym w.bytes ∙ v.bytes))

pub one_journal : OneJournal
one_journal image ps qs short_ps short_qs (inl none) held = none.0 ∙ sym (holds_none image qs none.1 held)
one_journal image ps qs short_ps short_qs (inr w) (inl none) = holds_none image ps none.1 (inr w) ∙ sym none.0
one_journal image ps qs short_ps short_qs (inr w) (inr v) = one_written image ps qs short_ps short_qs w v
