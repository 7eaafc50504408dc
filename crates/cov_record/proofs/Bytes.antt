-- Numbers and names in bytes, both ways.
use Rattle.std.proofs.Common.{◌≡◌, ℕ, zero, suc, ◌/◌, ◌%◌, ◌<◌, ◌≤◌, ◌^◌, Bool, true, ◌&&◌, not, nat_eq, nat_lt, nat_le, List, [], ◌∷◌, ◌++◌, length, take, drop, get_or, Some, refl, sym, ap, subst, ◌∙◌, arith}
use Rattle.std.specs.Int.{w16, w32, to_be_bytes, from_be_bytes, byte_at}
use Rattle.std.proofs.lemmas.Nat.{be_bytes_4, be_bytes_2, from_be_bytes-to_be_bytes_4, from_be_bytes-to_be_bytes_2}
use Rattle.std.proofs.lemmas.Option.{none-some}
use Rattle.std.proofs.lemmas.Bool.{and_parts, lt-ltb, ltb-true, le-leb, leb-true}
use Rattle.std.proofs.lemmas.List.{take-append-drop, length-take-le, length-append}
use Rattle.std.proofs.Math.Seq.{drop-append_seam, take-append_seam}
use Rattle.cov_base.specs.Spelling.{is_line_text}
use Rattle.cov_base.specs.declared.limits.TheConstants.{MOST_TEXT_BYTES}
use Rattle.std.specs.List.{list_any}
use Rattle.cov_record.specs.Payload.{name_spelling, text_spelling}
use Rattle.cov_record.specs.Reading.{front_u8, front_u16, front_u32, front_bytes, front_sized, front_spelt, front_text}
use Rattle.cov_record.proofs.Fronts.{pair_of, given_some, given_true, behind_some, behind_at}

pub u8_forth : (bs : List ℕ) (b : ℕ) (r : List ℕ) → front_u8 bs ≡ Some (b, r) → bs ≡ b ∷ r
u8_forth [] b r h = absurd (none-some (b, r) h)
u8_forth (c ∷ cs) b r h = let p = pair_of c b cs r h in λ i. p.0 i ∷ p.1 i

byte_below : (i n : ℕ) → nat_lt (byte_at i n) 256 ≡ true
byte_below zero n = lt-ltb (n % 256) 256 (omega arith)
byte_below (suc i) n = lt-ltb (n / 256 ^ suc i % 256) 256 (omega arith)

pub u32_back : (n : ℕ) (r : List ℕ) → n < 2 ^ 32 → front_u32 (to_be_bytes w32 n ++ r) ≡ Some (n, r)
u32_back n r h =
    given_true (nat_lt (byte_at 3 n) 256 && (nat_lt (byte_at 2 n) 256 && (nat_lt (byte_at 1 n) 256 && nat_lt (byte_at 0 n) 256))) (from_be_bytes w32 (to_be_bytes w32 n)) r
    (λ i. byte_below 3 n i && (byte_below 2 n i && (byte_below 1 n i && byte_below 0 n i)))
    ∙ ap (λ m. Some (m, r)) (from_be_bytes-to_be_bytes_4 n h)

below_each : (a b c d : ℕ) → a < 256 → b < 256 → c < 256 → d < 256 → (i : ℕ) → get_or (a ∷ b ∷ c ∷ d ∷ []) i 0 < 256
below_each a b c d ha hb hc hd zero = ha
below_each a b c d ha hb hc hd (suc zero) = hb
below_each a b c d ha hb hc hd (suc (suc zero)) = hc
below_each a b c d ha hb hc hd (suc (suc (suc zero))) = hd
below_each a b c d ha hb hc hd (suc (suc (suc (suc i)))) = omega arith

four_below : (a b c d : ℕ) → a < 256 → b < 256 → c < 256 → d < 256 → from_be_bytes w32 (a ∷ b ∷ c ∷ d ∷ []) < 2 ^ 32
four_below a b c d ha hb hc hd = omega (arith, ha, hb, hc, hd)

pub u32_forth : (bs : List ℕ) (n : ℕ) (r : List ℕ) → front_u32 bs ≡ Some (n, r) → (n < 2 ^ 32) × (bs ≡ to_be_bytes w32 n ++ r)
u32_forth [] n r h = absurd (none-some (n, r) h)
u32_forth (a ∷ []) n r h = absurd (none-some (n, r) h)
u32_forth (a ∷ b ∷ []) n r h = absurd (none-some (n, r) h)
u32_forth (a ∷ b ∷ c ∷ []) n r h = absurd (none-some (n, r) h)
u32_forth (a ∷ b ∷ c ∷ d ∷ bs) n r h =
    let g = given_some (nat_lt a 256 && (nat_lt b 256 && (nat_lt c 256 && nat_lt d 256))) (from_be_bytes w32 (a ∷ b ∷ c ∷ d ∷ [])) n bs r h in
    let first = and_parts (nat_lt a 256) (nat_lt b 256 && (nat_lt c 256 && nat_lt d 256)) g.0 in
    let second = and_parts (nat_lt b 256) (nat_lt c 256 && nat_lt d 256) first.1 in
    let third = and_parts (nat_lt c 256) (nat_lt d 256) second.1 in
    let ha = ltb-true a 256 first.0 in
    let hb = ltb-true b 256 second.0 in
    let hc = ltb-true c 256 third.0 in
    let hd = ltb-true d 256 third.1 in
    let e = be_bytes_4 (a ∷ b ∷ c ∷ d ∷ []) n refl (below_each a b c d ha hb hc hd) (sym g.1) in
    (subst (λ m. m < 2 ^ 32) g.1 (four_below a b c d ha hb hc hd), λ i. sym e i ++ g.2 i)

pub u16_back : (n : ℕ) (r : List ℕ) → n < 2 ^ 16 → front_u16 (to_be_bytes w16 n ++ r) ≡ Some (n, r)
u16_back n r h =
    given_true (nat_lt (byte_at 1 n) 256 && nat_lt (byte_at 0 n) 256) (from_be_bytes w16 (to_be_bytes w16 n)) r (λ i. byte_below 1 n i && byte_below 0 n i)
    ∙ ap (λ m. Some (m, r)) (from_be_bytes-to_be_bytes_2 n h)

both_below : (a b : ℕ) → a < 256 → b < 256 → (i : ℕ) → get_or (a ∷ b ∷ []) i 0 < 256
both_below a b ha hb zero = ha
both_below a b ha hb (suc zero) = hb
both_below a b ha hb (suc (suc i)) = omega arith

pub u16_forth : (bs : List ℕ) (n : ℕ) (r : List ℕ) → front_u16 bs ≡ Some (n, r) → bs ≡ to_be_bytes w16 n ++ r
u16_forth [] n r h = absurd (none-some (n, r) h)
u16_forth (a ∷ []) n r h = absurd (none-some (n, r) h)
u16_forth (a ∷ b ∷ bs) n r h =
    let g = given_some (nat_lt a 256 && nat_lt b 256) (from_be_bytes w16 (a ∷ b ∷ [])) n bs r h in
    let both = and_parts (nat_lt a 256) (nat_lt b 256) g.0 in
    let ha = ltb-true a 256 both.0 in
    let hb = ltb-true b 256 both.1 in
    let e = be_bytes_2 (a ∷ b ∷ []) n refl (both_below a b ha hb) (sym g.1) in
    λ i. sym e i ++ g.2 i

pub bytes_forth : (n : ℕ) (bs xs r : List ℕ) → front_bytes n bs ≡ Some (xs, r) → (n ≡ length xs) × (bs ≡ xs ++ r)
bytes_forth n bs xs r h =
    let g = given_some (nat_le n (length bs)) (take n bs) xs (drop n bs) r h in
    let e : length (take n bs) ≡ length xs = ap length g.1 in
    (sym (length-take-le n bs (leb-true n (length bs) g.0)) ∙ e, sym (take-append-drop n bs) ∙ (λ i. g.1 i ++ g.2 i))

pub bytes_back : (xs r : List ℕ) → front_bytes (length xs) (xs ++ r) ≡ Some (xs, r)
bytes_back xs r = given_true (nat_le (length xs) (length (xs ++ r))) (take (length xs) (xs ++ r)) (drop (length xs) (xs ++ r)) (le-leb (length xs) (length (xs ++ r)) (omega (arith, length-append xs r))) ∙ (λ i. Some (take-append_seam xs r i, drop-append_seam xs r i))

-- a name behind its length, where a test of it holds
pub spelt_back : (is_spelt : List ℕ → Bool) (name r : List ℕ) → is_spelt name ≡ true → front_spelt is_spelt (name_spelling name ++ r) ≡ Some (name, r)
spelt_back is_spelt name r h = behind_at (front_bytes (length name) (name ++ r)) _ (Some (name, r)) name r (bytes_back name r) (given_true (is_spelt name) name r h)

pub spelt_forth : (is_spelt : List ℕ → Bool) (bs name r : List ℕ) → front_spelt is_spelt bs ≡ Some (name, r) → (is_spelt name ≡ true) × (bs ≡ name_spelling name ++ r)
spelt_forth is_spelt bs name r h =
    let b = behind_some (front_sized bs) _ name r h in
    let a = behind_some (front_u8 bs) front_bytes b.0 b.1 b.2 in
    let g = given_some (is_spelt b.0) b.0 name b.1 r b.3 in
    let w = bytes_forth a.0 a.1 b.0 b.1 a.3 in
    (ap is_spelt (sym g.1) ∙ g.0, u8_forth bs a.0 a.1 a.2 ∙ (λ i. w.0 i ∷ w.1 i) ∙ (λ i. name_spelling (g.1 i) ++ g.2 i))

pub text_back : (text r : List ℕ) → is_line_text text ≡ true → front_text (text_spelling text ++ r) ≡ Some (text, r)
text_back text r h =
    let few : length text ≤ MOST_TEXT_BYTES = leb-true (length text) MOST_TEXT_BYTES (and_parts (nat_le (length text) MOST_TEXT_BYTES) (not (list_any (λ b. nat_eq b 10) text)) h).0 in
    behind_at (front_u16 (to_be_bytes w16 (length text) ++ (text ++ r))) _ (Some (text, r)) (length text) (text ++ r) (u16_back (length text) (text ++ r) (omega (arith, few)))
    (behind_at (front_bytes (length text) (text ++ r)) _ (Some (text, r)) text r (bytes_back text r) (given_true (is_line_text text) text r h))

pub text_forth : (bs text r : List ℕ) → front_text bs ≡ Some (text, r) → (is_line_text text ≡ true) × (bs ≡ text_spelling text ++ r)
text_forth bs text r h =
    let a = behind_some (front_u16 bs) _ text r h in
    let b = behind_some (front_bytes a.0 a.1) _ text r a.3 in
    let g = given_some (is_line_text b.0) b.0 text b.1 r b.3 in
    let w = bytes_forth a.0 a.1 b.0 b.1 b.2 in
    (ap is_line_text (sym g.1) ∙ g.0, u16_forth bs a.0 a.1 a.2 ∙ (λ i. to_be_bytes w16 (w.0 i) ++ w.1 i) ∙ (λ i. text_spelling (g.1 i) ++ g.2 i))
