-- Where the texts and the changes of lines are, and how they stay when one is put behind or replaced.
use Rattle.std.proofs.Common.{◌≡◌, ℕ, zero, suc, ◌+◌, ◌<◌, Bool, true, false, cond, not, nat_lt, nat_eq, ◌||◌, List, [], ◌∷◌, ◌++◌, length, set, Some, None, slice_get, position, unwrap_or, refl, sym, ap, ◌∙◌, arith}
use Rattle.std.specs.List.{list_any, position_or_len, AllByRecursion, IsDistinct}
use Rattle.std.specs.Map.{keys_of, lookup}
use Rattle.std.proofs.lemmas.Bool.Decides.{nat_tests}
use Rattle.std.proofs.lemmas.Option.{slice_get-get_or, unwrap_or-slice_get}
use Rattle.indexmap.specs.IndexMap.{insert_entry}
use Rattle.cov_base.proofs.CallerLemmas.{nat_eq-sym}
use Rattle.cov_file.specs.Kept.{changes_at, changes_in, text_in}

pub same_number : (n : ℕ) → nat_eq n n ≡ true
same_number n = grind (arith, nat_tests)

-- the index of the first key that is a line
abbrev pub place : ℕ → List ℕ → ℕ
place line keys = position_or_len (nat_eq line) keys

found_place : (line : ℕ) (keys : List ℕ) (i : ℕ) (b : Bool) → nat_lt (place line keys) (length keys) ≡ b → cond b (Some (place line keys)) None ≡ Some i → (place line keys ≡ i) × (place line keys < length keys)
found_place line keys i true e h = (cc, grind (arith, nat_tests, e))
found_place line keys i false e h = absurd (cc)

-- where a key is found, that is its place
pub found : (line : ℕ) (keys : List ℕ) (i : ℕ) → position (nat_eq line) keys ≡ Some i → (place line keys ≡ i) × (place line keys < length keys)
found line keys i h = found_place line keys i (nat_lt (place line keys) (length keys)) refl h

there_place : (line : ℕ) (keys : List ℕ) → place line keys < length keys → list_any (nat_eq line) keys ≡ true
there_place line [] h = absurd (omega (arith, h))
there_place line (k ∷ ks) h = at (nat_eq line k) h (there_place line ks)
  where
    at : (b : Bool) → cond (not b) (1 + place line ks) 0 < suc (length ks) → (place line ks < length ks → list_any (nat_eq line) ks ≡ true) → (b || list_any (nat_eq line) ks) ≡ true
    at true k rest = refl
    at false k rest = rest (omega (arith, k))

-- where a key is found, it is a key
pub there : (line : ℕ) (keys : List ℕ) (i : ℕ) → position (nat_eq line) keys ≡ Some i → list_any (nat_eq line) keys ≡ true
there line keys i h = there_place line keys (found line keys i h).1

read_place : (line : ℕ) (keys : List ℕ) (lists : List (List (ℕ × ℕ))) → place line keys < length keys → changes_at lists (place line keys) ≡ changes_in keys lists line
read_place line [] lists h = absurd (omega (arith, h))
read_place line (k ∷ ks) [] h = refl
read_place line (k ∷ ks) (l ∷ ls) h = at (nat_eq line k) h (read_place line ks ls)
  where
    at : (b : Bool) → cond (not b) (1 + place line ks) 0 < suc (length ks) → (place line ks < length ks → changes_at ls (place line ks) ≡ changes_in ks ls line)
        → changes_at (l ∷ ls) (cond (not b) (1 + place line ks) 0) ≡ cond b l (changes_in ks ls line)
    at true k rest = refl
    at false k rest =
        let one : 1 + place line ks ≡ suc (place line ks) = omega arith in
        ap (λ i. changes_at (l ∷ ls) i) one ∙ rest (omega (arith, k))

-- a line's changes stand at the place of its key
pub list_found : (line : ℕ) (keys : List ℕ) (lists : List (List (ℕ × ℕ))) (i : ℕ) → position (nat_eq line) keys ≡ Some i → changes_at lists i ≡ changes_in keys lists line
list_found line keys lists i h =
    ap (λ j. changes_at lists j) (sym (found line keys i h).0) ∙ read_place line keys lists (found line keys i h).1

-- and are there where there are as many lists as keys
pub list_there : (line : ℕ) (keys : List ℕ) (lists : List (List (ℕ × ℕ))) (i : ℕ) → length lists ≡ length keys → position (nat_eq line) keys ≡ Some i → slice_get lists i ≡ Some (changes_in keys lists line)
list_there line keys lists i same h =
    slice_get-get_or lists i [] (let f = found line keys i h in omega (arith, f.0, f.1, same))
    ∙ ap (λ v. Some v) (sym (unwrap_or-slice_get lists i []) ∙ list_found line keys lists i h)

-- a line that isn't a key has none
pub list_missing : (line : ℕ) (keys : List ℕ) (lists : List (List (ℕ × ℕ))) → list_any (nat_eq line) keys ≡ false → changes_in keys lists line ≡ []
list_missing line [] lists h = refl
list_missing line (k ∷ ks) [] h = refl
list_missing line (k ∷ ks) (l ∷ ls) h = at (nat_eq line k) h (list_missing line ks ls)
  where
    at : (b : Bool) → (b || list_any (nat_eq line) ks) ≡ false → (list_any (nat_eq line) ks ≡ false → changes_in ks ls line ≡ []) → cond b l (changes_in ks ls line) ≡ []
    at true k rest = absurd (cc)
    at false k rest = rest k

module _ (new : ℕ) (more : List (ℕ × ℕ)) where
  -- the other lines keep their changes where some are put behind with their key
  pub list_before : (line : ℕ) (keys : List ℕ) (lists : List (List (ℕ × ℕ))) → length lists ≡ length keys → list_any (nat_eq line) keys ≡ true
      → changes_in (keys ++ new ∷ []) (lists ++ more ∷ []) line ≡ changes_in keys lists line
  list_before line [] lists same h = absurd (cc)
  list_before line (k ∷ ks) [] same h = absurd (omega (arith, same))
  list_before line (k ∷ ks) (l ∷ ls) same h = at (nat_eq line k) h (list_before line ks ls (omega (arith, same)))
    where
      at : (b : Bool) → (b || list_any (nat_eq line) ks) ≡ true → (list_any (nat_eq line) ks ≡ true → changes_in (ks ++ new ∷ []) (ls ++ more ∷ []) line ≡ changes_in ks ls line)
          → cond b l (changes_in (ks ++ new ∷ []) (ls ++ more ∷ []) line) ≡ cond b l (changes_in ks ls line)
      at true k rest = refl
      at false k rest = rest k

  -- and the line of that key has these
  pub list_behind : (keys : List ℕ) (lists : List (List (ℕ × ℕ))) → length lists ≡ length keys → list_any (nat_eq new) keys ≡ false → changes_in (keys ++ new ∷ []) (lists ++ more ∷ []) new ≡ more
  list_behind [] [] same h = ap (λ b. cond b more []) (same_number new)
  list_behind [] (l ∷ ls) same h = absurd (omega (arith, same))
  list_behind (k ∷ ks) [] same h = absurd (omega (arith, same))
  list_behind (k ∷ ks) (l ∷ ls) same h = at (nat_eq new k) h (list_behind ks ls (omega (arith, same)))
    where
      at : (b : Bool) → (b || list_any (nat_eq new) ks) ≡ false → (list_any (nat_eq new) ks ≡ false → changes_in (ks ++ new ∷ []) (ls ++ more ∷ []) new ≡ more)
          → cond b l (changes_in (ks ++ new ∷ []) (ls ++ more ∷ []) new) ≡ more
      at true k rest = absurd (cc)
      at false k rest = rest k

set_first : {X : Type 0} (line m k : ℕ) (new v rest : X) (b c : Bool) → nat_eq line k ≡ true → nat_eq m k ≡ b → nat_eq m line ≡ c → cond b new rest ≡ cond c new (cond b v rest)
set_first line m k new v rest true true e f g = refl
set_first line m k new v rest false false e f g = refl
set_first line m k new v rest true false e f g = absurd (grind (arith, nat_tests, e, f, g))
set_first line m k new v rest false true e f g = absurd (grind (arith, nat_tests, e, f, g))

set_later : {X : Type 0} (line m k : ℕ) (new v rest : X) (b c : Bool) → nat_eq line k ≡ false → nat_eq m k ≡ b → nat_eq m line ≡ c → cond b v (cond c new rest) ≡ cond c new (cond b v rest)
set_later line m k new v rest true true e f g = absurd (grind (arith, nat_tests, e, f, g))
set_later line m k new v rest true false e f g = refl
set_later line m k new v rest false c e f g = refl

set_place : (line m : ℕ) (new : List (ℕ × ℕ)) (keys : List ℕ) (lists : List (List (ℕ × ℕ))) → length lists ≡ length keys → place line keys < length keys
    → changes_in keys (set lists (place line keys) new) m ≡ cond (nat_eq m line) new (changes_in keys lists m)
set_place line m new [] lists same h = absurd (omega (arith, h))
set_place line m new (k ∷ ks) [] same h = absurd (omega (arith, same))
set_place line m new (k ∷ ks) (l ∷ ls) same h = at (nat_eq line k) refl h (set_place line m new ks ls (omega (arith, same)))
  where
    at : (b : Bool) → nat_eq line k ≡ b → cond (not b) (1 + place line ks) 0 < suc (length ks)
        → (place line ks < length ks → changes_in ks (set ls (place line ks) new) m ≡ cond (nat_eq m line) new (changes_in ks ls m))
        → changes_in (k ∷ ks) (set (l ∷ ls) (cond (not b) (1 + place line ks) 0) new) m ≡ cond (nat_eq m line) new (cond (nat_eq m k) l (changes_in ks ls m))
    at true e less rest = set_first line m k new l (changes_in ks ls m) (nat_eq m k) (nat_eq m line) e refl refl
    at false e less rest =
        let one : 1 + place line ks ≡ suc (place line ks) = omega arith in
        ap (λ i. changes_in (k ∷ ks) (set (l ∷ ls) i new) m) one
        ∙ ap (λ n. cond (nat_eq m k) l n) (rest (omega (arith, less)))
        ∙ set_later line m k new l (changes_in ks ls m) (nat_eq m k) (nat_eq m line) e refl refl

-- one line alone has other changes where those at its key's place are replaced
pub list_set : (line m : ℕ) (new : List (ℕ × ℕ)) (keys : List ℕ) (lists : List (List (ℕ × ℕ))) (i : ℕ) → length lists ≡ length keys → position (nat_eq line) keys ≡ Some i
    → changes_in keys (set lists i new) m ≡ cond (nat_eq m line) new (changes_in keys lists m)
list_set line m new keys lists i same h =
    ap (λ j. changes_in keys (set lists j new) m) (sym (found line keys i h).0) ∙ set_place line m new keys lists same (found line keys i h).1

-- a new key goes last
pub put_last : (es : List (ℕ × List ℕ)) (k : ℕ) (t : List ℕ) → list_any (nat_eq k) (keys_of es) ≡ false → insert_entry nat_eq es k t ≡ es ++ (k, t) ∷ []
put_last [] k t h = refl
put_last (e ∷ es) k t h = at (nat_eq k e.0) h (put_last es k t)
  where
    at : (b : Bool) → (b || list_any (nat_eq k) (keys_of es)) ≡ false → (list_any (nat_eq k) (keys_of es) ≡ false → insert_entry nat_eq es k t ≡ es ++ (k, t) ∷ [])
        → cond b ((e.0, t) ∷ es) (e ∷ insert_entry nat_eq es k t) ≡ e ∷ (es ++ (k, t) ∷ [])
    at true m rest = absurd (cc)
    at false m rest = ap (λ l. e ∷ l) (rest m)

pub keys_behind : (es : List (ℕ × List ℕ)) (k : ℕ) (t : List ℕ) → keys_of (es ++ (k, t) ∷ []) ≡ keys_of es ++ k ∷ []
keys_behind [] k t = refl
keys_behind (e ∷ es) k t = ap (λ l. e.0 ∷ l) (keys_behind es k t)

pub length-keys : (es : List (ℕ × List ℕ)) → length (keys_of es) ≡ length es
length-keys [] = refl
length-keys (e ∷ es) = ap suc (length-keys es)

lookup_before : (n k : ℕ) (t : List ℕ) (es : List (ℕ × List ℕ)) → list_any (nat_eq n) (keys_of es) ≡ true → lookup (nat_eq n) (es ++ (k, t) ∷ []) ≡ lookup (nat_eq n) es
lookup_before n k t [] h = absurd (cc)
lookup_before n k t (e ∷ es) h = at (nat_eq n e.0) h (lookup_before n k t es)
  where
    at : (b : Bool) → (b || list_any (nat_eq n) (keys_of es)) ≡ true → (list_any (nat_eq n) (keys_of es) ≡ true → lookup (nat_eq n) (es ++ (k, t) ∷ []) ≡ lookup (nat_eq n) es)
        → cond b (Some e.1) (lookup (nat_eq n) (es ++ (k, t) ∷ [])) ≡ cond b (Some e.1) (lookup (nat_eq n) es)
    at true m rest = refl
    at false m rest = rest m

lookup_behind : (k : ℕ) (t : List ℕ) (es : List (ℕ × List ℕ)) → list_any (nat_eq k) (keys_of es) ≡ false → lookup (nat_eq k) (es ++ (k, t) ∷ []) ≡ Some t
lookup_behind k t [] h = ap (λ b. cond b (Some t) None) (same_number k)
lookup_behind k t (e ∷ es) h = at (nat_eq k e.0) h (lookup_behind k t es)
  where
    at : (b : Bool) → (b || list_any (nat_eq k) (keys_of es)) ≡ false → (list_any (nat_eq k) (keys_of es) ≡ false → lookup (nat_eq k) (es ++ (k, t) ∷ []) ≡ Some t)
        → cond b (Some e.1) (lookup (nat_eq k) (es ++ (k, t) ∷ [])) ≡ Some t
    at true m rest = absurd (cc)
    at false m rest = rest m

-- the other lines keep their texts where one is put behind
pub text_before : (n k : ℕ) (t : List ℕ) (es : List (ℕ × List ℕ)) → list_any (nat_eq n) (keys_of es) ≡ true → text_in (es ++ (k, t) ∷ []) n ≡ text_in es n
text_before n k t es h = ap (λ o. unwrap_or o []) (lookup_before n k t es h)

pub text_behind : (k : ℕ) (t : List ℕ) (es : List (ℕ × List ℕ)) → list_any (nat_eq k) (keys_of es) ≡ false → text_in (es ++ (k, t) ∷ []) k ≡ t
text_behind k t es h = ap (λ o. unwrap_or o []) (lookup_behind k t es h)

-- where keys stand once, each stands at its place
module _ (line : ℕ) where
  apart_at : (keys : List ℕ) (i x : ℕ) → AllByRecursion (λ y. nat_eq x y ≡ false) keys → slice_get keys i ≡ Some line → nat_eq x line ≡ false
  apart_at [] i x all h = absurd (cc)
  apart_at (k ∷ ks) zero x all h = let same : k ≡ line = cc in ap (nat_eq x) (sym same) ∙ all.0
  apart_at (k ∷ ks) (suc i) x all h = apart_at ks i x all.1 h

  placed_at : (keys : List ℕ) (i : ℕ) → IsDistinct nat_eq keys → slice_get keys i ≡ Some line → (place line keys ≡ i) × (i < length keys)
  unfolding IsDistinct
  placed_at [] i distinct h = absurd (cc)
  placed_at (k ∷ ks) zero distinct h =
      let same : k ≡ line = cc in
      (ap (λ b. cond (not b) (1 + place line ks) 0) (ap (nat_eq line) same ∙ same_number line), omega arith)
  placed_at (k ∷ ks) (suc i) distinct h =
      let rest = placed_at ks i distinct.1 h in
      let differ : nat_eq line k ≡ false = nat_eq-sym line k ∙ apart_at ks i k distinct.0 h in
      let there : 1 + place line ks ≡ suc i = omega (arith, rest.0) in
      (ap (λ b. cond (not b) (1 + place line ks) 0) differ ∙ there, omega (arith, rest.1))

  key_at : (texts : List (ℕ × List ℕ)) (i : ℕ) (text : List ℕ) → slice_get texts i ≡ Some (line, text) → slice_get (keys_of texts) i ≡ Some line
  key_at [] i text h = absurd (cc)
  key_at (t ∷ texts) zero text h = let same : t ≡ (line, text) = cc in ap (λ (p : ℕ × List ℕ). Some p.0) same
  key_at (t ∷ texts) (suc i) text h = key_at texts i text h

  -- so a text that stands with its key at an index is found there
  pub found_at : (texts : List (ℕ × List ℕ)) (i : ℕ) (text : List ℕ) → IsDistinct nat_eq (keys_of texts) → slice_get texts i ≡ Some (line, text) → Some i ≡ position (nat_eq line) (keys_of texts)
  found_at texts i text distinct h =
      let at = placed_at (keys_of texts) i distinct (key_at texts i text h) in
      let within : nat_lt i (length (keys_of texts)) ≡ true = grind (arith, nat_tests, at.1) in
      sym (ap (λ n. cond (nat_lt n (length (keys_of texts))) (Some n) None) at.0 ∙ ap (λ b. cond b (Some i) None) within)
