-- The room for the changes that are expected, before a change and after it.
use Rattle.std.specs.Prelude.{filter, Result, Ok, Err, OnOk, OnErr}
use Rattle.std.proofs.Common.{◌≡◌, ℕ, suc, ◌+◌, ◌≤◌, ◌<◌, Bool, true, false, not, cond, nat_eq, ◌&&◌, ◌||◌, List, [], ◌∷◌, ◌++◌, length, set, Some, None, position, refl, sym, ap, subst, ◌∙◌, arith}
use Rattle.std.specs.List.{list_any}
use Rattle.std.specs.Map.{keys_of}
use Rattle.std.specs.Option.{option_map_or}
use Rattle.std.proofs.lemmas.Bool.{and_parts, and_right, and_from, or_left, or_right, not-true, true≢false, eqb-true}
use Rattle.std.proofs.lemmas.List.{length-set}
use Rattle.cov_base.specs.Addresses.{after_anchor}
use Rattle.cov_order.specs.Orders.{has_line}
use Rattle.cov_file.specs.Kept.{LineChanges, is_at, with_node, changes_in, position_of, has_changed, waiting, changeable, AreKept}
use Rattle.cov_file.proofs.Finding.{list_missing, length-keys, same_number}
use Rattle.cov_file.proofs.Changing.{changes_stay, own_changes, keys_inserted, own_set, other_set}

-- a line is among those that pass a test if it is one of the lines and passes
pub has_filter : (t : ℕ → Bool) (n : ℕ) (lines : List ℕ) → has_line n (filter t lines) ≡ (has_line n lines && t n)
has_filter t n [] = refl
has_filter t n (m ∷ ms) = at (t m) (nat_eq m n) refl refl (has_filter t n ms)
  where
    at : (a b : Bool) → t m ≡ a → nat_eq m n ≡ b → has_line n (filter t ms) ≡ (has_line n ms && t n) → has_line n (cond a (m ∷ filter t ms) (filter t ms)) ≡ ((b || has_line n ms) && t n)
    at true true s e rest = ap (λ k. k || has_line n (filter t ms)) e ∙ sym (ap t (sym (eqb-true m n e)) ∙ s)
    at true false s e rest = ap (λ k. k || has_line n (filter t ms)) e ∙ rest
    at false true s e rest =
        let hidden : t n ≡ false = ap t (sym (eqb-true m n e)) ∙ s in
        rest ∙ ap (λ v. has_line n ms && v) hidden ∙ and_right (has_line n ms) false refl ∙ sym hidden
    at false false s e rest = rest

-- how many of some numbers don't pass
abbrev left : (ℕ → Bool) → List ℕ → ℕ
left t xs = length (filter (λ n. not (t n)) xs)

left_all : (t : ℕ → Bool) (xs : List ℕ) → left t xs ≤ length xs
left_all t [] = omega arith
left_all t (x ∷ xs) = at (t x) (left_all t xs)
  where
    at : (b : Bool) → left t xs ≤ length xs → length (cond (not b) (x ∷ filter (λ n. not (t n)) xs) (filter (λ n. not (t n)) xs)) ≤ suc (length xs)
    at true rest = omega (arith, rest)
    at false rest = omega (arith, rest)

module _ (t u : ℕ → Bool) (more : (n : ℕ) → t n ≡ true → u n ≡ true) where
  -- where more pass, no more are left
  left_falls : (xs : List ℕ) → left u xs ≤ left t xs
  left_falls [] = omega arith
  left_falls (x ∷ xs) = at (t x) (u x) (more x) (left_falls xs)
    where
      at : (a b : Bool) → (a ≡ true → b ≡ true) → left u xs ≤ left t xs
          → length (cond (not b) (x ∷ filter (λ n. not (u n)) xs) (filter (λ n. not (u n)) xs)) ≤ length (cond (not a) (x ∷ filter (λ n. not (t n)) xs) (filter (λ n. not (t n)) xs))
      at true true h rest = rest
      at true false h rest = absurd (let wrong = h refl in cc)
      at false true h rest = omega (arith, rest)
      at false false h rest = omega (arith, rest)

  -- and fewer where one of them passes besides
  left_one : (m : ℕ) (xs : List ℕ) → t m ≡ false → u m ≡ true → has_line m xs ≡ true → left u xs + 1 ≤ left t xs
  left_one m [] lacks has h = absurd (cc)
  left_one m (x ∷ xs) lacks has h = at (nat_eq x m) refl h (left_one m xs lacks has)
    where
      at : (b : Bool) → nat_eq x m ≡ b → (b || has_line m xs) ≡ true → (has_line m xs ≡ true → left u xs + 1 ≤ left t xs) → left u (x ∷ xs) + 1 ≤ left t (x ∷ xs)
      at true e k rest =
          let same = eqb-true x m e in
          let before : t x ≡ false = ap t same ∙ lacks in
          let after : u x ≡ true = ap u same ∙ has in
          let least = left_falls xs in
          subst (λ b. length (cond (not b) (x ∷ filter (λ n. not (u n)) xs) (filter (λ n. not (u n)) xs)) + 1 ≤ left t (x ∷ xs)) (sym after)
          (subst (λ b. left u xs + 1 ≤ length (cond (not b) (x ∷ filter (λ n. not (t n)) xs) (filter (λ n. not (t n)) xs))) (sym before) (omega (arith, least)))
      at false e k rest = by (t x) (u x) (more x) (rest k)
        where
          by : (a b : Bool) → (a ≡ true → b ≡ true) → left u xs + 1 ≤ left t xs
              → length (cond (not b) (x ∷ filter (λ n. not (u n)) xs) (filter (λ n. not (u n)) xs)) + 1 ≤ length (cond (not a) (x ∷ filter (λ n. not (t n)) xs) (filter (λ n. not (t n)) xs))
          by true true h least = least
          by true false h least = absurd (let wrong = h refl in cc)
          by false true h least = omega (arith, least)
          by false false h least = omega (arith, least)

-- the one position with room is that of the newest change, once there was one
same_position : (at : ℕ) (l : LineChanges) → option_map_or (λ p. nat_eq at p) (position_of l) true ≡ true → l.is_open ≡ false → at ≡ l.newest
same_position at l h closed = eqb-true at l.newest (ap (λ b. option_map_or (λ p. nat_eq at p) (cond b None (Some l.newest)) true) (sym closed) ∙ h)

-- a line that has a change at the position keeps it
stays_changed : (l l' : LineChanges) (keys keys' : List ℕ) (at : ℕ) → option_map_or (λ p. nat_eq at p) (position_of l) true ≡ true → l'.newest ≡ at → l'.is_open ≡ false
    → (n : ℕ) → (is_at at (changes_in keys l.lists n) ≡ true → is_at at (changes_in keys' l'.lists n) ≡ true) → has_changed l keys n ≡ true → has_changed l' keys' n ≡ true
stays_changed l l' keys keys' at there newest closed n stays h =
    let parts = and_parts (not l.is_open) (is_at l.newest (changes_in keys l.lists n)) h in
    let same = same_position at l there (not-true l.is_open parts.0) in
    (λ j. not (closed j) && is_at (newest j) (changes_in keys' l'.lists n)) ∙ stays (ap (λ p. is_at p (changes_in keys l.lists n)) same ∙ parts.1)

-- with as much room as there are changes, there is room
pub kept_with_room : (lines : List ℕ) (texts : List (ℕ × List ℕ)) (l l' : LineChanges) (deletes deletes' : List ℕ) → AreKept lines texts l deletes → l'.lists ≡ l.lists → length deletes' ≤ l'.room → AreKept lines texts l' deletes'
kept_with_room lines texts l l' deletes deletes' kept lists room = record {
  keys = kept.keys;
  lists = ap length lists ∙ kept.lists;
  room = let least = left_all (has_changed l' (keys_of texts)) deletes' in omega (arith, least, room);
}

-- and where there is no less than before
pub kept_as_before : (lines : List ℕ) (texts : List (ℕ × List ℕ)) (l l' : LineChanges) (deletes : List ℕ) → AreKept lines texts l deletes → l'.lists ≡ l.lists → l'.newest ≡ l.newest → l.room ≤ l'.room → l'.is_open ≡ l.is_open
    → AreKept lines texts l' deletes
kept_as_before lines texts l l' deletes kept lists newest room same_opening = record {
  keys = kept.keys;
  lists = ap length lists ∙ kept.lists;
  room =
      let same : waiting l' (keys_of texts) deletes ≡ waiting l (keys_of texts) deletes = λ j. length (filter (λ n. not (not (same_opening j) && is_at (newest j) (changes_in (keys_of texts) (lists j) n))) deletes) in
      omega (arith, same, kept.room, room);
}

-- after room was made or not
pub kept_prepared : {A E : Type 0} (r : Result A E) (lines : List ℕ) (texts : List (ℕ × List ℕ)) (l l' : LineChanges) (deletes : List ℕ) → AreKept lines texts l deletes → l'.lists ≡ l.lists → l'.newest ≡ l.newest → l.room ≤ l'.room
    → OnOk r (length deletes ≤ l'.room) → OnErr r (l'.is_open ≡ l.is_open) → AreKept lines texts l' deletes
kept_prepared (Ok x) lines texts l l' deletes kept lists newest more ok err = kept_with_room lines texts l l' deletes deletes kept lists ok
kept_prepared (Err e) lines texts l l' deletes kept lists newest more ok err = kept_as_before lines texts l l' deletes kept lists newest more err

-- where the lines and the texts are the same
pub kept_moved : (lines lines' : List ℕ) (texts texts' : List (ℕ × List ℕ)) (l : LineChanges) (deletes : List ℕ) → lines' ≡ lines → texts' ≡ texts → AreKept lines texts l deletes → AreKept lines' texts' l deletes
kept_moved lines lines' texts texts' l deletes same_lines same_texts kept = subst (λ x. x) (λ j. AreKept (sym same_lines j) (sym same_texts j) l deletes) kept

pub on_ok : {A E : Type 0} (r : Result A E) (P Q R : Type 0) → (P → Q → R) → OnOk r P → OnOk r Q → OnOk r R
on_ok (Ok x) P Q R f p q = f p q
on_ok (Err e) P Q R f p q = tt

module _ (lines : List ℕ) (texts : List (ℕ × List ℕ)) (l : LineChanges) (deletes : List ℕ) (kept : AreKept lines texts l deletes) (at : ℕ) (there : option_map_or (λ p. nat_eq at p) (position_of l) true ≡ true) where
  pub as_many : length l.lists ≡ length (keys_of texts)
  as_many = kept.lists ∙ sym (length-keys texts)

  module _ (line : ℕ) (text : List ℕ) (vis : ℕ) (fresh : has_line line lines ≡ false) (anchor : ℕ) (l' : LineChanges) (lists : l'.lists ≡ l.lists ++ ((at, vis) ∷ []) ∷ []) (newest : l'.newest ≡ at) (closed : l'.is_open ≡ false) where
    abbrev keys_after : List ℕ
    keys_after = keys_of (texts ++ (line, text) ∷ [])

    is_still_at : (n : ℕ) → is_at at (changes_in (keys_of texts) l.lists n) ≡ true → is_at at (changes_in keys_after l'.lists n) ≡ true
    is_still_at n h = by (list_any (nat_eq n) (keys_of texts)) refl
      where
        by : (b : Bool) → list_any (nat_eq n) (keys_of texts) ≡ b → is_at at (changes_in keys_after l'.lists n) ≡ true
        by true known =
            ap (λ ls. is_at at (changes_in keys_after ls n)) lists
            ∙ ap (is_at at) (changes_stay lines texts l.lists kept.keys as_many at line text vis fresh n known) ∙ h
        by false unknown = absurd (true≢false (sym h ∙ ap (is_at at) (list_missing n (keys_of texts) l.lists unknown)))

    -- an insertion takes no line's room
    pub insert_stays : (n : ℕ) → has_changed l (keys_of texts) n ≡ true → has_changed l' keys_after n ≡ true
    insert_stays n h = stays_changed l l' (keys_of texts) keys_after at there newest closed n (is_still_at n) h

    -- the line has a change at the position
    pub insert_own : has_changed l' keys_after line ≡ true
    insert_own =
        (λ j. not (closed j) && is_at (newest j) (changes_in keys_after (lists j) line))
        ∙ ap (is_at at) (own_changes lines texts l.lists kept.keys as_many at line text vis fresh) ∙ same_number at

    -- the invariant once a line is inserted
    pub inserted_kept : (lines' : List ℕ) (texts' : List (ℕ × List ℕ)) → lines' ≡ after_anchor anchor line lines → texts' ≡ texts ++ (line, text) ∷ [] → l'.room ≡ l.room → AreKept lines' texts' l' deletes
    inserted_kept lines' texts' same_lines same_texts room = record {
      keys = λ n. ap (has_line n) same_lines ∙ keys_inserted lines texts l.lists kept.keys as_many at line text vis fresh anchor n ∙ ap (λ es. list_any (nat_eq n) (keys_of es)) (sym same_texts);
      lists = ap length lists ∙ one_more l.lists ((at, vis) ∷ []) ∙ ap suc kept.lists ∙ sym (one_more texts (line, text)) ∙ ap length (sym same_texts);
      room = subst (λ es. waiting l' (keys_of es) deletes ≤ l'.room) (sym same_texts) (let least = left_falls (has_changed l (keys_of texts)) (has_changed l' keys_after) insert_stays deletes in omega (arith, least, kept.room, room));
    }
      where
        one_more : {X : Type 0} (xs : List X) (x : X) → length (xs ++ x ∷ []) ≡ suc (length xs)
        one_more [] x = refl
        one_more (y ∷ ys) x = ap suc (one_more ys x)

  module _ (line vis i : ℕ) (found : position (nat_eq line) (keys_of texts) ≡ Some i) where
    -- a line that may be changed has a change at the position, or has room
    pub has_room : has_line line (changeable l (keys_of texts) deletes lines) ≡ true → is_at at (changes_in (keys_of texts) l.lists line) ≡ false → (has_line line deletes ≡ true) × (has_changed l (keys_of texts) line ≡ false)
    has_room may apart = (by (has_line line deletes) refl, unchanged)
      where
        unchanged : has_changed l (keys_of texts) line ≡ false
        unchanged = at_all (has_changed l (keys_of texts) line) refl
          where
            at_all : (b : Bool) → has_changed l (keys_of texts) line ≡ b → b ≡ false
            at_all true h =
                let parts = and_parts (not l.is_open) (is_at l.newest (changes_in (keys_of texts) l.lists line)) h in
                let same = same_position at l there (not-true l.is_open parts.0) in
                sym parts.1 ∙ ap (λ p. is_at p (changes_in (keys_of texts) l.lists line)) (sym same) ∙ apart
            at_all false h = refl

        either : (has_line line deletes || has_changed l (keys_of texts) line) ≡ true
        either = (and_parts (has_line line lines) (has_line line deletes || has_changed l (keys_of texts) line) (sym (has_filter (λ n. has_line n deletes || has_changed l (keys_of texts) n) line lines) ∙ may)).1

        by : (b : Bool) → has_line line deletes ≡ b → has_line line deletes ≡ true
        by true h = h
        by false h = absurd (true≢false (sym either ∙ (λ j. h j || unchanged j)))

    -- so there is room for a change behind its newest
    pub room_for : has_line line (changeable l (keys_of texts) deletes lines) ≡ true → is_at at (changes_in (keys_of texts) l.lists line) ≡ false → 0 < l.room
    room_for may apart =
        let free = has_room may apart in
        let some = left_one (has_changed l (keys_of texts)) (λ _. true) (λ n h. refl) line deletes free.1 refl free.0 in
        omega (arith, some, kept.room)

    module _ (l' : LineChanges) (lists : l'.lists ≡ set l.lists i (with_node at vis (changes_in (keys_of texts) l.lists line))) (newest : l'.newest ≡ at) (closed : l'.is_open ≡ false) where
      with_is_at : (cs : List (ℕ × ℕ)) → is_at at (with_node at vis cs) ≡ true
      with_is_at [] = same_number at
      with_is_at (c ∷ cs) = by (nat_eq c.0 at)
        where
          by : (b : Bool) → is_at at (cond b ((at, vis) ∷ cs) ((at, vis) ∷ c ∷ cs)) ≡ true
          by true = same_number at
          by false = same_number at

      own_at : (n : ℕ) → nat_eq n line ≡ true → is_at at (changes_in (keys_of texts) l'.lists n) ≡ true
      own_at n e =
          ap (λ ls. is_at at (changes_in (keys_of texts) ls n)) lists
          ∙ ap (is_at at) (own_set lines texts l.lists kept.keys as_many at line vis i found n e) ∙ with_is_at (changes_in (keys_of texts) l.lists n)

      is_still : (n : ℕ) → is_at at (changes_in (keys_of texts) l.lists n) ≡ true → is_at at (changes_in (keys_of texts) l'.lists n) ≡ true
      is_still n h = by (nat_eq n line) refl
        where
          by : (b : Bool) → nat_eq n line ≡ b → is_at at (changes_in (keys_of texts) l'.lists n) ≡ true
          by true e = own_at n e
          by false e =
              ap (λ ls. is_at at (changes_in (keys_of texts) ls n)) lists
              ∙ ap (is_at at) (other_set lines texts l.lists kept.keys as_many at line vis i found n e) ∙ h

      -- a change takes no other line's room
      pub delete_stays : (n : ℕ) → has_changed l (keys_of texts) n ≡ true → has_changed l' (keys_of texts) n ≡ true
      delete_stays n h = stays_changed l l' (keys_of texts) (keys_of texts) at there newest closed n (is_still n) h

      own_changed : has_changed l' (keys_of texts) line ≡ true
      own_changed = (λ j. not (closed j) && is_at (newest j) (changes_in (keys_of texts) l'.lists line)) ∙ own_at line (same_number line)

      -- the invariant once a line has another node
      pub deleted_kept : has_line line (changeable l (keys_of texts) deletes lines) ≡ true → l.room ≤ l'.room + cond (is_at at (changes_in (keys_of texts) l.lists line)) 0 1 → AreKept lines texts l' deletes
      deleted_kept may room = record {
        keys = kept.keys;
        lists = ap length lists ∙ length-set l.lists i (with_node at vis (changes_in (keys_of texts) l.lists line)) ∙ kept.lists;
        room = by (is_at at (changes_in (keys_of texts) l.lists line)) refl room;
      }
        where
          by : (b : Bool) → is_at at (changes_in (keys_of texts) l.lists line) ≡ b → l.room ≤ l'.room + cond b 0 1 → waiting l' (keys_of texts) deletes ≤ l'.room
          by true e more = let least = left_falls (has_changed l (keys_of texts)) (has_changed l' (keys_of texts)) delete_stays deletes in omega (arith, least, more, kept.room)
          by false e more =
              let free = has_room may e in
              let least = left_one (has_changed l (keys_of texts)) (has_changed l' (keys_of texts)) delete_stays line deletes free.1 own_changed free.0 in
              omega (arith, least, more, kept.room)

-- a line that may be changed still may where those that have a change keep it
pub changeable_stays : (l l' : LineChanges) (keys keys' deletes lines lines' : List ℕ) (n : ℕ) → (has_line n lines ≡ true → has_line n lines' ≡ true) → (has_changed l keys n ≡ true → has_changed l' keys' n ≡ true)
    → has_line n (changeable l keys deletes lines) ≡ true → has_line n (changeable l' keys' deletes lines') ≡ true
changeable_stays l l' keys keys' deletes lines lines' n more stays h =
    let parts = and_parts (has_line n lines) (has_line n deletes || has_changed l keys n) (sym (has_filter (λ m. has_line m deletes || has_changed l keys m) n lines) ∙ h) in
    has_filter (λ m. has_line m deletes || has_changed l' keys' m) n lines'
    ∙ and_from (has_line n lines') (has_line n deletes || has_changed l' keys' n) (more parts.0) (by (has_line n deletes) (has_changed l keys n) stays parts.1)
  where
    by : (a b : Bool) → (b ≡ true → has_changed l' keys' n ≡ true) → (a || b) ≡ true → (a || has_changed l' keys' n) ≡ true
    by true b f k = refl
    by false b f k = f k

-- an expected line may be changed
pub changeable_expected : (l : LineChanges) (keys deletes lines : List ℕ) (n : ℕ) → has_line n deletes ≡ true → has_line n lines ≡ true → has_line n (changeable l keys deletes lines) ≡ true
changeable_expected l keys deletes lines n named there =
    has_filter (λ m. has_line m deletes || has_changed l keys m) n lines
    ∙ and_from (has_line n lines) (has_line n deletes || has_changed l keys n) there (or_left (has_line n deletes) (has_changed l keys n) named)

-- and so may one that has a change at the position
pub changeable_changed : (l : LineChanges) (keys deletes lines : List ℕ) (n : ℕ) → has_changed l keys n ≡ true → has_line n lines ≡ true → has_line n (changeable l keys deletes lines) ≡ true
changeable_changed l keys deletes lines n changed there =
    has_filter (λ m. has_line m deletes || has_changed l keys m) n lines
    ∙ and_from (has_line n lines) (has_line n deletes || has_changed l keys n) there (or_right (has_line n deletes) (has_changed l keys n) changed)
