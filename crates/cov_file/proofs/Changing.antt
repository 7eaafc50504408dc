-- The lines of a file after a change.
use Rattle.std.proofs.Common.{◌≡◌, ℕ, zero, suc, ◌+◌, ◌-◌, ◌≤◌, min, Bool, true, false, cond, nat_eq, nat_le, ◌||◌, List, [], ◌∷◌, ◌++◌, length, set, map, Some, position, refl, sym, ap, subst, ◌∙◌, arith}
use mathlib.Core.Bool.{or_comm}
use Rattle.std.proofs.Math.Nat.{min-le_left, min-le_right, le-min}
use Rattle.std.specs.List.{AllByRecursion, list_any}
use Rattle.std.specs.Map.{keys_of}
use Rattle.std.proofs.lemmas.Bool.{or_left, eqb-true}
use Rattle.cov_base.proofs.CallerLemmas.{any-push, or_left_comm, nat_eq-sym}
use Rattle.cov_base.specs.Addresses.{after_first, after_anchor}
use Rattle.cov_order.specs.Orders.{has_line}
use Rattle.cov_file.specs.Dated.{DatedLine, vis_at, newest_vis, line_numbers_of, dated_number, new_line, with_line, changed, with_change, IsAlike, AreAlike}
use Rattle.cov_file.specs.Kept.{with_node, changes_in, text_in, dated_in, dated_lines}
use Rattle.cov_file.proofs.Finding.{list_before, list_behind, list_set, keys_behind, text_before, text_behind, same_number}

-- the numbers of lines by their numbers
pub numbers : (texts : List (ℕ × List ℕ)) (ls : List (List (ℕ × ℕ))) (lines : List ℕ) → line_numbers_of (dated_lines texts ls lines) ≡ lines
numbers texts ls [] = refl
numbers texts ls (n ∷ ns) = ap (λ l. n ∷ l) (numbers texts ls ns)

has_first : (n : ℕ) (t : ℕ → Bool) (x : ℕ) (xs : List ℕ) → has_line n (after_first t x xs) ≡ (nat_eq x n || has_line n xs)
has_first n t x [] = refl
has_first n t x (y ∷ ys) = at (t y) (has_first n t x ys)
  where
    at : (b : Bool) → has_line n (after_first t x ys) ≡ (nat_eq x n || has_line n ys)
        → has_line n (cond b (y ∷ x ∷ ys) (y ∷ after_first t x ys)) ≡ (nat_eq x n || (nat_eq y n || has_line n ys))
    at true rest = or_left_comm (nat_eq y n) (nat_eq x n) (has_line n ys)
    at false rest = ap (λ b. nat_eq y n || b) rest ∙ or_left_comm (nat_eq y n) (nat_eq x n) (has_line n ys)

-- the lines with one more have that one and the others
pub has_after : (n anchor line : ℕ) (lines : List ℕ) → has_line n (after_anchor anchor line lines) ≡ (nat_eq line n || has_line n lines)
has_after n zero line lines = refl
has_after n (suc anchor) line lines = has_first n (λ m. nat_eq m (suc anchor)) line lines

-- lines of a list have what all its lines have
pub all_lines : (P : ℕ → Type 0) (lines : List ℕ) → ((n : ℕ) → has_line n lines ≡ true → P n) → AllByRecursion P lines
all_lines P [] h = tt
all_lines P (n ∷ ns) h = (h n own, all_lines P ns (λ m k. h m (later m (nat_eq n m) k)))
  where
    own : (nat_eq n n || has_line n ns) ≡ true
    own = or_left (nat_eq n n) (has_line n ns) (same_number n)

    later : (m : ℕ) (b : Bool) → has_line m ns ≡ true → (b || has_line m ns) ≡ true
    later m true k = refl
    later m false k = k

-- alike one by one
pub alike_map : (f g : ℕ → DatedLine) (h : DatedLine → DatedLine) (lines : List ℕ) → ((n : ℕ) → IsAlike (f n) (h (g n))) → AreAlike (map f lines) (map h (map g lines))
alike_map f g h [] same = tt
alike_map f g h (n ∷ ns) same = (same n, alike_map f g h ns same)

alike_all : (f g : ℕ → DatedLine) (lines : List ℕ) → AllByRecursion (λ n. IsAlike (f n) (g n)) lines → AreAlike (map f lines) (map g lines)
alike_all f g [] same = tt
alike_all f g (n ∷ ns) same = (same.0, alike_all f g ns same.1)

alike_first : (f g : ℕ → DatedLine) (a line : ℕ) (new : DatedLine) (lines : List ℕ) → ((n : ℕ) → (g n).line ≡ n)
    → AllByRecursion (λ n. IsAlike (f n) (g n)) lines → IsAlike (f line) new
    → AreAlike (map f (after_first (λ n. nat_eq n a) line lines)) (after_first (λ l. nat_eq (dated_number l) a) new (map g lines))
alike_first f g a line new [] number same own = (own, tt)
alike_first f g a line new (n ∷ ns) number same own =
    subst (λ m. AreAlike (map f (cond (nat_eq n a) (n ∷ line ∷ ns) (n ∷ after_first (λ n. nat_eq n a) line ns)))
    (cond (nat_eq m a) (g n ∷ new ∷ map g ns) (g n ∷ after_first (λ l. nat_eq (dated_number l) a) new (map g ns))))
    (sym (number n)) (at (nat_eq n a) (alike_first f g a line new ns number same.1 own))
  where
    at : (b : Bool) → AreAlike (map f (after_first (λ n. nat_eq n a) line ns)) (after_first (λ l. nat_eq (dated_number l) a) new (map g ns))
        → AreAlike (map f (cond b (n ∷ line ∷ ns) (n ∷ after_first (λ n. nat_eq n a) line ns)))
        (cond b (g n ∷ new ∷ map g ns) (g n ∷ after_first (λ l. nat_eq (dated_number l) a) new (map g ns)))
    at true rest = (same.0, (own, alike_all f g ns same.1))
    at false rest = (same.0, rest)

-- alike with one more
pub alike_after : (f g : ℕ → DatedLine) (anchor line : ℕ) (new : DatedLine) (lines : List ℕ) → ((n : ℕ) → (g n).line ≡ n)
    → AllByRecursion (λ n. IsAlike (f n) (g n)) lines → IsAlike (f line) new → AreAlike (map f (after_anchor anchor line lines)) (with_line anchor new (map g lines))
alike_after f g zero line new lines number same own = (own, alike_all f g lines same)
alike_after f g (suc anchor) line new lines number same own = alike_first f g (suc anchor) line new lines number same own

covering : (v w rest : ℕ) (b c : Bool) → b ≡ c → cond b w rest ≡ cond b w (cond c v rest)
covering v w rest true c e = refl
covering v w rest false true e = absurd (cc)
covering v w rest false false e = refl

-- a node in the place of the one at its position gives what it gives before it
nodes_with : (at node p : ℕ) (cs : List (ℕ × ℕ)) → vis_at (with_node at node cs) p ≡ vis_at ((at, node) ∷ cs) p
nodes_with at node p [] = refl
nodes_with at node p (c ∷ cs) = by (nat_eq c.0 at) refl
  where
    by : (b : Bool) → nat_eq c.0 at ≡ b → vis_at (cond b ((at, node) ∷ cs) ((at, node) ∷ c ∷ cs)) p ≡ vis_at ((at, node) ∷ c ∷ cs) p
    by true e = covering c.1 node (vis_at cs p) (nat_le at p) (nat_le c.0 p) (ap (λ q. nat_le q p) (sym (eqb-true c.0 at e)))
    by false e = refl

newest_with : (at node : ℕ) (cs : List (ℕ × ℕ)) → newest_vis (with_node at node cs) ≡ node
newest_with at node [] = refl
newest_with at node (c ∷ cs) = by (nat_eq c.0 at)
  where
    by : (b : Bool) → newest_vis (cond b ((at, node) ∷ cs) ((at, node) ∷ c ∷ cs)) ≡ node
    by true = refl
    by false = refl

-- lines with the same text and the same changes are alike
alike_by : (texts texts' : List (ℕ × List ℕ)) (lists lists' : List (List (ℕ × ℕ))) (n : ℕ) → text_in texts' n ≡ text_in texts n → changes_in (keys_of texts') lists' n ≡ changes_in (keys_of texts) lists n
    → IsAlike (dated_in texts' lists' n) (dated_in texts lists n)
alike_by texts texts' lists lists' n text changes = record {
  line = refl;
  text = text;
  nodes = λ p. ap (λ cs. vis_at cs p) changes;
  newest = ap newest_vis changes;
}

module _ (lines : List ℕ) (texts : List (ℕ × List ℕ)) (lists : List (List (ℕ × ℕ))) (keys : (n : ℕ) → has_line n lines ≡ list_any (nat_eq n) (keys_of texts)) (same : length lists ≡ length (keys_of texts)) (at : ℕ) where
  module _ (line : ℕ) (text : List ℕ) (vis : ℕ) (fresh : has_line line lines ≡ false) where
    abbrev new_texts : List (ℕ × List ℕ)
    new_texts = texts ++ (line, text) ∷ []

    abbrev new_lists : List (List (ℕ × ℕ))
    new_lists = lists ++ ((at, vis) ∷ []) ∷ []

    unknown : list_any (nat_eq line) (keys_of texts) ≡ false
    unknown = sym (keys line) ∙ fresh

    -- the changes of the lines that there were
    pub changes_stay : (n : ℕ) → list_any (nat_eq n) (keys_of texts) ≡ true → changes_in (keys_of new_texts) new_lists n ≡ changes_in (keys_of texts) lists n
    changes_stay n known =
        ap (λ ks. changes_in ks new_lists n) (keys_behind texts line text)
        ∙ list_before line ((at, vis) ∷ []) n (keys_of texts) lists same known

    pub own_changes : changes_in (keys_of new_texts) new_lists line ≡ (at, vis) ∷ []
    own_changes =
        ap (λ ks. changes_in ks new_lists line) (keys_behind texts line text)
        ∙ list_behind line ((at, vis) ∷ []) (keys_of texts) lists same unknown

    old_alike : (n : ℕ) → list_any (nat_eq n) (keys_of texts) ≡ true → IsAlike (dated_in new_texts new_lists n) (dated_in texts lists n)
    old_alike n known = alike_by texts new_texts lists new_lists n (text_before n line text texts known) (changes_stay n known)

    own_alike : IsAlike (dated_in new_texts new_lists line) (new_line line text vis at)
    own_alike = record {
      line = refl;
      text = text_behind line text texts unknown;
      nodes = λ p. ap (λ cs. vis_at cs p) own_changes;
      newest = ap newest_vis own_changes;
    }

    -- the lines once one is inserted
    inserted : (anchor : ℕ) → AreAlike (dated_lines new_texts new_lists (after_anchor anchor line lines)) (with_line anchor (new_line line text vis at) (dated_lines texts lists lines))
    inserted anchor =
        alike_after (dated_in new_texts new_lists) (dated_in texts lists) anchor line (new_line line text vis at) lines (λ n. refl)
        (all_lines (λ n. IsAlike (dated_in new_texts new_lists n) (dated_in texts lists n)) lines (λ n h. old_alike n (sym (keys n) ∙ h)))
        own_alike

    -- they are its keys
    pub keys_inserted : (anchor n : ℕ) → has_line n (after_anchor anchor line lines) ≡ list_any (nat_eq n) (keys_of new_texts)
    keys_inserted anchor n =
        has_after n anchor line lines ∙ (λ j. nat_eq-sym line n j || keys n j) ∙ or_comm (nat_eq n line) (list_any (nat_eq n) (keys_of texts))
        ∙ sym (any-push (nat_eq n) (keys_of texts) line) ∙ ap (list_any (nat_eq n)) (sym (keys_behind texts line text))

    pub inserted_alike : (anchor : ℕ) (lines' : List ℕ) (texts' : List (ℕ × List ℕ)) (lists' : List (List (ℕ × ℕ))) → lines' ≡ after_anchor anchor line lines → texts' ≡ new_texts → lists' ≡ new_lists
        → AreAlike (dated_lines texts' lists' lines') (with_line anchor (new_line line text vis at) (dated_lines texts lists lines))
    inserted_alike anchor lines' texts' lists' same_lines same_texts same_lists =
        subst (λ ls. AreAlike ls (with_line anchor (new_line line text vis at) (dated_lines texts lists lines)))
        (sym (λ j. dated_lines (same_texts j) (same_lists j) (same_lines j))) (inserted anchor)

  module _ (line vis i : ℕ) (found : position (nat_eq line) (keys_of texts) ≡ Some i) where
    abbrev set_lists : List (List (ℕ × ℕ))
    set_lists = set lists i (with_node at vis (changes_in (keys_of texts) lists line))

    set_changes : (n : ℕ) → changes_in (keys_of texts) set_lists n ≡ cond (nat_eq n line) (with_node at vis (changes_in (keys_of texts) lists line)) (changes_in (keys_of texts) lists n)
    set_changes n = list_set line n (with_node at vis (changes_in (keys_of texts) lists line)) (keys_of texts) lists i same found

    -- the changes of the line, and those of the others
    pub own_set : (n : ℕ) → nat_eq n line ≡ true → changes_in (keys_of texts) set_lists n ≡ with_node at vis (changes_in (keys_of texts) lists n)
    own_set n e =
        set_changes n ∙ ap (λ b. cond b (with_node at vis (changes_in (keys_of texts) lists line)) (changes_in (keys_of texts) lists n)) e
        ∙ ap (λ m. with_node at vis (changes_in (keys_of texts) lists m)) (sym (eqb-true n line e))

    pub other_set : (n : ℕ) → nat_eq n line ≡ false → changes_in (keys_of texts) set_lists n ≡ changes_in (keys_of texts) lists n
    other_set n e = set_changes n ∙ ap (λ b. cond b (with_node at vis (changes_in (keys_of texts) lists line)) (changes_in (keys_of texts) lists n)) e

    set_alike : (n : ℕ) → IsAlike (dated_in texts set_lists n) (changed line vis at (dated_in texts lists n))
    set_alike n = by (nat_eq n line) refl
      where
        by : (b : Bool) → nat_eq n line ≡ b
            → IsAlike (dated_in texts set_lists n) (cond b (record { line = n; text = text_in texts n; changes = (at, vis) ∷ changes_in (keys_of texts) lists n }) (dated_in texts lists n))
        by true e = record {
          line = refl;
          text = refl;
          nodes = λ p. ap (λ cs. vis_at cs p) (own_set n e) ∙ nodes_with at vis p (changes_in (keys_of texts) lists n);
          newest = ap newest_vis (own_set n e) ∙ newest_with at vis (changes_in (keys_of texts) lists n);
        }
        by false e = alike_by texts texts lists set_lists n refl (other_set n e)

    -- the lines once one has another node
    pub deleted_alike : (lists' : List (List (ℕ × ℕ))) → lists' ≡ set_lists → AreAlike (dated_lines texts lists' lines) (with_change line vis at (dated_lines texts lists lines))
    deleted_alike lists' is =
        subst (λ ls. AreAlike (dated_lines texts ls lines) (with_change line vis at (dated_lines texts lists lines))) (sym is)
        (alike_map (dated_in texts set_lists) (dated_in texts lists) (changed line vis at) lines set_alike)

-- the least of three numbers falls by no more than one where none falls by more
pub least_falls : (a b c a' b' c' : ℕ) → a ≤ a' + 1 → b ≤ b' + 1 → c ≤ c' + 1 → min a (min b c) ≤ min a' (min b' c') + 1
least_falls a b c a' b' c' f g h =
    let n = min a (min b c) in
    let low_a : n ≤ a = min-le_left a (min b c) in
    let low_b : n ≤ b = (let low = min-le_right a (min b c) in let lower = min-le_left b c in omega (arith, low, lower)) in
    let low_c : n ≤ c = (let low = min-le_right a (min b c) in let lower = min-le_right b c in omega (arith, low, lower)) in
    let least : n - 1 ≤ min a' (min b' c') = le-min (omega (arith, low_a, f)) (le-min (omega (arith, low_b, g)) (omega (arith, low_c, h))) in
    omega (arith, least)
