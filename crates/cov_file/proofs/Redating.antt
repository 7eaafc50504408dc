-- Changes with other nodes have the positions and the links of those before.
use Rattle.std.proofs.Common.{◌≡◌, ℕ, suc, ◌≤◌, nat_eq, Bool, true, false, not, ◌&&◌, ◌||◌, cond, List, [], ◌∷◌, ◌++◌, length, map, reverse, refl, sym, ap, ◌∙◌, subst, arith}
use Rattle.std.specs.List.{AllByRecursion, filter}
use Rattle.std.specs.Map.{keys_of}
use Rattle.std.proofs.lemmas.Grind.{reverse_onto}
use Rattle.std.proofs.lemmas.List.{length-map}
use Rattle.cov_base.specs.Replacing.{having}
use Rattle.cov_order.specs.Orders.{has_line}
use Rattle.cov_file.specs.declared.changes.Change.{Change}
use Rattle.cov_file.specs.Kept.{LineChanges, changes_before, changes_in, changeable, dated_in, dated_lines, has_changed, is_at, lists_of, AreChanges, AreKept, AreLinked}
use Rattle.cov_file.specs.Renumbered.{dates_of, having_node, renumbered_changes, renumbered_line, ChangesPass}

-- two lists of changes differ in their nodes alone
abbrev pub AreSame : List Change → List Change → Type 0
AreSame [] [] = Unit {0}
AreSame [] (d ∷ ds) = ⊥
AreSame (c ∷ cs) [] = ⊥
AreSame (c ∷ cs) (d ∷ ds) = ((d.from ≡ c.from) × (d.before ≡ c.before)) × AreSame cs ds

same-itself : (cs : List Change) → AreSame cs cs
same-itself [] = tt
same-itself (c ∷ cs) = ((refl, refl), same-itself cs)

pub same-having : (cs : List Change) (ns : List ℕ) → AreSame cs (having having_node cs ns)
same-having [] ns = tt
same-having (c ∷ cs) [] = ((refl, refl), same-itself cs)
same-having (c ∷ cs) (n ∷ ns) = ((refl, refl), same-having cs ns)

pub same-length : (cs ds : List Change) → AreSame cs ds → length ds ≡ length cs
same-length [] [] s = refl
same-length [] (d ∷ ds) s = absurd s
same-length (c ∷ cs) [] s = absurd s
same-length (c ∷ cs) (d ∷ ds) s = ap suc (same-length cs ds s.1)

same-joined : (cs ds bs es : List Change) → AreSame cs ds → AreSame bs es → AreSame (cs ++ bs) (ds ++ es)
same-joined [] [] bs es s t = t
same-joined [] (d ∷ ds) bs es s t = absurd s
same-joined (c ∷ cs) [] bs es s t = absurd s
same-joined (c ∷ cs) (d ∷ ds) bs es s t = (s.0, same-joined cs ds bs es s.1 t)

same-reverse : (cs ds : List Change) → AreSame cs ds → AreSame (reverse cs) (reverse ds)
same-reverse [] [] s = tt
same-reverse [] (d ∷ ds) s = absurd s
same-reverse (c ∷ cs) [] s = absurd s
same-reverse (c ∷ cs) (d ∷ ds) s =
    subst (λ (q : List Change × List Change). AreSame q.0 q.1) (λ j. (sym (reverse_onto cs c []) j, sym (reverse_onto ds d []) j))
    (same-joined (reverse cs) (reverse ds) (c ∷ []) (d ∷ []) (same-reverse cs ds s.1) (s.0, tt))

same-linked : (cs ds : List Change) → AreSame cs ds → AreLinked cs → AreLinked ds
same-linked [] [] s l = tt
same-linked [] (d ∷ ds) s l = absurd s
same-linked (c ∷ cs) [] s l = absurd s
same-linked (c ∷ cs) (d ∷ ds) s l = (omega (arith, s.0.1, l.0, same-length cs ds s.1), same-linked cs ds s.1 l.1)

same-ends : (most most' : ℕ) (cs ds : List Change) → most' ≡ most → AreSame cs ds → AllByRecursion (λ c. c.before ≤ most) cs → AllByRecursion (λ c. c.before ≤ most') ds
same-ends most most' [] [] e s h = tt
same-ends most most' [] (d ∷ ds) e s h = absurd s
same-ends most most' (c ∷ cs) [] e s h = absurd s
same-ends most most' (c ∷ cs) (d ∷ ds) e s h = (omega (arith, s.0.1, h.0, e), same-ends most most' cs ds e s.1 h.1)

same-latest : (from : ℕ) (cs ds : List Change) → AreSame cs ds → AllByRecursion (λ c. c.from ≤ from) cs → AllByRecursion (λ c. c.from ≤ from) ds
same-latest from [] [] s h = tt
same-latest from [] (d ∷ ds) s h = absurd s
same-latest from (c ∷ cs) [] s h = absurd s
same-latest from (c ∷ cs) (d ∷ ds) s h = (omega (arith, s.0.0, h.0), same-latest from cs ds s.1 h.1)

module _ (newest newest' earlier earlier' : List Change) (same_newest : AreSame newest newest') (same_earlier : AreSame earlier earlier') where
  pub changes_same : (from : ℕ) → AreChanges from newest earlier → AreChanges from newest' earlier'
  changes_same from k = record {
    linked = same-linked (reverse earlier) (reverse earlier') (same-reverse earlier earlier' same_earlier) k.linked;
    ends = same-ends (length earlier) (length earlier') newest newest' (same-length earlier earlier' same_earlier) same_newest k.ends;
    latest = same-latest from newest newest' same_newest k.latest;
  }

before-dates : (cs ds : List Change) (n m : ℕ) → AreSame cs ds → m ≡ n → dates_of (changes_before ds m) ≡ dates_of (changes_before cs n)
before-dates [] [] n m s e = refl
before-dates [] (d ∷ ds) n m s e = absurd s
before-dates (c ∷ cs) [] n m s e = absurd s
before-dates (c ∷ cs) (d ∷ ds) n m s e =
    (λ j. dates_of (cond (nat_eq (e j) (suc (same-length cs ds s.1 j))) ((d.from, d.node) ∷ changes_before ds d.before) (changes_before ds m)))
    ∙ by (nat_eq n (suc (length cs))) (before-dates cs ds c.before d.before s.1 s.0.1) (before-dates cs ds n m s.1 e)
  where
    by : (b : Bool) → dates_of (changes_before ds d.before) ≡ dates_of (changes_before cs c.before) → dates_of (changes_before ds m) ≡ dates_of (changes_before cs n)
        → dates_of (cond b ((d.from, d.node) ∷ changes_before ds d.before) (changes_before ds m)) ≡ dates_of (cond b ((c.from, c.node) ∷ changes_before cs c.before) (changes_before cs n))
    by true here there = λ j. s.0.0 j ∷ here j
    by false here there = there

lists-dates : (newest newest' earlier earlier' : List Change) → AreSame newest newest' → AreSame (reverse earlier) (reverse earlier')
    → map dates_of (lists_of newest' earlier') ≡ map dates_of (lists_of newest earlier)
lists-dates [] [] earlier earlier' s t = refl
lists-dates [] (d ∷ ds) earlier earlier' s t = absurd s
lists-dates (c ∷ cs) [] earlier earlier' s t = absurd s
lists-dates (c ∷ cs) (d ∷ ds) earlier earlier' s t =
    λ j. (s.0.0 j ∷ before-dates (reverse earlier) (reverse earlier') c.before d.before t s.0.1 j) ∷ lists-dates cs ds earlier earlier' s.1 t j

pub dates_same : (newest newest' earlier earlier' : List Change) → AreSame newest newest' → AreSame earlier earlier'
    → map dates_of (lists_of newest' earlier') ≡ map dates_of (lists_of newest earlier)
dates_same newest newest' earlier earlier' s t = lists-dates newest newest' earlier earlier' s (same-reverse earlier earlier' t)

-- changes at the same positions are at a position alike
is_at-dates : (at : ℕ) (l m : List (ℕ × ℕ)) → dates_of m ≡ dates_of l → is_at at m ≡ is_at at l
is_at-dates at [] [] e = refl
is_at-dates at [] (d ∷ ds) e = absurd (cc)
is_at-dates at (c ∷ cs) [] e = absurd (cc)
is_at-dates at (c ∷ cs) (d ∷ ds) e = let first : d.0 ≡ c.0 = cc in ap (λ p. nat_eq p at) first

in-dates : (keys : List ℕ) (lists lists' : List (List (ℕ × ℕ))) (line : ℕ) → map dates_of lists' ≡ map dates_of lists
    → dates_of (changes_in keys lists' line) ≡ dates_of (changes_in keys lists line)
in-dates [] lists lists' line e = refl
in-dates (key ∷ keys) [] [] line e = refl
in-dates (key ∷ keys) [] (m ∷ ms) line e = absurd (cc)
in-dates (key ∷ keys) (l ∷ ls) [] line e = absurd (cc)
in-dates (key ∷ keys) (l ∷ ls) (m ∷ ms) line e =
    let first : dates_of m ≡ dates_of l = cc in
    let rest : map dates_of ms ≡ map dates_of ls = cc in
    by (nat_eq line key) first (in-dates keys ls ms line rest)
  where
    by : (b : Bool) → dates_of m ≡ dates_of l → dates_of (changes_in keys ms line) ≡ dates_of (changes_in keys ls line)
        → dates_of (cond b m (changes_in keys ms line)) ≡ dates_of (cond b l (changes_in keys ls line))
    by true here there = here
    by false here there = there

-- what a file keeps is as it was, but for the nodes
module _ (l l' : LineChanges) (dates : map dates_of l'.lists ≡ map dates_of l.lists) (newest : l'.newest ≡ l.newest) (is_open : l'.is_open ≡ l.is_open) where
  changed_as_before : (keys : List ℕ) (n : ℕ) → has_changed l' keys n ≡ has_changed l keys n
  changed_as_before keys n =
      (λ j. not (is_open j) && is_at (newest j) (changes_in keys l'.lists n))
      ∙ ap (λ b. not l.is_open && b) (is_at-dates l.newest (changes_in keys l.lists n) (changes_in keys l'.lists n) (in-dates keys l.lists l'.lists n dates))

  filter-same : (p q : ℕ → Bool) → ((n : ℕ) → q n ≡ p n) → (xs : List ℕ) → filter q xs ≡ filter p xs
  filter-same p q e [] = refl
  filter-same p q e (x ∷ xs) = λ j. cond (e x j) (x ∷ filter-same p q e xs j) (filter-same p q e xs j)

  pub changeable_as_before : (keys deletes lines : List ℕ) → changeable l' keys deletes lines ≡ changeable l keys deletes lines
  changeable_as_before keys deletes lines =
      filter-same (λ n. has_line n deletes || has_changed l keys n) (λ n. has_line n deletes || has_changed l' keys n)
      (λ n. ap (λ b. has_line n deletes || b) (changed_as_before keys n)) lines

  pub kept_renumbered : (lines : List ℕ) (texts : List (ℕ × List ℕ)) (deletes : List ℕ) → l'.room ≡ l.room → AreKept lines texts l deletes → AreKept lines texts l' deletes
  kept_renumbered lines texts deletes room kept = record {
    keys = kept.keys;
    lists = sym (length-map l'.lists dates_of) ∙ ap length dates ∙ length-map l.lists dates_of ∙ kept.lists;
    room =
        let same = ap length (filter-same (λ n. not (has_changed l (keys_of texts) n)) (λ n. not (has_changed l' (keys_of texts) n)) (λ n. ap not (changed_as_before (keys_of texts) n)) deletes) in
        omega (arith, same, kept.room, room);
  }

-- the lines have the nodes that their lists have
in-renumbered : (by : ℕ → ℕ) (keys : List ℕ) (lists : List (List (ℕ × ℕ))) (line : ℕ) → changes_in keys (map (renumbered_changes by) lists) line ≡ renumbered_changes by (changes_in keys lists line)
in-renumbered by [] lists line = refl
in-renumbered by (key ∷ keys) [] line = refl
in-renumbered by (key ∷ keys) (l ∷ ls) line = at (nat_eq line key) (in-renumbered by keys ls line)
  where
    at : (b : Bool) → changes_in keys (map (renumbered_changes by) ls) line ≡ renumbered_changes by (changes_in keys ls line)
        → cond b (renumbered_changes by l) (changes_in keys (map (renumbered_changes by) ls) line) ≡ renumbered_changes by (cond b l (changes_in keys ls line))
    at true rest = refl
    at false rest = rest

pub lines_renumbered : (by : ℕ → ℕ) (texts : List (ℕ × List ℕ)) (lists lists' : List (List (ℕ × ℕ))) (lines : List ℕ) → lists' ≡ map (renumbered_changes by) lists
    → dated_lines texts lists' lines ≡ map (renumbered_line by) (dated_lines texts lists lines)
lines_renumbered by texts lists lists' [] is = refl
lines_renumbered by texts lists lists' (line ∷ lines) is = λ j.
    record {
      line = line;
      text = (dated_in texts lists line).text;
      changes = (ap (λ ls. changes_in (keys_of texts) ls line) is ∙ in-renumbered by (keys_of texts) lists line) j;
    } ∷ lines_renumbered by texts lists lists' lines is j

in-pass : (test : ℕ → Bool) (keys : List ℕ) (lists : List (List (ℕ × ℕ))) (line : ℕ) → AllByRecursion (ChangesPass test) lists → ChangesPass test (changes_in keys lists line)
in-pass test [] lists line h = tt
in-pass test (key ∷ keys) [] line h = tt
in-pass test (key ∷ keys) (l ∷ ls) line h = at (nat_eq line key) (in-pass test keys ls line h.1)
  where
    at : (b : Bool) → ChangesPass test (changes_in keys ls line) → ChangesPass test (cond b l (changes_in keys ls line))
    at true rest = h.0
    at false rest = rest

pub lines_pass : (test : ℕ → Bool) (texts : List (ℕ × List ℕ)) (lists : List (List (ℕ × ℕ))) (lines : List ℕ) → AllByRecursion (ChangesPass test) lists
    → AllByRecursion (λ l. ChangesPass test l.changes) (dated_lines texts lists lines)
lines_pass test texts lists [] h = tt
lines_pass test texts lists (line ∷ lines) h = (in-pass test (keys_of texts) lists line h, lines_pass test texts lists lines h)
