-- Dated lines and the lines of a file that have nodes for them.
use Rattle.std.proofs.Common.{◌≡◌, ℕ, zero, suc, ◌<◌, ◌≤◌, Bool, true, false, cond, ◌&&◌, ◌||◌, not, nat_eq, nat_le, List, [], ◌∷◌, map, Some, unwrap_or, option_map, refl, sym, ap, subst, ◌∙◌, arith}
use Rattle.std.specs.List.{AllByRecursion, find}
use Rattle.std.proofs.lemmas.Bool.Decides.{nat_tests}
use Rattle.cov_base.specs.Addresses.{after_first, after_anchor_by}
use Rattle.cov_dd.specs.declared.triple.Triple.{Triple}
use Rattle.cov_dd.specs.Diagrams.{diagram_size, span, value_in, Stands}
use Rattle.cov_dd.proofs.CallerLemmas.{stands_weaker, constant_stands}
use Rattle.cov_expr.specs.Formula.{Formula, False, Not, And, value}
use Rattle.cov_file.specs.Dated.{DatedLine as FileLine, dated_number as file_number, vis_at, line_numbers_of, new_line, with_line, changed, with_change, vis_of, IsAlike, AreAlike}
use Rattle.cov_order.specs.Orders.{has_line}
use Rattle.cov_history.specs.Kept.{seen_at}
use Rattle.cov_history.specs.Files.{DatedLine, dated_number}
use Rattle.cov_history.specs.Deletions.{hidden_by}
use Rattle.cov_visible.specs.Nodes.{IsDated, AreDated}

-- FALSE is false and names no option
pub false-stands : (ts : List Triple) (count : ℕ) → Stands ts 0 0 count (λ c. false)
false-stands ts count = stands_weaker 0 count (λ c. false) (omega arith) (omega arith) (λ c. refl) (constant_stands ts 0 false (omega arith) refl)

module _ (ts : List Triple) (count : ℕ) where
  alike-one : (d : DatedLine) (l l' : FileLine) → IsAlike l' l → IsDated ts count d l → IsDated ts count d l'
  alike-one d l l' a h = record {
    line = a.line ∙ h.line;
    text = a.text ∙ h.text;
    nodes = λ p. subst (λ r. Stands ts r 0 count (value (seen_at d.changes p))) (sym (a.nodes p)) (h.nodes p);
  }

  -- lines that are alike are the same dated ones
  pub alike-dated : (ds : List DatedLine) (ls ls' : List FileLine) → AreAlike ls' ls → AreDated ts count ds ls → AreDated ts count ds ls'
  alike-dated [] [] [] a h = tt
  alike-dated [] [] (l' ∷ ls') a h = absurd a
  alike-dated [] (l ∷ ls) ls' a h = absurd h
  alike-dated (d ∷ ds) [] ls' a h = absurd h
  alike-dated (d ∷ ds) (l ∷ ls) [] a h = absurd a
  alike-dated (d ∷ ds) (l ∷ ls) (l' ∷ ls') a h = (alike-one d l l' a.0 h.0, alike-dated ds ls ls' a.1 h.1)

  -- they have the same numbers
  pub dated-numbers : (ds : List DatedLine) (ls : List FileLine) → AreDated ts count ds ls → line_numbers_of ls ≡ map dated_number ds
  dated-numbers [] [] h = refl
  dated-numbers [] (l ∷ ls) h = absurd h
  dated-numbers (d ∷ ds) [] h = absurd h
  dated-numbers (d ∷ ds) (l ∷ ls) h = ap (λ n. n ∷ line_numbers_of ls) h.0.line ∙ ap (λ ns. dated_number d ∷ ns) (dated-numbers ds ls h.1)

  -- with a line more after the same anchor they are dated again
  after-first : (anchor : ℕ) (d : DatedLine) (l : FileLine) (ds : List DatedLine) (ls : List FileLine) → IsDated ts count d l → AreDated ts count ds ls
      → AreDated ts count (after_first (λ x. nat_eq (dated_number x) anchor) d ds) (after_first (λ x. nat_eq (file_number x) anchor) l ls)
  after-first anchor d l [] [] one h = (one, tt)
  after-first anchor d l [] (k ∷ ls) one h = absurd h
  after-first anchor d l (e ∷ ds) [] one h = absurd h
  after-first anchor d l (e ∷ ds) (k ∷ ls) one h =
      at (nat_eq (dated_number e) anchor) (nat_eq (file_number k) anchor) (sym (ap (λ n. nat_eq n anchor) h.0.line)) (after-first anchor d l ds ls one h.1)
    where
      at : (b b' : Bool) → b ≡ b' → AreDated ts count (after_first (λ x. nat_eq (dated_number x) anchor) d ds) (after_first (λ x. nat_eq (file_number x) anchor) l ls)
          → AreDated ts count (cond b (e ∷ d ∷ ds) (e ∷ after_first (λ x. nat_eq (dated_number x) anchor) d ds)) (cond b' (k ∷ l ∷ ls) (k ∷ after_first (λ x. nat_eq (file_number x) anchor) l ls))
      at true true same rest = (h.0, (one, h.1))
      at true false same rest = absurd (cc)
      at false true same rest = absurd (cc)
      at false false same rest = (h.0, rest)

  pub after-anchor : (anchor : ℕ) (d : DatedLine) (l : FileLine) (ds : List DatedLine) (ls : List FileLine) → IsDated ts count d l → AreDated ts count ds ls
      → AreDated ts count (after_anchor_by dated_number anchor d ds) (after_anchor_by file_number anchor l ls)
  after-anchor zero d l ds ls one h = (one, h)
  after-anchor (suc anchor) d l ds ls one h = after-first (suc anchor) d l ds ls one h

  -- a new line is visible where its node is true, from its position on
  pub new-dated : (q line vis : ℕ) (text : List ℕ) (within : Formula ℕ) → Stands ts vis 0 count (value within)
      → IsDated ts count (record { line = line; text = text; changes = (q, within) ∷ [] }) (new_line line text vis q)
  new-dated q line vis text within stands = record { line = refl; text = refl; nodes = λ p. by p (nat_le q p) }
    where
      by : (p : ℕ) (b : Bool) → Stands ts (cond b vis 0) 0 count (value (cond b within False))
      by p true = stands
      by p false = false-stands ts count

  -- an insert into a file is that of the dated line
  pub insert-lines : (q anchor line vis : ℕ) (text : List ℕ) (within : Formula ℕ) (ds : List DatedLine) (ls ls' : List FileLine) → Stands ts vis 0 count (value within)
      → AreDated ts count ds ls → AreAlike ls' (with_line anchor (new_line line text vis q) ls)
      → AreDated ts count (after_anchor_by dated_number anchor (record { line = line; text = text; changes = (q, within) ∷ [] }) ds) ls'
  insert-lines q anchor line vis text within ds ls ls' stands h alike =
      alike-dated _ (with_line anchor (new_line line text vis q) ls) ls' alike (after-anchor anchor _ (new_line line text vis q) ds ls (new-dated q line vis text within stands) h)

  -- what is no longer visible within an expression
  abbrev pub gone : Formula ℕ → ℕ → DatedLine → List Bool → Bool
  gone within q d c = value (seen_at d.changes q) c && not (value within c)

  -- a node is that of a line which is taken out
  abbrev pub IsGone : Formula ℕ → ℕ → ℕ → ℕ → DatedLine → Type 0
  IsGone within q line vis d = nat_eq d.line line ≡ true → Stands ts vis 0 count (gone within q d)

  -- what is left of a line where a node isn't true
  abbrev pub left_by : ℕ → ℕ → DatedLine → List Bool → Bool
  left_by node q d c = value (seen_at d.changes q) c && not (value_in ts node c)

  -- a node is that of a line which is taken out where another is true
  abbrev pub IsLeftBy : ℕ → ℕ → ℕ → ℕ → DatedLine → Type 0
  IsLeftBy node q line vis d = nat_eq d.line line ≡ true → Stands ts vis 0 count (left_by node q d)

  -- a node with the values of an expression leaves what that does
  pub left_by-gone : (node q line vis : ℕ) (within : Formula ℕ) (d : DatedLine) → ((c : List Bool) → value_in ts node c ≡ value within c) → IsLeftBy node q line vis d → IsGone within q line vis d
  left_by-gone node q line vis within d values h = λ is.
      stands_weaker 0 count (gone within q d) (omega arith) (omega arith) (λ c. ap (λ b. value (seen_at d.changes q) c && not b) (values c)) (h is)

  hidden-one : (q line vis : ℕ) (within : Formula ℕ) (d : DatedLine) (l : FileLine) → IsDated ts count d l → IsGone within q line vis d
      → IsDated ts count (hidden_by line q within d) (changed line vis q l)
  hidden-one q line vis within d l h right = at (nat_eq d.line line) (nat_eq l.line line) refl (ap (λ n. nat_eq n line) (sym h.line))
    where
      hid : DatedLine
      hid = record { line = d.line; text = d.text; changes = (q, And (seen_at d.changes q) (Not within)) ∷ d.changes }

      put : FileLine
      put = record { line = l.line; text = l.text; changes = (q, vis) ∷ l.changes }

      by : nat_eq d.line line ≡ true → (p : ℕ) (b : Bool) → Stands ts (cond b vis (vis_at l.changes p)) 0 count (value (cond b (And (seen_at d.changes q) (Not within)) (seen_at d.changes p)))
      by is p true = stands_weaker 0 count (value (And (seen_at d.changes q) (Not within))) (omega arith) (omega arith) (λ c. refl) (right is)
      by is p false = h.nodes p

      at : (b b' : Bool) → nat_eq d.line line ≡ b → b ≡ b' → IsDated ts count (cond b hid d) (cond b' put l)
      at true true is same = record { line = h.line; text = h.text; nodes = λ p. by is p (nat_le q p) }
      at true false is same = absurd (cc)
      at false true is same = absurd (cc)
      at false false is same = h

  -- a delete from a file is that of the dated line
  pub delete-lines : (q line vis : ℕ) (within : Formula ℕ) (ds : List DatedLine) (ls ls' : List FileLine) → AllByRecursion (IsGone within q line vis) ds
      → AreDated ts count ds ls → AreAlike ls' (with_change line vis q ls) → AreDated ts count (map (hidden_by line q within) ds) ls'
  delete-lines q line vis within ds ls ls' right h alike = alike-dated _ (with_change line vis q ls) ls' alike (all ds ls right h)
    where
      all : (ds : List DatedLine) (ls : List FileLine) → AllByRecursion (IsGone within q line vis) ds → AreDated ts count ds ls → AreDated ts count (map (hidden_by line q within) ds) (with_change line vis q ls)
      all [] [] r h = tt
      all [] (l ∷ ls) r h = absurd h
      all (d ∷ ds) [] r h = absurd h
      all (d ∷ ds) (l ∷ ls) r h = (hidden-one q line vis within d l h.0 r.0, all ds ls r.1 h.1)

-- the node at a position of each line
pub dated-nodes : (ts : List Triple) (count p : ℕ) (ds : List DatedLine) (ls : List FileLine) → AreDated ts count ds ls → AllByRecursion (λ l. vis_at l.changes p < diagram_size ts) ls
dated-nodes ts count p [] [] h = tt
dated-nodes ts count p [] (l ∷ ls) h = absurd h
dated-nodes ts count p (d ∷ ds) [] h = absurd h
dated-nodes ts count p (d ∷ ds) (l ∷ ls) h = ((h.0.nodes p).within, dated-nodes ts count p ds ls h.1)

-- each number stands once
abbrev pub AreOnce : List DatedLine → Type 0
AreOnce [] = Unit {0}
AreOnce (d ∷ ds) = (has_line d.line (map dated_number ds) ≡ false) × AreOnce ds

module _ (ts : List Triple) (count p line : ℕ) where
  -- the node of a line by its number, FALSE where there is none
  abbrev pub node_by : List FileLine → ℕ
  node_by ls = unwrap_or (vis_of line p ls) 0

  not-among : (ds : List DatedLine) → has_line line (map dated_number ds) ≡ false → (P : DatedLine → Type 0) → AllByRecursion (λ d. nat_eq d.line line ≡ true → P d) ds
  not-among [] h P = tt
  not-among (d ∷ ds) h P = at (nat_eq d.line line) refl h (λ k. not-among ds k P)
    where
      at : (b : Bool) → nat_eq d.line line ≡ b → (b || has_line line (map dated_number ds)) ≡ false
          → (has_line line (map dated_number ds) ≡ false → AllByRecursion (λ e. nat_eq e.line line ≡ true → P e) ds)
          → AllByRecursion (λ e. nat_eq e.line line ≡ true → P e) (d ∷ ds)
      at true is h rest = absurd (cc)
      at false is h rest = ((λ e. absurd (cc)), rest h)

  abbrev IsThat : List FileLine → DatedLine → Type 0
  IsThat ls d = nat_eq d.line line ≡ true → (c : List Bool) → value_in ts (node_by ls) c ≡ value (seen_at d.changes p) c

  -- it is true where the line is seen, for each line of that number
  pub node-right : (ds : List DatedLine) (ls : List FileLine) → AreOnce ds → AreDated ts count ds ls → AllByRecursion (IsThat ls) ds
  node-right [] ls once h = tt
  node-right (d ∷ ds) [] once h = absurd h
  node-right (d ∷ ds) (l ∷ ls) once h = at (nat_eq d.line line) (nat_eq l.line line) refl (ap (λ n. nat_eq n line) (sym h.0.line)) (node-right ds ls once.1 h.1)
    where
      at : (b b' : Bool) → nat_eq d.line line ≡ b → b ≡ b' → AllByRecursion (IsThat ls) ds
          → AllByRecursion (λ e. nat_eq e.line line ≡ true → (c : List Bool) → value_in ts (unwrap_or (option_map (λ (k : FileLine). vis_at k.changes p) (cond b' (Some l) (find (λ k. nat_eq k.line line) ls))) 0) c ≡ value (seen_at e.changes p) c) (d ∷ ds)
      at true true is same rest =
          let number : d.line ≡ line = grind (arith, nat_tests, is) in
          ((λ e c. (h.0.nodes p).value c), not-among ds (ap (λ n. has_line n (map dated_number ds)) (sym number) ∙ once.0) _)
      at true false is same rest = absurd (cc)
      at false true is same rest = absurd (cc)
      at false false is same rest = ((λ e. absurd (cc)), rest)

  -- it is of the table and names only the first so many options
  pub node-low : (ds : List DatedLine) (ls : List FileLine) → AreDated ts count ds ls → (node_by ls < diagram_size ts) × (span ts (node_by ls) ≤ count)
  node-low [] [] h = let s = false-stands ts count in (s.within, s.below)
  node-low [] (l ∷ ls) h = absurd h
  node-low (d ∷ ds) [] h = absurd h
  node-low (d ∷ ds) (l ∷ ls) h = at (nat_eq l.line line) (node-low ds ls h.1)
    where
      at : (b : Bool) → (node_by ls < diagram_size ts) × (span ts (node_by ls) ≤ count)
          → let r = unwrap_or (option_map (λ (k : FileLine). vis_at k.changes p) (cond b (Some l) (find (λ k. nat_eq k.line line) ls))) 0 in (r < diagram_size ts) × (span ts r ≤ count)
      at true rest = ((h.0.nodes p).within, (h.0.nodes p).below)
      at false rest = rest

-- all of a list with one more after an anchor
module _ {X : Type 0} (P : X → Type 0) (number : X → ℕ) (x : X) (one : P x) where
  all-first : (anchor : ℕ) (xs : List X) → AllByRecursion P xs → AllByRecursion P (after_first (λ y. nat_eq (number y) anchor) x xs)
  all-first anchor [] all = (one, tt)
  all-first anchor (y ∷ ys) all = at (nat_eq (number y) anchor) (all-first anchor ys all.1)
    where
      at : (b : Bool) → AllByRecursion P (after_first (λ y. nat_eq (number y) anchor) x ys) → AllByRecursion P (cond b (y ∷ x ∷ ys) (y ∷ after_first (λ y. nat_eq (number y) anchor) x ys))
      at true rest = (all.0, (one, all.1))
      at false rest = (all.0, rest)

  pub all-after : (anchor : ℕ) (xs : List X) → AllByRecursion P xs → AllByRecursion P (after_anchor_by number anchor x xs)
  all-after zero xs all = (one, all)
  all-after (suc anchor) xs all = all-first (suc anchor) xs all
