-- The marks of commits decide which overtakes.
use Rattle.std.proofs.Common.{◌≡◌, ℕ, zero, suc, ◌+◌, ◌<◌, ◌≤◌, Bool, true, false, cond, ◌&&◌, ◌||◌, nat_eq, List, [], ◌∷◌, length, drop, Option, Some, None, ◌⊎◌, inl, inr, refl, sym, ap, subst, ◌∙◌, arith}
use Rattle.std.specs.List.{list_any, AllByRecursion}
use Rattle.std.proofs.lemmas.Bool.{or_parts}
use Rattle.std.proofs.lemmas.Bool.Decides.{nat_tests}
use Rattle.cov_base.specs.Choices.{is_on}
use Rattle.cov_base.specs.declared.limits.TheConstants.{CHOICE_WIDTH}
use Rattle.cov_dd.specs.declared.triple.Triple.{Triple}
use Rattle.cov_expr.specs.Formula.{Formula, value, reach}
use Rattle.cov_rules.specs.Installing.{reach_of}
use Rattle.cov_rules.proofs.CallerLemmas.{value_same, is_valid_same, none_short, none_wide}
use Rattle.cov_edit.specs.declared.command.Command.{Command}
use Rattle.cov_edit.specs.declared.command.Command.TheVariants as commands
use Rattle.cov_edit.specs.declared.sided.Sided.{Sided}
use Rattle.cov_edit.specs.History.{option_count, constraints_of, is_valid_in}
use Rattle.cov_edit.specs.Sides.{condition, conditions, reach_within}
use Rattle.cov_edit.specs.Touched.{touched_by, is_number, are_same, touches, touch_common}
use Rattle.cov_edit.proofs.CallerLemmas.{conditions-low}
use Rattle.cov_history.specs.Overtaking.{share_choice, meet, overtakes, overtaken_from, overtaken}
use Rattle.cov_overtaking.specs.Marks.{IsMark, AreMarks}
use Rattle.cov_overtaking.specs.Overtakers.{touches_of, Overtakes, IsFirstOf}
use Rattle.cov_overtaking.specs.Touches.{touches_on, touched_on, are_touches_on, DoNotMeet}
use Rattle.cov_overtaking.specs.declared.mark.CommitMark.{CommitMark}
use Rattle.cov_overtaking.specs.declared.touches.Touch.{Touch}
use Rattle.cov_overtaking.proofs.Walking.{within-by}

module _ (history : List Command) (ambition other : Formula ℕ) (most : option_count history ≤ CHOICE_WIDTH) (named : reach_of (constraints_of history) ≤ option_count history) where
  abbrev count : ℕ
  count = option_count history

  -- the valid choices on which two conditions are true
  abbrev shared : Formula ℕ → Formula ℕ → List Bool → Bool
  shared a b c = is_valid_in history c && (value a c && value b c)

  reads : (a b : Formula ℕ) → reach a ≤ count → reach b ≤ count → (c d : List Bool) → ((o : ℕ) → o < count → is_on c o ≡ is_on d o) → shared a b c ≡ shared a b d
  reads a b low also c d h =
      λ i. is_valid_same (constraints_of history) c d (λ o lt. h o (omega (arith, lt, named))) i
      && (value_same a c d (λ o lt. h o (omega (arith, lt, low))) i && value_same b c d (λ o lt. h o (omega (arith, lt, also))) i)

  -- where an edit of a commit and one of another meet on no choice of all options, they don't meet
  abbrev Apart : Sided → Sided → Type 0
  Apart e f = (node : ℕ) (c : List Bool) → length c ≡ CHOICE_WIDTH → (touches_on other node c e && (is_valid_in history c && touches_on ambition node c f)) ≡ false

  turned : (a b v : Bool) → (a && (v && b)) ≡ (v && (a && b))
  turned true b v = refl
  turned false b true = refl
  turned false b false = refl

  -- one touched node suffices
  touched-same : (o p : Option ℕ) (Q : Bool → Type 0) → Q false → ((node : ℕ) → is_number node o ≡ true → is_number node p ≡ true → Q (are_same o p)) → Q (are_same o p)
  touched-same None p Q none own = none
  touched-same (Some x) None Q none own = none
  touched-same (Some x) (Some y) Q none own = at (nat_eq y x) refl
    where
      at : (b : Bool) → nat_eq y x ≡ b → Q (nat_eq y x)
      at true e = subst Q (sym e) (subst Q e (own x (grind (arith, nat_tests)) e))
      at false e = subst Q (sym e) none

  apart-unmet : (e f : Sided) → reach (condition other e) ≤ count → reach (condition ambition f) ≤ count → Apart e f → meet history other e ambition f ≡ false
  apart-unmet e f low also apart =
      touched-same (touched_by e.edit) (touched_by f.edit) (λ b. (b && share_choice history (condition other e) (condition ambition f)) ≡ false) refl
      (λ node it own. no-and (touch_common e.edit f.edit) (share_choice history (condition other e) (condition ambition f)) (none node it own))
    where
      no-and : (a b : Bool) → b ≡ false → (a && b) ≡ false
      no-and true b h = h
      no-and false b h = refl

      none : (node : ℕ) → touches node e.edit ≡ true → touches node f.edit ≡ true → share_choice history (condition other e) (condition ambition f) ≡ false
      none node it own =
          none_short count count (shared (condition other e) (condition ambition f)) most (reads (condition other e) (condition ambition f) low also)
          (λ c long. sym (turned (value (condition other e) c) (value (condition ambition f) c) (is_valid_in history c))
          ∙ sym (λ i. (it i && value (condition other e) c) && (is_valid_in history c && (own i && value (condition ambition f) c))) ∙ apart node c long)

  unmet-apart : (e f : Sided) → reach (condition other e) ≤ count → reach (condition ambition f) ≤ count → meet history other e ambition f ≡ false → Apart e f
  unmet-apart e f low also unmet node c long = at (touches node e.edit) (touches node f.edit) refl refl
    where
      common : (o p : Option ℕ) → is_number node o ≡ true → is_number node p ≡ true → are_same o p ≡ true
      common None p h k = absurd (cc)
      common (Some x) None h k = absurd (cc)
      common (Some x) (Some y) h k = grind (arith, nat_tests, h, k)

      none : share_choice history (condition other e) (condition ambition f) ≡ false → (value (condition other e) c && (is_valid_in history c && value (condition ambition f) c)) ≡ false
      none h =
          turned (value (condition other e) c) (value (condition ambition f) c) (is_valid_in history c)
          ∙ none_wide count count (shared (condition other e) (condition ambition f)) most (reads (condition other e) (condition ambition f) low also) (omega arith) h c long

      last : (a : Bool) → (a && false) ≡ false
      last true = refl
      last false = refl

      at : (s t : Bool) → touches node e.edit ≡ s → touches node f.edit ≡ t → ((s && value (condition other e) c) && (is_valid_in history c && (t && value (condition ambition f) c))) ≡ false
      at false t it own = refl
      at true false it own = ap (λ b. value (condition other e) c && b) (last (is_valid_in history c)) ∙ last (value (condition other e) c)
      at true true it own =
          none (ap (λ b. b && share_choice history (condition other e) (condition ambition f)) (sym (common (touched_by e.edit) (touched_by f.edit) it own)) ∙ unmet)

  -- tests of Booleans
  right-either : (p v q r : Bool) → (p && (v && q)) ≡ false → (p && (v && r)) ≡ false → (p && (v && (q || r))) ≡ false
  right-either false v q r h k = refl
  right-either true false q r h k = refl
  right-either true true true r h k = absurd (cc)
  right-either true true false r h k = k

  either-right : (p v q r : Bool) → (p && (v && (q || r))) ≡ false → ((p && (v && q)) ≡ false) × ((p && (v && r)) ≡ false)
  either-right false v q r h = (refl, refl)
  either-right true false q r h = (refl, refl)
  either-right true true true r h = absurd (cc)
  either-right true true false r h = (refl, h)

  left-either : (p q d : Bool) → (p && d) ≡ false → (q && d) ≡ false → ((p || q) && d) ≡ false
  left-either true q d h k = h
  left-either false q d h k = k

  either-left : (p q d : Bool) → ((p || q) && d) ≡ false → ((p && d) ≡ false) × ((q && d) ≡ false)
  either-left true true d h = (h, h)
  either-left true false d h = (h, refl)
  either-left false q d h = (refl, h)

  -- edits of a commit and edits of another touch no common node on a choice
  abbrev pub AreApart : List Sided → List Sided → Type 0
  AreApart fs ss = (node : ℕ) (c : List Bool) → length c ≡ CHOICE_WIDTH → (touched_on other fs node c && (is_valid_in history c && touched_on ambition ss node c)) ≡ false

  no-last : (a v : Bool) → (a && (v && false)) ≡ false
  no-last true true = refl
  no-last true false = refl
  no-last false v = refl

  one-apart : (e : Sided) (ss : List Sided) → reach (condition other e) ≤ count → AllByRecursion (λ w. reach w ≤ count) (conditions ambition ss) → list_any (meet history other e ambition) ss ≡ false
      → (node : ℕ) (c : List Bool) → length c ≡ CHOICE_WIDTH → (touches_on other node c e && (is_valid_in history c && touched_on ambition ss node c)) ≡ false
  one-apart e [] low also h node c long = no-last (touches_on other node c e) (is_valid_in history c)
  one-apart e (f ∷ ss) low also h node c long =
      let parts = or_parts (meet history other e ambition f) (list_any (meet history other e ambition) ss) h in
      right-either (touches_on other node c e) (is_valid_in history c) (touches_on ambition node c f) (touched_on ambition ss node c)
      (unmet-apart e f low also.0 parts.0 node c long) (one-apart e ss low also.1 parts.1 node c long)

  all-apart : (fs ss : List Sided) → AllByRecursion (λ w. reach w ≤ count) (conditions other fs) → AllByRecursion (λ w. reach w ≤ count) (conditions ambition ss)
      → list_any (λ e. list_any (meet history other e ambition) ss) fs ≡ false → AreApart fs ss
  all-apart [] ss low also h node c long = refl
  all-apart (e ∷ fs) ss low also h node c long =
      let parts = or_parts (list_any (meet history other e ambition) ss) (list_any (λ d. list_any (meet history other d ambition) ss) fs) h in
      left-either (touches_on other node c e) (touched_on other fs node c) (is_valid_in history c && touched_on ambition ss node c)
      (one-apart e ss low.0 also parts.0 node c long) (all-apart fs ss low.1 also parts.1 node c long)

  one-unmet : (e : Sided) (ss : List Sided) → reach (condition other e) ≤ count → AllByRecursion (λ w. reach w ≤ count) (conditions ambition ss)
      → ((node : ℕ) (c : List Bool) → length c ≡ CHOICE_WIDTH → (touches_on other node c e && (is_valid_in history c && touched_on ambition ss node c)) ≡ false)
      → list_any (meet history other e ambition) ss ≡ false
  one-unmet e [] low also apart = refl
  one-unmet e (f ∷ ss) low also apart =
      λ i. apart-unmet e f low also.0 (λ node c long. (parts node c long).0) i || one-unmet e ss low also.1 (λ node c long. (parts node c long).1) i
    where
      parts : (node : ℕ) (c : List Bool) → length c ≡ CHOICE_WIDTH
          → ((touches_on other node c e && (is_valid_in history c && touches_on ambition node c f)) ≡ false) × ((touches_on other node c e && (is_valid_in history c && touched_on ambition ss node c)) ≡ false)
      parts node c long = either-right (touches_on other node c e) (is_valid_in history c) (touches_on ambition node c f) (touched_on ambition ss node c) (apart node c long)

  pub all-unmet : (fs ss : List Sided) → AllByRecursion (λ w. reach w ≤ count) (conditions other fs) → AllByRecursion (λ w. reach w ≤ count) (conditions ambition ss)
      → AreApart fs ss → list_any (λ e. list_any (meet history other e ambition) ss) fs ≡ false
  all-unmet [] ss low also apart = refl
  all-unmet (e ∷ fs) ss low also apart =
      λ i. one-unmet e ss low.0 also (λ node c long. (parts node c long).0) i || all-unmet fs ss low.1 also (λ node c long. (parts node c long).1) i
    where
      parts : (node : ℕ) (c : List Bool) → length c ≡ CHOICE_WIDTH
          → ((touches_on other node c e && (is_valid_in history c && touched_on ambition ss node c)) ≡ false) × ((touched_on other fs node c && (is_valid_in history c && touched_on ambition ss node c)) ≡ false)
      parts node c long = either-left (touches_on other node c e) (touched_on other fs node c) (is_valid_in history c && touched_on ambition ss node c) (apart node c long)

-- touches are those of edits on valid choices
abbrev pub AreOwn : List Command → List Triple → Formula ℕ → List Sided → List Touch → Type 0
AreOwn history ts ambition ss own = (node : ℕ) (c : List Bool) → are_touches_on ts own node c ≡ (is_valid_in history c && touched_on ambition ss node c)

module _ (history : List Command) (ts : List Triple) (base : ℕ) (ambition : Formula ℕ) (ss : List Sided) (own : List Touch)
    (most : option_count history ≤ CHOICE_WIDTH) (named : reach_of (constraints_of history) ≤ option_count history) (low : reach_within ambition ss ≤ option_count history)
    (owns : AreOwn history ts ambition ss own) where
  module _ (other : Formula ℕ) (fs : List Sided) (m : CommitMark) (p : ℕ) (mark : IsMark ts (option_count history) p other fs m) where
    abbrev met : Bool
    met = list_any (λ e. list_any (meet history other e ambition) ss) fs

    marked : (node : ℕ) (c : List Bool) → are_touches_on ts (touches_of m) node c ≡ touched_on other fs node c
    marked node c = ap (λ ys. are_touches_on ts ys node c) (within-by m.touched m.node m.each mark.long) ∙ mark.are node c

    unmet-touches : met ≡ false → DoNotMeet ts (touches_of m) own
    unmet-touches h node c long =
        (λ i. marked node c i && owns node c i)
        ∙ all-apart history ambition other most named fs ss (conditions-low (option_count history) other fs mark.named) (conditions-low (option_count history) ambition ss low) h node c long

    touches-unmet : DoNotMeet ts (touches_of m) own → met ≡ false
    touches-unmet apart =
        all-unmet history ambition other most named fs ss (conditions-low (option_count history) other fs mark.named) (conditions-low (option_count history) ambition ss low)
        (λ node c long. sym (λ i. marked node c i && owns node c i) ∙ apart node c long)

    yes-overtakes : Overtakes ts base own m → met ≡ true
    yes-overtakes h = at met refl
      where
        at : (b : Bool) → met ≡ b → b ≡ true
        at true e = refl
        at false e = absurd (h.meets (unmet-touches e))

    not-overtakes : base < p → (Overtakes ts base own m → ⊥) → met ≡ false
    not-overtakes after h = at met refl
      where
        at : (b : Bool) → met ≡ b → b ≡ false
        at false e = refl
        at true e = absurd (h (record {
          after = (let position = mark.position in omega (arith, after, position));
          meets = λ apart. absurd (let none = touches-unmet apart in cc);
        }))

  -- after the base
  marks-after : (p : ℕ) (later : List Command) (marks : List CommitMark) (found : Option ℕ) → base ≤ p → AreMarks ts (option_count history) p later marks → IsFirstOf ts base own marks found
      → found ≡ overtaken_from history ambition ss p later
  marks-after p [] marks found le are first = subst (λ ms. IsFirstOf ts base own ms found) are first
  marks-after p (commands.Option name ∷ later) marks found le are first = marks-after (p + 1) later marks found (omega (arith, le)) are first
  marks-after p (commands.Constraint expr ∷ later) marks found le are first = marks-after (p + 1) later marks found (omega (arith, le)) are first
  marks-after p (commands.Prefer expr ∷ later) marks found le are first = marks-after (p + 1) later marks found (omega (arith, le)) are first
  marks-after p (commands.Default option on ∷ later) marks found le are first = marks-after (p + 1) later marks found (omega (arith, le)) are first
  marks-after p (commands.Commit old choice other fs ∷ later) [] found le are first = absurd are
  marks-after p (commands.Commit old choice other fs ∷ later) (m ∷ marks) found le are first =
      at first (λ rest. marks-after (p + 1) later marks found (omega (arith, le)) are.1 rest)
    where
      at : (Overtakes ts base own m × (found ≡ Some m.position)) ⊎ ((Overtakes ts base own m → ⊥) × IsFirstOf ts base own marks found)
          → (IsFirstOf ts base own marks found → found ≡ overtaken_from history ambition ss (p + 1) later)
          → found ≡ cond (overtakes history ambition ss (commands.Commit old choice other fs)) (Some (p + 1)) (overtaken_from history ambition ss (p + 1) later)
      at (inl h) rest =
          h.1 ∙ ap Some are.0.position ∙ sym (ap (λ b. cond b (Some (p + 1)) (overtaken_from history ambition ss (p + 1) later)) (yes-overtakes other fs m (p + 1) are.0 h.0))
      at (inr h) rest =
          rest h.1 ∙ sym (ap (λ b. cond b (Some (p + 1)) (overtaken_from history ambition ss (p + 1) later)) (not-overtakes other fs m (p + 1) are.0 (omega (arith, le)) h.0))
  marks-after p (commands.Upgrade ∷ later) marks found le are first = marks-after (p + 1) later marks found (omega (arith, le)) are first

  -- up to the base, no mark overtakes
  marks-decide : (k p : ℕ) (later : List Command) (marks : List CommitMark) (found : Option ℕ) → p + k ≡ base → AreMarks ts (option_count history) p later marks → IsFirstOf ts base own marks found
      → found ≡ overtaken_from history ambition ss base (drop k later)
  marks-decide zero p later marks found at are first =
      let here : p ≡ base = omega (arith, at) in
      marks-after p later marks found (omega (arith, at)) are first ∙ ap (λ q. overtaken_from history ambition ss q later) here
  marks-decide (suc k) p [] marks found at are first = subst (λ ms. IsFirstOf ts base own ms found) are first
  marks-decide (suc k) p (commands.Option name ∷ later) marks found at are first = marks-decide k (p + 1) later marks found (omega (arith, at)) are first
  marks-decide (suc k) p (commands.Constraint expr ∷ later) marks found at are first = marks-decide k (p + 1) later marks found (omega (arith, at)) are first
  marks-decide (suc k) p (commands.Prefer expr ∷ later) marks found at are first = marks-decide k (p + 1) later marks found (omega (arith, at)) are first
  marks-decide (suc k) p (commands.Default option on ∷ later) marks found at are first = marks-decide k (p + 1) later marks found (omega (arith, at)) are first
  marks-decide (suc k) p (commands.Commit old choice other fs ∷ later) [] found at are first = absurd are
  marks-decide (suc k) p (commands.Commit old choice other fs ∷ later) (m ∷ marks) found at are first =
      by first (λ rest. marks-decide k (p + 1) later marks found (omega (arith, at)) are.1 rest)
    where
      by : (Overtakes ts base own m × (found ≡ Some m.position)) ⊎ ((Overtakes ts base own m → ⊥) × IsFirstOf ts base own marks found)
          → (IsFirstOf ts base own marks found → found ≡ overtaken_from history ambition ss base (drop k later))
          → found ≡ overtaken_from history ambition ss base (drop k later)
      by (inl h) rest = let after = h.0.after in let position = are.0.position in absurd (omega (arith, after, position, at))
      by (inr h) rest = rest h.1
  marks-decide (suc k) p (commands.Upgrade ∷ later) marks found at are first = marks-decide k (p + 1) later marks found (omega (arith, at)) are first

-- the first mark that overtakes is that of the first commit that does
pub marks-overtaken : (history : List Command) (ts : List Triple) (marks : List CommitMark) (base : ℕ) (ambition : Formula ℕ) (ss : List Sided) (own : List Touch) (found : Option ℕ)
    → option_count history ≤ CHOICE_WIDTH → reach_of (constraints_of history) ≤ option_count history → reach_within ambition ss ≤ option_count history
    → AreMarks ts (option_count history) 0 history marks → AreOwn history ts ambition ss own
    → IsFirstOf ts base own marks found → found ≡ overtaken history base ambition ss
marks-overtaken history ts marks base ambition ss own found most named low marks-are owns first =
    marks-decide history ts base ambition ss own most named low owns base 0 history marks found (omega arith) marks-are first
