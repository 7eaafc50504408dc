-- The commits after a base.
use Rattle.std.proofs.Common.{◌≡◌, ℕ, zero, suc, ◌+◌, ◌-◌, ◌<◌, ◌≤◌, false, cond, nat_lt, Option, Some, None, List, [], ◌∷◌, length, take, drop, slice_get, inr, refl, sym, ap, subst, ◌∙◌, arith}
use Rattle.std.specs.List.{list_any, AllByRecursion}
use Rattle.std.proofs.lemmas.Bool.Decides.{nat_tests}
use Rattle.cov_base.specs.declared.limits.TheConstants.{CHOICE_WIDTH}
use Rattle.cov_base.proofs.CallerLemmas.{all-map}
use Rattle.cov_dd.specs.declared.triple.Triple.{Triple}
use Rattle.cov_expr.specs.Formula.{Formula}
use Rattle.cov_rules.specs.Installing.{reach_of}
use Rattle.cov_edit.specs.declared.command.Command.{Command}
use Rattle.cov_edit.specs.declared.command.Command.TheVariants as commands
use Rattle.cov_edit.specs.declared.sided.Sided.{Sided}
use Rattle.cov_edit.specs.History.{option_count, constraints_of, is_valid_in}
use Rattle.cov_edit.specs.Sides.{unsided, reach_within}
use Rattle.cov_edit.specs.Touched.{touched, have_common}
use Rattle.cov_edit.proofs.CallerLemmas.{conditions-low}
use Rattle.cov_history.specs.Overtaking.{meet, overtaken_from}
use Rattle.cov_overtaking.specs.Marks.{AreMarks}
use Rattle.cov_overtaking.specs.Overtakers.{IsFirstOf, IsOvertaker, is_beyond, ends_beyond, IsAfter, NoneTouches}
use Rattle.cov_overtaking.specs.declared.mark.CommitMark.{CommitMark}
use Rattle.cov_overtaking.specs.declared.touches.Touch.{Touch}
use Rattle.cov_overtaking.proofs.Deciding.{all-unmet}
use Rattle.cov_overtaking.proofs.Touching.{touched-apart}

all-drop : {X : Type 0} (P : X → Type 0) (n : ℕ) (xs : List X) → AllByRecursion P xs → AllByRecursion P (drop n xs)
all-drop P zero xs h = h
all-drop P (suc n) [] h = h
all-drop P (suc n) (x ∷ xs) h = all-drop P n xs h.1

-- each position is before those that follow
abbrev AreAscending : List CommitMark → Type 0
AreAscending [] = Unit {0}
AreAscending (m ∷ ms) = AllByRecursion (λ k. m.position < k.position) ms × AreAscending ms

module _ (ts : List Triple) (count : ℕ) where
  marks-above : (p : ℕ) (later : List Command) (ms : List CommitMark) → AreMarks ts count p later ms → AllByRecursion (λ m. p < m.position) ms
  marks-above p [] ms h = subst (AllByRecursion (λ m. p < m.position)) (sym h) tt
  marks-above p (commands.Option name ∷ later) ms h = all-map (λ m. p + 1 < m.position) (λ m. p < m.position) (λ m low. omega (arith, low)) ms (marks-above (p + 1) later ms h)
  marks-above p (commands.Constraint expr ∷ later) ms h = all-map (λ m. p + 1 < m.position) (λ m. p < m.position) (λ m low. omega (arith, low)) ms (marks-above (p + 1) later ms h)
  marks-above p (commands.Prefer expr ∷ later) ms h = all-map (λ m. p + 1 < m.position) (λ m. p < m.position) (λ m low. omega (arith, low)) ms (marks-above (p + 1) later ms h)
  marks-above p (commands.Default option on ∷ later) ms h = all-map (λ m. p + 1 < m.position) (λ m. p < m.position) (λ m low. omega (arith, low)) ms (marks-above (p + 1) later ms h)
  marks-above p (commands.Commit base choice ambition ss ∷ later) [] h = absurd h
  marks-above p (commands.Commit base choice ambition ss ∷ later) (m ∷ ms) h = (
    (let at = h.0.position in omega (arith, at)),
    all-map (λ k. p + 1 < k.position) (λ k. p < k.position) (λ k low. omega (arith, low)) ms (marks-above (p + 1) later ms h.1),
  )
  marks-above p (commands.Upgrade ∷ later) ms h = all-map (λ m. p + 1 < m.position) (λ m. p < m.position) (λ m low. omega (arith, low)) ms (marks-above (p + 1) later ms h)

  -- the positions of commits rise
  marks-ascend : (p : ℕ) (later : List Command) (ms : List CommitMark) → AreMarks ts count p later ms → AreAscending ms
  marks-ascend p [] ms h = subst AreAscending (sym h) tt
  marks-ascend p (commands.Option name ∷ later) ms h = marks-ascend (p + 1) later ms h
  marks-ascend p (commands.Constraint expr ∷ later) ms h = marks-ascend (p + 1) later ms h
  marks-ascend p (commands.Prefer expr ∷ later) ms h = marks-ascend (p + 1) later ms h
  marks-ascend p (commands.Default option on ∷ later) ms h = marks-ascend (p + 1) later ms h
  marks-ascend p (commands.Commit base choice ambition ss ∷ later) [] h = absurd h
  marks-ascend p (commands.Commit base choice ambition ss ∷ later) (m ∷ ms) h = (
    (let at = h.0.position in all-map (λ k. p + 1 < k.position) (λ k. m.position < k.position) (λ k low. omega (arith, low, at)) ms (marks-above (p + 1) later ms h.1)),
    marks-ascend (p + 1) later ms h.1,
  )
  marks-ascend p (commands.Upgrade ∷ later) ms h = marks-ascend (p + 1) later ms h

-- the last of more than one
last-more : {X : Type 0} (x y : X) (xs : List X) → slice_get (x ∷ y ∷ xs) (length (x ∷ y ∷ xs) - 1) ≡ slice_get (y ∷ xs) (length (y ∷ xs) - 1)
last-more x y xs =
    let more : length (x ∷ y ∷ xs) - 1 ≡ suc (length xs) = omega arith in
    let less : length (y ∷ xs) - 1 ≡ length xs = omega arith in
    ap (slice_get (x ∷ y ∷ xs)) more ∙ ap (slice_get (y ∷ xs)) (sym less)

-- where the last doesn't come after a base, none does
all-early : (base : ℕ) (ms : List CommitMark) → AreAscending ms → ends_beyond base ms ≡ false → AllByRecursion (λ m. m.position ≤ base) ms
all-early base [] up end = tt
all-early base (m ∷ []) up end = let last : nat_lt base m.position ≡ false = end in (grind (arith, nat_tests, last), tt)
all-early base (m ∷ k ∷ ms) up end =
    let rest : AllByRecursion (λ x. x.position ≤ base) (k ∷ ms) = all-early base (k ∷ ms) up.1 (ap (is_beyond base) (sym (last-more m k ms)) ∙ end) in
    let first : k.position ≤ base = rest.0 in
    let above : m.position < k.position = up.0.0 in
    (omega (arith, first, above), rest)

all-front : {X : Type 0} (P : X → Type 0) (n : ℕ) (xs : List X) → AllByRecursion P xs → AllByRecursion P (take n xs)
all-front P zero xs h = tt
all-front P (suc n) [] h = tt
all-front P (suc n) (x ∷ xs) h = (h.0, all-front P n xs h.1)

front-ascends : (n : ℕ) (ms : List CommitMark) → AreAscending ms → AreAscending (take n ms)
front-ascends zero ms up = tt
front-ascends (suc n) [] up = tt
front-ascends (suc n) (m ∷ ms) up = (all-front (λ k. m.position < k.position) n ms up.0, front-ascends n ms up.1)

-- up to one that doesn't come after a base, none does
front-low : (base n : ℕ) (ms : List CommitMark) → AreAscending ms → ends_beyond base (take n ms) ≡ false → AllByRecursion (λ m. m.position ≤ base) (take n ms)
front-low base n ms up end = all-early base (take n ms) (front-ascends n ms up) end

-- the first of commits that overtakes comes behind those that don't come after the base
first-behind : (ts : List Triple) (base : ℕ) (own : List Touch) (found : Option ℕ) (n : ℕ) (ms : List CommitMark) → AllByRecursion (λ m. m.position ≤ base) (take n ms)
    → IsFirstOf ts base own (drop n ms) found → IsFirstOf ts base own ms found
first-behind ts base own found zero ms low first = first
first-behind ts base own found (suc n) [] low first = first
first-behind ts base own found (suc n) (m ∷ ms) low first =
    let early : m.position ≤ base = low.0 in
    inr ((λ over. let after = over.after in absurd (omega (arith, early, after))), first-behind ts base own found n ms low.1 first)

-- where no commit after the base touches one of the nodes, none overtakes
module _ (ts : List Triple) (history : List Command) (base : ℕ) (ambition : Formula ℕ) (ss : List Sided)
    (most : option_count history ≤ CHOICE_WIDTH) (named : reach_of (constraints_of history) ≤ option_count history) (low : reach_within ambition ss ≤ option_count history) where
  abbrev count : ℕ
  count = option_count history

  -- a commit that touches no common node meets no edit
  unmet : (other : Formula ℕ) (fs : List Sided) → reach_within other fs ≤ count → have_common (touched (unsided fs)) (touched (unsided ss)) ≡ false → list_any (λ e. list_any (meet history other e ambition) ss) fs ≡ false
  unmet other fs own none =
      all-unmet history ambition other most named fs ss (conditions-low count other fs own) (conditions-low count ambition ss low)
      (λ node c long. touched-apart other ambition fs ss (is_valid_in history c) none node c)

  none-after : (p : ℕ) (later : List Command) (ms : List CommitMark) → base ≤ p → AreMarks ts count p later ms → NoneTouches base (touched (unsided ss)) ms → overtaken_from history ambition ss p later ≡ None
  none-after p [] ms le are none = refl
  none-after p (commands.Option name ∷ later) ms le are none = none-after (p + 1) later ms (omega (arith, le)) are none
  none-after p (commands.Constraint expr ∷ later) ms le are none = none-after (p + 1) later ms (omega (arith, le)) are none
  none-after p (commands.Prefer expr ∷ later) ms le are none = none-after (p + 1) later ms (omega (arith, le)) are none
  none-after p (commands.Default option on ∷ later) ms le are none = none-after (p + 1) later ms (omega (arith, le)) are none
  none-after p (commands.Commit old choice other fs ∷ later) [] le are none = absurd are
  none-after p (commands.Commit old choice other fs ∷ later) (m ∷ ms) le are none =
      let mark = are.0 in
      let at = mark.position in
      let apart : have_common (touched (unsided fs)) (touched (unsided ss)) ≡ false = ap (λ xs. have_common xs (touched (unsided ss))) (sym mark.touches) ∙ none.0 (omega (arith, at, le)) in
      ap (λ b. cond b (Some (p + 1)) (overtaken_from history ambition ss (p + 1) later)) (unmet other fs mark.named apart)
      ∙ none-after (p + 1) later ms (omega (arith, le)) are.1 none.1
  none-after p (commands.Upgrade ∷ later) ms le are none = none-after (p + 1) later ms (omega (arith, le)) are none

  none-from : (k p : ℕ) (later : List Command) (ms : List CommitMark) → p + k ≡ base → AreMarks ts count p later ms → NoneTouches base (touched (unsided ss)) ms
      → overtaken_from history ambition ss base (drop k later) ≡ None
  none-from zero p later ms at are none =
      let here : p ≡ base = omega (arith, at) in
      ap (λ q. overtaken_from history ambition ss q later) (sym here) ∙ none-after p later ms (omega (arith, at)) are none
  none-from (suc k) p [] ms at are none = refl
  none-from (suc k) p (commands.Option name ∷ later) ms at are none = none-from k (p + 1) later ms (omega (arith, at)) are none
  none-from (suc k) p (commands.Constraint expr ∷ later) ms at are none = none-from k (p + 1) later ms (omega (arith, at)) are none
  none-from (suc k) p (commands.Prefer expr ∷ later) ms at are none = none-from k (p + 1) later ms (omega (arith, at)) are none
  none-from (suc k) p (commands.Default option on ∷ later) ms at are none = none-from k (p + 1) later ms (omega (arith, at)) are none
  none-from (suc k) p (commands.Commit old choice other fs ∷ later) [] at are none = absurd are
  none-from (suc k) p (commands.Commit old choice other fs ∷ later) (m ∷ ms) at are none = none-from k (p + 1) later ms (omega (arith, at)) are.1 none.1
  none-from (suc k) p (commands.Upgrade ∷ later) ms at are none = none-from k (p + 1) later ms (omega (arith, at)) are none

pub none-overtakes : (ts : List Triple) (valid : ℕ) (commits : List CommitMark) (base : ℕ) (ambition : Formula ℕ) (ss : List Sided) (nodes : List ℕ) → nodes ≡ touched (unsided ss)
    → NoneTouches base nodes commits → IsOvertaker ts valid commits base ambition ss None
none-overtakes ts valid commits base ambition ss nodes are none = λ history most named low marks all.
    sym (none-from ts history base ambition ss most named low base 0 history commits (omega arith) marks (subst (λ ns. NoneTouches base ns commits) are none))

-- so where the last commit doesn't come after the base
pub none-beyond : (ts : List Triple) (valid : ℕ) (commits : List CommitMark) (base : ℕ) (ambition : Formula ℕ) (ss : List Sided) → ends_beyond base commits ≡ false
    → IsOvertaker ts valid commits base ambition ss None
none-beyond ts valid commits base ambition ss end = λ history most named low marks all.
    let early = all-early base commits (marks-ascend ts (option_count history) 0 history commits marks) end in
    sym (none-from ts history base ambition ss most named low base 0 history commits (omega arith) marks
    (all-map (λ m. m.position ≤ base) (λ m. base < m.position → have_common m.touched (touched (unsided ss)) ≡ false) (λ m low after. absurd (omega (arith, low, after))) commits early))

-- the first of the commits after a base that overtakes is the first of all
pub later-overtaker : (ts us : List Triple) (valid : ℕ) (commits later : List CommitMark) (base : ℕ) (ambition : Formula ℕ) (ss : List Sided) (own : List Touch) (found : Option ℕ) → IsAfter base commits later
    → (IsFirstOf us base own commits found → IsOvertaker ts valid commits base ambition ss found) → IsFirstOf us base own later found → IsOvertaker ts valid commits base ambition ss found
later-overtaker ts us valid commits later base ambition ss own found after all first = λ history most named low marks are.
    all (first-behind us base own found after.count commits
    (front-low base after.count commits (marks-ascend ts (option_count history) 0 history commits marks) after.end)
    (subst (λ ms. IsFirstOf us base own ms found) after.is first))
    history most named low marks are

pub later-all : (P : CommitMark → Type 0) (base : ℕ) (commits later : List CommitMark) → IsAfter base commits later → AllByRecursion P commits → AllByRecursion P later
later-all P base commits later after h = subst (AllByRecursion P) (sym after.is) (all-drop P after.count commits h)
