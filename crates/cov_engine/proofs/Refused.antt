-- The refusals that come first, and what is known of a command that none of them refuses.
use Rattle.std.proofs.Common.{◌≡◌, refl, ap, sym, ◌∙◌, ℕ, zero, suc, ◌+◌, ◌<◌, ◌≤◌, Bool, true, false, cond, ◌&&◌, ◌||◌, not, nat_eq, nat_le, nat_lt, List, [], ◌∷◌, ◌++◌, length, take, drop, Option, Some, None, option_map, arith}
use Rattle.std.specs.List.{position_or_len, AllByRecursion}
use Rattle.std.proofs.Math.Nat.{max-le}
use Rattle.std.proofs.lemmas.Bool.{not-false, or_parts}
use Rattle.std.proofs.lemmas.Bool.Decides.{nat_tests}
use Rattle.cov_base.specs.declared.limits.Limits.{Limits}
use Rattle.cov_base.specs.declared.limits.TheConstants.{LIMITS}
use Rattle.cov_expr.specs.Formula.{Formula, value, reach}
use Rattle.cov_expr.specs.Validity.{is_valid, first_false}
use Rattle.cov_edit.specs.declared.edit.Edit.{Edit}
use Rattle.cov_edit.specs.declared.command.Command.{Command}
use Rattle.cov_edit.specs.declared.command.Command.TheVariants as commands
use Rattle.cov_edit.specs.declared.sided.Sided.{Sided}
use Rattle.cov_edit.specs.Fits.{reach_of as options_reach}
use Rattle.cov_edit.specs.Limits.{limits_of}
use Rattle.cov_edit.specs.History.{options_of, option_count, constraints_of, preferences_of, defaults_of, first_false_in, byte_count, text_bytes}
use Rattle.cov_edit.specs.Numbering.{anchors_of, line_count, node_count, nodes_made, numbers_of}
use Rattle.cov_edit.specs.Replay.{replay}
use Rattle.cov_edit.specs.Sides.{unsided, reach_within}
use Rattle.cov_view.specs.Refusals.{when, first_of, first_refused}
use Rattle.cov_view.specs.declared.fault.EditFault.{EditFault}
use Rattle.cov_view.proofs.CallerLemmas.{first-not_when, first-one, first-when, none-behind, none-first, none-when}
use Rattle.cov_history.specs.BadChoices.{unsound_refusal}
use Rattle.cov_history.specs.Overtaking.{overtaken}
use Rattle.cov_history.specs.Sessions.{IsGood, MayCome, session_of}
use Rattle.cov_history.specs.Verdict.{IsLegal, as_bad_record, as_invalid, as_outside, as_overtaken, first_outside, has_no_edits, leaves_variant, refusals_of, rule_refusals, size_refusals, verdict, when_full}
use Rattle.cov_history.specs.declared.refusal.Refusal.{Refusal}
use Rattle.cov_history.specs.declared.refusal.Refusal.TheVariants as refusals
use Rattle.cov_history.proofs.CallerLemmas.{legal-take, no-record, rules-low}
use Rattle.cov_rules.specs.Installing.{reach_of}
use Rattle.cov_engine.specs.Refusing.{base_refusals, choice_refusals, commit_refusals, early_refusal, early_refusals, edit_refusals, undeclared}
use Rattle.cov_engine.specs.Sizes.{sizes_refusal}
use Rattle.cov_engine.specs.States.{AreCountsOf, name_refusal}
use Rattle.cov_engine.specs.declared.counts.Counts.{Counts}
use Rattle.cov_engine.proofs.States.{not-below}

module _ {F : Type 0} where
  -- refusals before others, or the others
  pub others-behind : (os ps : List (Option F)) → first_of (os ++ ps) ≡ first_of (first_of os ∷ ps)
  others-behind [] ps = refl
  others-behind (None ∷ os) ps = others-behind os ps
  others-behind (Some f ∷ os) ps = refl

  -- the first of refusals comes before the others
  pub first-some : (os ps : List (Option F)) (f : F) → first_of os ≡ Some f → first_of (os ++ ps) ≡ Some f
  first-some os ps f h = others-behind os ps ∙ ap (λ o. first_of (o ∷ ps)) h

  -- where there is none of them, the others decide
  pub first-others : (os ps : List (Option F)) → first_of os ≡ None → first_of (os ++ ps) ≡ first_of ps
  first-others os ps h = others-behind os ps ∙ ap (λ o. first_of (o ∷ ps)) h

-- the refusal by sizes that are counted is that by the history's
pub sized-as : (history : List Command) (limits : Limits) (counts : Counts) (es : List Edit) → limits ≡ limits_of history → AreCountsOf history counts → sizes_refusal limits counts es ≡ first_of (size_refusals history es)
sized-as history limits counts es allowed are = rw (allowed, are.lines, are.nodes, are.bytes) refl

full-prefix : (c : List Bool) (es : List (Formula ℕ)) → length es ≤ position_or_len (λ f. not (value f c)) es → is_valid es c ≡ true
full-prefix c [] h = refl
full-prefix c (e ∷ es) h = at (value e c) h (λ k. full-prefix c es k)
  where
    at : (b : Bool) → suc (length es) ≤ cond (not (not b)) (1 + position_or_len (λ f. not (value f c)) es) 0
        → (length es ≤ position_or_len (λ f. not (value f c)) es → is_valid es c ≡ true) → (b && is_valid es c) ≡ true
    at true k rest = rest (omega (arith, k))
    at false k rest = absurd (omega (arith, k))

-- where no constraint is false, the choice is valid
pub all-valid : (es : List (Formula ℕ)) (c : List Bool) → first_false es c ≡ None → is_valid es c ≡ true
all-valid es c h = full-prefix c es (at (nat_lt (position_or_len (λ f. not (value f c)) es) (length es)) refl h)
  where
    at : (b : Bool) → nat_lt (position_or_len (λ f. not (value f c)) es) (length es) ≡ b
        → option_map (λ n. n + 1) (cond b (Some (position_or_len (λ f. not (value f c)) es)) None) ≡ None → length es ≤ position_or_len (λ f. not (value f c)) es
    at true e k = absurd (cc)
    at false e k = grind (arith, nat_tests, e)

no-invalid : (o : Option ℕ) → as_invalid o ≡ None → o ≡ None
no-invalid None h = refl
no-invalid (Some rule) h = absurd (cc)

inside-prefix : (c : List Bool) (es : List Sided) → length es ≤ position_or_len (λ s. not (value s.side c)) es → AllByRecursion (λ s. value s.side c ≡ true) es
inside-prefix c [] h = tt
inside-prefix c (s ∷ es) h = at (value s.side c) refl h (inside-prefix c es)
  where
    at : (b : Bool) → value s.side c ≡ b → suc (length es) ≤ cond (not (not b)) (1 + position_or_len (λ t. not (value t.side c)) es) 0
        → (length es ≤ position_or_len (λ t. not (value t.side c)) es → AllByRecursion (λ t. value t.side c ≡ true) es) → (value s.side c ≡ true) × AllByRecursion (λ t. value t.side c ≡ true) es
    at true is k rest = (is, rest (omega (arith, k)))
    at false is k rest = absurd (omega (arith, k))

-- where no side is false, each is true
all-inside : (es : List Sided) (c : List Bool) → as_outside (first_outside c es) ≡ None → AllByRecursion (λ s. value s.side c ≡ true) es
all-inside es c h = inside-prefix c es (at (nat_lt (position_or_len (λ s. not (value s.side c)) es) (length es)) refl h)
  where
    at : (b : Bool) → nat_lt (position_or_len (λ s. not (value s.side c)) es) (length es) ≡ b
        → as_outside (cond b (Some (position_or_len (λ s. not (value s.side c)) es)) None) ≡ None → length es ≤ position_or_len (λ s. not (value s.side c)) es
    at true e k = absurd (cc)
    at false e k = grind (arith, nat_tests, e)

-- what is known of the place of a refused edit is its refusal
pub as-found : (o : Option (ℕ × EditFault)) (found : Option ℕ) → found ≡ option_map (λ (refused : ℕ × EditFault). refused.0) o → as_bad_record o ≡ option_map refusals.BadRecord found
as-found None found h = ap (option_map refusals.BadRecord) (sym h)
as-found (Some refused) found h = ap (option_map refusals.BadRecord) (sym h)

declared : (n m : ℕ) (rs : List (Option Refusal)) → first_of (undeclared n m ∷ rs) ≡ None → m ≤ n
declared n m rs h = let within = (none-when (nat_lt n m) refusals.BadOption rs h).0 in grind (arith, nat_tests, within)

module _ (history : List Command) (base : ℕ) (choice : List Bool) (ambition : Formula ℕ) (es : List Sided) (passes : first_of (commit_refusals history base choice ambition es) ≡ None) where
  abbrev before : List Command
  before = take base history

  abbrev behind : List (Option Refusal)
  behind = choice_refusals before choice ambition es ++ edit_refusals before choice es

  abbrev other_count : Bool
  other_count = not (nat_eq (length choice) (option_count before))

  abbrev beyond : Bool
  beyond = nat_lt (option_count before) (reach_within ambition es)

  -- no size refuses it, nor what comes behind
  pub commit-sizes : first_of (size_refusals history (unsided es) ++ behind) ≡ None
  commit-sizes = none-behind (base_refusals history base choice ambition es) (size_refusals history (unsided es) ++ behind) passes

  -- the session of a commit that isn't refused early is a good one
  pub commit-good : IsGood history (session_of base choice ambition es)
  commit-good =
      let at_base = none-when (nat_lt (length history) base) refusals.BadBase (when (other_count || beyond) refusals.BadOption ∷ (size_refusals history (unsided es) ++ behind)) passes in
      let options = none-when (other_count || beyond) refusals.BadOption (size_refusals history (unsided es) ++ behind) at_base.1 in
      let parts = or_parts other_count beyond options.0 in
      let invalid = none-first (as_invalid (first_false_in before choice)) (when (not (value ambition choice)) refusals.OutsideAmbition ∷ as_outside (first_outside choice es) ∷ edit_refusals before choice es) (none-behind (size_refusals history (unsided es)) behind commit-sizes) in
      let outside = none-when (not (value ambition choice)) refusals.OutsideAmbition (as_outside (first_outside choice es) ∷ edit_refusals before choice es) invalid.1 in
      let sides = none-first (as_outside (first_outside choice es)) (edit_refusals before choice es) outside.1 in
      let empty = none-when (has_no_edits es) refusals.Empty (as_bad_record (first_refused (numbers_of before) (replay choice before) (unsided es)) ∷ []) sides.1 in
      let bad = none-first (as_bad_record (first_refused (numbers_of before) (replay choice before) (unsided es))) [] empty.1 in
      let within : nat_lt (length history) base ≡ false = at_base.0 in
      let counted : nat_eq (length choice) (option_count before) ≡ true = not-false _ parts.0 in
      let reached : nat_lt (option_count before) (reach_within ambition es) ≡ false = parts.1 in
      record {
        within = grind (arith, nat_tests, within);
        of_all_options = grind (arith, nat_tests, counted);
        valid = all-valid (constraints_of before) choice (no-invalid (first_false_in before choice) invalid.0);
        in_ambition = not-false _ outside.0;
        in_sides = all-inside es choice sides.0;
        in_reach = grind (arith, nat_tests, reached);
        accepted = no-record (first_refused (numbers_of before) (replay choice before) (unsided es)) bad.0;
      }

-- a commit that isn't refused for its sizes stays within the limits
module _ (history : List Command) (es : List Edit) (others : List (Option Refusal)) (sized : first_of (size_refusals history es ++ others) ≡ None) where
  abbrev too_much : Bool
  too_much = nat_lt LIMITS.commit_bytes (text_bytes es) || nat_lt LIMITS.bytes (byte_count history + text_bytes es)

  -- no test of a size holds
  none-beyond : (nat_lt LIMITS.edits (length es) ≡ false) × (nat_lt (limits_of history).lines (line_count history + length (anchors_of 0 es)) ≡ false)
      × (nat_lt (limits_of history).nodes (node_count history + nodes_made es) ≡ false) × (too_much ≡ false)
  none-beyond =
      let edits = none-when (nat_lt LIMITS.edits (length es)) refusals.TooManyEdits _ sized in
      let lines = none-when (nat_lt (limits_of history).lines (line_count history + length (anchors_of 0 es))) refusals.TooManyLines _ edits.1 in
      let nodes = none-when (nat_lt (limits_of history).nodes (node_count history + nodes_made es)) refusals.TooManyNodes _ lines.1 in
      (edits.0, lines.0, nodes.0, (none-when too_much refusals.TooManyBytes _ nodes.1).0)

  pub edits-few : length es ≤ LIMITS.edits
  edits-few = not-below LIMITS.edits (length es) none-beyond.0

  pub lines-few : line_count history + length (anchors_of 0 es) ≤ (limits_of history).lines
  lines-few = not-below (limits_of history).lines (line_count history + length (anchors_of 0 es)) none-beyond.1

  pub nodes-few : node_count history + nodes_made es ≤ (limits_of history).nodes
  nodes-few = not-below (limits_of history).nodes (node_count history + nodes_made es) none-beyond.2

  pub text-few : text_bytes es ≤ LIMITS.commit_bytes
  text-few =
      not-below LIMITS.commit_bytes (text_bytes es)
      (or_parts (nat_lt LIMITS.commit_bytes (text_bytes es)) (nat_lt LIMITS.bytes (byte_count history + text_bytes es)) none-beyond.3).0

  pub bytes-few : byte_count history + text_bytes es ≤ LIMITS.bytes
  bytes-few =
      not-below LIMITS.bytes (byte_count history + text_bytes es)
      (or_parts (nat_lt LIMITS.commit_bytes (text_bytes es)) (nat_lt LIMITS.bytes (byte_count history + text_bytes es)) none-beyond.3).1

-- the refusals of an accepted commit for its sizes, with those after them
pub accepted-sizes : (history : List Command) (base : ℕ) (choice : List Bool) (ambition : Formula ℕ) (es : List Sided) → verdict history (commands.Commit base choice ambition es) ≡ None
    → (others : List (Option Refusal)) × (first_of (size_refusals history (unsided es) ++ others) ≡ None)
accepted-sizes history base choice ambition es accepted =
    let room = none-when (nat_le LIMITS.commands (length history)) refusals.Full (refusals_of history (commands.Commit base choice ambition es)) accepted in
    let at_base = none-when (nat_lt (length history) base) refusals.BadBase _ room.1 in
    (_, (none-when (not (nat_eq (length choice) (option_count (take base history))) || nat_lt (option_count (take base history)) (reach_within ambition es)) refusals.BadOption _ at_base.1).1)

-- a command that isn't refused early may come
pub early-may : (history : List Command) (k : Command) → early_refusal history k ≡ None → MayCome history k
early-may history (commands.Option name) passes = tt
early-may history (commands.Constraint expr) passes = declared (option_count history) (reach expr) [] passes
early-may history (commands.Prefer expr) passes = declared (option_count history) (reach expr) [] passes
early-may history (commands.Default option on) passes = let within = declared (option_count history) (option + 1) [] passes in omega (arith, within)
early-may history (commands.Commit base choice ambition es) passes = commit-good history base choice ambition es passes
early-may history commands.Upgrade passes = tt

not-full : (history : List Command) (rs : List (Option Refusal)) → length history < LIMITS.commands → first_of (when (nat_le LIMITS.commands (length history)) refusals.Full ∷ rs) ≡ first_of rs
not-full history rs few = first-not_when (nat_le LIMITS.commands (length history)) refusals.Full rs (grind (arith, nat_tests, few))

-- the verdict on a command that is refused early
pub early-verdict : (history : List Command) (k : Command) (r : Refusal) → length history < LIMITS.commands → early_refusal history k ≡ Some r → verdict history k ≡ Some r
early-verdict history k r few refused = not-full history (refusals_of history k) few ∙ by k refused
  where
    by : (k : Command) → early_refusal history k ≡ Some r → first_of (refusals_of history k) ≡ Some r
    by (commands.Option name) refused = absurd (cc)
    by (commands.Constraint expr) refused = first-some (early_refusals history (commands.Constraint expr)) _ r refused
    by (commands.Prefer expr) refused = first-some (early_refusals history (commands.Prefer expr)) _ r refused
    by (commands.Default option on) refused = first-some (early_refusals history (commands.Default option on)) _ r refused
    by (commands.Commit base choice ambition es) refused =
        first-some (commit_refusals history base choice ambition es) (as_overtaken (overtaken history base ambition es) ∷ unsound_refusal history ambition (commands.Commit base choice ambition es) ∷ []) r refused
    by commands.Upgrade refused = first-some (early_refusals history commands.Upgrade) _ r refused

-- an upgrade that isn't refused early is accepted
pub upgrade-accepted : (history : List Command) (k : Command) → k ≡ commands.Upgrade → length history < LIMITS.commands → early_refusal history k ≡ None → verdict history k ≡ None
upgrade-accepted history k is few passes =
    ap (verdict history) is ∙ not-full history (refusals_of history commands.Upgrade) few ∙ ap (early_refusal history) (sym is) ∙ passes

-- the verdict on an option is that of its name
pub option-verdict : (history : List Command) (k : Command) (name : List ℕ) (most : ℕ) (names : List (List ℕ)) → k ≡ commands.Option name → length history < LIMITS.commands → most ≡ (limits_of history).options → names ≡ options_of history
    → verdict history k ≡ name_refusal most names name
option-verdict history k name most names is few allowed same =
    ap (verdict history) is ∙ not-full history (refusals_of history (commands.Option name)) few ∙ (λ j. name_refusal (sym allowed j) (sym same j) name)

-- the verdict on a commit that isn't refused early
pub commit-verdict : (history : List Command) (base : ℕ) (choice : List Bool) (ambition : Formula ℕ) (es : List Sided) → length history < LIMITS.commands → first_of (commit_refusals history base choice ambition es) ≡ None
    → verdict history (commands.Commit base choice ambition es)
    ≡ first_of (as_overtaken (overtaken history base ambition es) ∷ unsound_refusal history ambition (commands.Commit base choice ambition es) ∷ [])
commit-verdict history base choice ambition es few passes =
    not-full history (refusals_of history (commands.Commit base choice ambition es)) few
    ∙ first-others (commit_refusals history base choice ambition es) (as_overtaken (overtaken history base ambition es) ∷ unsound_refusal history ambition (commands.Commit base choice ambition es) ∷ []) passes

-- the options that are declared up to a position, and after it
pub options-split : (base : ℕ) (history : List Command) → option_count history ≡ option_count (take base history) + option_count (drop base history)
options-split zero history = omega arith
options-split (suc n) [] = omega arith
options-split (suc n) (commands.Option name ∷ history) = let rest = options-split n history in omega (arith, rest)
options-split (suc n) (commands.Constraint expr ∷ history) = options-split n history
options-split (suc n) (commands.Prefer expr ∷ history) = options-split n history
options-split (suc n) (commands.Default option on ∷ history) = options-split n history
options-split (suc n) (commands.Commit base choice ambition es ∷ history) = options-split n history
options-split (suc n) (commands.Upgrade ∷ history) = options-split n history

-- no fewer options are declared later
pub declared-less : (base : ℕ) (history : List Command) → option_count (take base history) ≤ option_count history
declared-less base history = let parts = options-split base history in omega (arith, parts)

rule-low : (history : List Command) (count standing : ℕ) (os : List (Option Refusal)) → first_of (when_full history ∷ rule_refusals history count standing ++ os) ≡ None → count ≤ option_count history
rule-low history count standing os h =
    let low = (none-when (nat_lt (option_count history) count) refusals.BadOption (when (nat_le (limits_of history).rules standing) refusals.Full ∷ os) (none-first (when_full history) (rule_refusals history count standing ++ os) h).1).0 in
    grind (arith, nat_tests, low)

-- a command that is accepted has no option that isn't declared
pub accepted-low : (history : List Command) (k : Command) → verdict history k ≡ None → options_reach k ≤ option_count history
accepted-low history (commands.Option name) h = omega arith
accepted-low history (commands.Constraint expr) h = rule-low history (reach expr) (length (constraints_of history)) (when (not (leaves_variant history expr)) refusals.NoVariantLeft ∷ []) h
accepted-low history commands.Upgrade h = omega arith
accepted-low history (commands.Prefer expr) h = rule-low history (reach expr) (length (preferences_of history)) [] h
accepted-low history (commands.Default option on) h = rule-low history (option + 1) (length (defaults_of history)) [] h
accepted-low history (commands.Commit base choice ambition es) h =
    let other = not (nat_eq (length choice) (option_count (take base history))) in
    let beyond = nat_lt (option_count (take base history)) (reach_within ambition es) in
    let within = (none-first (when_full history) (refusals_of history (commands.Commit base choice ambition es)) h).1 in
    let at_base = none-first (when (nat_lt (length history) base) refusals.BadBase) _ within in
    let low : beyond ≡ false = (or_parts other beyond (none-when (other || beyond) refusals.BadOption _ at_base.1).0).1 in
    let all = declared-less base history in
    grind (arith, nat_tests, low, all)

-- the constraints up to a position have only options that are declared there
pub rules-within : (history : List Command) (base : ℕ) → IsLegal history → reach_of (constraints_of (take base history)) ≤ option_count (take base history)
rules-within history base legal = most (constraints_of (take base history)) (rules-low [] (take base history) (legal-take base [] history legal))
  where
    most : (es : List (Formula ℕ)) → AllByRecursion (λ e. reach e ≤ option_count (take base history)) es → reach_of es ≤ option_count (take base history)
    most [] h = omega arith
    most (e ∷ es) h = max-le h.0 (most es h.1)

-- the refusal of a commit by its base
module _ (history : List Command) (base : ℕ) (choice : List Bool) (ambition : Formula ℕ) (es : List Sided) where
  pub base-beyond : length history < base → Some refusals.BadBase ≡ first_of (base_refusals history base choice ambition es)
  base-beyond h = sym (first-when (nat_lt (length history) base) refusals.BadBase _ (grind (arith, nat_tests, h)))

  pub base-options : base ≤ length history → (other : Bool) → not (nat_eq (length choice) (option_count (take base history))) ≡ other
      → first_of (when (other || nat_lt (option_count (take base history)) (reach_within ambition es)) refusals.BadOption ∷ []) ≡ first_of (base_refusals history base choice ambition es)
  base-options h other is =
      ap (λ b. first_of (when (b || nat_lt (option_count (take base history)) (reach_within ambition es)) refusals.BadOption ∷ [])) (sym is)
      ∙ sym (first-not_when (nat_lt (length history) base) refusals.BadBase _ (grind (arith, nat_tests, h)))

-- the refusal of a commit by its choice
module _ (before : List Command) (choice : List Bool) (ambition : Formula ℕ) (es : List Sided) where
  abbrev behind_rules : Option ℕ → Bool → Option Refusal
  behind_rules invalid inside = first_of (as_invalid invalid ∷ when (not inside) refusals.OutsideAmbition ∷ as_outside (first_outside choice es) ∷ [])

  pub choice-invalid : (rule : ℕ) → first_false_in before choice ≡ Some rule → Some (refusals.Invalid rule) ≡ first_of (choice_refusals before choice ambition es)
  choice-invalid rule h = ap (λ o. behind_rules o (value ambition choice)) (sym h)

  pub choice-outside : first_false_in before choice ≡ None → value ambition choice ≡ false → Some refusals.OutsideAmbition ≡ first_of (choice_refusals before choice ambition es)
  choice-outside h is = λ i. behind_rules (sym h i) (sym is i)

  pub choice-inside : first_false_in before choice ≡ None → value ambition choice ≡ true → as_outside (first_outside choice es) ≡ first_of (choice_refusals before choice ambition es)
  choice-inside h is = sym (first-one (as_outside (first_outside choice es))) ∙ (λ i. behind_rules (sym h i) (sym is i))

-- the refusal of a commit by its edits
module _ (before : List Command) (choice : List Bool) (es : List Sided) where
  pub edits-none : length es ≡ 0 → Some refusals.Empty ≡ first_of (edit_refusals before choice es)
  edits-none h = by es h
    where
      by : (fs : List Sided) → length fs ≡ 0 → Some refusals.Empty ≡ first_of (edit_refusals before choice fs)
      by [] h = refl
      by (f ∷ fs) h = absurd (omega (arith, h))

  pub edits-found : 0 < length es → (found : Option ℕ) → found ≡ option_map (λ (refused : ℕ × EditFault). refused.0) (first_refused (numbers_of before) (replay choice before) (unsided es))
      → option_map refusals.BadRecord found ≡ first_of (edit_refusals before choice es)
  edits-found h found is = by es h found is
    where
      by : (fs : List Sided) → 0 < length fs → (found : Option ℕ) → found ≡ option_map (λ (refused : ℕ × EditFault). refused.0) (first_refused (numbers_of before) (replay choice before) (unsided fs))
          → option_map refusals.BadRecord found ≡ first_of (edit_refusals before choice fs)
      by [] h found is = absurd (omega (arith, h))
      by (f ∷ fs) h found is =
          sym (as-found (first_refused (numbers_of before) (replay choice before) (unsided (f ∷ fs))) found is)
          ∙ sym (first-one (as_bad_record (first_refused (numbers_of before) (replay choice before) (unsided (f ∷ fs)))))
