-- Rules of a history that grows, and the verdict on one more.
use Rattle.std.proofs.Common.{◌≡◌, ℕ, ◌+◌, ◌<◌, ◌≤◌, Bool, true, false, not, nat_le, nat_lt, List, [], ◌∷◌, ◌++◌, length, take, Option, Some, None, if◌then◌else◌, append-nil, refl, sym, ap, subst, ◌∙◌, arith}
use Rattle.std.proofs.lemmas.Bool.Decides.{nat_tests}
use Rattle.std.proofs.lemmas.List.{take_all, take-append-le, length-append, length-map, map-append}
use Rattle.cov_base.specs.declared.limits.TheConstants.{CHOICE_WIDTH, LIMITS}
use Rattle.cov_dd.specs.declared.triple.Triple.{Triple}
use Rattle.cov_dd.specs.Diagrams.{Extends}
use Rattle.cov_expr.specs.Formula.{Formula, reach}
use Rattle.cov_edit.specs.declared.sided.Sided.{Sided}
use Rattle.cov_edit.specs.declared.command.Command.{Command}
use Rattle.cov_edit.specs.declared.command.Command.TheVariants as commands
use Rattle.cov_edit.specs.Limits.{limits_of}
use Rattle.cov_edit.specs.History.{option_count, constraints_of, preferences_of, defaults_of}
use Rattle.cov_rules.specs.Completion.{AreBelow, completed, completed_by, fallbacks, literals}
use Rattle.cov_rules.specs.Growth.{Follows, constraints_in, preferences_in, defaults_in}
use Rattle.cov_rules.specs.Installing.{Standing, RulesValue, Holds, literal, expressions, expressions_at}
use Rattle.cov_rules.specs.Refusals.{AreOptions, IsAccepted, is_met, reach_of_rule, refusal}
use Rattle.cov_rules.specs.declared.rules.Fallback.{Fallback}
use Rattle.cov_rules.specs.declared.rules.Installed.{Installed}
use Rattle.cov_rules.specs.declared.rules.Rule.{Rule}
use Rattle.cov_rules.specs.declared.rules.Rule.TheVariants as rules
use Rattle.cov_rules.specs.declared.rules.RuleFault.TheVariants as faults
use Rattle.cov_rules.proofs.CallerLemmas.{holds_later, stay_below}
use Rattle.cov_view.specs.Refusals.{when, first_of}
use Rattle.cov_visible.specs.declared.file_part.FilePart.{FilePart}
use Rattle.cov_overtaking.specs.declared.mark.CommitMark.{CommitMark}
use Rattle.cov_engine.specs.declared.addition.Addition.{Addition}
use Rattle.cov_engine.specs.declared.addition.Addition.TheVariants as additions
use Rattle.cov_history.specs.declared.refusal.Refusal.{Refusal}
use Rattle.cov_history.specs.declared.refusal.Refusal.TheVariants as refusals
use Rattle.cov_history.specs.Completing.{completed_in}
use Rattle.cov_engine.specs.Ruling.{AreRulesOf, IsRefusalOf, IsRuleReady, as_refusal, rule_in}
use Rattle.cov_tree.specs.Dated.{Dated}
use Rattle.cov_engine.specs.Holdings.{AreRowsAndLinesOf}
use Rattle.cov_engine.specs.Ready.{IsReady}
use Rattle.cov_history.specs.Sessions.{MayCome}
use Rattle.cov_history.specs.Verdict.{RefusedBy, leaves_variant, verdict}

-- the rules of a longer history
pub constraints-append : (history later : List Command) → constraints_of (history ++ later) ≡ constraints_of history ++ constraints_of later
constraints-append [] later = refl
constraints-append (commands.Constraint expr ∷ history) later = ap (λ exprs. expr ∷ exprs) (constraints-append history later)
constraints-append (k ∷ history) later = constraints-append history later

preferences-append : (history later : List Command) → preferences_of (history ++ later) ≡ preferences_of history ++ preferences_of later
preferences-append [] later = refl
preferences-append (commands.Prefer expr ∷ history) later = ap (λ exprs. expr ∷ exprs) (preferences-append history later)
preferences-append (k ∷ history) later = preferences-append history later

defaults-append : (history later : List Command) → defaults_of (history ++ later) ≡ defaults_of history ++ defaults_of later
defaults-append [] later = refl
defaults-append (commands.Default option on ∷ history) later = ap (λ ds. (option, on) ∷ ds) (defaults-append history later)
defaults-append (k ∷ history) later = defaults-append history later

literals-append : (ds es : List (ℕ × Bool)) → literals (ds ++ es) ≡ literals ds ++ literals es
literals-append ds es = map-append (λ (d : ℕ × Bool). literal d.0 d.1) ds es

-- the constraints up to a position, with one command more
constraints-at : (q : ℕ) (history : List Command) (k : Command)
    → constraints_of (take q (history ++ k ∷ [])) ≡ constraints_of (take q history) ++ (if nat_le (length history + 1) q then constraints_of (k ∷ []) else [])
constraints-at q history k = by (nat_le (length history + 1) q) refl
  where
    by : (b : Bool) → nat_le (length history + 1) q ≡ b → constraints_of (take q (history ++ k ∷ [])) ≡ constraints_of (take q history) ++ (if b then constraints_of (k ∷ []) else [])
    by true e =
        let late : length history + 1 ≤ q = grind (arith, nat_tests, e) in
        let long : length (history ++ k ∷ []) ≡ length history + 1 = length-append history (k ∷ []) in
        ap constraints_of (take_all q (history ++ k ∷ []) (omega (arith, late, long))) ∙ constraints-append history (k ∷ [])
        ∙ ap (λ h. constraints_of h ++ constraints_of (k ∷ [])) (sym (take_all q history (omega (arith, late))))
    by false e =
        let early : q ≤ length history = grind (arith, nat_tests, e) in
        ap constraints_of (take-append-le q history (k ∷ []) early) ∙ sym (append-nil (constraints_of (take q history)))

-- the rules of a history whose table has grown
pub rules-grown : (history : List Command) (ts us : List Triple) (s : Standing) → Extends ts us → AreRulesOf history ts s → AreRulesOf history us s
rules-grown history ts us s x are = record {
  constraints = are.constraints;
  preferences = are.preferences;
  defaults = are.defaults;
  at = are.at;
  holds = holds_later x are.holds;
  below = are.below;
}

-- the constraints up to now are all of them
pub constraints-now : (history : List Command) (ts : List Triple) (s : Standing) (at : ℕ) → AreRulesOf history ts s → at ≡ length history → expressions_at at s.constraints ≡ constraints_of history
constraints-now history ts s at are now = are.at at ∙ ap constraints_of (take_all at history (omega (arith, now)))

-- completion by the rules that stand is that of the history
pub completed-same : (history : List Command) (ts : List Triple) (s : Standing) (count : ℕ) (partial : List (ℕ × Bool)) → AreRulesOf history ts s → count ≡ option_count history → completed count s partial ≡ completed_in history partial
completed-same history ts s count partial are same = λ j. completed_by (same j) (are.constraints j) (are.preferences j) (are.defaults j) partial

-- no rules are those of no history
pub no-rules : (ts : List Triple) (s : Standing) → s.constraints ≡ [] → s.preferences ≡ [] → s.defaults ≡ [] → Holds ts s → AreBelow 0 s → AreRulesOf [] ts s
no-rules ts s ce pe de holds below = record {
  constraints = ap expressions ce;
  preferences = ap expressions pe;
  defaults = ap fallbacks de;
  at = λ p. ap (expressions_at p) ce ∙ nothing p;
  holds = holds;
  below = below;
}
  where
    nothing : (p : ℕ) → [] ≡ constraints_of (take p [])
    nothing p = ap constraints_of (sym (take_all p [] (omega arith)))

-- the rules of a history with a command more that is none
pub rules-same : (history : List Command) (k : Command) (ts : List Triple) (s : Standing) → rule_in k ≡ None → option_count history ≤ option_count (history ++ k ∷ []) → option_count (history ++ k ∷ []) ≤ CHOICE_WIDTH
    → AreRulesOf history ts s → AreRulesOf (history ++ k ∷ []) ts s
rules-same history k ts s none more most are = by k none (constraints-append history (k ∷ [])) (preferences-append history (k ∷ [])) (defaults-append history (k ∷ [])) (λ q. constraints-at q history k)
  where
    without : constraints_of (history ++ k ∷ []) ≡ constraints_of history → preferences_of (history ++ k ∷ []) ≡ preferences_of history → defaults_of (history ++ k ∷ []) ≡ defaults_of history
        → ((q : ℕ) → constraints_of (take q (history ++ k ∷ [])) ≡ constraints_of (take q history)) → AreRulesOf (history ++ k ∷ []) ts s
    without ce pe de at = record {
      constraints = are.constraints ∙ sym ce;
      preferences = are.preferences ∙ sym pe;
      defaults = are.defaults ∙ ap literals (sym de);
      at = λ p. are.at p ∙ sym (at p);
      holds = are.holds;
      below = stay_below (option_count history) (option_count (history ++ k ∷ [])) s more most are.below;
    }

    no-more : {X : Type 0} (xs ys : List X) → xs ≡ ys ++ [] → xs ≡ ys
    no-more xs ys e = e ∙ append-nil ys

    either : {X : Type 0} (b : Bool) (xs ys : List X) → xs ≡ ys ++ (if b then [] else []) → xs ≡ ys
    either true xs ys e = no-more xs ys e
    either false xs ys e = no-more xs ys e

    by : (j : Command) → rule_in j ≡ None → constraints_of (history ++ k ∷ []) ≡ constraints_of history ++ constraints_of (j ∷ [])
        → preferences_of (history ++ k ∷ []) ≡ preferences_of history ++ preferences_of (j ∷ []) → defaults_of (history ++ k ∷ []) ≡ defaults_of history ++ defaults_of (j ∷ [])
        → ((q : ℕ) → constraints_of (take q (history ++ k ∷ [])) ≡ constraints_of (take q history) ++ (if nat_le (length history + 1) q then constraints_of (j ∷ []) else []))
        → AreRulesOf (history ++ k ∷ []) ts s
    by (commands.Option name) none ce pe de at = without (no-more _ _ ce) (no-more _ _ pe) (no-more _ _ de) (λ q. either (nat_le (length history + 1) q) _ _ (at q))
    by (commands.Constraint expr) none ce pe de at = absurd (cc)
    by (commands.Prefer expr) none ce pe de at = absurd (cc)
    by (commands.Default option on) none ce pe de at = absurd (cc)
    by (commands.Commit base choice ambition es) none ce pe de at = without (no-more _ _ ce) (no-more _ _ pe) (no-more _ _ de) (λ q. either (nat_le (length history + 1) q) _ _ (at q))
    by commands.Upgrade none ce pe de at = without (no-more _ _ ce) (no-more _ _ pe) (no-more _ _ de) (λ q. either (nat_le (length history + 1) q) _ _ (at q))

-- a rule adds to the rules of its kind what its command adds to the history's
record Adds (k : Command) (rule : Rule) : Type 0 where
  constraints : constraints_in rule ≡ constraints_of (k ∷ [])
  preferences : preferences_in rule ≡ preferences_of (k ∷ [])
  defaults : defaults_in rule ≡ literals (defaults_of (k ∷ []))

adds : (k : Command) (rule : Rule) → rule_in k ≡ Some rule → Adds k rule
adds (commands.Option name) rule is = absurd (cc)
adds (commands.Constraint expr) rule is = let same : rules.Constraint expr ≡ rule = cc in subst (Adds (commands.Constraint expr)) same (record { constraints = refl; preferences = refl; defaults = refl })
adds (commands.Prefer expr) rule is = let same : rules.Prefer expr ≡ rule = cc in subst (Adds (commands.Prefer expr)) same (record { constraints = refl; preferences = refl; defaults = refl })
adds (commands.Default option on) rule is = let same : rules.Default option on ≡ rule = cc in subst (Adds (commands.Default option on)) same (record { constraints = refl; preferences = refl; defaults = refl })
adds (commands.Commit base choice ambition es) rule is = absurd (cc)
adds commands.Upgrade rule is = absurd (cc)

-- the rules of a history with a rule more
pub rules-with : (history : List Command) (k : Command) (rule : Rule) (ts : List Triple) (old new : Standing) → rule_in k ≡ Some rule → Follows rule (length history + 1) old new → Holds ts new
    → AreBelow (option_count (history ++ k ∷ [])) new → AreRulesOf history ts old → AreRulesOf (history ++ k ∷ []) ts new
rules-with history k rule ts old new is follows holds below are =
    let add = adds k rule is in
    record {
      constraints = follows.constraints ∙ (λ j. are.constraints j ++ add.constraints j) ∙ sym (constraints-append history (k ∷ []));
      preferences = follows.preferences ∙ (λ j. are.preferences j ++ add.preferences j) ∙ sym (preferences-append history (k ∷ []));
      defaults = follows.defaults ∙ (λ j. are.defaults j ++ add.defaults j) ∙ sym (ap literals (defaults-append history (k ∷ [])) ∙ literals-append (defaults_of history) (defaults_of (k ∷ [])));
      at = λ q. follows.at q ∙ (λ j. are.at q j ++ (if nat_le (length history + 1) q then add.constraints j else [])) ∙ sym (constraints-at q history k);
      holds = holds;
      below = below;
    }

full_or_bad : (full bad : Bool) (rs : List (Option Refusal)) → full ≡ false → bad ≡ false → first_of (when full refusals.Full ∷ when bad refusals.BadOption ∷ rs) ≡ first_of rs
full_or_bad full bad rs f b = rw (f, b) refl

judged : (many left : Bool) → first_of (when many refusals.Full ∷ when (not left) refusals.NoVariantLeft ∷ []) ≡ as_refusal (if many then Some faults.Full else (if left then None else Some faults.NoVariantLeft))
judged true left = refl
judged false true = refl
judged false false = refl

counted : (many : Bool) → first_of (when many refusals.Full ∷ []) ≡ as_refusal (if many then Some faults.Full else (if true then None else Some faults.NoVariantLeft))
counted true = refl
counted false = refl

-- the verdict on a rule is that of the rules that stand
module _ (history : List Command) (ts : List Triple) (s : Standing) (are : AreRulesOf history ts s) (few : length history < LIMITS.commands) where
  not_full : nat_le LIMITS.commands (length history) ≡ false
  not_full = grind (arith, nat_tests, few)

  constraint_count : length (constraints_of history) ≡ length s.constraints
  constraint_count = ap length (sym are.constraints) ∙ length-map s.constraints (λ (r : Installed). r.expr)

  preference_count : length (preferences_of history) ≡ length s.preferences
  preference_count = ap length (sym are.preferences) ∙ length-map s.preferences (λ (r : Installed). r.expr)

  default_count : length (defaults_of history) ≡ length s.defaults
  default_count = sym (length-map (defaults_of history) (λ (d : ℕ × Bool). literal d.0 d.1)) ∙ ap length (sym are.defaults) ∙ length-map s.defaults (λ (d : Fallback). literal d.option d.on)

  declared : (n : ℕ) → n ≤ option_count history → nat_lt (option_count history) n ≡ false
  declared n le = grind (arith, nat_tests, le)

  on-rule : (k : Command) (rule : Rule) → rule_in k ≡ Some rule → MayCome history k → verdict history k ≡ as_refusal (refusal (limits_of history).rules (option_count history) s rule)
  on-rule (commands.Option name) rule is may = absurd (cc)
  on-rule (commands.Constraint expr) rule is may =
      let same : rules.Constraint expr ≡ rule = cc in
      subst (λ q. verdict history (commands.Constraint expr) ≡ as_refusal (refusal (limits_of history).rules (option_count history) s q)) same
      (full_or_bad (nat_le LIMITS.commands (length history)) (nat_lt (option_count history) (reach expr)) _ not_full (declared (reach expr) may)
      ∙ judged (nat_le (limits_of history).rules (length (constraints_of history))) (leaves_variant history expr)
      ∙ (λ j. as_refusal (if nat_le (limits_of history).rules (constraint_count j) then Some faults.Full else (if is_met (option_count history) (sym are.constraints j) expr then None else Some faults.NoVariantLeft))))
  on-rule (commands.Prefer expr) rule is may =
      let same : rules.Prefer expr ≡ rule = cc in
      subst (λ q. verdict history (commands.Prefer expr) ≡ as_refusal (refusal (limits_of history).rules (option_count history) s q)) same
      (full_or_bad (nat_le LIMITS.commands (length history)) (nat_lt (option_count history) (reach expr)) _ not_full (declared (reach expr) may)
      ∙ counted (nat_le (limits_of history).rules (length (preferences_of history)))
      ∙ (λ j. as_refusal (if nat_le (limits_of history).rules (preference_count j) then Some faults.Full else (if true then None else Some faults.NoVariantLeft))))
  on-rule (commands.Default option on) rule is may =
      let same : rules.Default option on ≡ rule = cc in
      subst (λ q. verdict history (commands.Default option on) ≡ as_refusal (refusal (limits_of history).rules (option_count history) s q)) same
      (full_or_bad (nat_le LIMITS.commands (length history)) (nat_lt (option_count history) (option + 1)) _ not_full (declared (option + 1) (omega (arith, may)))
      ∙ counted (nat_le (limits_of history).rules (length (defaults_of history)))
      ∙ (λ j. as_refusal (if nat_le (limits_of history).rules (default_count j) then Some faults.Full else (if true then None else Some faults.NoVariantLeft))))
  on-rule (commands.Commit base choice ambition es) rule is may = absurd (cc)
  on-rule commands.Upgrade rule is may = absurd (cc)

  rule-reach : (k : Command) (rule : Rule) → rule_in k ≡ Some rule → MayCome history k → reach_of_rule rule ≤ option_count history
  rule-reach (commands.Option name) rule is may = absurd (cc)
  rule-reach (commands.Constraint expr) rule is may = let same : rules.Constraint expr ≡ rule = cc in subst (λ q. reach_of_rule q ≤ option_count history) same may
  rule-reach (commands.Prefer expr) rule is may = let same : rules.Prefer expr ≡ rule = cc in subst (λ q. reach_of_rule q ≤ option_count history) same may
  rule-reach (commands.Default option on) rule is may = let same : rules.Default option on ≡ rule = cc in subst (λ q. reach_of_rule q ≤ option_count history) same (omega (arith, may))
  rule-reach (commands.Commit base choice ambition es) rule is may = absurd (cc)
  rule-reach commands.Upgrade rule is may = absurd (cc)

  module _ (k : Command) (rule : Rule) (is : rule_in k ≡ Some rule) (may : MayCome history k) where
    options : AreOptions (option_count history) s rule
    options = (are.below.few, are.below.constraints, rule-reach k rule is may)

    pub rule-accepted : IsAccepted (limits_of history).rules s rule → verdict history k ≡ None
    rule-accepted accepted = on-rule k rule is may ∙ ap as_refusal (accepted (option_count history) options)

    pub rule-refused : (r : Refusal) → IsRefusalOf (limits_of history).rules s rule r → RefusedBy r (verdict history k)
    rule-refused r refused = subst (RefusedBy r) (sym (on-rule k rule is may)) (refused (option_count history) options)

-- a refusal is that of a verdict which names it
pub refused-by : (r : Refusal) (verdict : Option Refusal) → verdict ≡ Some r → RefusedBy r verdict
refused-by refusals.Memory verdict is = tt
refused-by r verdict is = is

-- the rule of a command that is no option, no commit and no upgrade
pub record RuleOf (k : Command) : Type 0 where
  pub rule : Rule
  pub is : rule_in k ≡ Some rule

pub rule-of : (k : Command) → ((name : List ℕ) → k ≡ commands.Option name → ⊥)
    → ((base : ℕ) (choice : List Bool) (ambition : Formula ℕ) (es : List Sided) → k ≡ commands.Commit base choice ambition es → ⊥) → (k ≡ commands.Upgrade → ⊥) → RuleOf k
rule-of (commands.Option name) not_option not_commit not_upgrade = absurd (not_option name refl)
rule-of (commands.Constraint expr) not_option not_commit not_upgrade = record { rule = rules.Constraint expr; is = refl }
rule-of (commands.Prefer expr) not_option not_commit not_upgrade = record { rule = rules.Prefer expr; is = refl }
rule-of (commands.Default option on) not_option not_commit not_upgrade = record { rule = rules.Default option on; is = refl }
rule-of (commands.Commit base choice ambition es) not_option not_commit not_upgrade = absurd (not_commit base choice ambition es refl)
rule-of commands.Upgrade not_option not_commit not_upgrade = absurd (not_upgrade refl)

-- with what is held, a rule that is ready is what its command wants
module _ (history : List Command) (k : Command) (os : ℕ) (ts : List Triple) (standing : RulesValue) (ks : ℕ) (commits : List CommitMark) (file_of_line : List ℕ) (entries : Dated) (stored : List FilePart) (held : AreRowsAndLinesOf history ts commits file_of_line entries stored) where
  pub as-ready : (r : Addition) → IsRuleReady k ts standing r → IsReady history k os ts standing ks commits file_of_line entries stored r
  as-ready (additions.Option name) h = absurd h
  as-ready (additions.Rule rule plan) h = (h.0, h.1, held)
  as-ready (additions.Commit mark counts plans rows) h = absurd h
  as-ready additions.Upgrade h = absurd h
