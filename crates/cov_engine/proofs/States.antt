-- A history with one declaration more.
use Rattle.std.proofs.Common.{◌≡◌, refl, append-nil, ap, sym, ◌∙◌, ℕ, ◌+◌, ◌<◌, ◌≤◌, Bool, true, false, ◌||◌, nat_le, nat_lt, List, [], ◌∷◌, ◌++◌, length, Some, None, subst, arith, append_assoc}
use Rattle.std.specs.List.{sum_by}
use Rattle.std.proofs.lemmas.Bool.Decides.{nat_tests}
use Rattle.std.proofs.lemmas.List.{length_push}
use Rattle.cov_base.specs.declared.limits.TheConstants.{CHOICE_WIDTH, LIMITS}
use Rattle.cov_dd.specs.declared.triple.Triple.{Triple}
use Rattle.cov_dd.specs.Diagrams.{Extends}
use Rattle.cov_expr.specs.Formula.{reach}
use Rattle.cov_edit.specs.declared.command.Command.{Command}
use Rattle.cov_edit.specs.declared.command.Command.TheVariants as commands
use Rattle.cov_edit.specs.Fits.{fits_command}
use Rattle.cov_edit.specs.History.{options_of, option_count, command_bytes, byte_count}
use Rattle.cov_edit.specs.Limits.{is_upgraded, limits_of}
use Rattle.cov_edit.specs.Numbering.{no_numbers, numbers_of}
use Rattle.cov_edit.proofs.CallerLemmas.{fold-append, limits-most, numbers_from-append, upgraded-append}
use Rattle.cov_rules.specs.Completion.{AreBelow, completed}
use Rattle.cov_rules.specs.Growth.{Follows}
use Rattle.cov_rules.specs.Installing.{Standing, Holds, Plans}
use Rattle.cov_rules.specs.Refusals.{reach_of_rule}
use Rattle.cov_rules.specs.declared.rules.Rule.{Rule}
use Rattle.cov_rules.specs.declared.rules.Rule.TheVariants as rules
use Rattle.cov_rules.specs.declared.rules.RulePlan.{RulePlan}
use Rattle.cov_view.specs.Refusals.{first_of}
use Rattle.cov_view.proofs.CallerLemmas.{none-when}
use Rattle.cov_engine.specs.declared.counts.Counts.{Counts}
use Rattle.cov_history.specs.declared.refusal.Refusal.TheVariants as refusals
use Rattle.cov_engine.specs.Ruling.{AreRulesOf, rule_in}
use Rattle.cov_history.specs.Completing.{completed_in}
use Rattle.cov_history.specs.Sessions.{has_commit}
use Rattle.cov_engine.specs.States.{EngineValue, AreCountsOf, AreDeclarationsOf}
use Rattle.cov_history.specs.Verdict.{IsLegalFrom, verdict, refusals_of}
use Rattle.cov_history.proofs.CallerLemmas.{legal-one}
use Rattle.cov_engine.proofs.Ruling.{rules-grown, rules-same, rules-with, completed-same}

pub options-append : (history later : List Command) → options_of (history ++ later) ≡ options_of history ++ options_of later
options-append [] later = refl
options-append (commands.Option name ∷ history) later = ap (λ names. name ∷ names) (options-append history later)
options-append (k ∷ history) later = options-append history later

-- what stays with each accepted command stays along a legal history
pub along-legal : (P : List Command → Type 0) → ((history : List Command) (k : Command) → verdict history k ≡ None → P history → P (history ++ k ∷ [])) → (before history : List Command)
    → IsLegalFrom before history → P before → P (before ++ history)
along-legal P stays before [] legal h = subst P (sym (append-nil before)) h
along-legal P stays before (k ∷ history) legal h =
    subst P (append_assoc before (k ∷ []) history) (along-legal P stays (before ++ k ∷ []) history legal.2 (stays before k legal.1 h))

pub sum-one : {A : Type 0} (f : A → ℕ) (xs : List A) (x : A) → sum_by f (xs ++ x ∷ []) ≡ sum_by f xs + f x
sum-one f xs x = fold-append (λ a y. a + f y) 0 xs (x ∷ [])

pub below : (n m : ℕ) → nat_le n m ≡ false → m < n
below n m h = grind (arith, nat_tests, h)

pub not-below : (n m : ℕ) → nat_lt n m ≡ false → m ≤ n
not-below n m h = grind (arith, nat_tests, h)

pub numbers-kept : (history : List Command) (k : Command) → has_commit (k ∷ []) ≡ false → numbers_of (history ++ k ∷ []) ≡ numbers_of history
numbers-kept history (commands.Commit base choice ambition es) h = absurd (cc)
numbers-kept history k h = numbers_from-append no_numbers history (k ∷ [])

no-bytes : (k : Command) → has_commit (k ∷ []) ≡ false → command_bytes k ≡ 0
no-bytes (commands.Commit base choice ambition es) h = absurd (cc)
no-bytes k h = refl

counts-kept : (history : List Command) (k : Command) (counts : Counts) → has_commit (k ∷ []) ≡ false → AreCountsOf history counts → AreCountsOf (history ++ k ∷ []) counts
counts-kept history k counts h old =
    let same : numbers_of (history ++ k ∷ []) ≡ numbers_of history = numbers-kept history k h in
    let more : byte_count (history ++ k ∷ []) ≡ byte_count history + command_bytes k = sum-one command_bytes history k in
    let none : command_bytes k ≡ 0 = no-bytes k h in
    record {
      lines = old.lines ∙ ap (λ ns. length ns.addresses) (sym same);
      nodes = old.nodes ∙ ap (λ ns. ns.nodes + 1) (sym same);
      bytes = let b : counts.bytes ≡ byte_count history = old.bytes in omega (arith, more, none, b);
    }

-- the state before any command
pub state-none : (history : List Command) (names : List (List ℕ)) (ts : List Triple) (standing : Standing) → history ≡ [] → names ≡ [] → AreRulesOf [] ts standing → AreDeclarationsOf history names ts standing (record { lines = 0; nodes = 1; bytes = 0 })
state-none history names ts standing he ne rules =
    rw (he, ne) (record {
      legal = tt;
      options = refl;
      rules = rules;
      most = omega arith;
      counted = record { lines = refl; nodes = refl; bytes = refl };
    })

-- the state of a history with a declaration more
pub state-declared : (history : List Command) (k : Command) (names names' : List (List ℕ)) (ts : List Triple) (standing standing' : Standing) (counts : Counts)
    → has_commit (k ∷ []) ≡ false → fits_command k ≡ true → verdict history k ≡ None → AreDeclarationsOf history names ts standing counts
    → names' ≡ options_of (history ++ k ∷ []) → AreRulesOf (history ++ k ∷ []) ts standing' → AreDeclarationsOf (history ++ k ∷ []) names' ts standing' counts
state-declared history k names names' ts standing standing' counts h fits accepted old ne rules = record {
  legal = legal-one [] history k old.legal fits accepted;
  options = ne;
  rules = rules;
  most =
      let less : length history < LIMITS.commands = below LIMITS.commands (length history) (none-when _ refusals.Full (refusals_of history k) accepted).0 in
      let more : length (history ++ k ∷ []) ≡ length history + 1 = length_push history k in
      omega (arith, less, more);
  counted = counts-kept history k counts h old.counted;
}

-- there is room for an option that is accepted
pub options-few : (history : List Command) (k : Command) (name : List ℕ) → k ≡ commands.Option name → verdict history k ≡ None → option_count history < (limits_of history).options
options-few history k name is accepted =
    below (limits_of history).options (option_count history)
    (none-when _ refusals.Full _ (none-when (nat_le LIMITS.commands (length history)) refusals.Full (refusals_of history (commands.Option name)) (ap (verdict history) (sym is) ∙ accepted)).1).0

-- there is room for its position, and in a choice
pub options-below : (history : List Command) (k : Command) (name : List ℕ) → k ≡ commands.Option name → verdict history k ≡ None → option_count history < CHOICE_WIDTH
options-below history k name is accepted =
    let few = options-few history k name is accepted in
    let most = limits-most history in
    let options = most.options in
    omega (arith, few, options)

-- a history has an upgrade as before with a command that is none
pub upgraded-kept : (history : List Command) (k : Command) → is_upgraded (k ∷ []) ≡ false → is_upgraded (history ++ k ∷ []) ≡ is_upgraded history
upgraded-kept history k none = upgraded-append history (k ∷ []) ∙ ap (λ b. is_upgraded history || b) none ∙ by (is_upgraded history)
  where
    by : (b : Bool) → (b || false) ≡ b
    by true = refl
    by false = refl

-- and it has one with an upgrade
pub upgraded-now : (history : List Command) (k : Command) → k ≡ commands.Upgrade → is_upgraded (history ++ k ∷ []) ≡ true
upgraded-now history k is = upgraded-append history (k ∷ []) ∙ ap (λ j. is_upgraded history || is_upgraded (j ∷ [])) is ∙ by (is_upgraded history)
  where
    by : (b : Bool) → (b || true) ≡ true
    by true = refl
    by false = refl

-- so of an option
pub option-installed : (history : List Command) (k : Command) (name : List ℕ) (names names' : List (List ℕ)) (ts : List Triple) (standing : Standing) (counts : Counts)
    → k ≡ commands.Option name → fits_command k ≡ true → verdict history k ≡ None → AreDeclarationsOf history names ts standing counts → names' ≡ names ++ name ∷ [] → AreDeclarationsOf (history ++ k ∷ []) names' ts standing counts
option-installed history k name names names' ts standing counts is fits accepted old ne =
    let one : option_count (history ++ k ∷ []) ≡ option_count history + 1 =
    ap (λ j. option_count (history ++ j ∷ [])) is ∙ ap (λ ns. length ns) (options-append history (commands.Option name ∷ [])) ∙ length_push (options_of history) name in
    let few = options-below history k name is accepted in
    state-declared history k names names' ts standing standing counts (ap (λ j. has_commit (j ∷ [])) is) fits accepted old
    (ne ∙ ap (λ ns. ns ++ name ∷ []) old.options ∙ sym (options-append history (commands.Option name ∷ [])) ∙ ap (λ j. options_of (history ++ j ∷ [])) (sym is))
    (rules-same history k ts standing (ap rule_in is) (omega (arith, one)) (omega (arith, one, few)) old.rules)

-- the state of a history with an upgrade more
pub upgrade-installed : (history : List Command) (k : Command) (names : List (List ℕ)) (ts : List Triple) (standing : Standing) (counts : Counts)
    → k ≡ commands.Upgrade → fits_command k ≡ true → verdict history k ≡ None → AreDeclarationsOf history names ts standing counts → AreDeclarationsOf (history ++ k ∷ []) names ts standing counts
upgrade-installed history k names ts standing counts is fits accepted old =
    let same : options_of (history ++ k ∷ []) ≡ options_of history =
    ap (λ j. options_of (history ++ j ∷ [])) is ∙ options-append history (commands.Upgrade ∷ []) ∙ append-nil (options_of history) in
    let count : option_count (history ++ k ∷ []) ≡ option_count history = ap length same in
    let few = old.rules.below.few in
    state-declared history k names names ts standing standing counts (ap (λ j. has_commit (j ∷ [])) is) fits accepted old (old.options ∙ sym same)
    (rules-same history k ts standing (ap rule_in is) (omega (arith, count)) (omega (arith, count, few)) old.rules)

-- a rule is no commit and no upgrade, declares no option and speaks of declared ones
pub rule-raises_none : (k : Command) (rule : Rule) → rule_in k ≡ Some rule → is_upgraded (k ∷ []) ≡ false
rule-raises_none commands.Upgrade rule is = absurd (cc)
rule-raises_none k rule is = refl

pub rule-alone : (k : Command) (rule : Rule) → rule_in k ≡ Some rule → has_commit (k ∷ []) ≡ false
rule-alone (commands.Option name) rule is = absurd (cc)
rule-alone (commands.Commit base choice ambition es) rule is = absurd (cc)
rule-alone commands.Upgrade rule is = absurd (cc)
rule-alone k rule is = refl

rule-options : (k : Command) (rule : Rule) → rule_in k ≡ Some rule → options_of (k ∷ []) ≡ []
rule-options (commands.Option name) rule is = absurd (cc)
rule-options (commands.Commit base choice ambition es) rule is = absurd (cc)
rule-options commands.Upgrade rule is = absurd (cc)
rule-options k rule is = refl

rule-reach : (history : List Command) (k : Command) (rule : Rule) → rule_in k ≡ Some rule → verdict history k ≡ None → reach_of_rule rule ≤ option_count history
rule-reach history k rule is accepted = by k is (none-when (nat_le LIMITS.commands (length history)) refusals.Full (refusals_of history k) accepted).1
  where
    by : (j : Command) → rule_in j ≡ Some rule → first_of (refusals_of history j) ≡ None → reach_of_rule rule ≤ option_count history
    by (commands.Option name) is h = absurd (cc)
    by (commands.Constraint expr) is h =
        let same : rules.Constraint expr ≡ rule = cc in
        subst (λ q. reach_of_rule q ≤ option_count history) same (not-below (option_count history) (reach expr) (none-when _ refusals.BadOption _ h).0)
    by (commands.Prefer expr) is h =
        let same : rules.Prefer expr ≡ rule = cc in
        subst (λ q. reach_of_rule q ≤ option_count history) same (not-below (option_count history) (reach expr) (none-when _ refusals.BadOption _ h).0)
    by (commands.Default option on) is h =
        let same : rules.Default option on ≡ rule = cc in
        subst (λ q. reach_of_rule q ≤ option_count history) same (not-below (option_count history) (option + 1) (none-when _ refusals.BadOption _ h).0)
    by (commands.Commit base choice ambition es) is h = absurd (cc)
    by commands.Upgrade is h = absurd (cc)

-- the state of a history with a rule more
pub rule-installed : (history : List Command) (k : Command) (rule : Rule) (plan : RulePlan) (at : ℕ) (names : List (List ℕ)) (ts : List Triple) (standing standing' : Standing) (counts : Counts)
    → rule_in k ≡ Some rule → fits_command k ≡ true → verdict history k ≡ None → at ≡ length history + 1 → AreDeclarationsOf history names ts standing counts
    → Plans ts standing rule plan → Follows rule at standing standing'
    → ((us : List Triple) → Holds us standing → Plans us standing rule plan → Holds us standing')
    → ((count : ℕ) → AreBelow count standing → reach_of_rule rule ≤ count → AreBelow count standing') → AreDeclarationsOf (history ++ k ∷ []) names ts standing' counts
rule-installed history k rule plan at names ts standing standing' counts is fits accepted here old plans follows holds below =
    let same : options_of (history ++ k ∷ []) ≡ options_of history = options-append history (k ∷ []) ∙ ap (λ ns. options_of history ++ ns) (rule-options k rule is) ∙ append-nil (options_of history) in
    state-declared history k names names ts standing standing' counts (rule-alone k rule is) fits accepted old (old.options ∙ sym same)
    (rules-with history k rule ts standing standing' is (subst (λ p. Follows rule p standing standing') here follows) (holds ts old.rules.holds plans)
    (subst (λ ns. AreBelow (length ns) standing') (sym same) (below (option_count history) old.rules.below (rule-reach history k rule is accepted))) old.rules)

-- the state of a history whose table has grown
pub state-grown : (history : List Command) (names : List (List ℕ)) (ts ts' : List Triple) (standing standing' : Standing) (counts : Counts)
    → AreDeclarationsOf history names ts standing counts → Extends ts ts' → standing' ≡ standing → AreDeclarationsOf history names ts' standing' counts
state-grown history names ts ts' standing standing' counts old x se =
    rw (se) (record {
      legal = old.legal;
      options = old.options;
      rules = rules-grown history ts ts' standing x old.rules;
      most = old.most;
      counted = old.counted;
    })

-- the rules of a state complete a choice as the history does that its engine is seen as
pub completed-there : (engine : EngineValue) (history : List Command) (names : List (List ℕ)) (ts : List Triple) (standing : Standing) (counts : Counts) (count : ℕ) (partial : List (ℕ × Bool))
    → history ≡ engine.history → AreDeclarationsOf history names ts standing counts → count ≡ length names → completed count standing partial ≡ completed_in engine.history partial
completed-there engine history names ts standing counts count partial seen state same =
    completed-same history ts standing count partial state.rules (same ∙ ap length state.options) ∙ ap (λ h. completed_in h partial) seen
