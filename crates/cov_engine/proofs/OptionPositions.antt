-- Where the commands of a history declare options.
use Rattle.std.proofs.Common.{◌≡◌, ℕ, suc, zero, ◌+◌, ◌<◌, ◌≤◌, true, false, nat_lt, cond, List, [], ◌∷◌, ◌++◌, length, take, Some, append-nil, refl, sym, ap, ◌∙◌, arith}
use Rattle.std.specs.List.{AllByRecursion}
use Rattle.std.proofs.lemmas.Bool.Decides.{nat_tests}
use Rattle.cov_edit.specs.declared.command.Command.{Command}
use Rattle.cov_edit.specs.declared.command.Command.TheVariants as commands
use Rattle.cov_edit.specs.History.{options_of, option_count}
use Rattle.cov_edit.specs.Touched.{AreRising}
use Rattle.cov_rules.specs.declared.rules.Rule.{Rule}
use Rattle.cov_visible.specs.Parts.{count_below}
use Rattle.cov_engine.specs.Ruling.{rule_in}
use Rattle.cov_engine.specs.States.{options_at}

none-below : (m n : ℕ) (ks : List Command) → m ≤ n → count_below (suc m) (options_at n ks) ≡ 0
none-below m n [] later = refl
none-below m n (commands.Option name ∷ ks) later =
    let high : nat_lt (suc n) (suc m) ≡ false = grind (arith, nat_tests, later) in
    ap (λ b. cond b (suc (count_below (suc m) (options_at (suc n) ks))) 0) high
none-below m n (commands.Constraint expr ∷ ks) later = none-below m (suc n) ks (omega (arith, later))
none-below m n (commands.Prefer expr ∷ ks) later = none-below m (suc n) ks (omega (arith, later))
none-below m n (commands.Default option on ∷ ks) later = none-below m (suc n) ks (omega (arith, later))
none-below m n (commands.Commit base choice ambition es ∷ ks) later = none-below m (suc n) ks (omega (arith, later))
none-below m n (commands.Upgrade ∷ ks) later = none-below m (suc n) ks (omega (arith, later))

-- so many of them are declared up to a base
pub count-before : (n base p : ℕ) (ks : List Command) → p ≡ n + base → count_below (suc p) (options_at n ks) ≡ option_count (take base ks)
count-before n zero p ks is = none-below p n ks (omega (arith, is))
count-before n (suc base) p [] is = refl
count-before n (suc base) p (commands.Option name ∷ ks) is =
    let low : nat_lt (suc n) (suc p) ≡ true = grind (arith, nat_tests, is) in
    ap (λ b. cond b (suc (count_below (suc p) (options_at (suc n) ks))) 0) low
    ∙ ap suc (count-before (suc n) base p ks (omega (arith, is)))
count-before n (suc base) p (commands.Constraint expr ∷ ks) is = count-before (suc n) base p ks (omega (arith, is))
count-before n (suc base) p (commands.Prefer expr ∷ ks) is = count-before (suc n) base p ks (omega (arith, is))
count-before n (suc base) p (commands.Default option on ∷ ks) is = count-before (suc n) base p ks (omega (arith, is))
count-before n (suc base) p (commands.Commit base' choice ambition es ∷ ks) is = count-before (suc n) base p ks (omega (arith, is))
count-before n (suc base) p (commands.Upgrade ∷ ks) is = count-before (suc n) base p ks (omega (arith, is))

all-after : (m n : ℕ) (ks : List Command) → m ≤ n → AllByRecursion (λ p. m < p) (options_at n ks)
all-after m n [] later = tt
all-after m n (commands.Option name ∷ ks) later = (omega (arith, later), all-after m (suc n) ks (omega (arith, later)))
all-after m n (commands.Constraint expr ∷ ks) later = all-after m (suc n) ks (omega (arith, later))
all-after m n (commands.Prefer expr ∷ ks) later = all-after m (suc n) ks (omega (arith, later))
all-after m n (commands.Default option on ∷ ks) later = all-after m (suc n) ks (omega (arith, later))
all-after m n (commands.Commit base choice ambition es ∷ ks) later = all-after m (suc n) ks (omega (arith, later))
all-after m n (commands.Upgrade ∷ ks) later = all-after m (suc n) ks (omega (arith, later))

-- they rise
pub positions-rise : (n : ℕ) (ks : List Command) → AreRising (options_at n ks)
positions-rise n [] = tt
positions-rise n (commands.Option name ∷ ks) = (all-after (suc n) (suc n) ks (omega arith), positions-rise (suc n) ks)
positions-rise n (commands.Constraint expr ∷ ks) = positions-rise (suc n) ks
positions-rise n (commands.Prefer expr ∷ ks) = positions-rise (suc n) ks
positions-rise n (commands.Default option on ∷ ks) = positions-rise (suc n) ks
positions-rise n (commands.Commit base choice ambition es ∷ ks) = positions-rise (suc n) ks
positions-rise n (commands.Upgrade ∷ ks) = positions-rise (suc n) ks

-- there is one for each option
pub positions-count : (n : ℕ) (ks : List Command) → length (options_at n ks) ≡ option_count ks
positions-count n [] = refl
positions-count n (commands.Option name ∷ ks) = ap suc (positions-count (suc n) ks)
positions-count n (commands.Constraint expr ∷ ks) = positions-count (suc n) ks
positions-count n (commands.Prefer expr ∷ ks) = positions-count (suc n) ks
positions-count n (commands.Default option on ∷ ks) = positions-count (suc n) ks
positions-count n (commands.Commit base choice ambition es ∷ ks) = positions-count (suc n) ks
positions-count n (commands.Upgrade ∷ ks) = positions-count (suc n) ks

-- those with a command more
pub positions-with : (n p : ℕ) (history : List Command) (k : Command) → p ≡ n + length history → options_at n (history ++ k ∷ []) ≡ options_at n history ++ options_at p (k ∷ [])
positions-with n p [] k is = let same : n ≡ p = omega (arith, is) in ap (λ q. options_at q (k ∷ [])) same
positions-with n p (commands.Option name ∷ ks) k is = ap (λ ps. suc n ∷ ps) (positions-with (suc n) p ks k (omega (arith, is)))
positions-with n p (commands.Constraint expr ∷ ks) k is = positions-with (suc n) p ks k (omega (arith, is))
positions-with n p (commands.Prefer expr ∷ ks) k is = positions-with (suc n) p ks k (omega (arith, is))
positions-with n p (commands.Default option on ∷ ks) k is = positions-with (suc n) p ks k (omega (arith, is))
positions-with n p (commands.Commit base choice ambition es ∷ ks) k is = positions-with (suc n) p ks k (omega (arith, is))
positions-with n p (commands.Upgrade ∷ ks) k is = positions-with (suc n) p ks k (omega (arith, is))

-- with an option more there is its position more
pub positions-option : (history : List Command) (k : Command) (name : List ℕ) (at : ℕ) (positions later : List ℕ) → k ≡ commands.Option name → at ≡ length history + 1
    → positions ≡ options_at 0 history → later ≡ positions ++ at ∷ [] → later ≡ options_at 0 (history ++ k ∷ [])
positions-option history k name at positions later is here old new =
    let last : at ≡ suc (length history) = omega (arith, here) in
    new
    ∙ ap (λ ps. ps ++ at ∷ []) old
    ∙ ap (λ p. options_at 0 history ++ p ∷ []) last
    ∙ sym (positions-with 0 (length history) history (commands.Option name) (omega arith))
    ∙ ap (λ j. options_at 0 (history ++ j ∷ [])) (sym is)

-- with a command that declares none they are the same
kept-with : (history : List Command) (k : Command) → options_at (length history) (k ∷ []) ≡ [] → options_at 0 history ≡ options_at 0 (history ++ k ∷ [])
kept-with history k none =
    sym (positions-with 0 (length history) history k (omega arith) ∙ ap (λ ps. options_at 0 history ++ ps) none ∙ append-nil (options_at 0 history))

pub positions-rule : (history : List Command) (k : Command) (rule : Rule) (positions : List ℕ) → rule_in k ≡ Some rule → positions ≡ options_at 0 history → positions ≡ options_at 0 (history ++ k ∷ [])
positions-rule history k rule positions is old = old ∙ kept-with history k (by k is)
  where
    by : (j : Command) → rule_in j ≡ Some rule → options_at (length history) (j ∷ []) ≡ []
    by (commands.Option name) is = absurd (cc)
    by (commands.Constraint expr) is = refl
    by (commands.Prefer expr) is = refl
    by (commands.Default option on) is = refl
    by (commands.Commit base choice ambition es) is = absurd (cc)
    by commands.Upgrade is = refl

pub positions-same : (history : List Command) (k : Command) (positions : List ℕ) → options_of (k ∷ []) ≡ [] → positions ≡ options_at 0 history → positions ≡ options_at 0 (history ++ k ∷ [])
positions-same history k positions none old = old ∙ kept-with history k (by k none)
  where
    by : (j : Command) → options_of (j ∷ []) ≡ [] → options_at (length history) (j ∷ []) ≡ []
    by (commands.Option name) none = absurd (cc)
    by (commands.Constraint expr) none = refl
    by (commands.Prefer expr) none = refl
    by (commands.Default option on) none = refl
    by (commands.Commit base choice ambition es) none = refl
    by commands.Upgrade none = refl
