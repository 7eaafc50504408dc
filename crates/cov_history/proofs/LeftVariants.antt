-- A legal history leaves a valid choice.
use Rattle.std.proofs.Common.{◌≡◌, ℕ, zero, suc, ◌+◌, Bool, true, false, ◌&&◌, ◌||◌, List, [], ◌∷◌, ◌++◌, map, length, length-append, append_assoc, append-nil, None, refl, sym, ap, subst, ◌∙◌, arith}
use Rattle.std.specs.Prelude.{nat_le, nat_lt, not}
use Rattle.std.specs.List.{list_any}
use Rattle.std.proofs.lemmas.Bool.{and_parts, and_from}
use Rattle.std.proofs.lemmas.List.Folds.{list_any-append}
use Rattle.cov_base.specs.Choices.{all_choices}
use Rattle.cov_base.proofs.CallerLemmas.{any-map}
use Rattle.cov_expr.specs.Formula.{Formula, reach, value}
use Rattle.cov_edit.specs.declared.command.Command.{Command}
use Rattle.cov_edit.specs.declared.command.Command.TheVariants as commands
use Rattle.cov_edit.specs.History.{option_count, constraints_of, is_valid_in}
use Rattle.cov_edit.specs.Limits.{limits_of}
use Rattle.cov_rules.proofs.CallerLemmas.{is_on-padded, is_valid_same}
use Rattle.cov_view.proofs.CallerLemmas.{none-first, none-when}
use Rattle.cov_history.specs.Laws.{LeavesVariant}
use Rattle.cov_history.specs.Verdict.{leaves_variant, refusals_of, verdict, when_full, IsLegalFrom}
use Rattle.cov_history.specs.declared.refusal.Refusal.TheVariants as refusals

only_first : (b : Bool) → (b || false) ≡ true → b ≡ true
only_first true h = refl
only_first false h = h

not_none : (b : Bool) → not b ≡ false → b ≡ true
not_none true h = refl
not_none false h = sym h

-- one of the choices that pass a test
passing : (n : ℕ) (p : List Bool → Bool) → list_any p (all_choices n) ≡ true → (c : List Bool) × (length c ≡ n) × (p c ≡ true)
passing zero p h = ([], refl, only_first (p []) h)
passing (suc n) p h = by (list_any (λ c. p (false ∷ c)) (all_choices n)) refl (passing n (λ c. p (false ∷ c))) (passing n (λ c. p (true ∷ c)))
  where
    halves : list_any p (all_choices (suc n)) ≡ (list_any (λ c. p (false ∷ c)) (all_choices n) || list_any (λ c. p (true ∷ c)) (all_choices n))
    halves = list_any-append p (map (λ c. false ∷ c) (all_choices n)) (map (λ c. true ∷ c) (all_choices n))
        ∙ (λ j. any-map p (λ c. false ∷ c) (all_choices n) j || any-map p (λ c. true ∷ c) (all_choices n) j)

    by : (b : Bool) → list_any (λ c. p (false ∷ c)) (all_choices n) ≡ b
        → (list_any (λ c. p (false ∷ c)) (all_choices n) ≡ true → (c : List Bool) × (length c ≡ n) × (p (false ∷ c) ≡ true))
        → (list_any (λ c. p (true ∷ c)) (all_choices n) ≡ true → (c : List Bool) × (length c ≡ n) × (p (true ∷ c) ≡ true))
        → (c : List Bool) × (length c ≡ suc n) × (p c ≡ true)
    by true e off on = let found = off e in (false ∷ found.0, ap suc found.1, found.2)
    by false e off on =
        let others : list_any (λ c. p (true ∷ c)) (all_choices n) ≡ true = ap (λ b. b || list_any (λ c. p (true ∷ c)) (all_choices n)) (sym e) ∙ sym halves ∙ h in
        let found = on others in
        (true ∷ found.0, ap suc found.1, found.2)

-- what a longer history declares
valid-more : (c : List Bool) (before later : List Command) → is_valid_in before c ≡ true → is_valid_in later c ≡ true → is_valid_in (before ++ later) c ≡ true
valid-more c [] later h k = k
valid-more c (commands.Option name ∷ before) later h k = valid-more c before later h k
valid-more c (commands.Constraint expr ∷ before) later h k =
    let parts = and_parts (value expr c) (is_valid_in before c) h in
    and_from (value expr c) (is_valid_in (before ++ later) c) parts.0 (valid-more c before later parts.1 k)
valid-more c (commands.Prefer expr ∷ before) later h k = valid-more c before later h k
valid-more c (commands.Default option on ∷ before) later h k = valid-more c before later h k
valid-more c (commands.Commit base choice ambition ss ∷ before) later h k = valid-more c before later h k
valid-more c (commands.Upgrade ∷ before) later h k = valid-more c before later h k

count-more : (before later : List Command) → option_count (before ++ later) ≡ option_count before + option_count later
count-more [] later = omega arith
count-more (commands.Option name ∷ before) later = omega (arith, count-more before later)
count-more (commands.Constraint expr ∷ before) later = count-more before later
count-more (commands.Prefer expr ∷ before) later = count-more before later
count-more (commands.Default option on ∷ before) later = count-more before later
count-more (commands.Commit base choice ambition ss ∷ before) later = count-more before later
count-more (commands.Upgrade ∷ before) later = count-more before later

-- a command that declares no option and no constraint
still : (before : List Command) (k : Command) → option_count (k ∷ []) ≡ 0 → ((c : List Bool) → is_valid_in (k ∷ []) c ≡ true) → LeavesVariant before → LeavesVariant (before ++ k ∷ [])
still before k none valid l = (l.0, omega (arith, l.1, count-more before (k ∷ []), none), valid-more l.0 before (k ∷ []) l.2 (valid l.0))

leaves : (before : List Command) (e : Formula ℕ) → verdict before (commands.Constraint e) ≡ None → leaves_variant before e ≡ true
leaves before e h =
    let declared = none-when (nat_lt (option_count before) (reach e)) refusals.BadOption _ (none-first (when_full before) (refusals_of before (commands.Constraint e)) h).1 in
    let few = none-when (nat_le (limits_of before).rules (length (constraints_of before))) refusals.Full _ declared.1 in
    not_none (leaves_variant before e) (none-when (not (leaves_variant before e)) refusals.NoVariantLeft [] few.1).0

-- with an accepted command more there is still a valid choice
next : (before : List Command) (k : Command) → verdict before k ≡ None → LeavesVariant before → LeavesVariant (before ++ k ∷ [])
next before (commands.Option name) h l =
    let longer : List Bool = l.0 ++ false ∷ [] in (
      longer,
      omega (arith, length-append l.0 (false ∷ []), l.1, count-more before (commands.Option name ∷ [])),
      valid-more longer before (commands.Option name ∷ []) (is_valid_same (constraints_of before) longer l.0 (λ o low. is_on-padded l.0 1 o) ∙ l.2) refl,
    )
next before (commands.Constraint e) h l =
    let found = passing (option_count before) (λ c. is_valid_in before c && value e c) (leaves before e h) in
    let parts = and_parts (is_valid_in before found.0) (value e found.0) found.2 in (
      found.0,
      omega (arith, found.1, count-more before (commands.Constraint e ∷ [])),
      valid-more found.0 before (commands.Constraint e ∷ []) parts.0 (and_from (value e found.0) true parts.1 refl),
    )
next before (commands.Prefer e) h l = still before (commands.Prefer e) refl (λ c. refl) l
next before (commands.Default option on) h l = still before (commands.Default option on) refl (λ c. refl) l
next before (commands.Commit base choice ambition ss) h l = still before (commands.Commit base choice ambition ss) refl (λ c. refl) l
next before commands.Upgrade h l = still before commands.Upgrade refl (λ c. refl) l

pub legal-leaves : (before later : List Command) → LeavesVariant before → IsLegalFrom before later → LeavesVariant (before ++ later)
legal-leaves before [] l legal = subst LeavesVariant (sym (append-nil before)) l
legal-leaves before (k ∷ later) l legal =
    subst LeavesVariant (append_assoc before (k ∷ []) later) (legal-leaves (before ++ k ∷ []) later (next before k legal.1 l) legal.2)
