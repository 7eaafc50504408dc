-- The choices on which a commit would leave a fault.
use Rattle.std.proofs.Common.{◌≡◌, ℕ, Bool, true, false, cond, ◌&&◌, List, [], ◌∷◌, ◌++◌, length, Option, Some, None, is_some, option_map, refl, sym, ap, subst, ◌∙◌}
use Rattle.std.specs.List.{find, AllByRecursion}
use Rattle.std.proofs.lemmas.Bool.{and_parts}
use Rattle.cov_base.specs.Choices.{all_choices}
use Rattle.cov_base.specs.Faults.{Fault, fault_of}
use Rattle.cov_base.specs.Rows.{Row}
use Rattle.cov_base.proofs.CallerLemmas.{is_some-find}
use Rattle.cov_expr.specs.Formula.{Formula, value}
use Rattle.cov_edit.specs.declared.command.Command.{Command}
use Rattle.cov_edit.specs.History.{option_count, is_valid_in}
use Rattle.cov_edit.specs.Replay.{replay}
use Rattle.cov_rules.proofs.CallerLemmas.{all_whole, fails_on_each}
use Rattle.cov_history.specs.BadChoices.{fault_after, is_bad, bad_choice, fault_refusal, as_unsound, unsound_refusal, is_faulty, refusal_by_rows}

-- what is found passes the test, and is as each of the list is
found : {X : Type 0} (P : X → Type 0) (p : X → Bool) (xs : List X) (x : X) → AllByRecursion P xs → find p xs ≡ Some x → (p x ≡ true) × P x
found P p [] x all h = absurd (cc)
found P p (y ∷ ys) x all h = at (p y) refl h (found P p ys x all.1)
  where
    at : (b : Bool) → p y ≡ b → cond b (Some y) (find p ys) ≡ Some x → (find p ys ≡ Some x → (p x ≡ true) × P x) → (p x ≡ true) × P x
    at true e j rest = let same : y ≡ x = cc in subst (λ z. (p z ≡ true) × P z) same (e, all.0)
    at false e j rest = rest j

module _ (history : List Command) (ambition : Formula ℕ) (k : Command) where
  none : (valid inside : Bool) (o : Option Fault) → valid ≡ true → inside ≡ true → (valid && (inside && is_some o)) ≡ false → o ≡ None
  none true true None e f h = refl
  none true true (Some fault) e f h = absurd (cc)
  none true false o e f h = absurd (cc)
  none false inside o e f h = absurd (cc)

  -- where no choice is bad, none has a fault
  pub none-bad : bad_choice history ambition k ≡ None → (c : List Bool) → length c ≡ option_count history → is_valid_in history c ≡ true → value ambition c ≡ true → fault_after history k c ≡ None
  none-bad h c whole valid inside =
      none (is_valid_in history c) (value ambition c) (fault_after history k c) valid inside
      (fails_on_each (option_count history) (is_bad history ambition k) (sym (is_some-find (is_bad history ambition k) (all_choices (option_count history))) ∙ ap is_some h) c whole)

  -- the bad choice is one of the history's options, valid, within the ambition, and has a fault
  pub bad-is : (c : List Bool) → bad_choice history ambition k ≡ Some c
      → (length c ≡ option_count history) × (is_valid_in history c ≡ true) × (value ambition c ≡ true) × (is_some (fault_after history k c) ≡ true)
  bad-is c h =
      let there = found (λ d. length d ≡ option_count history) (is_bad history ambition k) (all_choices (option_count history)) c (all_whole (option_count history)) h in
      let outer = and_parts (is_valid_in history c) (value ambition c && is_some (fault_after history k c)) there.0 in
      let inner = and_parts (value ambition c) (is_some (fault_after history k c)) outer.1 in
      (there.1, outer.0, inner.0, inner.1)

  faulty : (c : List Bool) (o : Option Fault) → is_some o ≡ true → option_map (fault_refusal c) o ≡ None → (let found : Option (List Bool) = Some c in found) ≡ None
  faulty c None e h = absurd (cc)
  faulty c (Some fault) e h = absurd (cc)

  -- where the command isn't refused for a fault, no choice is bad
  pub no-bad : unsound_refusal history ambition k ≡ None → bad_choice history ambition k ≡ None
  no-bad h = at (bad_choice history ambition k) refl h
    where
      at : (o : Option (List Bool)) → bad_choice history ambition k ≡ o → as_unsound (fault_after history k) o ≡ None → o ≡ None
      at None e j = refl
      at (Some c) e j = faulty c (fault_after history k c) (bad-is c e).3 j

  -- rows that are those with the command, and a test of the choices that count, tell the refusal
  module _ (rows : List Bool → List Row) (within : List Bool → Bool)
      (same : (c : List Bool) → rows c ≡ (replay c (history ++ k ∷ [])).rows) (valid : (c : List Bool) → within c ≡ (is_valid_in history c && value ambition c)) where
    joined : (a b s : Bool) → ((a && b) && s) ≡ (a && (b && s))
    joined true b s = refl
    joined false b s = refl

    faulty-bad : (c : List Bool) → is_faulty rows within c ≡ is_bad history ambition k c
    faulty-bad c = (λ i. valid c i && is_some (fault_of (same c i))) ∙ joined (is_valid_in history c) (value ambition c) (is_some (fault_after history k c))

    pub refusal-by_rows : refusal_by_rows rows within (option_count history) ≡ unsound_refusal history ambition k
    refusal-by_rows = λ i. as_unsound (λ c. fault_of (same c i)) (find (λ c. faulty-bad c i) (all_choices (option_count history)))

    -- so does any test that is true where such rows have a fault
    module _ (test : List Bool → Bool) (is : (c : List Bool) → test c ≡ is_faulty rows within c) where
      pub least-bad : find test (all_choices (option_count history)) ≡ bad_choice history ambition k
      least-bad = λ i. find (λ c. (is c ∙ faulty-bad c) i) (all_choices (option_count history))

      pub none-unsound : find test (all_choices (option_count history)) ≡ None → unsound_refusal history ambition k ≡ None
      none-unsound h = ap (as_unsound (fault_after history k)) (sym least-bad ∙ h)

      pub some-unsound : (c : List Bool) (fault : Fault) → find test (all_choices (option_count history)) ≡ Some c → fault_of (rows c) ≡ Some fault
          → unsound_refusal history ambition k ≡ Some (fault_refusal c fault)
      some-unsound c fault h f =
          ap (as_unsound (fault_after history k)) (sym least-bad ∙ h) ∙ ap (option_map (fault_refusal c)) (ap fault_of (sym (same c)) ∙ f)
