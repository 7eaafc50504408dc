-- The rules as they are analysed and told.
use Rattle.std.proofs.Common.{◌≡◌, ℕ, suc, ◌+◌, ◌-◌, Bool, true, false, cond, ◌&&◌, not, List, [], ◌∷◌, ◌++◌, append_assoc, length, map, Option, Some, None, refl, sym, ap, subst, ◌∙◌, arith}
use Rattle.std.specs.List.{AllByRecursion, concat, find, range_with_len}
use Rattle.cov_analyse.specs.Analysing.{HasValid}
use Rattle.cov_analyse.specs.Nearest.{is_nearest, nearest}
use Rattle.cov_analyse.specs.States.{breaks_only, need_by, option_state, rule_state, state_by}
use Rattle.cov_base.specs.Choices.{all_choices, is_on}
use Rattle.cov_edit.specs.declared.command.Command.{Command}
use Rattle.cov_edit.specs.History.{constraints_of, option_count}
use Rattle.cov_expr.specs.Formula.{Formula}
use Rattle.cov_expr.specs.Validity.{is_valid}
use Rattle.cov_history.specs.Laws.{LeavesVariant}
use Rattle.cov_rules.proofs.CallerLemmas.{all_whole}
use Rattle.cov_lines.specs.Analysing.{AreWithin, IsNeedWithin}

-- what holds of all holds of the one that is found
found-holds : {X : Type 0} (P : X → Type 0) (test : X → Bool) (xs : List X) (x : X) → AllByRecursion P xs → find test xs ≡ Some x → P x
found-holds P test [] x all h = absurd (cc)
found-holds P test (y ∷ ys) x all h = at (test y) (λ k. found-holds P test ys x all.1 k) h
  where
    at : (b : Bool) → (find test ys ≡ Some x → P x) → cond b (Some y) (find test ys) ≡ Some x → P x
    at true rest k = let same : y ≡ x = cc in subst P same all.0
    at false rest k = rest k

-- a choice that is found has all options
found-length : (n : ℕ) (test : List Bool → Bool) (c : List Bool) → find test (all_choices n) ≡ Some c → length c ≡ n
found-length n test c h = found-holds (λ c. length c ≡ n) test (all_choices n) c (all_whole n) h

module _ (n : ℕ) (es : List (Formula ℕ)) where
  -- the evidence of an option's state has all options
  pub state-within : (o : ℕ) → AreWithin n (option_state n es o)
  state-within o = at (find off (all_choices n)) (find on (all_choices n)) (λ c h. found-length n off c h) (λ c h. found-length n on c h)
    where
      off : List Bool → Bool
      off c = is_valid es c && not (is_on c o)

      on : List Bool → Bool
      on c = is_valid es c && is_on c o

      at : (x y : Option (List Bool)) → ((c : List Bool) → x ≡ Some c → length c ≡ n) → ((c : List Bool) → y ≡ Some c → length c ≡ n) → AreWithin n (state_by x y)
      at x None h k = tt
      at None (Some d) h k = tt
      at (Some c) (Some d) h k = let long = h c refl in let longer = k d refl in (omega (arith, long), omega (arith, longer))

  -- and so has that of a constraint's
  pub need-within : (rule : ℕ) → IsNeedWithin n (rule_state n es rule)
  need-within rule = at (find (breaks_only es (rule - 1)) (all_choices n)) (λ c h. found-length n (breaks_only es (rule - 1)) c h)
    where
      at : (x : Option (List Bool)) → ((c : List Bool) → x ≡ Some c → length c ≡ n) → IsNeedWithin n (need_by x)
      at None h = tt
      at (Some c) h = let long = h c refl in omega (arith, long)

  -- the nearest choice has them too
  pub nearest-length : (c d : List Bool) → nearest n es c ≡ Some d → length d ≡ n
  nearest-length c d h = found-length n (is_nearest n (is_valid es) c) d h

-- the constraints of a history are met, of which a choice is left
pub has-valid : (history : List Command) (n : ℕ) (es : List (Formula ℕ)) → n ≡ option_count history → es ≡ constraints_of history → LeavesVariant history → HasValid n es
has-valid history n es count same left = (left.0, left.1 ∙ sym count, ap (λ rules. is_valid rules left.0) same ∙ left.2)

-- a line that is told of a number goes behind what is told, and the lines ahead are those of the numbers behind it
pub told-more : (line : ℕ → List ℕ) (n left more : ℕ) (reply now all : List ℕ) → left ≡ suc more → now ≡ reply ++ line n → reply ++ concat (map line (range_with_len n left)) ≡ all
    → now ++ concat (map line (range_with_len (n + 1) more)) ≡ all
told-more line n left more reply now all next told lines =
    ap (λ xs. xs ++ concat (map line (range_with_len (n + 1) more))) told
    ∙ append_assoc reply (line n) (concat (map line (range_with_len (n + 1) more)))
    ∙ ap (λ k. reply ++ concat (map line (range_with_len n k))) (sym next)
    ∙ lines
