-- Options that a legal history doesn't declare change nothing of its replay, nor of that with a commit more.
use Rattle.std.proofs.Common.{◌≡◌, ℕ, zero, suc, ◌≤◌, Bool, true, false, cond, List, [], ◌∷◌, ◌++◌, length, take, refl, sym, ap, ◌∙◌, arith}
use Rattle.std.specs.List.{fold, AllByRecursion}
use Rattle.cov_base.specs.Choices.{with_option}
use Rattle.cov_base.proofs.CallerLemmas.{all-map}
use Rattle.cov_expr.specs.Formula.{Formula, value, reach}
use Rattle.cov_edit.specs.declared.sided.Sided.{Sided}
use Rattle.cov_edit.specs.declared.command.Command.{Command}
use Rattle.cov_edit.specs.declared.command.Command.TheVariants as commands
use Rattle.cov_edit.specs.History.{option_count}
use Rattle.cov_edit.specs.Numbering.{Numbers, numbers_after, numbers_of}
use Rattle.cov_edit.specs.Sides.{unsided, conditions, reach_within}
use Rattle.cov_edit.specs.Variant.{Variant, edited}
use Rattle.cov_edit.specs.Replay.{Change, commit_changes, applied, replay}
use Rattle.cov_edit.proofs.CallerLemmas.{conditions-low, each_change, replay-commit}
use Rattle.cov_history.specs.Verdict.{IsLegal}
use Rattle.cov_history.proofs.Meanwhile.{replay-front}
use Rattle.cov_rules.proofs.CallerLemmas.{value_by_first_options}

take-with : (n o : ℕ) (c : List Bool) (a b : Bool) → n ≤ o → take n (with_option c o a) ≡ take n (with_option c o b)
take-with zero o [] a b h = refl
take-with zero zero (x ∷ c) a b h = refl
take-with zero (suc o) (x ∷ c) a b h = refl
take-with (suc n) o [] a b h = refl
take-with (suc n) zero (x ∷ c) a b h = absurd (omega (arith, h))
take-with (suc n) (suc o) (x ∷ c) a b h = ap (λ d. x ∷ d) (take-with n o c a b (omega (arith, h)))

pub replay-unread : (history : List Command) → IsLegal history → (o : ℕ) → option_count history ≤ o → (c : List Bool) → replay (with_option c o true) history ≡ replay (with_option c o false) history
replay-unread history legal o most c =
    replay-front history (with_option c o true) legal ∙ ap (λ d. replay d history) (take-with (option_count history) o c true false most) ∙ sym (replay-front history (with_option c o false) legal)

-- edits apply alike on choices on which their conditions have the same value
applied-alike : (c d : List Bool) (v : Variant) (changes : List Change) → AllByRecursion (λ change. value change.within c ≡ value change.within d) changes → fold (applied c) v changes ≡ fold (applied d) v changes
applied-alike c d v [] h = refl
applied-alike c d v (change ∷ changes) h =
    ap (λ b. fold (applied c) (cond b (edited v change.edit) v) changes) h.0 ∙ applied-alike c d (applied d v change) changes h.1

conditions-front : (n : ℕ) (c : List Bool) (within : List (Formula ℕ)) → AllByRecursion (λ w. reach w ≤ n) within → AllByRecursion (λ w. value w c ≡ value w (take n c)) within
conditions-front n c within low = all-map (λ w. reach w ≤ n) (λ w. value w c ≡ value w (take n c)) (λ w reached. sym (value_by_first_options n w c reached)) within low

-- only the options that a legal history declares count in its replay with a commit more
pub commit-front : (history : List Command) (base : ℕ) (choice : List Bool) (ambition : Formula ℕ) (ss : List Sided) → IsLegal history → reach_within ambition ss ≤ option_count history → (c : List Bool)
    → replay c (history ++ commands.Commit base choice ambition ss ∷ []) ≡ replay (take (option_count history) c) (history ++ commands.Commit base choice ambition ss ∷ [])
commit-front history base choice ambition ss legal low c =
    let n : ℕ = option_count history in
    let ns : Numbers = numbers_of history in
    replay-commit c history base choice ambition ss
    ∙ applied-alike c (take n c) (replay c history) (commit_changes ns ambition ss)
    (each_change (λ w. value w c ≡ value w (take n c)) ambition ns (numbers_after ns (unsided ss)).addresses ns.nodes (length ns.addresses) ss
    (conditions-front n c (conditions ambition ss) (conditions-low n ambition ss low)))
    ∙ ap (λ v. fold (applied (take n c)) v (commit_changes ns ambition ss)) (replay-front history c legal)
    ∙ sym (replay-commit (take n c) history base choice ambition ss)

pub commit-unread : (history : List Command) (base : ℕ) (choice : List Bool) (ambition : Formula ℕ) (ss : List Sided) → IsLegal history → reach_within ambition ss ≤ option_count history
    → (o : ℕ) → option_count history ≤ o → (c : List Bool)
    → replay (with_option c o true) (history ++ commands.Commit base choice ambition ss ∷ []) ≡ replay (with_option c o false) (history ++ commands.Commit base choice ambition ss ∷ [])
commit-unread history base choice ambition ss legal low o most c =
    commit-front history base choice ambition ss legal low (with_option c o true)
    ∙ ap (λ d. replay d (history ++ commands.Commit base choice ambition ss ∷ [])) (take-with (option_count history) o c true false most)
    ∙ sym (commit-front history base choice ambition ss legal low (with_option c o false))
