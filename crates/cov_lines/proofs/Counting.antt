-- How commits are counted.
use Rattle.std.proofs.Common.{◌≡◌, ℕ, ◌+◌, cond, Bool, List, [], ◌∷◌, ◌++◌, ap, subst, arith}
use Rattle.std.proofs.lemmas.List.Sums.{sum_by-append}
use Rattle.cov_edit.specs.declared.command.Command.{Command}
use Rattle.cov_lines.specs.States.{ServerValue}
use Rattle.cov_lines.specs.Sweeping.{GoesOn, HasCounted, IsSweptSince, commit_count, is_commit}

-- there is one more where a commit is added
count-more : (history : List Command) (k : Command) → commit_count (history ++ k ∷ []) ≡ commit_count history + cond (is_commit k) 1 0
count-more history k = omega (arith, sum_by-append (λ c. cond (is_commit c) 1 0) history (k ∷ []))

module _ (old new : ServerValue) where
  -- no command was added
  pub goes-on-same : new.commits ≡ old.commits → new.state.history ≡ old.state.history → GoesOn old new
  goes-on-same commits history = record { counted = omega (arith, commits, ap commit_count history); swept = λ more due. absurd (omega (arith, more, commits)) }

  -- a command was, and was counted if it is a commit
  pub goes-on-more : (k : Command) (counts : Bool) → counts ≡ is_commit k → new.state.history ≡ old.state.history ++ k ∷ [] → HasCounted counts old.commits new → GoesOn old new
  goes-on-more k counts is more counted = record {
    counted = omega (arith, counted.commits, ap commit_count more, count-more old.state.history k, ap {B = ℕ} (λ b. cond b 1 0) is);
    swept = counted.swept;
  }

  -- what goes on from a server goes on from one that had counted as many commits over the same history
  pub goes-on-from : (kept : ServerValue) → kept.commits ≡ old.commits → kept.state.history ≡ old.state.history → GoesOn kept new → GoesOn old new
  goes-on-from kept commits history goes = record {
    counted = omega (arith, goes.counted, commits, ap commit_count history);
    swept = subst (λ n. IsSweptSince n new) commits goes.swept;
  }
