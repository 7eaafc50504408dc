-- What is known of each command of a legal history, and which commits hold one after another.
use Rattle.std.proofs.Common.{◌≡◌, ℕ, zero, suc, ◌+◌, ◌-◌, ◌≤◌, Bool, List, [], ◌∷◌, ◌++◌, length, take, Some, None, append-nil, append_assoc, sym, ap, subst, ◌∙◌, arith}
use Rattle.std.specs.Prelude.{slice_get}
use Rattle.cov_base.specs.declared.limits.TheConstants.{LIMITS}
use Rattle.cov_edit.specs.declared.command.Command.{Command}
use Rattle.cov_edit.specs.declared.command.Command.TheVariants as commands
use Rattle.cov_edit.specs.Fits.{reach_of}
use Rattle.cov_edit.specs.History.{edits_in, option_count}
use Rattle.cov_edit.specs.Sides.{unsided}
use Rattle.cov_edit.proofs.CallerLemmas.{unsided-length}
use Rattle.cov_history.specs.Verdict.{IsLegal, IsLegalFrom, verdict}
use Rattle.cov_engine.proofs.CallerLemmas.{accepted-low, accepted-sizes, declared-less, edits-few}
use Rattle.cov_hist.specs.Holding.{held, holding, holding_from}
use Rattle.cov_hist.specs.declared.rows.LogRow.{LogRow}

-- a command is accepted after those before it
accepted-at : (before history : List Command) (n : ℕ) (k : Command) → IsLegalFrom before history → slice_get history n ≡ Some k → verdict (before ++ take n history) k ≡ None
accepted-at before [] n k legal there = absurd (cc)
accepted-at before (j ∷ history) zero k legal there =
    ap (λ h. verdict h k) (append-nil before) ∙ subst (λ i. verdict before i ≡ None) (the-same j k there) legal.1
  where
    the-same : (i k : Command) → Some i ≡ Some k → i ≡ k
    the-same i k h = cc
accepted-at before (j ∷ history) (suc n) k legal there =
    ap (λ h. verdict h k) (sym (append_assoc before (j ∷ []) (take n history))) ∙ accepted-at (before ++ j ∷ []) history n k legal.2 there

-- it has no option that isn't declared
pub command-low : (history : List Command) (n : ℕ) (k : Command) → IsLegal history → slice_get history n ≡ Some k → reach_of k ≤ option_count history
command-low history n k legal there =
    let low = accepted-low (take n history) k (accepted-at [] history n k legal there) in
    let less = declared-less n history in
    omega (arith, low, less)

-- and no more edits than the limit
pub command-few : (history : List Command) (n : ℕ) (k : Command) → IsLegal history → slice_get history n ≡ Some k → length (edits_in k) ≤ LIMITS.edits
command-few history n k legal there = few k (accepted-at [] history n k legal there)
  where
    few : (k : Command) → verdict (take n history) k ≡ None → length (edits_in k) ≤ LIMITS.edits
    few (commands.Option name) accepted = omega arith
    few (commands.Constraint expr) accepted = omega arith
    few (commands.Prefer expr) accepted = omega arith
    few (commands.Default option on) accepted = omega arith
    few (commands.Commit base choice ambition ss) accepted =
        let sizes = accepted-sizes (take n history) base choice ambition ss accepted in
        subst (λ m. m ≤ LIMITS.edits) (unsided-length ss) (edits-few (take n history) (unsided ss) sizes.0 sizes.1)
    few commands.Upgrade accepted = omega arith

-- the last of commands by its position
later : (p n : ℕ) (history : List Command) (k : Command) (c : List Bool)
    → holding_from (p + 1) (take n history) c ++ holding_from (p + 1 + n) (k ∷ []) c ≡ holding_from (p + 1) (take n history) c ++ holding_from (p + suc n) (k ∷ []) c
later p n history k c = let at : p + 1 + n ≡ p + suc n = omega arith in ap (λ q. holding_from (p + 1) (take n history) c ++ holding_from q (k ∷ []) c) at

-- the commits that hold up to a command are those before it, and then itself
holding-more : (p : ℕ) (history : List Command) (n : ℕ) (k : Command) (c : List Bool) → slice_get history n ≡ Some k
    → holding_from p (take (suc n) history) c ≡ holding_from p (take n history) c ++ holding_from (p + n) (k ∷ []) c
holding-more p [] n k c there = absurd (cc)
holding-more p (j ∷ history) zero k c there = (let at : p ≡ p + 0 = omega arith in ap (λ q. holding_from q (j ∷ []) c) at) ∙ ap (λ i. holding_from (p + 0) (i ∷ []) c) (the-same j k there)
  where
    the-same : (i k : Command) → Some i ≡ Some k → i ≡ k
    the-same i k h = cc
holding-more p (commands.Option name ∷ history) (suc n) k c there = holding-more (p + 1) history n k c there ∙ later p n history k c
holding-more p (commands.Constraint expr ∷ history) (suc n) k c there = holding-more (p + 1) history n k c there ∙ later p n history k c
holding-more p (commands.Prefer expr ∷ history) (suc n) k c there = holding-more (p + 1) history n k c there ∙ later p n history k c
holding-more p (commands.Default option on ∷ history) (suc n) k c there = holding-more (p + 1) history n k c there ∙ later p n history k c
holding-more p (commands.Commit base choice ambition ss ∷ history) (suc n) k c there =
    ap (λ rows. held (p + 1) ambition ss c ++ rows) (holding-more (p + 1) history n k c there ∙ later p n history k c)
    ∙ sym (append_assoc (held (p + 1) ambition ss c) (holding_from (p + 1) (take n history) c) (holding_from (p + suc n) (k ∷ []) c))
holding-more p (commands.Upgrade ∷ history) (suc n) k c there = holding-more (p + 1) history n k c there ∙ later p n history k c

-- so the rows of those before it become those with it
pub holding-next : (history : List Command) (n at : ℕ) (k : Command) (c : List Bool) (rows now : List LogRow) → at ≡ suc n → slice_get history n ≡ Some k
    → rows ≡ holding (take n history) c → now ≡ rows ++ holding_from (at - 1) (k ∷ []) c → now ≡ holding (take (n + 1) history) c
holding-next history n at k c rows now is there before added =
    added
    ∙ ap (λ front. front ++ holding_from (at - 1) (k ∷ []) c) before
    ∙ (let own : at - 1 ≡ 0 + n = omega (arith, is) in ap (λ q. holding (take n history) c ++ holding_from q (k ∷ []) c) own)
    ∙ sym (holding-more 0 history n k c there)
    ∙ (let one : suc n ≡ n + 1 = omega arith in ap (λ m. holding (take m history) c) one)
