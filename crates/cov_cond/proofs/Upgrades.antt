-- Upgrades among the commands of a history.
use Rattle.std.proofs.Common.{◌≡◌, ℕ, ◌+◌, true, false, ◌||◌, List, [], ◌∷◌, drop, Some, sym, ap, ◌∙◌}
use Rattle.std.specs.Prelude.{slice_get}
use Rattle.cov_base.proofs.CallerLemmas.{drop-at}
use Rattle.cov_edit.specs.declared.command.Command.{Command}
use Rattle.cov_edit.specs.Limits.{is_upgraded}
use Rattle.cov_edit.proofs.CallerLemmas.{upgraded-append}

module _ (history : List Command) (i next : ℕ) (k : Command) (is : slice_get history i ≡ Some k) (e : next ≡ i + 1) where
  from-there : is_upgraded (drop i history) ≡ (is_upgraded (k ∷ []) || is_upgraded (drop next history))
  from-there = ap is_upgraded (drop-at history i next k is e) ∙ upgraded-append (k ∷ []) (drop next history)

  -- the command there is an upgrade
  pub upgrade-here : is_upgraded (k ∷ []) ≡ true → is_upgraded (drop i history) ≡ true
  upgrade-here h = from-there ∙ ap (λ b. b || is_upgraded (drop next history)) h

  -- it isn't
  pub upgrade-later : is_upgraded (k ∷ []) ≡ false → is_upgraded (drop next history) ≡ is_upgraded (drop i history)
  upgrade-later h = sym (from-there ∙ ap (λ b. b || is_upgraded (drop next history)) h)
