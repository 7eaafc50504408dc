-- Limits of longer histories.
use Rattle.std.proofs.Common.{◌≡◌, ℕ, ◌≤◌, Bool, true, false, List, [], ◌∷◌, ◌++◌, refl, sym, ap, subst, ◌∙◌, arith}
use Rattle.std.specs.Prelude.{◌||◌}
use Rattle.cov_base.specs.Limits.{limits_when}
use Rattle.cov_base.specs.declared.limits.TheConstants.{UPGRADED_LIMITS}
use Rattle.cov_edit.specs.Limits.{is_upgraded, limits_of, AreWithin}
use Rattle.cov_edit.specs.Laws.{LimitsRise}
use Rattle.cov_edit.specs.declared.command.Command.{Command}
use Rattle.cov_edit.specs.declared.command.Command.TheVariants as commands

-- a longer history has an upgrade where the shorter has one, or what comes later
pub upgraded-append : (history later : List Command) → is_upgraded (history ++ later) ≡ (is_upgraded history || is_upgraded later)
upgraded-append [] later = refl
upgraded-append (commands.Upgrade ∷ history) later = refl
upgraded-append (commands.Option name ∷ history) later = upgraded-append history later
upgraded-append (commands.Constraint expr ∷ history) later = upgraded-append history later
upgraded-append (commands.Prefer expr ∷ history) later = upgraded-append history later
upgraded-append (commands.Default option on ∷ history) later = upgraded-append history later
upgraded-append (commands.Commit base choice ambition ss ∷ history) later = upgraded-append history later

-- limits with an upgrade allow what those without allow
raised : (upgraded more : Bool) → AreWithin (limits_when upgraded) (limits_when (upgraded || more))
raised true more = record { options = omega arith; rules = omega arith; commands = omega arith; edits = omega arith; commit_bytes = omega arith; lines = omega arith; nodes = omega arith; bytes = omega arith }
raised false true = record { options = omega arith; rules = omega arith; commands = omega arith; edits = omega arith; commit_bytes = omega arith; lines = omega arith; nodes = omega arith; bytes = omega arith }
raised false false = record { options = omega arith; rules = omega arith; commands = omega arith; edits = omega arith; commit_bytes = omega arith; lines = omega arith; nodes = omega arith; bytes = omega arith }

-- no history is allowed more than one with an upgrade
pub limits-most : (history : List Command) → AreWithin (limits_of history) UPGRADED_LIMITS
limits-most history = at (is_upgraded history)
  where
    at : (upgraded : Bool) → AreWithin (limits_when upgraded) UPGRADED_LIMITS
    at true = record { options = omega arith; rules = omega arith; commands = omega arith; edits = omega arith; commit_bytes = omega arith; lines = omega arith; nodes = omega arith; bytes = omega arith }
    at false = record { options = omega arith; rules = omega arith; commands = omega arith; edits = omega arith; commit_bytes = omega arith; lines = omega arith; nodes = omega arith; bytes = omega arith }

pub limits-rise : LimitsRise
limits-rise history later =
    subst (λ b. AreWithin (limits_of history) (limits_when b)) (sym (upgraded-append history later)) (raised (is_upgraded history) (is_upgraded later))
