-- Faults at the opening of a session.
use Rattle.std.proofs.Common.{◌≡◌, sym, subst, ℕ, Bool, List, Result, Ok, Err, IfErr}
use Rattle.std.specs.Result.{IsErrAnd}
use Rattle.cov_rules.specs.Completion.{IsRefusalBy}
use Rattle.cov_rules.specs.declared.completing.CompleteFault.{CompleteFault}
use Rattle.cov_rules.specs.declared.completing.CompleteFault.TheVariants as completions
use Rattle.cov_edit.specs.declared.command.Command.{Command}
use Rattle.cov_edit.specs.History.{option_count}
use Rattle.cov_history.specs.Completing.{completed_in}
use Rattle.cov_history.specs.Laws.{OpenOptionsAreDeclared}
use Rattle.cov_session.specs.Faults.{by_completion}
use Rattle.cov_session.specs.Opening.{NamesDeclared}
use Rattle.cov_session.specs.declared.fault.SessionFault.{SessionFault}

names-declared : OpenOptionsAreDeclared → (history : List Command) (partial : List (ℕ × Bool)) (fault : CompleteFault) → IsRefusalBy (completed_in history partial) fault
    → NamesDeclared (option_count history) (by_completion fault)
names-declared law history partial (completions.Invalid rule) h = tt
names-declared law history partial (completions.Incomplete option) h = law history partial option h
names-declared law history partial completions.Memory h = tt

-- the option that a completion leaves open is declared
pub declared-by : {X : Type 0} → OpenOptionsAreDeclared → (history : List Command) (partial : List (ℕ × Bool)) (fault : CompleteFault) (result : Result X SessionFault)
    → IsErrAnd result (λ e. e ≡ by_completion fault) → IsRefusalBy (completed_in history partial) fault → IfErr result (NamesDeclared (option_count history))
declared-by law history partial fault (Ok x) e h = tt
declared-by law history partial fault (Err own) e h = subst (NamesDeclared (option_count history)) (sym e) (names-declared law history partial fault h)
