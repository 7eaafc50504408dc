-- How refusals are handed on.
use Rattle.std.proofs.Common.{◌≡◌, refl, sym, ap, subst, ℕ, Bool, List, Result, Ok, Err}
use Rattle.std.specs.Result.{IsErrAnd}
use Rattle.cov_expr.specs.Binding.{bound, IsBindFaultOf}
use Rattle.cov_expr.specs.declared.binding.BindFault.{BindFault}
use Rattle.cov_expr.specs.declared.binding.BindFault.TheVariants as binds
use Rattle.cov_rules.specs.Completion.{IsRefusalBy}
use Rattle.cov_rules.specs.declared.completing.CompleteFault.{CompleteFault}
use Rattle.cov_rules.specs.declared.completing.CompleteFault.TheVariants as completions
use Rattle.cov_edit.specs.History.{options_of}
use Rattle.cov_history.specs.Completing.{completed_in}
use Rattle.cov_history.specs.Laws.{OpenOptionsAreDeclared}
use Rattle.cov_lines.specs.Acting.{Handles, Stops}
use Rattle.cov_codes.specs.Codes.{bind_code}
use Rattle.cov_lines.specs.Finding.{Found, ◌>>=◌, as_found, by_code, completed_choice, found_partial}
use Rattle.cov_lines.specs.States.{State}
use Rattle.cov_lines.specs.Step.{Done}
use Rattle.cov_codes.specs.Stops.{bind_stop, complete_stop}
use Rattle.cov_lines.proofs.Declared.{repeated_below}
use Rattle.cov_lines.specs.declared.handled.Handled.{Handled}
use Rattle.cov_lines.specs.declared.handled.Handled.TheVariants as handled
use Rattle.cov_codes.specs.declared.stop.Stop.{Stop}
use Rattle.cov_codes.specs.declared.stop.Stop.TheVariants as stops

-- what holds of a stop holds of the refusal by `?` that hands it on
pub stopped : {X : Type 0} (P : Result X Stop → Type 0) (result : Result X Stop) (stop : Stop) → IsErrAnd result (λ e. e ≡ stop) → P (Err stop) → P result
stopped P (Ok x) stop e h = absurd e
stopped P (Err d) stop e h = subst (λ k. P (Err k)) (sym e) h

-- what stops a step stops what would come after it
pub stops-later : {X Y : Type 0} (wanted : Found X) (later : X → Found Y) (old new : State) (stop : Stop) → Stops wanted old new stop → Stops (wanted >>= later) old new stop
stops-later wanted later old new stops.Memory h = h
stops-later wanted later old new (stops.Refused code) h = record { is = ap (λ found. found >>= later) h.is; same = h.same; told = h.told }

-- bindings that are no partial choice
pub bind-stops : (st : State) (bindings : List (List ℕ × Bool)) (fault : BindFault) → IsBindFaultOf (bound (options_of st.history) bindings) fault
    → Stops (found_partial st.history bindings) st st (bind_stop fault)
bind-stops st bindings (binds.UnknownOption name) h = record { is = ap (by_code bind_code) h; same = refl; told = tt }
bind-stops st bindings (binds.Repeated option) h = record { is = ap (by_code bind_code) h; same = refl; told = repeated_below (options_of st.history) bindings option h }
bind-stops st bindings binds.Memory h = refl

-- a partial choice that the rules don't complete
pub complete-stops : OpenOptionsAreDeclared → (st : State) (partial : List (ℕ × Bool)) (fault : CompleteFault)
    → IsRefusalBy (completed_in st.history partial) fault → Stops (completed_choice st.history partial) st st (complete_stop fault)
complete-stops law st partial (completions.Invalid rule) h = record { is = ap as_found h; same = refl; told = tt }
complete-stops law st partial (completions.Incomplete option) h = record { is = ap as_found h; same = refl; told = law st.history partial option h }
complete-stops law st partial completions.Memory h = refl

-- what stops a line leaves the history as it was
pub stops-history : {Y : Type 0} (wanted : Found Y) (old new : State) (stop : Stop) → Stops wanted old new stop → new.history ≡ old.history
stops-history wanted old new stops.Memory h = h
stops-history wanted old new (stops.Refused code) h = ap (λ (t : State). t.history) h.same

-- and so does what is handled, until its command is added
pub handles-history : (wanted : Found Done) (old new : State) (result : Result Handled Stop) → Handles wanted old new result → new.history ≡ old.history
handles-history wanted old new (Ok (handled.Done reply)) h = h.1
handles-history wanted old new (Ok (handled.Adds addition)) h = ap (λ (t : State). t.history) h.same
handles-history wanted old new (Err stop) h = stops-history wanted old new stop h
