-- The choice that bindings were at a position, as it is found or refused.
use Rattle.std.proofs.Common.{◌≡◌, ap, refl, inl, inr, ℕ, Bool, true, nat_lt, List, Err}
use Rattle.std.specs.List.{list_all}
use Rattle.cov_codes.specs.Codes.{past_code}
use Rattle.cov_codes.specs.Stops.{past_stop}
use Rattle.cov_edit.specs.History.{option_count}
use Rattle.cov_hist.specs.Laws.{RefusedOptionsAreDeclared}
use Rattle.cov_hist.specs.Past.{choice_at}
use Rattle.cov_hist.specs.declared.fault.PastFault.{PastFault}
use Rattle.cov_hist.specs.declared.fault.PastFault.TheVariants as faults
use Rattle.cov_lines.specs.Acting.{Stops}
use Rattle.cov_lines.specs.Finding.{by_code}
use Rattle.cov_lines.specs.States.{State}
use Rattle.cov_lines.specs.Step.{choice_then}

-- bindings that were no choice then
pub then-stops : RefusedOptionsAreDeclared → (st : State) (partial : List (ℕ × Bool)) (position : ℕ) (fault : PastFault) → list_all (λ b. nat_lt b.0 (option_count st.history)) partial ≡ true
    → choice_at st.history partial position ≡ Err fault → Stops (choice_then st partial position) st st (past_stop fault)
then-stops law st partial position faults.NoSuchPosition low h = record { is = ap (by_code past_code) h; same = refl; told = tt }
then-stops law st partial position (faults.LateOption option) low h = record { is = ap (by_code past_code) h; same = refl; told = law st.history partial position option low (inl h) }
then-stops law st partial position (faults.Incomplete option) low h = record { is = ap (by_code past_code) h; same = refl; told = law st.history partial position option low (inr h) }
then-stops law st partial position (faults.Invalid rule) low h = record { is = ap (by_code past_code) h; same = refl; told = tt }
