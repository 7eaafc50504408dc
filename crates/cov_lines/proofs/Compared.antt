-- Both sides of an option, as they are told or refused.
use Rattle.std.proofs.Common.{◌≡◌, ◌∙◌, ap, refl, ℕ, Bool, List, Result, Ok}
use Rattle.cov_alt.specs.Sides.{IsAltFaultOf, sides_at}
use Rattle.cov_alt.specs.declared.fault.AltFault.{AltFault}
use Rattle.cov_alt.specs.declared.fault.AltFault.TheVariants as faults
use Rattle.cov_alt.specs.declared.line.AltLine.{AltLine}
use Rattle.cov_lines.specs.Acting.{Stops}
use Rattle.cov_codes.specs.Codes.{alt_code}
use Rattle.cov_lines.specs.Finding.{◌>>=◌, by_code, completed_choice, found_option, found_partial}
use Rattle.cov_lines.specs.Replies.{lines_reply, marked_line}
use Rattle.cov_lines.specs.States.{State}
use Rattle.cov_lines.specs.Step.{Act, compared}
use Rattle.cov_codes.specs.Stops.{alt_stop}

module _ (st : State) (token : List ℕ) (path : List (List ℕ)) where
  abbrev on-sides : Result (List AltLine) AltFault → Act
  on-sides r = by_code alt_code r >>= (λ ls. Ok (st, lines_reply marked_line ls))

  abbrev on-choice : ℕ → List Bool → Act
  on-choice option choice = on-sides (sides_at st.history choice option path)

  abbrev on-option : List (ℕ × Bool) → ℕ → Act
  on-option partial option = completed_choice st.history partial >>= on-choice option

  abbrev on-partial : List (ℕ × Bool) → Act
  on-partial partial = found_option st.history token >>= on-option partial

  module _ (bindings : List (List ℕ × Bool)) (partial : List (ℕ × Bool)) (option : ℕ) (choice : List Bool) where
    -- what is asked for is found
    by-sides : found_partial st.history bindings ≡ Ok partial → found_option st.history token ≡ Ok option → completed_choice st.history partial ≡ Ok choice
        → compared st bindings token path ≡ on-sides (sides_at st.history choice option path)
    unfolding compared
    by-sides p o c = ap (λ f. f >>= on-partial) p ∙ ap (λ f. f >>= on-option partial) o ∙ ap (λ f. f >>= on-choice option) c

    -- sides that can't be told
    pub alt-stops : (fault : AltFault) → found_partial st.history bindings ≡ Ok partial → found_option st.history token ≡ Ok option → completed_choice st.history partial ≡ Ok choice
        → IsAltFaultOf (sides_at st.history choice option path) fault → Stops (compared st bindings token path) st st (alt_stop fault)
    alt-stops (faults.SideInvalid on rule) p o c h = record { is = by-sides p o c ∙ ap on-sides h; same = refl; told = tt }
    alt-stops faults.NoSuchPath p o c h = record { is = by-sides p o c ∙ ap on-sides h; same = refl; told = tt }
    alt-stops faults.NotFile p o c h = record { is = by-sides p o c ∙ ap on-sides h; same = refl; told = tt }
    alt-stops faults.Memory p o c h = refl
