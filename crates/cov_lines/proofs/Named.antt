-- A file that a line names in the variant of a choice, as it is refused.
use Rattle.std.proofs.Common.{◌≡◌, ap, sym, subst, ℕ, Bool, List, Ok}
use Rattle.cov_edit.specs.Replay.{replay}
use Rattle.cov_hist.specs.Origins.{blame}
use Rattle.cov_lines.specs.Acting.{Stops}
use Rattle.cov_lines.specs.Finding.{Found, ◌>>=◌, found_choice}
use Rattle.cov_lines.specs.Replies.{blamed_line, lines_reply}
use Rattle.cov_lines.specs.States.{State}
use Rattle.cov_lines.specs.Step.{blamed, conditions_told, file_exported, file_in}
use Rattle.cov_lines.proofs.Acted.{stops-later}
use Rattle.cov_codes.specs.declared.stop.Stop.{Stop}

module _ (st : State) (bindings : List (List ℕ × Bool)) (path : List (List ℕ)) (c : List Bool) (stop : Stop) where
  -- what stops at the file stops what comes of it
  file-stops-later : {Y : Type 0} (later : List Bool → ℕ → Found Y) → found_choice st.history bindings ≡ Ok c → Stops (file_in (replay c st.history) path) st st stop
      → Stops (found_choice st.history bindings >>= (λ d. file_in (replay d st.history) path >>= later d)) st st stop
  file-stops-later later found h =
      subst (λ wanted. Stops wanted st st stop) (sym (ap (λ f. f >>= (λ d. file_in (replay d st.history) path >>= later d)) found))
      (stops-later (file_in (replay c st.history) path) (later c) st st stop h)

  -- a file whose lines can't be told with their commits
  pub blame-stops : found_choice st.history bindings ≡ Ok c → Stops (file_in (replay c st.history) path) st st stop → Stops (blamed st bindings path) st st stop
  unfolding blamed
  blame-stops found h = file-stops-later (λ d file. Ok (st, lines_reply blamed_line (blame st.history d file))) found h

  -- one whose conditional text can't be told
  pub conditions-stop : found_choice st.history bindings ≡ Ok c → Stops (file_in (replay c st.history) path) st st stop → Stops (conditions_told st bindings path) st st stop
  unfolding conditions_told
  conditions-stop found h = file-stops-later (λ d file. file_exported st file) found h
