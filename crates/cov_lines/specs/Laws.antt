-- Laws of the model's step.
use Rattle.std.specs.Prelude.{◌≡◌, ◌≢◌, ◌↔◌, ℕ, ◌<◌, true, false, nat_le, nat_lt, List, [], ◌∷◌, codes, length, take, Ok, Err, if◌then◌else◌}
use Rattle.cov_base.specs.declared.limits.TheConstants.{MOST_SCRIPT_LINE_BYTES}
use Rattle.std.proofs.Common.{ap, arith, refl, ◌∙◌}
use Rattle.std.proofs.lemmas.Bool.{and_parts, false≢true}
use Rattle.std.proofs.lemmas.Bool.Decides.{nat_tests}
use Rattle.cov_script.specs.Grouping.{grouped}
use Rattle.cov_script.specs.Lines.{form_of, spoken}
use Rattle.cov_script.specs.declared.code.Code.TheVariants.{Long}
use Rattle.cov_script.specs.declared.line.Line.TheVariants as lines
use Rattle.cov_loop.specs.Answers.{answer_of, is_silent, is_passed_over}
use Rattle.cov_loop.specs.declared.answer.Answer.TheVariants.{Refused}
use Rattle.cov_loop.specs.Outcome.{Outcome, unchanged}
use Rattle.cov_codes.specs.Codes.{syntax_code}
use Rattle.cov_lines.specs.Finding.{Found, ◌>>=◌, by_code}
use Rattle.cov_lines.specs.Growth.{no_reply, nothing_served, without_reply}
use Rattle.cov_lines.specs.States.{State}
use Rattle.cov_lines.specs.Step.{Done, acted, as_outcome, refused, served, step}

told_so : (st : State) (act : Found Done) → (as_outcome st act).is_refused ≡ true → (as_outcome st act).reply ≢ []
told_so st (Ok done) h = λ e. false≢true h
told_so st (Err code) h = λ e. false≢true (ap no_reply e)

kept_so : (st : State) (act : Found Done) → (as_outcome st act).is_refused ≡ true → (as_outcome st act).state ≡ st
kept_so st (Ok done) h = absurd (false≢true h)
kept_so st (Err code) h = refl

-- a refused line changes nothing
pub refused_kept : (st : State) (line : List ℕ) → (step st line).is_refused ≡ true → (step st line).state ≡ st
unfolding step
refused_kept st line h = kept_so st (acted st line) h

-- a refused line has a reply
pub refusal_told : (st : State) (line : List ℕ) → (step st line).is_refused ≡ true → (step st line).reply ≢ []
unfolding step
refusal_told st line h = told_so st (acted st line) h

-- a line of too many bytes is refused, whatever it says
pub long_refused : (st : State) (line : List ℕ) → MOST_SCRIPT_LINE_BYTES < length line → step st line ≡ refused st Long
unfolding step acted
long_refused st line long = ap (λ b. as_outcome st ((if b then Err Long else Ok line) >>= (λ short. by_code syntax_code (form_of short) >>= (λ form. served st (grouped form))))) (over long)
  where
    over : MOST_SCRIPT_LINE_BYTES < length line → nat_lt MOST_SCRIPT_LINE_BYTES (length line) ≡ true
    over h = grind (arith, nat_tests, h)

-- a line of too many bytes changes nothing
pub long_kept : (st : State) (line : List ℕ) → MOST_SCRIPT_LINE_BYTES < length line → (step st line).state ≡ st
long_kept st line long = ap (λ o. o.state) (long_refused st line long)

-- a line without a reply writes no row
pub rows_told : (st : State) (line : List ℕ) → (step st line).reply ≡ [] → (step st line).rows ≡ []
rows_told st line h = ap (λ (o : Outcome State). o.rows) (without_reply st line h).1

-- an empty line or a comment does nothing
silent_form : (line : List ℕ) → is_silent line ≡ true → form_of line ≡ Ok lines.Nothing
silent_form [] silent = refl
silent_form (b ∷ bs) silent = ap (λ hash. if hash then Ok lines.Nothing else spoken (b ∷ bs)) silent

pub silent_kept : (st : State) (line : List ℕ) → is_passed_over line ≡ true → step st line ≡ unchanged st
unfolding step acted
silent_kept st line passed =
    let parts = and_parts (nat_le (length line) MOST_SCRIPT_LINE_BYTES) (is_silent line) passed in
    ap (λ b. as_outcome st ((if b then Err Long else Ok line) >>= (λ short. by_code syntax_code (form_of short) >>= (λ form. served st (grouped form))))) (short parts.0)
    ∙ ap (λ form. as_outcome st (by_code syntax_code form >>= (λ f. served st (grouped f)))) (silent_form line parts.1)
    ∙ ap (as_outcome st) (nothing_served st)
  where
    short : nat_le (length line) MOST_SCRIPT_LINE_BYTES ≡ true → nat_lt MOST_SCRIPT_LINE_BYTES (length line) ≡ false
    short h = grind (arith, nat_tests, h)

-- a line of each form but that of the empty line and the comment has a reply
abbrev pub FormsAreAnswered : Type 0
FormsAreAnswered = (st : State) (line : List ℕ) → form_of line ≢ Ok lines.Nothing → (step st line).reply ≢ []

-- a reply begins with the word refused exactly where the line is refused
abbrev pub RefusalsSaySo : Type 0
RefusalsSaySo = (st : State) (line : List ℕ) → (answer_of (step st line) ≡ Refused) ↔ (take 7 (step st line).reply ≡ codes "refused")
