-- What the replies to refusals begin with.
use Rattle.std.proofs.Common.{◌≡◌, ◌∙◌, inl, inr, ◌⊎◌, refl, sym, ap, ℕ, Bool, true, false, List, [], ◌∷◌, Ok, Err, get_or, arith}
use Rattle.std.specs.Prelude.{codes, take}
use Rattle.std.proofs.lemmas.Bool.{false≢true}
use Rattle.cov_loop.specs.Answers.{is_refusal, kind_of}
use Rattle.cov_loop.specs.declared.answer.Answer.TheVariants.{Refused}
use Rattle.cov_lines.specs.Finding.{Found}
use Rattle.cov_lines.specs.Growth.{accepted_says_ok, says_ok}
use Rattle.cov_lines.specs.Laws.{RefusalsSaySo}
use Rattle.cov_lines.specs.States.{State}
use Rattle.cov_lines.specs.Step.{Done, acted, as_outcome, step}

-- a refusal is of a line that is refused
refuses : (reply : List ℕ) (is_refused : Bool) → kind_of reply is_refused ≡ Refused → is_refused ≡ true
refuses [] is_refused h = absurd (false≢true (ap is_refusal h))
refuses (b ∷ bs) true h = refl
refuses (b ∷ bs) false h = absurd (false≢true (ap is_refusal h))

-- what begins with refused is a reply, and doesn't begin with ok
has-reply : (reply : List ℕ) → take 7 reply ≡ codes "refused" → kind_of reply true ≡ Refused
has-reply [] h = absurd (omega (arith, ap (λ bytes. get_or bytes 0 0) h))
has-reply (b ∷ bs) h = refl

says-other : (reply : List ℕ) → take 7 reply ≡ codes "refused" → says_ok reply ≡ false
says-other [] h = refl
says-other (b ∷ bs) h =
    let first : b ≡ 114 = ap (λ bytes. get_or bytes 0 0) h in
    ap (λ byte. says_ok (byte ∷ bs)) first

told-so : (st : State) (act : Found Done) → (as_outcome st act).is_refused ≡ true → take 7 (as_outcome st act).reply ≡ codes "refused"
told-so st (Ok done) h = absurd (false≢true h)
told-so st (Err code) h = refl

refused-says : (st : State) (line : List ℕ) → (step st line).is_refused ≡ true → take 7 (step st line).reply ≡ codes "refused"
unfolding step
refused-says st line h = told-so st (acted st line) h

-- what is accepted doesn't begin so
accepted-says : (reply : List ℕ) → (reply ≡ []) ⊎ (says_ok reply ≡ true) → take 7 reply ≡ codes "refused" → ⊥
accepted-says reply (inl none) h = false≢true (ap is_refusal (sym (ap (λ r. kind_of r true) none) ∙ has-reply reply h))
accepted-says reply (inr ok) h = false≢true (sym (says-other reply h) ∙ ok)

pub say-so : RefusalsSaySo
say-so st line = (
  λ is. refused-says st line (refuses (step st line).reply (step st line).is_refused is),
  λ says. ap (kind_of (step st line).reply) (is-refused says) ∙ has-reply (step st line).reply says,
)
  where
    is-refused : take 7 (step st line).reply ≡ codes "refused" → (step st line).is_refused ≡ true
    is-refused says = at (step st line).is_refused refl
      where
        at : (b : Bool) → (step st line).is_refused ≡ b → b ≡ true
        at true is = refl
        at false is = absurd (accepted-says (step st line).reply (accepted_says_ok st line is) says)
