-- Fields by their kinds.
use Rattle.std.proofs.Common.{◌≡◌, ℕ, ◌-◌, true, false, List, [], ◌∷◌, length, Result, Err, refl, ap, ◌∙◌, arith}
use Rattle.cov_script.specs.Fields.{Rest, field, go_on, taken, place, behind, first_field}
use Rattle.cov_script.specs.Kinds.{Kind, Expression, Text, is_of, ends_at_space}
use Rattle.cov_script.specs.Mistakes.{IsWrong}
use Rattle.cov_script.specs.declared.line.LineSyntax.{LineSyntax}
use Rattle.cov_script.specs.declared.line.LineSyntax.TheVariants.{Syntax}
use Rattle.cov_script.proofs.Checking.{passed, test}

-- no empty field is of a kind that ends at a space
pub empty_is_wrong : (kind : Kind) → ends_at_space kind ≡ true → is_of kind [] ≡ false
empty_is_wrong Expression ends = cc
empty_is_wrong Text ends = cc
empty_is_wrong kind ends = refl

-- a field that ends at a space is mistaken at its first byte
pub wrong_at_first : (kind : Kind) (bytes : List ℕ) → ends_at_space kind ≡ true → is_of kind bytes ≡ false → IsWrong kind bytes 0
wrong_at_first Expression bytes ends h = cc
wrong_at_first Text bytes ends h = cc
wrong_at_first kind bytes ends h = (h, refl)

pub first_is_wrong : (kind : Kind) (bytes : List ℕ) (within : ℕ) → ends_at_space kind ≡ true → IsWrong kind bytes within → (is_of kind bytes ≡ false) × (within ≡ 0)
first_is_wrong Expression bytes within ends h = cc
first_is_wrong Text bytes within ends h = cc
first_is_wrong kind bytes within ends h = h

module _ (kind : Kind) (later : Rest → Result (Unit {0}) LineSyntax) (size : ℕ) where
  -- a field that isn't of its kind stops the reading at its first byte
  pub wrong_stops : (ahead : List ℕ) → is_of kind (first_field ahead) ≡ false → go_on (field (test kind) (size, 32 ∷ ahead)) (λ a. later a.1) ≡ Err (Syntax (size - length ahead))
  wrong_stops ahead wrong =
      ap (λ b. go_on (taken (place (size, 32 ∷ ahead)) (behind (size, 32 ∷ ahead)) (passed b)) (λ a. later a.1)) wrong

  -- a field that is missing stops it at the line's length
  pub missing_stops : ends_at_space kind ≡ true → go_on (field (test kind) (size, [])) (λ a. later a.1) ≡ Err (Syntax size)
  missing_stops ends =
      let at_end : size - 0 ≡ size = omega arith in
      ap (λ b. go_on (taken (place (size, [])) (behind (size, [])) (passed b)) (λ a. later a.1)) (empty_is_wrong kind ends)
      ∙ ap (λ n. Err (Syntax n)) at_end
