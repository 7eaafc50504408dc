-- The parts of a generated script.
use Rattle.std.proofs.Common.{◌≡◌, ◌∙◌, refl, ap, ℕ, ◌+◌, ◌-◌, ◌≤◌, arith, List, ◌++◌, length, take, drop, length-append}
use Rattle.std.proofs.Math.Seq.{take-append_seam, drop-append_seam}
use Rattle.std.specs.Fmt.{digits}
use Rattle.cov_script.specs.Commits.{each_below}
use Rattle.cov_script.specs.Demonstration.{checkout_lines, demo_text, made_lines}

checkouts_size : length checkout_lines ≡ 147
unfolding each_below digits
checkouts_size = refl

pub parts_are : (number : ℕ) → demo_text number ≡ made_lines number ++ checkout_lines
unfolding demo_text
parts_are number = refl

module _ (number : ℕ) (text : List ℕ) (is : text ≡ demo_text number) where
  whole : text ≡ made_lines number ++ checkout_lines
  whole = is ∙ parts_are number

  size : length text ≡ length (made_lines number) + 147
  size = ap length whole ∙ length-append (made_lines number) checkout_lines ∙ ap (λ n. length (made_lines number) + n) checkouts_size

  place : length text - 147 ≡ length (made_lines number)
  place = omega (arith, size)

  pub has_checkouts : 147 ≤ length text
  has_checkouts = omega (arith, size)

  pub made_is : take (length text - 147) text ≡ made_lines number
  made_is = ap (λ n. take n text) place ∙ ap (take (length (made_lines number))) whole ∙ take-append_seam (made_lines number) checkout_lines

  pub told_is : drop (length text - 147) text ≡ checkout_lines
  told_is = ap (λ n. drop n text) place ∙ ap (drop (length (made_lines number))) whole ∙ drop-append_seam (made_lines number) checkout_lines
