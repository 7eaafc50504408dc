-- What is drawn of a commit of the generated script.
use Rattle.std.proofs.Common.{◌≡◌, ℕ, ◌+◌, ◌%◌, ap, ◌∙◌}
use Rattle.cov_script.specs.Commits.{ambition_of, kind_of, plan_of}
use Rattle.cov_script.specs.Draws.{next_state, drawn, state_after}

module _ (x a b c d : ℕ) (first : a ≡ next_state x) (second : b ≡ next_state a) (third : c ≡ next_state b) (fourth : d ≡ next_state c) where
  -- the states of four numbers
  one : a ≡ state_after 1 x
  unfolding state_after
  one = first

  two : b ≡ state_after 2 x
  unfolding state_after
  two = second ∙ ap next_state one

  three : c ≡ state_after 3 x
  unfolding state_after
  three = third ∙ ap next_state two

  pub four : d ≡ state_after 4 x
  unfolding state_after
  four = fourth ∙ ap next_state three

  -- what the four numbers make is the plan
  pub planned : (on other number file : ℕ) → on ≡ drawn a % 58 → other ≡ drawn b % 58 → number ≡ drawn c % 4 → file ≡ drawn d % 64
      → record { on = 6 + on; other = 6 + other; ambition = ambition_of (kind_of (6 + on) (6 + other) number); file = file } ≡ plan_of x
  planned on other number file on-is other-is number-is file-is =
      let o = on-is ∙ ap (λ s. drawn s % 58) one in
      let p = other-is ∙ ap (λ s. drawn s % 58) two in
      let q = number-is ∙ ap (λ s. drawn s % 4) three in
      let f = file-is ∙ ap (λ s. drawn s % 64) four in
      cc
