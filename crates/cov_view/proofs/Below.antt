-- The way from a node to what it lies below.
use Rattle.std.proofs.Common.{◌≡◌, ℕ, suc, ◌+◌, ◌-◌, ◌<◌, ◌≤◌, true, false, ◌||◌, List, Some, None, ap, ◌∙◌, arith}
use Rattle.std.specs.Option.{option_map_or}
use Rattle.cov_base.specs.declared.number.NodeRef.{NodeRef}
use Rattle.cov_view.specs.References.{same_node}
use Rattle.cov_view.specs.Seen.{row_at, lies_within}
use Rattle.cov_view.specs.declared.row.ViewRow.{ViewRow}

module _ (rows : List ViewRow) (n k : ℕ) (top at : NodeRef) where
  a_step : k < n → lies_within rows (n - k) top at ≡ (same_node at top || option_map_or (λ (r : ViewRow). lies_within rows (n - (k + 1)) top r.parent) (row_at rows at) false)
  a_step below = let e : n - k ≡ suc (n - (k + 1)) = omega (arith, below) in ap (λ m. lies_within rows m top at) e

  -- a step to the parent
  pub steps_on : (r : ViewRow) → k < n → same_node at top ≡ false → row_at rows at ≡ Some r → lies_within rows (n - k) top at ≡ lies_within rows (n - (k + 1)) top r.parent
  steps_on r below other row =
      a_step below ∙ ap (λ b. b || option_map_or (λ (q : ViewRow). lies_within rows (n - (k + 1)) top q.parent) (row_at rows at) false) other
      ∙ ap (λ o. option_map_or (λ (q : ViewRow). lies_within rows (n - (k + 1)) top q.parent) o false) row

  -- the node is reached
  pub here_within : k < n → same_node at top ≡ true → lies_within rows (n - k) top at ≡ true
  here_within below same = a_step below ∙ ap (λ b. b || option_map_or (λ (q : ViewRow). lies_within rows (n - (k + 1)) top q.parent) (row_at rows at) false) same

  -- the way ends
  pub nowhere_within : k < n → same_node at top ≡ false → row_at rows at ≡ None → lies_within rows (n - k) top at ≡ false
  nowhere_within below other none =
      a_step below ∙ ap (λ b. b || option_map_or (λ (q : ViewRow). lies_within rows (n - (k + 1)) top q.parent) (row_at rows at) false) other
      ∙ ap (λ o. option_map_or (λ (q : ViewRow). lies_within rows (n - (k + 1)) top q.parent) o false) none

  -- no step is left
  pub steps_done : n ≤ k → lies_within rows (n - k) top at ≡ same_node at top
  steps_done past = let e : n - k ≡ 0 = omega (arith, past) in ap (λ m. lies_within rows m top at) e
