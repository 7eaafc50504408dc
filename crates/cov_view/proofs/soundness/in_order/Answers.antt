use Rattle.std.proofs.Common.{map, sym, ap, ◌∙◌}
use Rattle.std.proofs.lemmas.List.Sorted.{IsNonDecreasingBy-from_sort, sum_by-IsPermutation}
use Rattle.cov_view.specs.Ordering.{nodes_of}
use Rattle.cov_view.specs.Soundness.{old_row}
use Rattle.cov_view.proofs.Ordered.{one_at, count, count-order, count-sum, rises_from, rises-order, rising-one}
use Rattle.cov_view.proofs.Placed.{numbers-are}
use Rattle.cov_view.proofs.soundness.in_order.Goals as goal

pub returns : goal.returns
returns c =
    let rows = c.args.rows.now in
    let sorted = c.sort_unstable.new.self.items in
    rising-one sorted (nodes_of rows)
    (rises_from sorted (IsNonDecreasingBy-from_sort (λ n. n) sorted c.sort_unstable.ensures.sorted))
    (rises-order (map old_row rows))
    (λ z. sym (count-sum z sorted) ∙ sum_by-IsPermutation (one_at z) c.in_ok-order.order.items sorted c.sort_unstable.ensures.permutation ∙ count-sum z c.in_ok-order.order.items ∙ ap (count z) (c.in_ok-order.ensures ∙ numbers-are rows) ∙ sym (count-order z (map old_row rows)))
