use Rattle.std.proofs.Common.{suc, nat_lt, rules, of_calls, sym, ap, subst, ◌∙◌}
use Rattle.std.proofs.lemmas.List.Sorted.{IsPartitionPoint-from_clause}
use Rattle.cov_edit.specs.Touched.{AreRising}
use Rattle.cov_visible.specs.Parts.{count_below}
use Rattle.cov_visible.proofs.CallerLemmas.{count-rising, parted-rising}
use Rattle.cov_engine.proofs.option_positions.OptionPositions.count_up_to.Goals as goal

pub returns : goal.returns
returns c =
    let ps = c.as_slice.result.now in
    let x = suc c.args.base in
    let here = c.as_slice.ensures.value ∙ c.self.view_is in
    count-rising x ps c.partition_point-count.result c.partition_point-count.ensures.bound
    (IsPartitionPoint-from_clause (λ p. nat_lt p x) ps c.partition_point-count.result c.partition_point-count.ensures.partitioned
    (parted-rising x ps (subst AreRising (sym here) c.requires)) (λ a r f k. search (rules, of_calls)))
    ∙ ap (count_below x) here
