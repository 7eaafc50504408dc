use Rattle.std.proofs.Common.{◌≡◌, map, ap, ◌∙◌}
use Rattle.cov_view.specs.Ordering.{nodes_of, fault_among}
use Rattle.cov_view.specs.Soundness.{old_row, fault_in}
use Rattle.cov_view.proofs.Finding.{if-ok}
use Rattle.cov_view.proofs.Placed.{fault-is}
use Rattle.cov_view.proofs.soundness.first_fault.Goals as goal

pub returns : goal.returns
returns c =
    let rows = c.args.rows.now in
    if-ok c.first_among.result (λ fault. fault ≡ fault_among rows c.as_slice-2.result.now) (λ fault. fault ≡ fault_in (map old_row rows)) c.first_among.ensures
    (λ fault same. same
    ∙ ap (fault_among rows) (c.as_slice-2.ensures.value ∙ c.in_ok-order.ensures ∙ ap nodes_of c.as_slice.ensures.rows)
    ∙ fault-is rows c.requires c.as_slice.ensures.once)
