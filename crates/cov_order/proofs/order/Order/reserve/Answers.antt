use Rattle.cov_order.proofs.order.Order.reserve.Goals as goal

pub invariant_of-self : goal.invariant_of-self
invariant_of-self c = (c.in_err-reserve.ensures.paged, c.in_err-reserve.ensures.kept c.self.inside.room c.self.invariant.1)
