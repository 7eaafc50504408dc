use Rattle.cov_lines.proofs.state.ServerState.set_side.Goals as goal

pub invariant_of-self-in_err-reply_plain : goal.invariant_of-self-in_err-reply_plain
invariant_of-self-in_err-reply_plain c = c.in_ok-side-2.ensures.open c.self.inside.engine.history c.self.invariant

pub invariant_of-self-2 : goal.invariant_of-self-2
invariant_of-self-2 c = c.in_ok-side-2.ensures.open c.self.inside.engine.history c.self.invariant
