use Rattle.cov_lines.proofs.state.ServerState.discard.Goals as goal

pub invariant_of-self-in_err-reply_plain : goal.invariant_of-self-in_err-reply_plain
invariant_of-self-in_err-reply_plain c = c.in_ok-discard.ensures.open c.self.inside.engine.history c.self.invariant

pub invariant_of-self-2 : goal.invariant_of-self-2
invariant_of-self-2 c = c.in_ok-discard.ensures.open c.self.inside.engine.history c.self.invariant
