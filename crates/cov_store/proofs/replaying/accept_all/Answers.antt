use Rattle.std.proofs.Common.{arith}
use Rattle.cov_store.proofs.Legal.{legal-few}
use Rattle.cov_store.proofs.replaying.accept_all.Goals as goal

pub records-smaller : goal.records-smaller
records-smaller g c =
    let steps = rw c.in-Ok-On.field-0-is at c.in-Ok-On.ensures.steps in
    omega (arith, steps.0, legal-few c.accept_next.new.engine.history steps.1.legal)
