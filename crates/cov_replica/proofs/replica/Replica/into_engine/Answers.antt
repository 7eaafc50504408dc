use Rattle.std.proofs.Common.{◌≡◌, ◌∙◌, ap, subst}
use Rattle.cov_replica.specs.Taken.{taken}
use Rattle.cov_replica.proofs.Steps.{history_taken}
use Rattle.cov_replica.proofs.replica.Replica.into_engine.Goals as goal

pub returns : goal.returns
returns c =
    let r = c.self.inside.reading in
    ap (λ e. e.history) c.into_engine.ensures
    ∙ subst (λ bytes. r.engine.history ≡ (taken bytes).history) c.self.view_is (history_taken r.bytes.items r.at r.digest r.engine.history c.self.inside.fault c.self.invariant)
