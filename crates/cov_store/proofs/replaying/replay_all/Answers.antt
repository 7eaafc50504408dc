use Rattle.cov_store.proofs.Replays.{fault_verdict}
use Rattle.cov_store.proofs.replaying.replay_all.Goals as goal

pub returns-in-Err-accept_all-clause-verdict : goal.returns-in-Err-accept_all-clause-verdict
returns-in-Err-accept_all-clause-verdict g c =
    fault_verdict (g.D.Disk.contents c.args.disk.now) c.accept_all.new.engine.history c.in-Err-accept_all.halt c.fault_of.result c.in-Err-accept_all.ensures.halts c.fault_of.ensures
