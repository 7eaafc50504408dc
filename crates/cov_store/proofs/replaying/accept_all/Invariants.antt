use Rattle.std.proofs.Common.{◌≡◌, ◌≤◌, ◌-◌, length}
use Rattle.cov_journal.specs.Moments.{KeepsImages}
use Rattle.cov_store.specs.Replaying.{StandsBehind}
use Rattle.cov_store.proofs.replaying.accept_all.Given as goal

abbrev pub invariant-records : goal.invariant-records
invariant-records g l = record {
  behind : StandsBehind (g.D.Disk.contents l.disk) l.reader l.engine.history;
  same : g.D.Disk.contents l.disk ≡ g.D.Disk.contents l.fn.disk;
  images : KeepsImages g.D.Disk.images g.D.Disk.moment g.D.Disk.images_since l.fn.disk l.disk;
  later : g.D.Disk.faults l.fn.disk ≤ g.D.Disk.faults l.disk;
}

abbrev pub decreases-records : goal.decreases-records
decreases-records g l = 1048577 - length l.engine.history
