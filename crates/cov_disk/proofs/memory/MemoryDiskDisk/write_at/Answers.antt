use Rattle.std.proofs.Common.{length, subst}
use Rattle.cov_disk.specs.Images.{Torn, Follows}
use Rattle.cov_disk.specs.Kept.{IsImageNow}
use Rattle.cov_io.specs.InMemory.{counted}
use Rattle.cov_disk.specs.InMemory.{DiskState, Misses}
use Rattle.cov_disk.proofs.memory.MemoryDiskDisk.write_at.Goals as goal

pub returns-then-next_fails-clause-crash : goal.returns-then-next_fails-clause-crash
returns-then-next_fails-clause-crash c =
    subst (λ (d : DiskState). Follows (Torn c.args.at (length c.args.bytes.now)) (IsImageNow d.kept.log d.kept.content) (IsImageNow c.miss.new.self.kept.log c.miss.new.self.kept.content)) c.self.view_is c.miss.ensures.crash

pub returns-in-Ok-clause-crash : goal.returns-in-Ok-clause-crash
returns-in-Ok-clause-crash c =
    subst (λ (d : DiskState). Follows (Torn c.args.at (length c.args.bytes.now)) (IsImageNow d.kept.log d.kept.content) (IsImageNow c.write.new.self.log c.write.new.self.content)) c.self.view_is c.in-Ok.ensures.crash

pub returns-then-next_fails-clause-logged : goal.returns-then-next_fails-clause-logged
returns-then-next_fails-clause-logged c =
    subst (λ (d : DiskState). Misses c.args.at (length c.args.bytes.now) (record d { calls = counted d.calls }) c.miss.new.self) c.self.view_is
    (subst (λ calls. Misses c.args.at (length c.args.bytes.now) (record { kept = c.self.inside.kept; calls = calls }) c.miss.new.self) c.next_fails.ensures.counted c.miss.ensures.misses)
