use Rattle.std.proofs.Common.{◌≡◌, take}
use Rattle.std.specs.List.{fold}
use Rattle.cov_order.specs.Hashing.{with_byte}
use Rattle.cov_order.proofs.hash.LineHasherHasher.write.Given as goal

abbrev pub invariant-bytes : goal.invariant-bytes
invariant-bytes l = l.number ≡ fold with_byte 0 (take l.byte-index l.bytes)
