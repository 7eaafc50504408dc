use Rattle.std.proofs.Common.{◌≡◌, ℕ, ◌/◌, ◌%◌, ◌<◌, ◌^◌, ap, arith}
use Rattle.std.specs.Hash.{le_bytes}
use Rattle.cov_order.specs.Hashing.{with_byte}
use Rattle.cov_order.proofs.hash.LineHasherHasher.write_u32.Goals as goal

-- a number has four bytes
of_bytes : (n : ℕ) → n < 2 ^ 32 → n ≡ with_byte (with_byte (with_byte (with_byte 0 (n % 256)) (n / 256 % 256)) (n / 65536 % 256)) (n / 16777216 % 256)
of_bytes n small = omega (arith, small)

pub returns : goal.returns
unfolding le_bytes
returns c = ap (λ n. record { number = n }) (of_bytes c.args.number c.ranges.number.fits)
