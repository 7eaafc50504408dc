-- The hash of a line's number.
use Rattle.std.specs.Prelude.{ℕ, ◌+◌, ◌*◌, ◌/◌, ◌%◌, List}
use Rattle.std.specs.List.{fold}
use Rattle.cov_order.specs.declared.hash.LineHasher.{LineHasher}
use Rattle.cov_order.specs.declared.hash.TheConstants.{SPREAD}

-- the number with a byte more, its highest, once the lowest is gone
abbrev pub with_byte : ℕ → ℕ → ℕ
with_byte number byte = number / 256 + byte * 16777216

-- the number that the last four bytes are
abbrev pub with_bytes : LineHasher → List ℕ → LineHasher
with_bytes hasher bytes = record { number = fold with_byte 0 bytes }

-- the last three bits first, then bits of a multiple of all but the last five, and at the end the two between
abbrev pub hash_of : LineHasher → ℕ
hash_of hasher = (hasher.number / 32) * SPREAD / 65536 % 134217728 * 4 + hasher.number / 8 % 4 + (hasher.number % 8) * 536870912
