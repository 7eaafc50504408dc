-- What the bytes of a text stand for, and what is written over them.
use Rattle.std.specs.Prelude.{ℕ, ◌+◌, List, ◌++◌, length, take, drop, ◌≡◌}
use Rattle.cov_base.specs.declared.bytes.Bytes.{Bytes}
use Rattle.cov_base.specs.declared.bytes.Bytes.TheVariants as bytes

-- the bytes, whether they have one owner or several
abbrev pub bytes_of : Bytes → List ℕ
bytes_of (bytes.Own own) = own.items
bytes_of (bytes.Shared shared) = shared.value.items

-- new is old with these bytes from a place on
abbrev pub Written : ℕ → List ℕ → List ℕ → List ℕ → Type 0
Written at bytes old new = new ≡ take at old ++ bytes ++ drop (at + length bytes) old
