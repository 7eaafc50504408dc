-- Worked cases of the definitions.
use Rattle.std.proofs.Common.{◌≡◌, refl, inl, [], ◌∷◌, ◌++◌, arith}
use Rattle.std.specs.Prelude.{codes}
use Rattle.std.specs.Int.{w32, to_be_bytes}
use Rattle.sha2.specs.Sha256.{sha256, digest_bytes, hash_after, compress, rounds, schedule, first_words}
use Rattle.cov_journal.specs.Journal.{header, no_digest, next_digest, gate_place, IsWritten, Holds}
use Rattle.cov_journal.specs.Reading.{IsCut}

header_spelt : header ≡ codes "COVSTORE" ++ to_be_bytes w32 1
header_spelt = refl

-- the record of the command `option a`
digest_of_first : next_digest no_digest (1 ∷ 1 ∷ 97 ∷ [])
    ≡ 147 ∷ 247 ∷ 53 ∷ 91 ∷ 227 ∷ 241 ∷ 213 ∷ 211 ∷ 196 ∷ 216 ∷ 235 ∷ 143 ∷ 164 ∷ 23 ∷ 174 ∷ 210 ∷ 3 ∷ 103 ∷ 5 ∷ 49 ∷ 151 ∷ 206 ∷ 175 ∷ 224 ∷ 125 ∷ 41 ∷ 13 ∷ 220 ∷ 179 ∷ 241 ∷ 251 ∷ 221 ∷ []
unfolding sha256 digest_bytes hash_after compress rounds schedule first_words
digest_of_first = refl

-- the store that holds it alone has 53 bytes
place_behind_first : gate_place ((1 ∷ 1 ∷ 97 ∷ []) ∷ []) ≡ 52
place_behind_first = refl

-- a gate of 7 is closed, and what stands behind it is nothing
seven_is_closed : IsWritten (header ++ 7 ∷ 0 ∷ 0 ∷ 0 ∷ 3 ∷ []) []
seven_is_closed = record { gate = 7; rest = 0 ∷ 0 ∷ 0 ∷ 3 ∷ []; is_closed = λ e. omega (arith, e); bytes = refl }

-- any 13 bytes hold nothing
thirteen_bytes : Holds (1 ∷ 2 ∷ 3 ∷ 4 ∷ 5 ∷ 6 ∷ 7 ∷ 8 ∷ 9 ∷ 10 ∷ 11 ∷ 12 ∷ 13 ∷ []) []
thirteen_bytes = inl (refl, omega arith)

-- behind an open gate, one byte is no length
one_byte_is_cut : IsCut (0 ∷ [])
one_byte_is_cut = inl (omega arith)
