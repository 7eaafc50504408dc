-- Worked cases of the definitions.
use Rattle.std.proofs.Common.{◌≡◌, [], ◌∷◌, Some, refl, codes, false, lit≤}
use Rattle.cov_io.specs.Devices.{Reads, AppendsSome}
use Rattle.cov_io.specs.InMemory.{FailsToWrite, raised}
use Rattle.cov_io.specs.Items.{Gives}
use Rattle.cov_io.specs.Progress.{potential}
use Rattle.cov_io.specs.declared.reading.Item.TheVariants.{Line, End}

-- the line before a byte 10
ended_line : Gives (codes "ab\n\ncd") (codes "\ncd") (Line (codes "ab"))
ended_line = (refl, lit≤ tt)

-- an empty line
empty_line : Gives (codes "\ncd") (codes "cd") (Line [])
empty_line = (refl, lit≤ tt)

-- the last line without a byte 10
last_line : Gives (codes "cd") [] (Line (codes "cd"))
last_line = (refl, lit≤ tt)

-- no line behind the last byte 10
no_line : Gives [] [] End
no_line = (refl, refl)

-- a read of two bytes of three
two_of_three : Reads 2 (codes "ab..") (Some (codes "abc")) (Some (codes "c"))
two_of_three = (refl, λ e. cc)

-- the end
nothing_left : Reads 0 (codes "....") (Some []) (Some [])
nothing_left = (refl, λ e. refl)

-- a write of the first bytes alone
first_bytes : AppendsSome (codes "cde") (Some (codes "ab")) (Some (codes "abcd"))
first_bytes = (codes "cd", codes "e", refl, refl)

-- three bytes ahead and one taken
bound : potential (record { ahead = codes "abc"; taken = 1; ended = false }) ≡ 18446744073709551618
bound = refl

-- the second call of a sink whose second call fails
second_fails : FailsToWrite
    (record { written = codes "a"; fail = 2 ∷ []; calls = 1; faults = 0; starved = 0 })
    (record { written = codes "a"; fail = 2 ∷ []; calls = 2; faults = 1; starved = 0 })
second_fails = refl

-- a count at its greatest value
stays : raised 18446744073709551615 ≡ 18446744073709551615
stays = refl
