-- The pseudo random numbers of the generated script.
use Rattle.std.specs.Prelude.{ℕ, zero, suc, ◌+◌, ◌*◌, ◌/◌, ◌%◌, ◌^◌}

-- the state behind a state
abbrev pub next_state : ℕ → ℕ
next_state x = (x * 6364136223846793005 + 1442695040888963407) % 2 ^ 64

-- the number that is drawn as a state is reached
abbrev pub drawn : ℕ → ℕ
drawn x = x / 2 ^ 33

-- the state after so many numbers
unfoldable pub state_after : ℕ → ℕ → ℕ
state_after zero x = x
state_after (suc count) x = next_state (state_after count x)

-- the number that is drawn as the first, the second and so on from a state on, what is left of it by a bound
abbrev pub draw : ℕ → ℕ → ℕ → ℕ
draw x count bound = drawn (state_after count x) % bound
