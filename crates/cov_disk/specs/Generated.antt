-- The image that a generator makes from a seed, where bytes were written since the last sync.
use Rattle.std.specs.Prelude.{ℕ, zero, suc, ◌+◌, ◌-◌, ◌*◌, ◌/◌, ◌%◌, ◌^◌, max, min, List, [], ◌∷◌, ◌++◌, length, take, drop}
use Rattle.cov_disk.specs.declared.kept.Logged.{Logged}
use Rattle.cov_disk.specs.declared.kept.Logged.TheVariants.{Wrote, Missed, Synced}

-- the state behind a state
abbrev pub next_state : ℕ → ℕ
next_state x = (x * 6364136223846793005 + 1442695040888963407) % 2 ^ 64

-- the number and the byte that are drawn as a state is reached
abbrev pub drawn : ℕ → ℕ
drawn x = x / 2 ^ 33

abbrev pub byte_of : ℕ → ℕ
byte_of x = drawn x % 256

-- the state after so many more
abbrev pub state_after : ℕ → ℕ → ℕ
state_after zero x = x
state_after (suc n) x = next_state (state_after n x)

-- so many bytes, drawn from a state on
abbrev pub bytes_from : ℕ → ℕ → List ℕ
bytes_from zero x = []
bytes_from (suc n) x = bytes_from n x ++ byte_of (next_state (state_after n x)) ∷ []

-- where a range ends, of which the greatest count is the limit
abbrev pub range_end : ℕ → ℕ → ℕ
range_end at n = min (at + n) (2 ^ 64 - 1)

-- how many places of a range there are among so many
abbrev pub places : ℕ → ℕ → ℕ → ℕ
places at n size = min (range_end at n) size - at

-- drawn bytes in a range, as far as there are bytes
abbrev pub scrambled : ℕ → ℕ → ℕ → List ℕ → List ℕ
scrambled at n x image =
    let count = places at n (length image) in
    take at image ++ bytes_from count x ++ drop (at + count) image

-- an image that is torn, how far was written, and the generator's state
pub record Tearing : Type 0 where
  pub image : List ℕ
  pub reach : ℕ
  pub state : ℕ

abbrev pub tearing : List ℕ → ℕ → ℕ → Tearing
tearing image reach state = record { image = image; reach = reach; state = state }

-- torn in one range
abbrev pub torn_in : ℕ → ℕ → Tearing → Tearing
torn_in at n t =
    tearing (scrambled at n t.state t.image) (max t.reach (range_end at n)) (state_after (places at n (length t.image)) t.state)

-- torn in each range of a log back to its last sync, the newest first
abbrev pub torn_by : List Logged → Tearing → Tearing
torn_by [] t = t
torn_by (Wrote at n over ∷ log) t = torn_by log (torn_in at n t)
torn_by (Missed at n ∷ log) t = torn_by log (torn_in at n t)
torn_by (Synced ∷ log) t = t

-- a number from one to another
abbrev pub between : ℕ → ℕ → ℕ → ℕ
between low high x = low + drawn x % min (high - low + 1) (2 ^ 64 - 1)

-- so many of the bytes, with drawn ones behind where there are fewer
abbrev pub resized : List ℕ → ℕ → ℕ → List ℕ
resized image wanted x = take wanted image ++ bytes_from (wanted - length (take wanted image)) x

-- of some length, from what the last sync left to the furthest that was written
abbrev pub cut_at : ℕ → Tearing → List ℕ
cut_at synced t =
    let x = next_state t.state in
    resized t.image (between synced (max synced t.reach) x) x

-- the image of a seed, where the last sync left so many bytes
abbrev pub torn_image : ℕ → ℕ → List Logged → List ℕ → List ℕ
torn_image seed synced log bytes = cut_at synced (torn_by log (tearing bytes 0 seed))
