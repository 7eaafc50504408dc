-- Worked cases of the definitions.
use Rattle.std.proofs.Common.{◌≡◌, ◌⊎◌, inl, inr, refl, ℕ, zero, suc, ◌<◌, ◌≤◌, true, false, [], ◌∷◌, slice_index, Some, arith}
use Rattle.cov_base.specs.Texts.{Written}
use Rattle.cov_disk.specs.Images.{Torn}
use Rattle.cov_disk.specs.Generated.{torn_image}
use Rattle.cov_disk.specs.Kept.{undone, unsynced, IsImageNow}
use Rattle.cov_io.specs.InMemory.{fails_next}
use Rattle.cov_disk.specs.declared.kept.Logged.TheVariants.{Wrote, Missed, Synced}

-- two bytes over the last one and past the end
past_the_end : Written 2 (8 ∷ 9 ∷ []) (1 ∷ 2 ∷ 3 ∷ []) (1 ∷ 2 ∷ 8 ∷ 9 ∷ [])
past_the_end = refl

-- the same write, undone by what was written over
undone_again : undone 2 2 (3 ∷ []) (1 ∷ 2 ∷ 8 ∷ 9 ∷ []) ≡ 1 ∷ 2 ∷ 3 ∷ []
undone_again = refl

-- cut short, it may have changed its first byte alone
cut_short : Torn 2 2 (1 ∷ 2 ∷ 3 ∷ []) (1 ∷ 2 ∷ 7 ∷ [])
cut_short = record { before = refl; after = refl; no_shorter = omega arith; no_longer = omega arith }

-- what the last sync left, how far was written since, and where
since_the_sync : unsynced (Missed 1 1 ∷ Wrote 2 2 (3 ∷ []) ∷ Synced ∷ []) (1 ∷ 2 ∷ 8 ∷ 9 ∷ [])
    ≡ record { synced = 1 ∷ 2 ∷ 3 ∷ []; greatest = 4; ranges = (1, 1) ∷ (2, 2) ∷ [] }
since_the_sync = refl

-- the seed 3 makes drawn bytes of both ranges, and then a length of five, which wants one byte more
torn_of_seed : torn_image 3 3 (Missed 3 3 ∷ Wrote 2 2 (3 ∷ []) ∷ Synced ∷ []) (1 ∷ 2 ∷ 8 ∷ 9 ∷ []) ≡ 1 ∷ 2 ∷ 251 ∷ 67 ∷ 52 ∷ []
torn_of_seed = refl

-- of a disk whose second write failed after one that was synced, a crash may leave other bytes in the range that failed
failed_range : IsImageNow (Missed 1 1 ∷ Synced ∷ []) (1 ∷ 2 ∷ []) (1 ∷ 7 ∷ [])
failed_range = inr (record {
  no_shorter = omega arith;
  no_longer = omega arith;
  same = λ i small outside. same i small outside.0;
})
  where
    same : (i : ℕ) → i < 2 → (i < 1) ⊎ (2 ≤ i) → slice_index (1 ∷ 7 ∷ []) i ≡ slice_index (1 ∷ 2 ∷ []) i
    same zero small outside = refl
    same (suc i) small (inl low) = absurd (omega (arith, low))
    same (suc i) small (inr high) = absurd (omega (arith, high, small))

-- the third call comes after a fuse of two calls, and the second is listed
third_fails : fails_next (record { fail = []; fuse = Some 2; calls = 2; faults = 0; starved = 0 }) ≡ true
third_fails = refl

second_fails : fails_next (record { fail = 2 ∷ []; fuse = Some 2; calls = 1; faults = 0; starved = 0 }) ≡ true
second_fails = refl

first_succeeds : fails_next (record { fail = 2 ∷ []; fuse = Some 2; calls = 0; faults = 0; starved = 0 }) ≡ false
first_succeeds = refl
