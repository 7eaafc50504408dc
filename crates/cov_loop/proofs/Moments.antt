-- What a crash may leave, over several calls.
use Rattle.std.proofs.Common.{ℕ, ◌≤◌, List}
use Rattle.cov_disk.specs.Images.{LeavesOnly}
use Rattle.cov_disk.proofs.CallerLemmas.{started}
use Rattle.cov_loop.specs.Keeping.{AreAll}

module _ {D : Type 0} (moment : D → ℕ) (images_since : D → ℕ → List ℕ → Type 0) where
  -- the disk wasn't called
  pub uncalled : (images : D → List ℕ → Type 0) → ((disk : D) (c : List ℕ) → images_since disk (moment disk) c → images disk c)
      → (disk : D) (P : List ℕ → Type 0) → AreAll P (images disk) → LeavesOnly moment images_since disk disk P
  uncalled images only disk P all = started moment images_since disk P (λ c since. all c (only disk c since))

  -- an image of now is one since then
  pub left_now : (images : D → List ℕ → Type 0) → ((disk : D) (t : ℕ) (c : List ℕ) → t ≤ moment disk → images disk c → images_since disk t c)
      → (old new : D) (P : List ℕ → Type 0) → LeavesOnly moment images_since old new P → AreAll P (images new)
  left_now images counts_now old new P run = λ c image. run.each c (counts_now new (moment old) c run.later image)
