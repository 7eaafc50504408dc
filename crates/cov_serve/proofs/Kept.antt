-- What a run leaves on a disk as it was.
use Rattle.std.proofs.Common.{◌≡◌, inl, inr, ℕ, ◌<◌, ◌≤◌, List, length, Option, Some, None, IfSome}
use Rattle.cov_edit.specs.declared.command.Command.{Command}
use Rattle.cov_journal.specs.Moments.{KeepsImages}
use Rattle.cov_journal.specs.Reading.{IsNoStore}
use Rattle.cov_journal.proofs.CallerLemmas.{started}
use Rattle.cov_serve.specs.Jobs.{LeavesDisk, StartsFrom, history_after, outcome}
use Rattle.cov_serve.specs.declared.job.Job.{Job}
use Rattle.cov_store.proofs.CallerLemmas.{unopened-long}
use Rattle.cov_store.specs.Damages.{HasDamage}
use Rattle.cov_store.specs.declared.damage.StoreDamage.{StoreDamage}

-- what is left as it is has over 13 bytes
leaves_long : (job : Job) (image : List ℕ) (left : Option (List ℕ)) → LeavesDisk job (Some image) left → 13 < length image
leaves_long job image left (inl unopened) = unopened-long image unopened
leaves_long job image left (inr (history, text, starts, long, few)) = long

-- what an opening leaves of over 13 bytes is left by the job
pub opening_leaves : (job : Job) (before now left : Option (List ℕ)) (K : Type 0) → IfSome before (λ image. 13 < length image → now ≡ Some image)
    → IfSome before (λ image. 13 < length image → K) → LeavesDisk job before left → (now ≡ before) × K
opening_leaves job None now left K kept images leaves = absurd leaves
opening_leaves job (Some image) now left K kept images leaves = let long = leaves_long job image left leaves in (kept long, images long)

-- a job adds no command to the history of its disk
pub record NothingAdded (job : Job) (contents left : Option (List ℕ)) : Type 0 where
  pub history : List Command
  pub text : List ℕ
  pub starts : StartsFrom job contents left history text
  pub few : length (history_after history (outcome job history text).turns) ≤ length history

-- so it is where the disk is opened and left as it is
pub opened_adds : (job : Job) (contents left : Option (List ℕ)) → IfSome contents (λ image. IsNoStore image → ⊥)
    → ((number : ℕ) (cause : StoreDamage) → IfSome contents (λ image. HasDamage image number cause → ⊥)) → LeavesDisk job contents left → NothingAdded job contents left
opened_adds job None left no_store damage leaves = absurd leaves
opened_adds job (Some image) left no_store damage (inl (inl none)) = absurd (no_store none)
opened_adds job (Some image) left no_store damage (inl (inr (number, cause, of))) = absurd (damage number cause of)
opened_adds job (Some image) left no_store damage (inr (history, text, starts, long, few)) = record { history = history; text = text; starts = starts; few = few }

-- a disk that isn't called has no image more
pub uncalled : {D : Type 0} (images : D → List ℕ → Type 0) (moment : D → ℕ) (images_since : D → ℕ → List ℕ → Type 0) (disk : D)
    → ((image : List ℕ) → images_since disk (moment disk) image → images disk image) → KeepsImages images moment images_since disk disk
uncalled images moment images_since disk only = record { crash = record { among = λ image now. now }; since = started moment images_since disk (images disk) only }
