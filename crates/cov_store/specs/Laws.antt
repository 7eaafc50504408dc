-- Laws of what images stand for.
use Rattle.std.specs.Prelude.{◌≡◌, ℕ, List}
use Rattle.cov_edit.specs.declared.command.Command.{Command}
use Rattle.cov_journal.specs.Reading.{IsNoStore}
use Rattle.cov_store.specs.Damages.{HasDamage}
use Rattle.cov_store.specs.Stands.{StandsFor}
use Rattle.cov_store.specs.declared.damage.StoreDamage.{StoreDamage}

-- an image stands for one history at most
abbrev pub OneHistory : Type 0
OneHistory = (image : List ℕ) (a b : List Command) → StandsFor image a → StandsFor image b → a ≡ b

-- an image has one damage at most, after one history
abbrev pub OneDamage : Type 0
OneDamage = (image : List ℕ) (k n : ℕ) (a b : StoreDamage) (first : HasDamage image k a) (second : HasDamage image n b)
    → (first.history ≡ second.history) × (k ≡ n) × (a ≡ b)

-- an image with damage stands for no history
abbrev pub DamagedIsNone : Type 0
DamagedIsNone = (image : List ℕ) (history : List Command) (number : ℕ) (cause : StoreDamage) → HasDamage image number cause → StandsFor image history → ⊥

-- an image that is no store stands for no history and has no damage
abbrev pub NoStoreIsNone : Type 0
NoStoreIsNone = (image : List ℕ) → IsNoStore image
    → ((history : List Command) → StandsFor image history → ⊥) × ((number : ℕ) (cause : StoreDamage) → HasDamage image number cause → ⊥)
